-- `moment::generalized_in` meets its contract. Assumes nothing.
use Rattle.der.proofs.Laws.{tests}
use Rattle.moment.specs.Model.{generalized_in}
use Rattle.moment.proofs.generalized_in.Goals as goal

pub returns-then-end-start-lt15 : goal.returns-then-end-start-lt15
unfolding generalized_in
returns-then-end-start-lt15 c = search tests

pub returns-then-hundreds-gt99 : goal.returns-then-hundreds-gt99
unfolding generalized_in
returns-then-hundreds-gt99 c = search (tests, ← c.two_at-hundreds.ensures)

pub returns-then-rest-gt99 : goal.returns-then-rest-gt99
unfolding generalized_in
returns-then-rest-gt99 c = search (tests, ← c.two_at-hundreds.ensures, ← c.two_at-rest.ensures)

pub returns : goal.returns
unfolding generalized_in
returns c = search (tests, ← c.two_at-hundreds.ensures, ← c.two_at-rest.ensures, c.after_year.ensures)
