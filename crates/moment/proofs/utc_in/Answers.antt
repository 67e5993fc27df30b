-- `moment::utc_in` meets its contract. Assumes nothing.
use Rattle.der.proofs.Laws.{tests}
use native.Mathlib.Omega.{arith}
use Rattle.moment.specs.Model.{utc_in}
use Rattle.moment.proofs.Years.{full_year_lem}
use Rattle.moment.proofs.utc_in.Goals as goal

pub returns-then-end-start-lt13 : goal.returns-then-end-start-lt13
unfolding utc_in
returns-then-end-start-lt13 c = search tests

pub returns-then-year-gt99 : goal.returns-then-year-gt99
unfolding utc_in
returns-then-year-gt99 c = search (tests, ← c.two_at-year.ensures)

pub after_year-requires : goal.after_year-requires
after_year-requires c =
    omega (arith, c.full_year.ensures, full_year_lem c.two_at-year.result (omega arith))

pub returns : goal.returns
unfolding utc_in
returns c = search (tests, ← c.two_at-year.ensures, ← c.full_year.ensures, c.after_year.ensures)
