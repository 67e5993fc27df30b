-- `names::general::is_wanted` meets its contract. Assumes nothing.
use native.Mathlib.Omega.{arith}
use Rattle.der.proofs.Laws.{tests}
use Rattle.der.specs.Places.{part}
use Rattle.names.specs.Model.{is_wanted, fits, is_yes}
use Rattle.names.proofs.general.is_wanted.Goals as goal

pub returns-then-kind-sought : goal.returns-then-kind-sought
unfolding is_wanted fits is_yes part
returns-then-kind-sought c = grind (arith, tests)

pub returns-then-kind-eq-DNS : goal.returns-then-kind-eq-DNS
unfolding is_wanted fits is_yes part
returns-then-kind-eq-DNS c = grind (arith, tests)

pub returns-else-kind-eq-DNS : goal.returns-else-kind-eq-DNS
unfolding is_wanted fits is_yes part
returns-else-kind-eq-DNS c = grind (arith, tests)
