-- `moment::is_utc` meets its contract. Assumes nothing.
use native.Mathlib.Omega.{arith}
use Rattle.std.proofs.lemmas.Bool.Decides.{nat_tests}
use Rattle.moment.specs.Model.{is_utc}
use Rattle.moment.proofs.is_utc.Goals as goal

pub returns-then-from-s : goal.returns-then-from-s
unfolding is_utc
returns-then-from-s c = grind (arith, nat_tests)

pub returns-else-from-s : goal.returns-else-from-s
unfolding is_utc
returns-else-from-s c = grind (arith, nat_tests)
