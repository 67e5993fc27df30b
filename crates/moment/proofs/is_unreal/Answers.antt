-- `moment::is_unreal` meets its contract. Assumes nothing.
use native.Mathlib.Omega.{arith}
use Rattle.std.proofs.lemmas.Bool.Decides.{nat_tests}
use Rattle.moment.specs.Model.{unreal}
use Rattle.moment.proofs.is_unreal.Goals as goal

pub returns-then-no_such_day : goal.returns-then-no_such_day
unfolding unreal
returns-then-no_such_day c = grind (arith, nat_tests)

pub returns-else-no_such_day : goal.returns-else-no_such_day
unfolding unreal
returns-else-no_such_day c = grind (arith, nat_tests)
