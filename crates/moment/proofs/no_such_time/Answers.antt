-- `moment::no_such_time` meets its contract. Assumes nothing.
use native.Mathlib.Omega.{arith}
use Rattle.std.proofs.lemmas.Bool.Decides.{nat_tests}
use Rattle.moment.specs.Model.{no_such_time}
use Rattle.moment.proofs.no_such_time.Goals as goal

pub returns-then-minute-gt59 : goal.returns-then-minute-gt59
unfolding no_such_time
returns-then-minute-gt59 c = grind (arith, nat_tests)

pub returns-else-minute-gt59 : goal.returns-else-minute-gt59
unfolding no_such_time
returns-else-minute-gt59 c = grind (arith, nat_tests)
