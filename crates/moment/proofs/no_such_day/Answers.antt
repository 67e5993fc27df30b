-- `moment::no_such_day` meets its contract. Assumes nothing.
use native.Mathlib.Omega.{arith}
use Rattle.std.proofs.lemmas.Bool.Decides.{nat_tests}
use Rattle.moment.specs.Model.{no_such_day}
use Rattle.moment.proofs.no_such_day.Goals as goal

pub returns-then-day-lt1 : goal.returns-then-day-lt1
unfolding no_such_day
returns-then-day-lt1 c = grind (arith, nat_tests)

pub returns-else-day-lt1 : goal.returns-else-day-lt1
unfolding no_such_day
returns-else-day-lt1 c = grind (arith, nat_tests)
