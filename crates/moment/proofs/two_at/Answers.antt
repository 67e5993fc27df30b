-- `moment::two_at` meets its contract. Assumes nothing.
use native.Mathlib.Omega.{arith}
use Rattle.std.proofs.lemmas.Bool.Decides.{nat_tests}
use Rattle.moment.specs.Model.{two_at, of_digits}
use Rattle.moment.proofs.two_at.Goals as goal

pub returns-then-is_ascii_digit-2 : goal.returns-then-is_ascii_digit-2
unfolding two_at of_digits
returns-then-is_ascii_digit-2 c = grind (arith, nat_tests)

pub returns-else-is_ascii_digit : goal.returns-else-is_ascii_digit
unfolding two_at of_digits
returns-else-is_ascii_digit c = grind (arith, nat_tests)
