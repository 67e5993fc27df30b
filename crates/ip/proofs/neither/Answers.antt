-- `ip::neither` meets its contract. Assumes nothing.
use native.Mathlib.Omega.{arith}
use Rattle.der.proofs.Laws.{tests}
use Rattle.ip.specs.Model.{neither}
use Rattle.ip.proofs.neither.Goals as goal

pub returns-then-n-a : goal.returns-then-n-a
unfolding neither
returns-then-n-a c = grind (arith, tests)

pub returns-else-n-a : goal.returns-else-n-a
unfolding neither
returns-else-n-a c = grind (arith, tests)
