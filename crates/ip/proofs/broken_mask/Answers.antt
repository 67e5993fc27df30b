-- `ip::broken_mask` meets its contract. Assumes nothing.
use native.Mathlib.Omega.{arith}
use Rattle.der.proofs.Laws.{tests}
use Rattle.ip.specs.Model.{broken_mask}
use Rattle.ip.proofs.broken_mask.Goals as goal

pub returns-then-not-full : goal.returns-then-not-full
unfolding broken_mask
returns-then-not-full c = grind (arith, tests)

pub returns-else-not-full : goal.returns-else-not-full
unfolding broken_mask
returns-else-not-full c = grind (arith, tests)

pub returns-else-mask-ne0 : goal.returns-else-mask-ne0
unfolding broken_mask
returns-else-mask-ne0 c = grind (arith, tests)
