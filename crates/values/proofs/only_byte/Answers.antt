use native.Mathlib.Omega.{arith}
use Rattle.der.proofs.Laws.{tests}
use Rattle.values.specs.Model.{only_byte}
use Rattle.values.proofs.only_byte.Goals as goal

pub returns-then-to-from-ne1 : goal.returns-then-to-from-ne1
unfolding only_byte
returns-then-to-from-ne1 c = grind (arith, tests)

pub returns : goal.returns
unfolding only_byte
returns c = grind (arith, tests)
