use native.Mathlib.Omega.{arith}
use Rattle.der.proofs.Laws.{tests}
use Rattle.bits.specs.Model.{flag_at}
use Rattle.bits.proofs.flag_at.Goals as goal

pub returns-then-s-to : goal.returns-then-s-to
unfolding flag_at
returns-then-s-to c = grind (arith, tests)

pub returns : goal.returns
unfolding flag_at
returns c = grind (arith, tests)
