use native.Mathlib.Omega.{arith}
use Rattle.der.proofs.Laws.{tests}
use Rattle.bits.specs.Model.{whole_octets}
use Rattle.bits.proofs.whole_octets.Goals as goal

pub returns-then-s-to : goal.returns-then-s-to
unfolding whole_octets
returns-then-s-to c = grind (arith, tests)

pub returns : goal.returns
unfolding whole_octets
returns c = grind (arith, tests)
