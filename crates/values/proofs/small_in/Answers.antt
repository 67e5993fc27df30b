use native.Mathlib.Omega.{arith}
use Rattle.der.proofs.Laws.{tests}
use Rattle.values.specs.Model.{small_in}
use Rattle.values.proofs.small_in.Goals as goal

pub returns-then-s-to : goal.returns-then-s-to
unfolding small_in
returns-then-s-to c = grind (arith, tests)

pub returns : goal.returns
unfolding small_in
returns c = grind (arith, tests)
