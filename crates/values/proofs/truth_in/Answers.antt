use native.Mathlib.Omega.{arith}
use Rattle.der.proofs.Laws.{tests}
use Rattle.values.specs.Model.{truth_in}
use Rattle.values.proofs.truth_in.Goals as goal

pub returns-then-s-to : goal.returns-then-s-to
unfolding truth_in
returns-then-s-to c = grind (arith, tests)

pub returns-in-255 : goal.returns-in-255
unfolding truth_in
returns-in-255 c = grind (arith, tests)

pub returns-in-0 : goal.returns-in-0
unfolding truth_in
returns-in-0 c = grind (arith, tests)

pub returns-in_default : goal.returns-in_default
unfolding truth_in
returns-in_default c = grind (arith, tests)
