use native.Mathlib.Omega.{arith}
use Rattle.der.proofs.Laws.{tests}
use Rattle.values.specs.Model.{positive_in}
use Rattle.values.proofs.positive_in.Goals as goal

pub returns-then-s-to : goal.returns-then-s-to
unfolding positive_in
returns-then-s-to c = grind (arith, tests)

pub returns-then-s-from-gt0 : goal.returns-then-s-from-gt0
unfolding positive_in
returns-then-s-from-gt0 c = grind (arith, tests)

pub returns-then-s-from-lt128 : goal.returns-then-s-from-lt128
unfolding positive_in
returns-then-s-from-lt128 c = grind (arith, tests)

pub returns : goal.returns
unfolding positive_in
returns c = grind (arith, tests)
