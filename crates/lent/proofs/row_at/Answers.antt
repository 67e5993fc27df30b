use Rattle.std.proofs.Common.{arith}
use Rattle.std.proofs.lemmas.Bool.Decides.{nat_tests}
use Rattle.lent.specs.Lent.{row_at}
use Rattle.lent.proofs.row_at.Goals as goal

pub returns-then-number-anchors : goal.returns-then-number-anchors
unfolding row_at
returns-then-number-anchors c = grind (arith, nat_tests)

pub returns : goal.returns
unfolding row_at
returns c = grind (arith, nat_tests)
