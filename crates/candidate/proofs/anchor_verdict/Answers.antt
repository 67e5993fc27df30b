use Rattle.candidate.specs.Model.{anchor_verdict}
use Rattle.candidate.proofs.anchor_verdict.Goals as goal

pub returns-then-not-same : goal.returns-then-not-same
unfolding anchor_verdict
returns-then-not-same c = rw (← c.same.ensures, c.if-not-same.true)

pub returns-then-is_distrusted : goal.returns-then-is_distrusted
unfolding anchor_verdict
returns-then-is_distrusted c = rw (← c.same.ensures, c.if-not-same.false, ← c.is_distrusted.ensures, c.if-is_distrusted.true)

pub returns : goal.returns
unfolding anchor_verdict
returns c = rw (← c.same.ensures, c.if-not-same.false, ← c.is_distrusted.ensures, c.if-is_distrusted.false)
