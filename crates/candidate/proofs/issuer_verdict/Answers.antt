use Rattle.rows.specs.Model.{on_outline}
use Rattle.candidate.specs.Model.{issuer_verdict_in}
use Rattle.candidate.proofs.issuer_verdict.Goals as goal

pub returns-then-not-same : goal.returns-then-not-same
unfolding issuer_verdict_in on_outline
returns-then-not-same c = rw (c.in-Ok.is, ← c.same.ensures, c.if-not-same.true)

pub returns-then-on_path : goal.returns-then-on_path
unfolding issuer_verdict_in on_outline
returns-then-on_path c = rw (c.in-Ok.is, ← c.same.ensures, c.if-not-same.false, ← c.on_path.ensures, c.if-on_path.true)

pub returns-else-on_path : goal.returns-else-on_path
unfolding issuer_verdict_in on_outline
returns-else-on_path c = rw (c.in-Ok.is, ← c.same.ensures, c.if-not-same.false, ← c.on_path.ensures, c.if-on_path.false)

pub returns-in-Err : goal.returns-in-Err
unfolding issuer_verdict_in on_outline
returns-in-Err c = rw c.in-Err.is
