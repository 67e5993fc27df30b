use mathlib.Core.Path.{◌∙◌, ap}
use Rattle.refusal.specs.Model.{outcome}
use Rattle.path.proofs.Laws.{check_end, check_issuer}
use Rattle.path.proofs.check.Goals as goal

pub returns-then-depth-eq0 : goal.returns-then-depth-eq0
returns-then-depth-eq0 c = c.check_certificate.ensures ∙ ap outcome (check_end _ _ _ c.args.path _ _ _ _ _ _ c.number_at-n.ensures c.certificate-s.ensures c.reading-reading.ensures c.if-depth-eq0.true)

pub returns : goal.returns
returns c = c.check_certificate-2.ensures ∙ ap outcome (check_issuer _ _ _ c.args.path _ _ _ _ _ _ c.number_at-n.ensures c.certificate-s.ensures c.reading-reading.ensures c.if-depth-eq0.false)
