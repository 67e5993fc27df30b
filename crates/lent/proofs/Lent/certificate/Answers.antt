use mathlib.Core.Path.{sym, ap, ◌∙◌}
use native.Mathlib.Omega.{arith}
use Rattle.std.specs.Option.{unwrap_or}
use Rattle.lent.proofs.Laws.{certificate_none, certificate_there}
use Rattle.lent.proofs.Lent.certificate.Goals as goal

pub returns-then-number-self : goal.returns-then-number-self
returns-then-number-self c = let l = c.args.self.now in sym (certificate_none l.issuers.now l.end _ _ (omega arith))

pub returns : goal.returns
returns c =
    let l = c.args.self.now in
    let e = c.unwrap_or.ensures ∙ ap (λ o. unwrap_or o l.end) c.copied.ensures ∙ c.get.ensures.lookup.4 (omega arith) l.end in
    ap (λ x. x.now) e ∙ sym (certificate_there l.issuers.now l.end _ _ (omega arith))
