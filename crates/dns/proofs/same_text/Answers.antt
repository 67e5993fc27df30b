-- `dns::same_text` meets its contract. Assumes nothing.
use mathlib.Core.Path.{sym, ◌∙◌}
use Rattle.std.proofs.lemmas.Bool.Decides.{same_from_decides}
use Rattle.dns.specs.Model.{same_text}
use Rattle.dns.proofs.Texts.{lower_small, same_small, small_same}
use Rattle.dns.proofs.same_text.Goals as goal

pub returns : goal.returns
returns c =
    let x = c.args.x.now in
    let y = c.args.y.now in
    let t = c.eq_ignore_ascii_case.ensures.test in
    same_from_decides _ (same_text x y)
    (λ e. t.0 e, λ e. t.1 e)
    (λ e. lower_small x ∙ same_small x y e ∙ sym (lower_small y), λ e. small_same x y (sym (lower_small x) ∙ e ∙ lower_small y))
