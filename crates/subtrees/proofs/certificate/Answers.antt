-- `subtrees::certificate` meets its contract. Assumes nothing.
use native.Mathlib.Omega.{arith}
use Rattle.der.proofs.Laws.{handed_on}
use Rattle.entries.proofs.Leaving.{along, refused_at_once, first_refused, first_passed}
use Rattle.subtrees.specs.Noted.{noted}
use Rattle.subtrees.proofs.Laws.{certificate_is, certificate_unread}
use Rattle.subtrees.proofs.certificate.Goals as goal

pub returns-in_err-alternatives : goal.returns-in_err-alternatives
returns-in_err-alternatives c =
    let a = c.args in
    rw (handed_on _ c.from_residual.ensures)
    (along (certificate_is _ _ (noted a.t.now a.reading) _ c.in-Ok.is) (first_refused _ c.in_err-alternatives.ensures))

pub returns : goal.returns
returns c =
    let a = c.args in
    along (certificate_is _ _ (noted a.t.now a.reading) _ c.in-Ok.is)
    (first_passed c.in_ok-alternatives.ensures (rw c.cut-subject.ensures at c.name.ensures))

pub returns-in_default : goal.returns-in_default
returns-in_default c =
    let a = c.args in
    along (certificate_unread _ _ (noted a.t.now a.reading) _ c.in_default.is) (refused_at_once _ _ (λ z. omega arith))
