use mathlib.Core.Path.{sym, ◌∙◌}
use lib.ListN.{length-map}
use native.Mathlib.Omega.{arith}
use Rattle.candidate.proofs.Laws.{verdict_deep, verdict_refused, verdict_anchor, verdict_issuer}
use Rattle.candidate.proofs.verdict_on.Goals as goal

pub returns-then-depth-gt-MOST_INTERMEDIATES : goal.returns-then-depth-gt-MOST_INTERMEDIATES
returns-then-depth-gt-MOST_INTERMEDIATES c =
    let a = c.args in
    verdict_deep _ _ _ a.path a.depth _ _ _ _ _ a.i (omega arith)

pub returns-then-i-lent : goal.returns-then-i-lent
returns-then-i-lent c =
    let a = c.args in
    let lends = c.lent-lent.ensures in
    let head = rw lends at c.certificate-head.ensures in
    let read = rw lends at c.in-Ok.ensures in
    let few = rw lends at c.if-i-lent.true in
    c.anchor_at.ensures
    ∙ verdict_anchor _ _ _ a.path a.depth _ _ _ _ _ _ (sym (length-map a.request.now.anchors.subjects.now (λ x. x.now))) (omega arith) c.number_at-n.ensures head (sym read) few

pub returns-else-i-lent : goal.returns-else-i-lent
returns-else-i-lent c =
    let a = c.args in
    let lends = c.lent-lent.ensures in
    let head = rw lends at c.certificate-head.ensures in
    let read = rw lends at c.in-Ok.ensures in
    let many = rw lends at c.if-i-lent.false in
    rw lends at c.issuer_verdict.ensures
    ∙ verdict_issuer _ _ _ a.path a.depth _ _ _ _ _ _ (sym (length-map a.request.now.anchors.subjects.now (λ x. x.now))) (omega arith) c.number_at-n.ensures head (sym read) many
    (rw lends at c.certificate.ensures) (rw lends at c.outline-in-Ok.ensures)

pub returns-in-Err : goal.returns-in-Err
returns-in-Err c =
    let a = c.args in
    let lends = c.lent-lent.ensures in
    let head = rw lends at c.certificate-head.ensures in
    let read = rw lends at c.in-Err.ensures in
    verdict_refused _ _ _ a.path a.depth _ _ _ _ _ _ (sym (length-map a.request.now.anchors.subjects.now (λ x. x.now))) (omega arith) c.number_at-n.ensures head (sym read)
