use mathlib.Core.Path.{sym, ◌∙◌}
use native.Mathlib.Omega.{arith}
use Rattle.candidate.proofs.Laws.{anchor_lent, anchor_lacking, anchor_keyless}
use Rattle.candidate.proofs.anchor_at.Goals as goal
use Rattle.candidate.proofs.anchor_at.Goals.{else-i-anchors-via-then-i-anchors+else-is_whole, else-i-anchors-via-else-i-anchors}

pub returns-then-is_whole : goal.returns-then-is_whole
returns-then-is_whole c =
    let l = c.args.anchors.now in
    let whole = sym c.is_whole.ensures ∙ c.if-is_whole.true in
    c.anchor_verdict.ensures ∙ sym (anchor_lent l.subjects.now l.keys.now _ _ _ _ _ _ _ _ (omega arith) (omega arith) whole)

pub returns : goal.returns
returns c =
    let a = c.args in
    let l = a.anchors.now in
    elim c.else-i-anchors.branch [
      | else-i-anchors-via-then-i-anchors+else-is_whole w ↦ sym (anchor_lacking l.subjects.now l.keys.now _ _ _ _ _ a.i (omega arith) (sym w.is_whole.ensures ∙ w.if-is_whole.false))
      | else-i-anchors-via-else-i-anchors w ↦ sym (anchor_keyless l.subjects.now l.keys.now _ _ _ _ _ a.i (omega arith))
    ]
