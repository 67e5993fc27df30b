-- `replies::settle` meets its contract. Assumes nothing.
use Rattle.machine.proofs.Lent.{spent_out, spent_fits, spent_left, spent_refusal}
use Rattle.machine.proofs.Moves.{names_out, names_refused, names_clear, bare_clear}
use Rattle.machine.proofs.Names.{never_spent}
use Rattle.machine.specs.World.{names_by}
use Rattle.machine.specs.Machine.{here}
use Rattle.entries.specs.Tally.{spend}
use Rattle.entries.proofs.Leaving.{passed, refused, refused_by}
use mathlib.Core.Bool.{Bool, true, false}
use native.Mathlib.Omega.{arith}
use borrow.Author.Tests.{eqb-true, eq-eqb}
use mathlib.Core.Path.{◌≡◌, refl, sym, ◌∙◌}
use Rattle.replies.proofs.settle.Goals as goal

true_not_false : ◌≡◌ {A = Bool} true false → ⊥
true_not_false e = cc

pub returns-in-Ok : goal.returns-in-Ok
returns-in-Ok c W K j g asks holds last =
    let s = c.args.s in
    let t = names_by c.args.lent.now c.args.anchors.now s.anchor (here s) in
    let l = c.in-Ok.ensures in
    let p : (spend s.comparisons t).refusal ≡ 0 = passed l in
    let n : (spend s.comparisons t).refusal ≡ 71 → ⊥ = λ h. omega arith in
    let cost = j.cost s.anchor (here s) in
    let left = spent_left s.comparisons t _ refl n in
    let fits = spent_fits s.comparisons t _ refl n in
    names_clear W s c.requires asks g holds (bare_clear W j.after s last) c.names.new.left (omega arith) (omega arith)
    (j.named s.anchor (here s) ∙ spent_refusal s.comparisons t _ refl n ∙ p)

pub returns-in-Err : goal.returns-in-Err
returns-in-Err c W K j g asks holds last =
    let s = c.args.s in
    let t = names_by c.args.lent.now c.args.anchors.now s.anchor (here s) in
    let cost = j.cost s.anchor (here s) in
    let is : c.in-Err.e ≡ 71 = eqb-true _ _ (sym c.eq.ensures ∙ c.if-eq.true) in
    let l = c.in-Err.ensures in
    let out = spent_out s.comparisons t _ refl (never_spent _ _ _ _ _ _ s.anchor (here s)) (refused_by l ∙ is) in
    rw is (names_out W s c.requires asks g holds (bare_clear W j.after s last) c.names.new.left (omega arith))

pub returns-in-Err-2 : goal.returns-in-Err-2
returns-in-Err-2 c W K j g asks holds last =
    let s = c.args.s in
    let t = names_by c.args.lent.now c.args.anchors.now s.anchor (here s) in
    let l = c.in-Err.ensures in
    let p = refused_by l in
    let n : (spend s.comparisons t).refusal ≡ 71 → ⊥ = λ h. true_not_false (sym (eq-eqb _ _ (sym p ∙ h)) ∙ sym c.eq.ensures ∙ c.if-eq.false) in
    let cost = j.cost s.anchor (here s) in
    let left = spent_left s.comparisons t _ refl n in
    let fits = spent_fits s.comparisons t _ refl n in
    rw c.refuse.ensures
    (names_refused W s c.requires asks g holds (bare_clear W j.after s last) c.names.new.left (omega arith) (omega arith) _ _
    (j.named s.anchor (here s) ∙ spent_refusal s.comparisons t _ refl n ∙ p) (λ h. refused l (p ∙ h)) refl)
