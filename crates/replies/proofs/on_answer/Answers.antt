-- `replies::on_answer` meets its contract. Assumes nothing.
use Rattle.lent.specs.Lent.{each_now}
use Rattle.dialogue.specs.Model.{World}
use Rattle.machine.specs.World.{JudgesBy}
use Rattle.machine.specs.Machine.{key_at, what_at}
use Rattle.machine.specs.declared.Numbers.{Numbers}
use Rattle.machine.proofs.Moves.{denied}
use Rattle.machine.proofs.Lent.{replied}
use mathlib.Core.Path.{◌≡◌, refl, sym, ap, ◌∙◌}
use Rattle.replies.proofs.on_answer.Goals as goal
use Rattle.replies.proofs.on_answer.Goals.{After-reply_for-e}

-- what the answer comes to
told : (c : After-reply_for-e) (W : World) → JudgesBy W c.args.lent.now (each_now c.args.anchors.now.keys.now) c.args.anchors.now
    → W.reply (key_at c.args.s) (what_at c.args.s) c.args.answer ≡ c.reply_for-e.result
told c W j =
    j.reply (key_at c.args.s) (what_at c.args.s) c.args.answer
    ∙ replied _ _ _ _ _ _ _ _ c.args.answer _ c.reply_for-e.ensures (ap (λ (q : Numbers). q.key) c.asked-key.ensures) c.meaning.ensures

pub returns-then-number-ne0 : goal.returns-then-number-ne0
returns-then-number-ne0 c W j =
    rw c.refuse.ensures
    (denied W c.args.s c.requires.0 c.requires.1 c.args.answer c.reply_for-e.result _ (told (goal.at.returns-then-number-ne0 c).After-reply_for-e W j)
    (λ z. c.if-number-ne0.true (c.number.ensures ∙ z)) refl)

pub returns-then-place-eq0 : goal.returns-then-place-eq0
returns-then-place-eq0 c W j =
    c.settle.ensures W _ j c.args.answer c.requires.1
    (told (goal.at.returns-then-place-eq0 c).After-reply_for-e W j ∙ sym c.number.ensures ∙ c.if-number-ne0.false)
    (sym c.place-place.ensures ∙ c.if-place-eq0.true)

pub returns : goal.returns
returns c W j =
    c.ask_next.ensures W c.args.answer j.after c.requires.1 (told (goal.at.returns c).After-reply_for-e W j ∙ sym c.number.ensures ∙ c.if-number-ne0.false)
