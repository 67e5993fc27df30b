-- `labels::host` meets its contract: what is left of the text, with the label so far, has the answer of the whole. Assumes nothing.
use mathlib.Core.Path.{refl, sym, ◌∙◌}
use native.Mathlib.Omega.{arith}
use borrow.Author.Tests.{not-true, not-false}
use Rattle.labels.specs.Model.{host_text}
use Rattle.labels.proofs.Laws.{host_turn, host_bad, host_end}
use Rattle.labels.proofs.host.Goals as goal

pub loop-b-init : goal.loop-b-init
unfolding host_text
loop-b-init c = refl

pub returns-in_default : goal.returns-in_default
returns-in_default c = sym (sym c.loop-b.invariant ∙ host_bad c.args.h.now c.loop-b.b-index _ (omega arith) (sym c.in_default.ensures))

pub loop-b-preserved : goal.loop-b-preserved
loop-b-preserved c = host_turn c.args.h.now c.loop-b.b-index _ _ (omega arith) (sym c.in-Some.ensures) ∙ c.loop-b.invariant

pub returns-then-not-label : goal.returns-then-not-label
returns-then-not-label c =
    c.whole.ensures ∙ sym (sym c.loop-b.invariant ∙ host_end c.args.h.now c.loop-b.b-index _ (omega arith) ∙ rw (not-true c.loop-b.label.digits c.if-not-label.true))

pub returns-else-not-label : goal.returns-else-not-label
returns-else-not-label c =
    rw c.if-not-label.false (sym (sym c.loop-b.invariant ∙ host_end c.args.h.now c.loop-b.b-index _ (omega arith) ∙ rw (not-false c.loop-b.label.digits c.if-not-label.false)))
