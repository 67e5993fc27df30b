-- `entries::all` meets its contract: what is left of the walk, with what is left of the budget, has the answer of the whole. Assumes nothing.
use mathlib.Core.Path.{refl, sym, ◌∙◌}
use native.Mathlib.Omega.{arith}
use Rattle.der.proofs.Laws.{handed_on}
use Rattle.entries.specs.Tally.{tally}
use Rattle.entries.specs.Model.{ended, entries}
use Rattle.entries.proofs.Spending.{begins, pays, stops, broke, ends, at_once, one_taken}
use Rattle.entries.proofs.Leaving.{answers, refuses_by}
use Rattle.entries.proofs.Refusals.{judged_refused}
use Rattle.entries.proofs.Laws.{judged_later, go_next, go_stop, takes_one}
use Rattle.entries.proofs.all.Goals as goal

pub loop-at-init : goal.loop-at-init
unfolding entries
loop-at-init c = begins _ _ _ _ _ _

pub returns-then-left-eq0 : goal.returns-then-left-eq0
returns-then-left-eq0 c =
    refuses_by _ _ (λ z. omega arith) (rw c.if-left-eq0.true (broke _ _ _ _ _ _ c.loop-at.invariant (omega arith) c.if-left-eq0.true (takes_one _)))

pub loop-at-smaller : goal.loop-at-smaller
loop-at-smaller c =
    let found = sym c.judge.ensures ∙ c.in_ok-at.was in
    let l = judged_later _ _ _ _ _ _ _ _ _ found in
    omega arith

pub loop-at-preserved : goal.loop-at-preserved
loop-at-preserved c =
    let found = sym c.judge.ensures ∙ c.in_ok-at.was in
    let l = judged_later _ _ _ _ _ _ _ _ _ found in
    pays _ _ _ _ _ _ _ _ (tally 1 0) _ c.loop-at.invariant (omega arith) l (go_next found) (sym (one_taken _ 0 c.if-left-eq0.false)) refl

pub returns-in_err-at : goal.returns-in_err-at
returns-in_err-at c =
    let found = sym c.judge.ensures ∙ c.in_err-at.was in
    rw (handed_on _ c.from_residual.ensures)
    (refuses_by _ _ (judged_refused _ _ _ _ _ _ _ _ found)
    (sym (one_taken _ _ c.if-left-eq0.false) ∙ stops _ _ _ _ _ _ _ c.loop-at.invariant (omega arith) (go_stop found)))

pub returns : goal.returns
unfolding ended
returns c = rw c.close.ensures (answers _ _ (sym (at_once _ _) ∙ ends _ _ _ _ _ _ c.loop-at.invariant (omega arith)))
