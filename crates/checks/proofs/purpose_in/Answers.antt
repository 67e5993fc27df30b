-- `checks::purpose_in` meets its contract. Assumes nothing.
use mathlib.Core.Path.{sym, ap, ◌∙◌}
use native.Mathlib.Omega.{arith}
use Rattle.refusal.specs.Model.{outcome}
use Rattle.der.proofs.Laws.{handed_on}
use Rattle.der.proofs.Loop.{start, turn, stop, finish}
use Rattle.checks.specs.Model.{no_purpose, purpose_in}
use Rattle.checks.proofs.Purposed.{step_later, step_next, step_found, step_refused}
use Rattle.checks.proofs.Outcomes.{purpose_passed}
use Rattle.checks.proofs.purpose_in.Goals as goal

pub loop-at-init : goal.loop-at-init
unfolding purpose_in
loop-at-init c = start _ _ _ _ _

pub returns-in_err-purpose : goal.returns-in_err-purpose
returns-in_err-purpose c = handed_on _ c.from_residual.ensures ∙ purpose_passed _ _ _ c.in_err-purpose.ensures ∙ ap outcome (stop _ _ _ _ _ _ c.loop-at.invariant (omega arith) (step_refused _ _ _ _ (sym c.in_err-purpose.ensures)))

pub returns-then-same : goal.returns-then-same
unfolding outcome
returns-then-same c = ap outcome (stop _ _ _ _ _ _ c.loop-at.invariant (omega arith) (step_found _ _ _ _ (sym c.in_ok-purpose.ensures) (sym c.same.ensures ∙ c.if-same.true)))

pub loop-at-smaller : goal.loop-at-smaller
loop-at-smaller c = omega (arith, step_later _ _ _ _ (sym c.in_ok-purpose.ensures))

pub loop-at-preserved : goal.loop-at-preserved
loop-at-preserved c =
    let later = step_later _ _ _ _ (sym c.in_ok-purpose.ensures) in
    turn _ _ _ _ _ _ _ c.loop-at.invariant (omega arith) (omega arith) (step_next _ _ _ _ (sym c.in_ok-purpose.ensures) (sym c.same.ensures ∙ c.if-same.false))

pub returns : goal.returns
unfolding no_purpose outcome
returns c = ap outcome (finish _ _ _ _ _ c.loop-at.invariant (omega arith))
