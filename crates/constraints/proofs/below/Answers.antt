-- `constraints::below` meets its contract: what is left of the certificates, with what is left of the budget, has the answer of the whole. Assumes nothing.
use mathlib.Core.Path.{refl}
use native.Mathlib.Omega.{arith}
use Rattle.der.proofs.Laws.{handed_on}
use Rattle.entries.proofs.Leaving.{turns_on, turns_out, turns_end}
use Rattle.constraints.specs.Paths.{noted_at}
use Rattle.constraints.proofs.Turns.{below_top, below_turn, below_end}
use Rattle.constraints.proofs.below.Goals as goal

pub returns-in_err-numbered : goal.returns-in_err-numbered
returns-in_err-numbered c =
    let a = c.args in
    rw (handed_on _ c.from_residual.ensures) (turns_out _ c.in_err-numbered.ensures (below_top _ _ (noted_at a.lent.now) _ _ c.number_at.ensures) refl)

pub loop-k-init : goal.loop-k-init
loop-k-init c =
    let a = c.args in
    turns_on _ c.in_ok-numbered.ensures (below_top _ _ (noted_at a.lent.now) _ _ c.number_at.ensures) refl

pub returns-in_err-numbered-2 : goal.returns-in_err-numbered-2
returns-in_err-numbered-2 c =
    let a = c.args in
    rw (handed_on _ c.from_residual-in_err-numbered-2.ensures)
    (turns_out _ c.in_err-numbered-2.ensures (below_turn _ _ (noted_at a.lent.now) _ _ (omega arith) c.number_at-in-loop-k.ensures) c.loop-k.invariant)

pub loop-k-preserved : goal.loop-k-preserved
loop-k-preserved c =
    let a = c.args in
    turns_on _ c.in_ok-numbered-2.ensures (below_turn _ _ (noted_at a.lent.now) _ _ (omega arith) c.number_at-in-loop-k.ensures) c.loop-k.invariant

pub returns : goal.returns
returns c = turns_end (below_end _ _ _ _ _ (omega arith)) c.loop-k.invariant
