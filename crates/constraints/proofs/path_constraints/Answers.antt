-- `constraints::path_constraints` meets its contract: what is left of the issuers, with what is left of the budget, has the answer of the whole. Assumes nothing.
use native.Mathlib.Omega.{arith}
use Rattle.der.proofs.Laws.{handed_on}
use Rattle.entries.proofs.Leaving.{first_refused, goes_on, turns_on, turns_out, turns_end}
use Rattle.constraints.specs.Paths.{noted_at}
use Rattle.constraints.specs.Model.{path_constraints_in}
use Rattle.constraints.proofs.Turns.{issuers_turn, issuers_end}
use Rattle.constraints.proofs.path_constraints.Goals as goal

pub returns-in_err-anchored : goal.returns-in_err-anchored
unfolding path_constraints_in
returns-in_err-anchored c = rw (handed_on _ c.from_residual.ensures) (first_refused _ c.in_err-anchored.ensures)

pub loop-k-init : goal.loop-k-init
unfolding path_constraints_in
loop-k-init c = goes_on _ c.in_ok-anchored.ensures

pub returns-in_err-issuer : goal.returns-in_err-issuer
returns-in_err-issuer c =
    let a = c.args in
    rw (handed_on _ c.from_residual-in_err-issuer.ensures)
    (turns_out _ c.in_err-issuer.ensures (issuers_turn (noted_at a.lent.now) _ _ (omega arith) c.number_at.ensures) c.loop-k.invariant)

pub loop-k-preserved : goal.loop-k-preserved
loop-k-preserved c =
    let a = c.args in
    turns_on _ c.in_ok-issuer.ensures (issuers_turn (noted_at a.lent.now) _ _ (omega arith) c.number_at.ensures) c.loop-k.invariant

pub returns : goal.returns
returns c = turns_end (issuers_end _ _ _ (omega arith)) c.loop-k.invariant
