use native.Mathlib.Omega.{arith}
use mathlib.Core.Path.{◌≡◌, sym, ap, ◌∙◌}
use Rattle.std.proofs.lemmas.Result.{err_from_is_err_and}
use Rattle.der.proofs.Loop.{start, turn, stop, finish}
use Rattle.extensions.specs.Model.{moved, with_find, all_kept, gathered}
use Rattle.extensions.proofs.Steps.{taken_later, go_next, go_stop}
use Rattle.extensions.proofs.gather.Goals as goal

pub loop-at-init : goal.loop-at-init
unfolding gathered
loop-at-init c = rw c.none_known-known.ensures (start _ _ _ _ _)

pub returns-in_err-next : goal.returns-in_err-next
unfolding moved
returns-in_err-next c =
    let p = err_from_is_err_and c.from_residual.result c.from_residual.ensures.1 in
    let found = sym c.take_one.ensures ∙ ap (moved _) c.in_err-next.was in
    rw (p.1, p.2) (stop _ _ _ _ _ _ c.loop-at.invariant (omega arith) (go_stop found))

pub loop-at-smaller-in-Some : goal.loop-at-smaller-in-Some
unfolding moved
loop-at-smaller-in-Some c =
    let found = sym c.take_one.ensures ∙ ap (moved _) c.in_ok-next.was in
    let p = taken_later _ _ _ _ _ _ _ found in
    omega arith

pub loop-at-preserved-in-Some : goal.loop-at-preserved-in-Some
unfolding moved with_find
loop-at-preserved-in-Some c =
    let found = sym c.take_one.ensures ∙ ap (moved _) c.in_ok-next.was in
    let p = taken_later _ _ _ _ _ _ _ found in
    let filled : with_find c.loop-at.known c.in_ok-next.find ≡ c.set_slot-known.result = grind arith in
    rw (← filled)
    (turn _ _ _ _ _ _ _ c.loop-at.invariant (omega arith) (omega arith) (go_next found))

pub loop-at-smaller : goal.loop-at-smaller
unfolding moved
loop-at-smaller c =
    let found = sym c.take_one.ensures ∙ ap (moved _) c.in_ok-next.was in
    let p = taken_later _ _ _ _ _ _ _ found in
    omega arith

pub loop-at-preserved : goal.loop-at-preserved
unfolding moved with_find
loop-at-preserved c =
    let found = sym c.take_one.ensures ∙ ap (moved _) c.in_ok-next.was in
    let p = taken_later _ _ _ _ _ _ _ found in
    let same : with_find c.loop-at.known c.in_ok-next.find ≡ c.loop-at.known = grind arith in
    rw (← same)
    (turn _ _ _ _ _ _ _ c.loop-at.invariant (omega arith) (omega arith) (go_next found))

pub returns : goal.returns
unfolding all_kept
returns c = finish _ _ _ _ _ c.loop-at.invariant (omega arith)
