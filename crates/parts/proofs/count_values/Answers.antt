use native.Mathlib.Omega.{arith}
use mathlib.Core.Path.{sym, ◌∙◌}
use Rattle.der.proofs.Loop.{start, turn, stop, finish}
use Rattle.der.proofs.Theorems.{value_places}
use Rattle.parts.proofs.Row.{more_value, more_none}
use Rattle.der.proofs.Laws.{tests}
use Rattle.parts.specs.Model.{count_values, all_counted}
use Rattle.parts.proofs.count_values.Goals as goal

pub loop-at-init : goal.loop-at-init
unfolding count_values
loop-at-init c = (omega arith, start _ _ _ _ _)

pub returns-in_err-at : goal.returns-in_err-at
returns-in_err-at c =
    let found = sym c.read_value.ensures ∙ c.in_err-at.was in
    c.from_residual.ensures ∙ stop _ _ _ _ _ _ c.loop-at.invariant.1 (omega arith) (more_none _ found)

pub loop-at-smaller : goal.loop-at-smaller
loop-at-smaller c = let p = value_places _ _ _ _ _ _ (sym c.read_value.ensures ∙ c.in_ok-at.was) in omega arith

pub loop-at-preserved : goal.loop-at-preserved
loop-at-preserved c =
    let found = sym c.read_value.ensures ∙ c.in_ok-at.was in
    let p = value_places _ _ _ _ _ _ found in
    (omega arith, turn _ _ _ _ _ _ _ c.loop-at.invariant.1 (omega arith) (omega arith) (more_value _ found))

pub returns-then-at-to : goal.returns-then-at-to
unfolding all_counted
returns-then-at-to c =
    let done = finish _ _ _ _ _ c.loop-at.invariant.1 (omega arith) in
    search (tests, ← done)

pub returns-else-at-to : goal.returns-else-at-to
unfolding all_counted
returns-else-at-to c =
    let done = finish _ _ _ _ _ c.loop-at.invariant.1 (omega arith) in
    search (tests, ← done)
