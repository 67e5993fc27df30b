-- `subtrees::alternatives` meets its contract: what is left of the walk, with what is left of the budget, has the answer of the whole. Assumes nothing.
use mathlib.Core.Path.{refl, sym, ◌∙◌}
use native.Mathlib.Omega.{arith}
use Rattle.der.proofs.Laws.{handed_on}
use Rattle.der.specs.Places.{part}
use Rattle.names.specs.Model.{general_name}
use Rattle.names.proofs.Laws.{name_within}
use Rattle.entries.proofs.Spending.{begins, pays, refuses, stops, ends, at_once}
use Rattle.entries.proofs.Leaving.{alike, passes, refuses_by, passed, refused}
use Rattle.entries.proofs.Refusals.{name_refused}
use Rattle.subtrees.specs.Model.{alternatives}
use Rattle.subtrees.proofs.Laws.{next_found, next_broken}
use Rattle.subtrees.proofs.alternatives.Goals as goal

pub loop-at-init : goal.loop-at-init
unfolding alternatives
loop-at-init c = begins _ _ _ _ _ _

pub slice_bounds-name-count : goal.slice_bounds-name-count
slice_bounds-name-count c =
    let found = sym c.general_name.ensures ∙ c.in_ok-kind.was in
    let w = name_within _ _ _ _ _ _ found in
    omega arith

pub slice_bounds-name-start : goal.slice_bounds-name-start
slice_bounds-name-start c =
    let found = sym c.general_name.ensures ∙ c.in_ok-kind.was in
    let w = name_within _ _ _ _ _ _ found in
    omega arith

pub slice_bounds-name-end : goal.slice_bounds-name-end
slice_bounds-name-end c =
    let found = sym c.general_name.ensures ∙ c.in_ok-kind.was in
    let w = name_within _ _ _ _ _ _ found in
    omega arith

pub returns-in_err-name : goal.returns-in_err-name
unfolding part
returns-in_err-name c =
    let found = sym c.general_name.ensures ∙ c.in_ok-kind.was in
    let w = name_within _ _ _ _ _ _ found in
    let l = c.in_err-name.ensures in
    rw (handed_on _ c.from_residual-in_err-name.ensures) (alike l (refuses _ _ _ _ _ _ _ _ _ _ c.loop-at.invariant (omega arith) (next_found _ _ _ found) refl (refused l)))

pub loop-at-smaller : goal.loop-at-smaller
loop-at-smaller c =
    let found = sym c.general_name.ensures ∙ c.in_ok-kind.was in
    let w = name_within _ _ _ _ _ _ found in
    omega arith

pub loop-at-preserved : goal.loop-at-preserved
unfolding part
loop-at-preserved c =
    let found = sym c.general_name.ensures ∙ c.in_ok-kind.was in
    let w = name_within _ _ _ _ _ _ found in
    let l = c.in_ok-name.ensures in
    rw l.rest (pays _ _ _ _ _ _ _ _ _ _ c.loop-at.invariant (omega arith) (omega arith) (next_found _ _ _ found) refl (passed l))

pub returns-in_err-kind : goal.returns-in_err-kind
returns-in_err-kind c =
    let found = sym c.general_name.ensures ∙ c.in_err-kind.was in
    rw (handed_on _ c.from_residual.ensures)
    (refuses_by _ _ (name_refused _ _ _ _ found) (sym (at_once _ _) ∙ stops _ _ _ _ _ _ _ c.loop-at.invariant (omega arith) (next_broken _ _ _ found)))

pub returns : goal.returns
returns c = passes _ (sym (at_once _ 0) ∙ ends _ _ _ _ _ _ c.loop-at.invariant (omega arith))
