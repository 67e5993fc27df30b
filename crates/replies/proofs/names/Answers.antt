-- `replies::names` meets its contract. Assumes nothing.
use mathlib.Core.Bool.{true}
use Rattle.machine.proofs.Lent.{names_bound, names_free, names_bare, bound_there}
use Rattle.table.proofs.Laws.{behind}
use Rattle.entries.specs.Tally.{spend}
use Rattle.entries.proofs.Leaving.{alike, passes}
use Rattle.constraints.specs.Model.{path_constraints_in}
use Rattle.constraints.specs.Paths.{noted_at, certs_at}
use lib.ListN.{length-map}
use Prim.Native.Nat.{ℕ}
use mathlib.Core.List.{List, []}
use native.Mathlib.Omega.{arith}
use mathlib.Core.Path.{refl, sym, ap, ◌∙◌}
use Rattle.replies.proofs.names.Goals as goal

pub offset_bounds-anchors-anchor : goal.offset_bounds-anchors-anchor
offset_bounds-anchors-anchor c = omega (arith, bound_there _ _ _ (sym c.is_bound.ensures ∙ c.if-is_bound.true), length-map c.args.anchors.now.constraints.now (λ x. x.now))

pub bounds-anchors-anchor : goal.bounds-anchors-anchor
bounds-anchors-anchor c = omega (arith, bound_there _ _ _ (sym c.is_bound.ensures ∙ c.if-is_bound.true), length-map c.args.anchors.now.constraints.now (λ x. x.now))

pub returns-then-is_bound : goal.returns-then-is_bound
returns-then-is_bound c =
    let a = c.args in
    let C = a.anchors.now.constraints.now in
    let bound = sym c.is_bound.ensures ∙ c.if-is_bound.true in
    let inside = bound_there _ _ _ bound in
    alike c.path_constraints.ensures
    (names_bound _ _ _ _ _ _ _ _ _ _ _
    (ap (λ (l : List ℕ). spend a.left.now (path_constraints_in l true (certs_at (noted_at a.lent.now) a.path a.depth))) (sym (behind C a.anchor _ [] (omega (arith, inside, length-map C (λ x. x.now))))))
    bound)

pub returns-then-some_constrained : goal.returns-then-some_constrained
returns-then-some_constrained c =
    alike c.path_constraints-then-some_constrained.ensures
    (names_free _ _ _ _ _ _ _ _ _ _ _ _ refl (sym c.is_bound.ensures ∙ c.if-is_bound.false) (sym c.some_constrained.ensures ∙ c.if-some_constrained.true))

pub returns : goal.returns
returns c = passes _ (names_bare _ _ _ _ _ _ _ _ _ (sym c.is_bound.ensures ∙ c.if-is_bound.false) (sym c.some_constrained.ensures ∙ c.if-some_constrained.false))
