-- `constraints::constrain` meets its contract. Assumes nothing.
use mathlib.Core.Path.{sym, ◌∙◌}
use native.Mathlib.Omega.{arith}
use borrow.Author.Tests.{eq-eqb, ne_eqb}
use Rattle.der.proofs.Laws.{handed_on}
use Rattle.entries.proofs.Leaving.{along, nothing, refused_at_once, first_refused, first_passed}
use Rattle.subtrees.proofs.Refusals.{lists_refused}
use Rattle.constraints.proofs.Turns.{constraints_are, constraints_none}
use Rattle.constraints.proofs.constrain.Goals as goal

pub returns-in_err-lists : goal.returns-in_err-lists
returns-in_err-lists c =
    let found = sym c.subtrees_at.ensures ∙ c.in_err-lists.was in
    rw (handed_on _ c.from_residual.ensures) (along (constraints_none _ _ _ _ _ found) (refused_at_once _ _ (lists_refused _ _ _ _ found)))

pub returns-in_err-below : goal.returns-in_err-below
returns-in_err-below c =
    let found = sym c.subtrees_at.ensures ∙ c.in_ok-lists.was in
    rw (handed_on _ c.from_residual-in_err-below.ensures) (along (constraints_are _ _ _ _ _ found) (first_refused _ c.in_err-below.ensures))

pub returns-then-lists-to : goal.returns-then-lists-to
returns-then-lists-to c =
    let found = sym c.subtrees_at.ensures ∙ c.in_ok-lists.was in
    along (constraints_are _ _ _ _ _ found) (rw (eq-eqb _ _ c.if-lists-to.true) (first_passed c.in_ok-below.ensures (nothing _)))

pub returns : goal.returns
returns c =
    let found = sym c.subtrees_at.ensures ∙ c.in_ok-lists.was in
    along (constraints_are _ _ _ _ _ found) (rw (ne_eqb _ _ c.if-lists-to.false) (first_passed c.in_ok-below.ensures (refused_at_once _ _ (λ z. omega arith))))
