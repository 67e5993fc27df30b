-- `checks::bounded_role` meets its contract. Assumes nothing.
use mathlib.Core.Path.{◌∙◌}
use Rattle.std.proofs.Common.{rules}
use Rattle.refusal.specs.Model.{outcome}
use Rattle.der.proofs.Laws.{handed_on}
use Rattle.checks.specs.Model.{bounded_role, on_number}
use Rattle.checks.proofs.Outcomes.{small_passed, first_err, first_ok}
use Rattle.checks.proofs.bounded_role.Goals as goal

pub returns-in_err-length : goal.returns-in_err-length
unfolding bounded_role on_number
returns-in_err-length c = search (rules, small_passed _ _ _ c.in_err-length.ensures)

pub returns-in_err-in_role : goal.returns-in_err-in_role
unfolding bounded_role on_number
returns-in_err-in_role c = handed_on _ c.from_residual-in_err-in_role.ensures ∙ rw (← c.in_ok-length.ensures) (first_err _ _ (rw c.from.ensures at c.in_err-in_role.ensures))

pub returns-then-next-to : goal.returns-then-next-to
unfolding bounded_role on_number outcome
returns-then-next-to c = rw (← c.in_ok-length.ensures) (first_ok _ _ (rw c.from.ensures at c.in_ok-in_role.ensures) (search rules))

pub returns : goal.returns
unfolding bounded_role on_number outcome
returns c = rw (← c.in_ok-length.ensures) (first_ok _ _ (rw c.from.ensures at c.in_ok-in_role.ensures) (search rules))
