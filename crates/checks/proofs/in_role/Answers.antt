-- `checks::in_role` meets its contract. Assumes nothing.
use Rattle.std.proofs.Common.{rules}
use Rattle.refusal.specs.Model.{outcome}
use Rattle.checks.specs.Model.{in_role}
use Rattle.checks.proofs.in_role.Goals as goal

pub returns-in-true-true : goal.returns-in-true-true
unfolding in_role outcome
returns-in-true-true c = search rules

pub returns-in-true-false : goal.returns-in-true-false
unfolding in_role outcome
returns-in-true-false c = search rules

pub returns-in-false-true : goal.returns-in-false-true
unfolding in_role outcome
returns-in-false-true c = search rules

pub returns-in_default : goal.returns-in_default
unfolding in_role outcome
returns-in_default c = search rules
