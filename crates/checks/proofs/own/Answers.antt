-- `checks::own` meets its contract. Assumes nothing.
use mathlib.Core.Path.{◌∙◌}
use Rattle.der.proofs.Laws.{handed_on}
use Rattle.checks.specs.Model.{own_of}
use Rattle.checks.proofs.Outcomes.{first_err, first_ok}
use Rattle.checks.proofs.own.Goals as goal

pub returns-in_err-validity : goal.returns-in_err-validity
unfolding own_of
returns-in_err-validity c = handed_on _ c.from_residual.ensures ∙ first_err _ _ c.in_err-validity.ensures

pub returns-in_err-basic : goal.returns-in_err-basic
unfolding own_of
returns-in_err-basic c = handed_on _ c.from_residual-in_err-basic.ensures ∙ first_ok _ _ c.in_ok-validity.ensures (first_err _ _ c.in_err-basic.ensures)

pub returns : goal.returns
unfolding own_of
returns c = first_ok _ _ c.in_ok-validity.ensures (first_ok _ _ c.in_ok-basic.ensures c.purposes.ensures)
