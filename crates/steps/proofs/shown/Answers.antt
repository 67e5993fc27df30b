-- `steps::shown` meets its contract. Assumes nothing.
use Rattle.refusal.proofs.Laws.{outcome_ok, outcome_err}
use Rattle.machine.proofs.Lent.{outcome_not}
use Rattle.steps.proofs.Laws.{named_by, shown_misnamed, shown_found}
use mathlib.Core.Path.{refl, sym, ap, ◌∙◌}
use Rattle.steps.specs.Model.{step_of}
use Rattle.steps.proofs.shown.Goals as goal

pub returns-in-Ok : goal.returns-in-Ok
returns-in-Ok c =
    shown_found _ _ _ _ _ c.is_found.ensures c.if-not-is_found.false
    (named_by _ _ _ _ _ _ c.reading-reading.ensures refl)
    (outcome_ok _ (sym c.refusal_for.ensures ∙ c.in-Ok.is))
    c.step_of-in-Ok.ensures

pub returns-in-Err : goal.returns-in-Err
returns-in-Err c =
    let failed = sym c.refusal_for.ensures ∙ c.in-Err.is in
    shown_misnamed _ _ _ _ _ c.is_found.ensures c.if-not-is_found.false
    (named_by _ _ _ _ _ _ c.reading-reading.ensures (sym (outcome_err _ _ failed)))
    (outcome_not _ _ failed)
    (c.step_of-in-Err.ensures ∙ ap (step_of c.args.s 4) c.number.ensures)
