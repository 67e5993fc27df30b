-- `judge::pathjudge_name` meets its contract. Assumes nothing.
use Rattle.refusal.proofs.Laws.{outcome_ok, outcome_err}
use mathlib.Core.Path.{sym, ◌∙◌}
use Rattle.judge.proofs.Laws.{name_read}
use Rattle.judge.proofs.pathjudge_name.Goals as goal

pub returns-in-Ok : goal.returns-in-Ok
returns-in-Ok c = name_read _ _ _ _ _ c.read.ensures (sym (outcome_ok _ (sym c.refusal_for.ensures ∙ c.in-Ok.is)))

pub returns-in-Err : goal.returns-in-Err
returns-in-Err c = c.number.ensures ∙ name_read _ _ _ _ _ c.read.ensures (sym (outcome_err _ _ (sym c.refusal_for.ensures ∙ c.in-Err.is)))
