-- `search::start` meets its contract. Assumes nothing.
use Rattle.refusal.proofs.Laws.{outcome_ok, outcome_err}
use Rattle.lent.specs.Lent.{lower}
use Rattle.machine.specs.World.{end_by, world_by}
use Rattle.machine.proofs.Whole.{started, started_refused}
use Rattle.machine.proofs.Lent.{outcome_not, request_checks}
use mathlib.Core.List.{[], ◌∷◌}
use mathlib.Core.Path.{sym, ◌∙◌}
use Rattle.search.proofs.start.Goals as goal

pub returns-in-Err : goal.returns-in-Err
unfolding lower
returns-in-Err c =
    let r = c.args.request.now in
    let failed = sym c.check.ensures ∙ c.in-Err.is in
    started_refused (world_by r) (end_by r) _ _ _ c.in-Err.e _ (request_checks r _ c.lent.ensures (end_by r ∷ []) ∙ outcome_err _ _ failed) (outcome_not _ _ failed) c.worse.ensures

pub returns : goal.returns
unfolding lower
returns c =
    let r = c.args.request.now in
    started (world_by r) (end_by r) _ _ _ _ (request_checks r _ c.lent.ensures (end_by r ∷ []) ∙ outcome_ok _ (sym c.check.ensures ∙ c.in_default.is)) c.advance.ensures
