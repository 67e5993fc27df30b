-- `checks::validity` meets its contract. Assumes nothing.
use Rattle.std.proofs.Common.{rules}
use Rattle.checks.specs.Model.{valid_at, on_time}
use Rattle.checks.proofs.Outcomes.{time_passed}
use Rattle.checks.proofs.validity.Goals as goal

pub returns-in_err-start : goal.returns-in_err-start
unfolding valid_at on_time
returns-in_err-start c = search (rules, time_passed _ _ _ c.in_err-start.ensures)

pub returns-in_err-last : goal.returns-in_err-last
unfolding valid_at on_time
returns-in_err-last c = search (rules, time_passed _ _ _ c.in_err-last.ensures)

pub returns : goal.returns
unfolding valid_at on_time
returns c = search rules
