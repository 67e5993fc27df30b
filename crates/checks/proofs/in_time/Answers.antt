-- `checks::in_time` meets its contract. Assumes nothing.
use Rattle.std.proofs.Common.{rules}
use Rattle.refusal.specs.Model.{outcome}
use Rattle.checks.specs.Model.{in_time}
use Rattle.checks.proofs.in_time.Goals as goal

pub returns-then-last-start : goal.returns-then-last-start
unfolding in_time outcome
returns-then-last-start c = search rules

pub returns-then-time-start : goal.returns-then-time-start
unfolding in_time outcome
returns-then-time-start c = search rules

pub returns-then-last-time : goal.returns-then-last-time
unfolding in_time outcome
returns-then-last-time c = search rules

pub returns-then-next-to : goal.returns-then-next-to
unfolding in_time outcome
returns-then-next-to c = search rules

pub returns : goal.returns
unfolding in_time outcome
returns c = search rules
