-- `entries::close` meets its contract. Assumes nothing.
use Rattle.std.proofs.Common.{rules}
use Rattle.refusal.specs.Model.{outcome}
use Rattle.entries.specs.Model.{closed}
use Rattle.entries.proofs.close.Goals as goal

pub returns-then-seen : goal.returns-then-seen
unfolding closed outcome
returns-then-seen c = search rules

pub returns : goal.returns
unfolding closed outcome
returns c = search rules
