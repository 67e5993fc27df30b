-- `checks::purposes` meets its contract. Assumes nothing.
use Rattle.std.proofs.Common.{rules}
use Rattle.refusal.specs.Model.{outcome}
use Rattle.checks.specs.Model.{purposes_of}
use Rattle.checks.proofs.purposes.Goals as goal

pub returns-then-from-to : goal.returns-then-from-to
unfolding purposes_of outcome
returns-then-from-to c = search rules

pub returns-then-present : goal.returns-then-present
unfolding purposes_of outcome
returns-then-present c = search rules

pub returns-then-demanded : goal.returns-then-demanded
unfolding purposes_of outcome
returns-then-demanded c = search rules

pub returns : goal.returns
unfolding purposes_of outcome
returns c = search rules
