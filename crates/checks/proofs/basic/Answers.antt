-- `checks::basic` meets its contract. Assumes nothing.
use Rattle.std.proofs.Common.{rules}
use Rattle.checks.specs.Model.{basic_of}
use Rattle.checks.proofs.basic.Goals as goal

pub returns-then-present : goal.returns-then-present
unfolding basic_of
returns-then-present c = search rules

pub returns : goal.returns
unfolding basic_of
returns c = search rules
