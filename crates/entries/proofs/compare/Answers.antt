-- `entries::compare` meets its contract. Assumes nothing.
use Rattle.std.proofs.Common.{rules}
use Rattle.entries.specs.Model.{compared}
use Rattle.entries.proofs.compare.Goals as goal

pub returns-in-130 : goal.returns-in-130
unfolding compared
returns-in-130 c = search rules

pub returns-in-130-2 : goal.returns-in-130-2
unfolding compared
returns-in-130-2 c = search rules

pub returns-in-135 : goal.returns-in-135
unfolding compared
returns-in-135 c = search rules

pub returns-in-164 : goal.returns-in-164
unfolding compared
returns-in-164 c = search rules

pub returns-in_default : goal.returns-in_default
unfolding compared
returns-in_default c = search rules
