-- `subtrees::list_at` meets its contract. Assumes nothing.
use Rattle.std.proofs.Common.{rules}
use Rattle.subtrees.specs.Model.{list_at}
use Rattle.subtrees.proofs.list_at.Goals as goal

pub returns-then-s-to : goal.returns-then-s-to
unfolding list_at
returns-then-s-to c = search rules

pub returns-then-to-from : goal.returns-then-to-from
unfolding list_at
returns-then-to-from c = search rules

pub returns : goal.returns
unfolding list_at
returns c = search rules
