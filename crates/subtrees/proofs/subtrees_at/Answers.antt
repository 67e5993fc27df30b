-- `subtrees::subtrees_at` meets its contract. Assumes nothing.
use Rattle.std.proofs.Common.{rules}
use Rattle.der.specs.Model.{on_content}
use Rattle.subtrees.specs.Model.{subtrees_at}
use Rattle.subtrees.proofs.subtrees_at.Goals as goal

pub returns-in_err-permitted : goal.returns-in_err-permitted
unfolding subtrees_at on_content
returns-in_err-permitted c = search rules

pub returns-in_err-excluded : goal.returns-in_err-excluded
unfolding subtrees_at on_content
returns-in_err-excluded c = search rules

pub returns : goal.returns
unfolding subtrees_at on_content
returns c = search rules
