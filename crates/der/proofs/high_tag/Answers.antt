-- `der::high_tag` meets its contract. Assumes nothing.
use borrow.Author.Rules.{rules}
use Rattle.der.specs.Model.{high_tag}
use Rattle.der.proofs.high_tag.Goals as goal

pub returns : goal.returns
unfolding high_tag
returns c = search rules
