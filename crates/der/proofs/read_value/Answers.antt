use borrow.Author.Rules.{rules}
use Rattle.der.specs.Model.{read_value}
use Rattle.der.proofs.read_value.Goals as goal

pub returns : goal.returns
unfolding read_value
returns c = search rules
