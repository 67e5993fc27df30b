-- `subtrees::name` meets its contract. Assumes nothing.
use Rattle.der.proofs.Laws.{handed_on}
use Rattle.entries.proofs.Leaving.{first_refused, first_passed}
use Rattle.subtrees.specs.Model.{name}
use Rattle.subtrees.proofs.name.Goals as goal

pub returns-in_err-all : goal.returns-in_err-all
unfolding name
returns-in_err-all c = rw (handed_on _ c.from_residual.ensures) (first_refused _ c.in_err-all.ensures)

pub returns : goal.returns
unfolding name
returns c = first_passed c.in_ok-all.ensures c.all-2.ensures
