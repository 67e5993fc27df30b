-- `constraints::anchored` meets its contract. Assumes nothing.
use Rattle.entries.proofs.Leaving.{nothing}
use Rattle.constraints.specs.Model.{anchored_in}
use Rattle.constraints.proofs.anchored.Goals as goal

pub returns-then-bound : goal.returns-then-bound
unfolding anchored_in
returns-then-bound c = rw c.if-bound.true c.constrain.ensures

pub returns : goal.returns
unfolding anchored_in
returns c = rw c.if-bound.false (nothing _)
