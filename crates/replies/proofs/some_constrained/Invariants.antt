-- `replies::some_constrained` meets its contract. Assumes nothing.
use Rattle.rows.specs.Model.{outlined}
use Rattle.lent.specs.Lent.{readings}
use Rattle.lent.proofs.Laws.{OnLower}
use Rattle.machine.specs.World.{constrained_as}
use Rattle.replies.proofs.some_constrained.Given as goal

abbrev pub invariant-loop-k : goal.invariant-loop-k
invariant-loop-k l = OnLower (λ n. constrained_as (outlined (readings l.lent n))) l.path l.depth l.k
