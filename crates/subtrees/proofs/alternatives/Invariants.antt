-- `subtrees::alternatives` meets its contract: what is left of the walk, with what is left of the budget, has the answer of the whole. Assumes nothing.
use Prim.Native.Nat.{◌-◌}
use Rattle.names.specs.Model.{general_name}
use Rattle.entries.specs.Tally.{spend, clean}
use Rattle.entries.proofs.Spending.{Paying}
use Rattle.subtrees.specs.Model.{alternatives, next_name}
use Rattle.subtrees.proofs.alternatives.Given as goal

abbrev pub invariant-loop-at : goal.invariant-loop-at
invariant-loop-at l =
    Paying l.to (λ a u. clean) (λ a u. next_name l.s l.lists l.t (general_name l.t a l.to)) (spend l.initial.left (alternatives l.s l.lists l.t l.from l.to)) l.left l.at tt

abbrev pub decreases-loop-at : goal.decreases-loop-at
decreases-loop-at l = l.to - l.at
