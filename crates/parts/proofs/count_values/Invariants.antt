use Prim.Native.Nat.{◌-◌, ◌≤◌}
use Rattle.der.proofs.Loop.{Going}
use Rattle.parts.specs.Model.{count_values, one_more, all_counted}
use Rattle.der.specs.Model.{read_value}
use Rattle.parts.proofs.count_values.Given as goal

abbrev pub invariant-loop-at : goal.invariant-loop-at
invariant-loop-at l =
    (l.n ≤ l.at) × Going l.to (all_counted l.to) (λ a m. one_more (read_value l.s a l.to) m) (count_values l.s l.from l.to) l.at l.n

abbrev pub decreases-loop-at : goal.decreases-loop-at
decreases-loop-at l = l.to - l.at
