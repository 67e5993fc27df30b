use Prim.Native.Nat.{◌-◌}
use Rattle.der.proofs.Loop.{Going}
use Rattle.extensions.specs.Model.{taken, go_on, all_kept, gathered}
use Rattle.extensions.proofs.gather.Given as goal

abbrev pub invariant-loop-at : goal.invariant-loop-at
invariant-loop-at l =
    Going l.to all_kept (λ a x. go_on (taken l.s a l.to x l.strict)) (gathered l.s l.from l.to l.strict) l.at l.known

abbrev pub decreases-loop-at : goal.decreases-loop-at
decreases-loop-at l = l.to - l.at
