use Prim.Native.Nat.{◌-◌}
use Rattle.der.proofs.Loop.{Going}
use Rattle.checks.specs.Model.{purpose_step, no_purpose, purpose_in}
use Rattle.checks.proofs.purpose_in.Given as goal

abbrev pub invariant-loop-at : goal.invariant-loop-at
invariant-loop-at l = Going l.to no_purpose (λ a u. purpose_step l.s l.to l.wanted a) (purpose_in l.s l.from l.to l.wanted) l.at tt

abbrev pub decreases-loop-at : goal.decreases-loop-at
decreases-loop-at l = l.to - l.at
