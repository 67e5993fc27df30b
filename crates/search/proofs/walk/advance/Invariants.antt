-- `search::walk::advance` meets its contract. Assumes nothing.
use Rattle.machine.specs.World.{world_by}
use Rattle.machine.specs.Machine.{effort, Walked}
use Prim.Native.Nat.{◌<◌}
use Rattle.search.proofs.walk.advance.Given as goal

abbrev pub invariant-loop-t : goal.invariant-loop-t
invariant-loop-t l = (l.t.depth < 7) × Walked (world_by l.request) l.initial.t l.t

abbrev pub decreases-loop-t : goal.decreases-loop-t
decreases-loop-t l = effort (world_by l.request) l.t
