-- `names::general::good_for` meets its contract: the rest of the walk has the answer of the whole. Assumes nothing.
use Prim.Native.Nat.{◌-◌}
use Rattle.refusal.specs.Refusals.{cert_not_valid_for_name}
use Rattle.der.proofs.Loop.{Going}
use Rattle.names.specs.Model.{try_name, on_tried, good_for}
use Rattle.names.proofs.general.good_for.Given as goal
use Rattle.std.specs.Prelude.{Err}

abbrev pub invariant-loop-at : goal.invariant-loop-at
invariant-loop-at l = Going l.to (λ a u. Err cert_not_valid_for_name) (λ a u. on_tried (try_name l.s a l.to l.sought l.wanted)) (good_for l.s l.from l.to l.sought l.wanted) l.at tt

abbrev pub decreases-loop-at : goal.decreases-loop-at
decreases-loop-at l = l.to - l.at
