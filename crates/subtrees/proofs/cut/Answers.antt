-- `subtrees::cut` meets its contract. Assumes nothing.
use Prim.Native.Nat.{◌-◌}
use mathlib.Core.Path.{◌≡◌}
use native.Mathlib.Omega.{arith}
use Rattle.subtrees.proofs.Laws.{cut_short}
use Rattle.subtrees.proofs.cut.Goals as goal

pub returns-then-end-from : goal.returns-then-end-from
returns-then-end-from c = let z : c.min-end.result - c.args.from ≡ 0 = omega arith in rw z at (cut_short c.args.t.now c.args.from c.args.to _ c.min-end.ensures)

pub returns : goal.returns
returns c = cut_short _ _ _ _ c.min-end.ensures
