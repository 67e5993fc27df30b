use Prim.Native.Nat.{◌+◌, ◌-◌, ◌≤◌}
use mathlib.Core.Path.{◌≡◌}
use Rattle.parts.specs.Lists.{same_list}
use Rattle.parts.specs.Model.{same_parts}
use Rattle.der.specs.Places.{part}
use Rattle.parts.proofs.same.Given as goal

abbrev pub invariant-loop-i : goal.invariant-loop-i
invariant-loop-i l = (l.i ≤ l.b - l.a) × (same_list (part l.s (l.a + l.i) l.b) (part l.t (l.c + l.i) l.d) ≡ same_parts l.s l.a l.b l.t l.c l.d)
