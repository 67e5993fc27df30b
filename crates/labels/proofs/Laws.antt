-- Laws of the definitions of `specs/Model.antt` that the functions' proofs cite: each exit and each turn of a loop. Assumes nothing.
use Prim.Native.Nat.{ℕ, ◌+◌, ◌≤◌, ◌<◌}
use mathlib.Core.Path.{◌≡◌}
use mathlib.Core.List.{List}
use mathlib.Core.Bool.{false, cond}
use lib.ListN.{length, get_or, drop}
use Rattle.texts.proofs.Laws.{at_place, past_end}
use Rattle.labels.specs.declared.Label.{Label}
use Rattle.labels.specs.Model.{take_byte, on_taken, host_from, whole}
use Rattle.std.specs.Prelude.{Some, None}

pub host_turn : (h : List ℕ) (i : ℕ) (l l' : Label) → i < length h → take_byte l (get_or h i 0) ≡ Some l' → host_from (drop (i + 1) h) l' ≡ host_from (drop i h) l
unfolding host_from on_taken
host_turn h i l l' k e = rw (at_place h i k, e)

pub host_bad : (h : List ℕ) (i : ℕ) (l : Label) → i < length h → take_byte l (get_or h i 0) ≡ None → host_from (drop i h) l ≡ false
unfolding host_from on_taken
host_bad h i l k e = rw (at_place h i k, e)

pub host_end : (h : List ℕ) (i : ℕ) (l : Label) → length h ≤ i → host_from (drop i h) l ≡ cond l.digits false (whole l)
unfolding host_from
host_end h i l k = rw (past_end h i k)
