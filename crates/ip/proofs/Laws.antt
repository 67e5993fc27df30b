-- Laws of the definitions of `specs/Model.antt` that the functions' proofs cite: each exit and each turn of a loop. Assumes nothing.
use Prim.Native.Nat.{ℕ, ◌+◌, ◌≤◌, ◌<◌}
use mathlib.Core.Path.{◌≡◌, refl}
use mathlib.Core.List.{List}
use mathlib.Core.Bool.{Bool, true, false, cond, not}
use mathlib.Core.Logic.{◌⊎◌, inl, inr, ⊎_elim}
use lib.ListN.{length, get_or, drop}
use lib.Dec.{eqb}
use borrow.Author.Tests.{eq-eqb, eqb-true, not-false}
use Rattle.ip.specs.declared.Masked.TheVariants.{Same, Differs, Broken}
use Rattle.refusal.specs.Refusals.{invalid_network_mask_constraint}
use Rattle.der.proofs.Invert.{either}
use Rattle.texts.proofs.Laws.{at_place, past_end}
use Rattle.ip.specs.Model.{neither, masked_byte, on_masked, subnet_from}
use Rattle.std.specs.Prelude.{Ok, Err}

pub neither_false : (n a b : ℕ) → neither n a b ≡ false → (n ≡ a) ⊎ (n ≡ b)
unfolding neither
neither_false n a b e =
    ⊎_elim (λ p. inl (eqb-true n a p.0)) (λ p. inr (eqb-true n b (not-false _ p.1))) (either (eqb n a) e)

pub either_size : (n a b : ℕ) → (n ≡ a) ⊎ (n ≡ b) → neither n a b ≡ false
unfolding neither
either_size n a b (inl e) = rw (eq-eqb n a e)
either_size n a b (inr e) = go (eqb n a)
  where
    go : (t : Bool) → cond t false (not (eqb n b)) ≡ false
    go true = refl
    go false = rw (eq-eqb n b e)

module _ (full : Bool) (p a ms : List ℕ) (i : ℕ) (h : i < length p) (k : i < length a) (l : i < length ms) where
  pub subnet_turn : masked_byte full (get_or ms i 0) (get_or p i 0) (get_or a i 0) ≡ Same
      → subnet_from (eqb (get_or ms i 0) 255) (drop (i + 1) p) (drop (i + 1) a) (drop (i + 1) ms) ≡ subnet_from full (drop i p) (drop i a) (drop i ms)
  unfolding subnet_from on_masked
  subnet_turn e = rw (at_place p i h, at_place a i k, at_place ms i l, e)

  pub subnet_differs : masked_byte full (get_or ms i 0) (get_or p i 0) (get_or a i 0) ≡ Differs → subnet_from full (drop i p) (drop i a) (drop i ms) ≡ Ok false
  unfolding subnet_from on_masked
  subnet_differs e = rw (at_place p i h, at_place a i k, at_place ms i l, e)

  pub subnet_broken : masked_byte full (get_or ms i 0) (get_or p i 0) (get_or a i 0) ≡ Broken
      → subnet_from full (drop i p) (drop i a) (drop i ms) ≡ Err invalid_network_mask_constraint
  unfolding subnet_from on_masked
  subnet_broken e = rw (at_place p i h, at_place a i k, at_place ms i l, e)

pub subnet_end : (full : Bool) (p a ms : List ℕ) (i : ℕ) → length p ≤ i → subnet_from full (drop i p) (drop i a) (drop i ms) ≡ Ok true
unfolding subnet_from
subnet_end full p a ms i h = rw (past_end p i h)
