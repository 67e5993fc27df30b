-- Laws of the definitions of `specs/Model.antt`, and of what is left of a text, that proofs cite. Assumes nothing.
use Prim.Native.Nat.{ℕ, ◌+◌, ◌-◌, ◌≤◌, ◌<◌}
use mathlib.Core.Path.{◌≡◌, refl, ap, ◌∙◌}
use mathlib.Core.List.{List, [], ◌∷◌}
use mathlib.Core.Bool.{Bool, true, false, cond, not}
use lib.ListN.{length, get_or, take, drop, length-drop, drop_of_length-le}
use lib.Seq.{take_all, drop-cons}
use lib.Dec.{eqb, ltb}
use native.Mathlib.Omega.{arith}
use native.Mathlib.Numerals.{add-one, one-add}
use borrow.Author.Tests.{ltb-false}
use Rattle.std.specs.Prelude.{Option, Some, None}
use Rattle.std.specs.Option.{unwrap_or}
use Rattle.std.specs.List.{position, position_or_len}
use Rattle.std.proofs.lemmas.List.Sums.{prefix_len-le-length}
use Rattle.texts.specs.Bytes.{dot}
use Rattle.texts.specs.Model.{begins, from_dot}

pub rest_all : (h : List ℕ) (i : ℕ) → take (length h - i) (drop i h) ≡ drop i h
rest_all h i = take_all (length h - i) (drop i h) (simp length-drop (omega arith))

-- a place of a text: the byte there and what is after it
pub at_place : (h : List ℕ) (i : ℕ) → i < length h → drop i h ≡ get_or h i 0 ∷ drop (i + 1) h
at_place h i l = rw (add-one, drop-cons h i 0)

pub past_end : (h : List ℕ) (i : ℕ) → length h ≤ i → drop i h ≡ []
past_end h i l = drop_of_length-le h l

pub begins_none : (h : List ℕ) (b : ℕ) → length h ≡ 0 → begins h b ≡ false
unfolding begins
begins_none [] b e = refl
begins_none (x ∷ xs) b e = absurd (omega arith)

pub begins_some : (h : List ℕ) (b : ℕ) → (length h ≡ 0 → ⊥) → begins h b ≡ eqb (get_or h 0 0) b
unfolding begins
begins_some [] b e = absurd (e refl)
begins_some (x ∷ xs) b e = refl

-- what a text has from its first dot on
first_dot : (h : List ℕ) → drop (position_or_len (λ x. eqb x dot) h) h ≡ from_dot h
unfolding from_dot
first_dot [] = refl
first_dot (x ∷ xs) = go (eqb x dot) (first_dot xs)
  where
    go : (b : Bool) → drop (position_or_len (λ y. eqb y dot) xs) xs ≡ from_dot xs → drop (cond (not b) (1 + position_or_len (λ y. eqb y dot) xs) 0) (x ∷ xs) ≡ cond b (x ∷ xs) (from_dot xs)
    go true h = refl
    go false h = rw one-add h

pub dot_at : (h : List ℕ) (o : Option ℕ) → o ≡ position (λ x. eqb x dot) h → drop (unwrap_or o (length h)) h ≡ from_dot h
dot_at h o r = rw r (go (ltb (position_or_len (λ x. eqb x dot) h) (length h)) refl)
  where
    go : (b : Bool) → ltb (position_or_len (λ x. eqb x dot) h) (length h) ≡ b → drop (unwrap_or (cond b (Some (position_or_len (λ x. eqb x dot) h)) None) (length h)) h ≡ from_dot h
    go true e = first_dot h
    go false e =
        let k : length h ≡ position_or_len (λ x. eqb x dot) h = omega (arith, ltb-false _ _ e, prefix_len-le-length (λ x. not (eqb x dot)) h) in
        ap (λ (n : ℕ). drop n h) k ∙ first_dot h
