-- D20 of docs/DIFFERENCES.md: a mask that is not ones and then zeros is not refused, if address and entry differ before its break. Assumes nothing.
use Prim.Native.Nat.{ℕ, zero, suc, ◌-◌, ◌≤◌, ◌<◌}
use mathlib.Core.Path.{◌≡◌, refl, ap}
use mathlib.Core.List.{List, [], ◌∷◌, ◌++◌}
use mathlib.Core.Logic.{⊎_elim}
use lib.ListN.{get_or, replicate}
use native.Mathlib.Omega.{arith}
use Rattle.der.proofs.Laws.{lt_or_le}
use Rattle.ip.specs.Addresses.{bits_of, bits, Prefix, Halves}
use Rattle.ip.specs.Model.{neither, broken_mask, masked_byte, on_masked, subnet_from, match_subnet}
use Rattle.std.specs.Prelude.{Ok, false}

-- the bits of a mask of n ones: 1 before place n, and 0 from there on
one_at : (n i : ℕ) (rest : List ℕ) → i < n → get_or (replicate n 1 ++ rest) i 0 ≡ 1
one_at zero i rest h = absurd (omega arith)
one_at (suc n) zero rest h = refl
one_at (suc n) (suc i) rest h = one_at n i rest (omega arith)

zero_at : (n k i : ℕ) → n ≤ i → ◌≡◌ {A = ℕ} (get_or (replicate n 1 ++ replicate k 0) i 0) 0
zero_at zero zero i h = refl
zero_at zero (suc k) zero h = refl
zero_at zero (suc k) (suc i) h = zero_at zero k i (omega arith)
zero_at (suc n) k zero h = absurd (omega arith)
zero_at (suc n) k (suc i) h = zero_at n k i (omega arith)

-- the address 11.0.0.1; the entry 10.0.0.0 with the mask 255.0.255.0
abbrev outer : List ℕ
outer = 11 ∷ 0 ∷ 0 ∷ 1 ∷ []

abbrev mask : List ℕ
mask = 255 ∷ 0 ∷ 255 ∷ 0 ∷ []

abbrev entry : List ℕ
entry = 10 ∷ 0 ∷ 0 ∷ 0 ∷ mask

-- RFC 4632, 3.1: a mask has a number of ones, and then zeros; this one has a 0 at place 8 and a 1 at place 16
no_prefix : (n : ℕ) → Prefix n mask → ⊥
unfolding bits bits_of
no_prefix n x = ⊎_elim more few (lt_or_le 16 n)
  where
    more : 16 < n → ⊥
    more h = omega (arith, ap (λ (l : List ℕ). get_or l 8 0) x.is, one_at n 8 (replicate (32 - n) 0) (omega arith))

    few : n ≤ 16 → ⊥
    few h = omega (arith, ap (λ (l : List ℕ). get_or l 16 0) x.is, zero_at n (32 - n) 16 h)

pub d20 : (match_subnet outer entry ≡ Ok false) × Halves outer entry (10 ∷ 0 ∷ 0 ∷ 0 ∷ []) mask × ((n : ℕ) → Prefix n mask → ⊥)
unfolding match_subnet subnet_from on_masked masked_byte broken_mask neither
d20 = (refl, record { is = refl; address_size = refl; mask_size = refl }, no_prefix)
