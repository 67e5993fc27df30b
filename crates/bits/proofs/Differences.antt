-- D2 of docs/DIFFERENCES.md: named bits are accepted that X.690, 11.2.2, does not allow. Assumes nothing.
use Prim.Native.Nat.{ℕ}
use mathlib.Core.Path.{◌≡◌, refl}
use mathlib.Core.List.{List, [], ◌∷◌}
use native.Mathlib.Omega.{arith}
use Rattle.der.specs.X690.{NamedBits}
use Rattle.bits.specs.Model.{flags_in}
use Rattle.std.specs.Prelude.{Ok}

some : {x : ℕ} {xs : List ℕ} → x ∷ xs ≡ [] → ⊥
some e = let z : ◌≡◌ {A = ℕ} 0 1 = cc in omega arith

-- 03 02 00 80: seven bits more that are 0
pub d2_bits : (flags_in (0 ∷ 128 ∷ []) 0 2 ≡ Ok (record { start = 1; end = 2 })) × (NamedBits 0 (128 ∷ []) → ⊥)
unfolding flags_in
d2_bits = (refl, λ n. omega (arith, n.last some))

-- 03 03 07 80 00: an octet more that is 0
pub d2_octet : (flags_in (7 ∷ 128 ∷ 0 ∷ []) 0 3 ≡ Ok (record { start = 1; end = 3 })) × (NamedBits 7 (128 ∷ 0 ∷ []) → ⊥)
unfolding flags_in
d2_octet = (refl, λ n. omega (arith, n.last some))
