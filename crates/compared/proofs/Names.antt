-- What a comparison of addresses costs: no more than a look for each byte. Assumes nothing.
use Prim.Native.Nat.{ℕ, ◌+◌, ◌*◌, ◌≤◌}
use mathlib.Core.Path.{◌≡◌}
use mathlib.Core.List.{List, [], ◌∷◌}
use mathlib.Core.Bool.{Bool, true}
use mathlib.Core.Logic.{⊎_elim}
use lib.ListN.{length, take, drop}
use lib.Dec.{eqb}
use native.Mathlib.Omega.{arith}
use borrow.Author.Tests.{eqb-true}
use Rattle.looks.proofs.Der.{at_most, same_few}
use Rattle.ip.specs.declared.Masked.{Masked}
use Rattle.ip.specs.declared.Masked.TheVariants.{Same, Differs, Broken}
use Rattle.ip.specs.Model.{neither, masked_byte}
use Rattle.ip.proofs.Laws.{neither_false}
use Rattle.compared.specs.Names.{after_masked, subnet_looks, match_subnet_looks, address_looks}

-- ---- addresses
masked_few : (m : Masked) (k n : ℕ) → k ≤ n → after_masked m k ≤ n
unfolding after_masked
masked_few Same k n h = h
masked_few Differs k n h = omega arith
masked_few Broken k n h = omega arith

subnet_few : (full : Bool) (p a ms : List ℕ) → subnet_looks full p a ms ≤ 3 * length p
unfolding subnet_looks
subnet_few full [] a ms = omega arith
subnet_few full (x ∷ p) [] ms = omega arith
subnet_few full (x ∷ p) (y ∷ a) [] = omega arith
subnet_few full (x ∷ p) (y ∷ a) (m ∷ ms) = omega (arith, masked_few (masked_byte full m x y) (subnet_looks (eqb m 255) p a ms) (3 * length p) (subnet_few (eqb m 255) p a ms))

-- each byte of the two once, and no more than 48
pub match_subnet_few : (p q : List ℕ) → (match_subnet_looks p q ≤ length p + length q) × (match_subnet_looks p q ≤ 48)
unfolding match_subnet_looks
match_subnet_few p q =
    let l = subnet_few true p (take (length p) q) (drop (length p) q) in (
      at_most (neither (length p) 4 16) (λ e. omega arith) (λ e.
          at_most (neither (length q) 8 32) (λ f. omega arith) (λ f.
          at_most (eqb (length q) (length p * 2)) (λ g. omega (arith, eqb-true (length q) (length p * 2) g)) (λ g. omega arith))),
      at_most (neither (length p) 4 16) (λ e. omega arith) (λ e.
          at_most (neither (length q) 8 32) (λ f. omega arith) (λ f.
          at_most (eqb (length q) (length p * 2))
          (λ g. ⊎_elim (λ (h : length p ≡ 4). omega arith) (λ (h : length p ≡ 16). omega arith) (neither_false (length p) 4 16 e))
          (λ g. omega arith))),
    )

pub address_few : (p q : List ℕ) → address_looks p q ≤ length p + length q
unfolding address_looks
address_few p q = at_most (neither (length p) 4 16) (λ e. omega arith) (λ e. omega (arith, same_few p 0 (length p) q 0 (length q)))
