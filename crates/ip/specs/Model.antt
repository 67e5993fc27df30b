-- What the code answers, as functions of the bytes: the same tests in the same order.
use Rattle.std.specs.Prelude.{ℕ, ◌-◌, ◌*◌, ◌/◌, ◌%◌, List, [], ◌∷◌, Bool, true, false, cond, not, length, take, drop, eqb, Ok, Err, Result}
use Rattle.ip.specs.declared.Masked.{Masked}
use Rattle.ip.specs.declared.Masked.TheVariants.{Same, Differs, Broken}
use Rattle.refusal.specs.Refusals.{bad_der, invalid_network_mask_constraint}
use Rattle.parts.specs.Model.{same_parts}

unfoldable pub neither : ℕ → ℕ → ℕ → Bool
neither n a b = cond (eqb n a) false (not (eqb n b))

-- other than ones and then zeros; `full`: ones up to here
unfoldable pub broken_mask : Bool → ℕ → Bool
broken_mask full m = cond (eqb m 0) false (cond full (not (eqb (256 % (256 - m)) 0)) true)

unfoldable pub masked_byte : Bool → ℕ → ℕ → ℕ → Masked
masked_byte full m x y =
    cond (broken_mask full m) Broken (cond (eqb (x / (256 - m)) (y / (256 - m))) Same Differs)

unfoldable pub on_masked : Masked → Result Bool ℕ → Result Bool ℕ
on_masked Same next = next
on_masked Differs next = Ok false
on_masked Broken next = Err invalid_network_mask_constraint

unfoldable pub subnet_from : Bool → List ℕ → List ℕ → List ℕ → Result Bool ℕ
subnet_from full [] a ms = Ok true
subnet_from full (x ∷ p) [] ms = Ok true
subnet_from full (x ∷ p) (y ∷ a) [] = Ok true
subnet_from full (x ∷ p) (y ∷ a) (m ∷ ms) = on_masked (masked_byte full m x y) (subnet_from (eqb m 255) p a ms)

unfoldable pub match_subnet : List ℕ → List ℕ → Result Bool ℕ
match_subnet p q =
    cond (neither (length p) 4 16)
    (Err bad_der)
    (cond (neither (length q) 8 32)
    (Err invalid_network_mask_constraint)
    (cond (eqb (length q) (length p * 2))
    (subnet_from true p (take (length p) q) (drop (length p) q))
    (Ok false)))

unfoldable pub same_address : List ℕ → List ℕ → Bool
same_address p q = cond (neither (length p) 4 16) false (same_parts p 0 (length p) q 0 (length q))
