-- How many elements of a slice are read for addresses and general names: the tests of `Model.antt` in `crates/ip/specs` and `crates/names/specs` in the same order, and 1 for each element that the code beside it reads.
-- k is what is looked at afterwards.
use Rattle.std.specs.Prelude.{ℕ, ◌+◌, ◌*◌, List, [], ◌∷◌, Bool, true, cond, length, take, drop, eqb}
use Rattle.der.specs.Places.{part}
use Rattle.der.specs.Loop.{walk}
use Rattle.looks.specs.Der.{nothing, value_looks, same_looks}
use Rattle.labels.specs.Model.{valid_wanted}
use Rattle.ip.specs.declared.Masked.{Masked}
use Rattle.ip.specs.declared.Masked.TheVariants.{Same, Differs, Broken}
use Rattle.names.specs.General.{dns_name, ip_address}
use Rattle.ip.specs.Model.{neither, masked_byte}
use Rattle.names.specs.Model.{general_name, is_wanted}
use Rattle.entries.specs.Model.{on_name}
use Rattle.compared.specs.Dns.{wanted_looks, match_wanted_looks}

-- ---- addresses
-- what is looked at after a byte
unfoldable pub after_masked : Masked → ℕ → ℕ
after_masked Same k = k
after_masked Differs k = 0
after_masked Broken k = 0

-- `in_subnet`: the mask's byte, the name's and the subnet's
unfoldable pub subnet_looks : Bool → List ℕ → List ℕ → List ℕ → ℕ
subnet_looks full [] a ms = 0
subnet_looks full (x ∷ p) [] ms = 0
subnet_looks full (x ∷ p) (y ∷ a) [] = 0
subnet_looks full (x ∷ p) (y ∷ a) (m ∷ ms) = 3 + after_masked (masked_byte full m x y) (subnet_looks (eqb m 255) p a ms)

-- `match_subnet`
unfoldable pub match_subnet_looks : List ℕ → List ℕ → ℕ
match_subnet_looks p q =
    cond (neither (length p) 4 16)
    0
    (cond (neither (length q) 8 32)
    0
    (cond (eqb (length q) (length p * 2)) (subnet_looks true p (take (length p) q) (drop (length p) q)) 0))

-- `same_address`
unfoldable pub address_looks : List ℕ → List ℕ → ℕ
address_looks p q = cond (neither (length p) 4 16) 0 (same_looks p 0 (length p) q 0 (length q))

-- ---- the wanted name
-- `is_wanted`
unfoldable pub fit_looks : ℕ → List ℕ → ℕ → List ℕ → ℕ
fit_looks kind content sought wanted =
    cond (eqb kind sought)
    (cond (eqb kind dns_name) (match_wanted_looks content wanted) (address_looks content wanted))
    0

-- `try_name`, and in it `general_name`: k of the place after the name, if it is not the wanted one
unfoldable pub try_looks : List ℕ → ℕ → ℕ → ℕ → List ℕ → (ℕ → ℕ) → ℕ
try_looks s at to sought wanted k =
    value_looks s at to + on_name (general_name s at to) nothing (λ kind start end.
    fit_looks kind (part s start end) sought wanted + cond (is_wanted s kind start end sought wanted) 0 (k end))

-- `good_for`
unfoldable pub good_looks : List ℕ → ℕ → ℕ → ℕ → List ℕ → ℕ
good_looks s from to sought wanted = walk to (λ at (u : Unit {0}). 0) (λ at u k. try_looks s at to sought wanted (λ next. k next u)) from tt

-- `good_for_dns`
unfoldable pub good_dns_looks : List ℕ → ℕ → ℕ → List ℕ → ℕ
good_dns_looks s from to wanted =
    wanted_looks wanted + cond (valid_wanted wanted) (good_looks s from to dns_name wanted) 0

-- `good_for_ip`
unfoldable pub good_ip_looks : List ℕ → ℕ → ℕ → List ℕ → ℕ
good_ip_looks s from to wanted = good_looks s from to ip_address wanted
