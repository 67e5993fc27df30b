-- MASKS: an address and an entry are compared, with an answer other than a refusal, just where both have their lengths and the mask is taken; and an address
-- that agrees bit by bit is then in the subnet. Assumes nothing.
use Prim.Native.Nat.{ℕ, zero, suc, ◌+◌, ◌-◌, ◌*◌, ◌≤◌, ◌<◌}
use mathlib.Core.Path.{◌≡◌, refl, sym, ap, ◌∙◌}
use mathlib.Core.List.{List, [], ◌∷◌, ◌++◌, append_assoc, append-nil}
use mathlib.Core.Bool.{Bool, true, false}
use mathlib.Core.Logic.{◌⊎◌, inl, inr, ⊎_elim}
use lib.ListN.{length, take, drop, replicate, get_or, length-append, length-take, take-append-drop, length-replicate, length-drop, get_or-replicate}
use lib.Seq.{take_at, take_all, take-take, take-append-le, take-append-add, get_or-take, ext_get_or, length-take-le}
use lib.Dec.{eqb}
use native.Mathlib.Omega.{arith}
use borrow.Author.Tests.{eqb-true, eqb-false}
use Rattle.der.specs.Places.{Bytes}
use Rattle.der.proofs.Laws.{lt_or_le}
use Rattle.der.proofs.Parts.{append_inv}
use Rattle.dns.proofs.Laws.{yes_refused, no_refused}
use Rattle.ip.specs.Addresses.{bits_of, bits, Prefix, Inside, InSubnet, IsAddress, IsEntry, Halves, InMasked}
use Rattle.ip.specs.Masks.{Masked, whole, outside}
use Rattle.ip.specs.Model.{neither, match_subnet}
use Rattle.ip.proofs.Bits.{bits_length}
use Rattle.ip.proofs.Laws.{neither_false, either_size}
use Rattle.ip.proofs.Subnet.{no_address, no_subnet, other_length, Says, prefix, broken, subnet_says}
use Rattle.std.specs.Prelude.{Ok, Err, Result}

-- ---- bits
bits_both : (a b : List ℕ) → bits (a ++ b) ≡ bits a ++ bits b
unfolding bits
bits_both [] b = refl
bits_both (x ∷ a) b = ap (λ (l : List ℕ). bits_of 8 x ++ l) (bits_both a b) ∙ sym (append_assoc (bits_of 8 x) (bits a) (bits b))

bits_long : (a : List ℕ) → length (bits a) ≡ 8 * length a
unfolding bits
bits_long [] = refl
bits_long (x ∷ a) = length-append (bits_of 8 x) (bits a) ∙ omega (arith, bits_length 8 x, bits_long a)

-- a beginning of a mask that is ones and then zeros has its ones in the mask
first_ones : (k n : ℕ) (mask : List ℕ) → Prefix n (take k mask) → take n (bits mask) ≡ replicate n 1
first_ones k n mask x =
    let zeros : List ℕ = replicate (8 * length (take k mask) - n) 0 in
    let e : bits mask ≡ replicate n 1 ++ (zeros ++ bits (drop k mask)) =
    ap bits (sym (take-append-drop k mask)) ∙ bits_both (take k mask) (drop k mask) ∙ ap (λ (l : List ℕ). l ++ bits (drop k mask)) x.is ∙ append_assoc (replicate n 1) zeros (bits (drop k mask)) in
    ap (take n) e ∙ take_at (replicate n 1) (zeros ++ bits (drop k mask)) n (length-replicate n 1)

-- no more octets than there are, and than are asked for
taken_few : (k : ℕ) (l : List ℕ) → (length (take k l) ≤ length l) × (length (take k l) ≤ k)
taken_few k l = let e = length-take k l in (rw e (omega arith), rw e (omega arith))

short_front : (k n : ℕ) (mask : List ℕ) → Prefix n (take k mask) → n ≤ 8 * length mask
short_front k n mask x = omega (arith, x.few, (taken_few k mask).0)

-- so an address that agrees wherever the mask is one has the same first bits
agree_inside : (k n : ℕ) (p address mask : List ℕ) → length address ≡ length p → length mask ≡ length p → Prefix n (take k mask)
    → ((i : ℕ) → get_or (bits mask) i 0 ≡ 1 → get_or (bits p) i 0 ≡ get_or (bits address) i 0) → Inside n p address
agree_inside k n p address mask la lm x agree =
    let f = short_front k n mask x in
    let u : length (take n (bits p)) ≡ n = length-take-le n (bits p) (omega (arith, bits_long p)) in
    let v : length (take n (bits address)) ≡ n = length-take-le n (bits address) (omega (arith, bits_long address)) in
    ext_get_or 0 (take n (bits p)) (take n (bits address)) (u ∙ sym v)
    (λ i h.
    let l : i < n = omega (arith, u) in
    let one : get_or (bits mask) i 0 ≡ 1 = sym (get_or-take n (bits mask) i 0 l) ∙ ap (λ (t : List ℕ). get_or t i 0) (first_ones k n mask x) ∙ get_or-replicate n i 1 0 l in
    get_or-take n (bits p) i 0 l ∙ agree i one ∙ sym (get_or-take n (bits address) i 0 l))

-- an entry has one address and one mask
halves_once : (p e a m b k : List ℕ) → Halves p e a m → Halves p e b k → (a ≡ b) × (m ≡ k)
halves_once p e a m b k h i = append_inv a b m k (h.address_size ∙ sym i.address_size) (sym h.is ∙ i.is)

pub twice : (p e a m : List ℕ) → Halves p e a m → length e ≡ length p * 2
twice p e a m h = ap length h.is ∙ length-append a m ∙ omega (arith, h.address_size, h.mask_size)

all_of : (n : ℕ) (mask : List ℕ) → Prefix n mask → Prefix n (take (length mask) mask)
all_of n mask x = let e : take (length mask) mask ≡ mask = take_all (length mask) mask (omega arith) in rw e x

-- bit by bit in an entry whose mask is good for the address: in the subnet
pub masked_in : (p e : List ℕ) → Masked p e → InMasked p e → InSubnet p e
masked_in p e (whole a m n h x) i =
    let q = halves_once p e i.address i.mask a m i.halves h in
    let y : Prefix n i.mask = rw q.1 x in
    record {
      address = i.address;
      mask = i.mask;
      ones = n;
      is = i.halves.is;
      address_size = i.halves.address_size;
      mask_size = i.halves.mask_size;
      prefix = y;
      inside = agree_inside (length i.mask) n p i.address i.mask i.halves.address_size i.halves.mask_size (all_of n i.mask y) i.agree;
    }
masked_in p e (outside a m k n h x out) i =
    let q = halves_once p e i.address i.mask a m i.halves h in
    let y : Prefix n (take k i.mask) = rw q.1 x in
    let z : Inside n p i.address = agree_inside k n p i.address i.mask i.halves.address_size i.halves.mask_size y i.agree in
    absurd (out (rw q.0 at z))

-- ---- prefixes of ones
take_same : (d z x : ℕ) → d ≤ z → take d (replicate z x) ≡ replicate d x
take_same zero z x h = refl
take_same (suc d) zero x h = absurd (omega arith)
take_same (suc d) (suc z) x h = ap (λ (l : List ℕ). x ∷ l) (take_same d z x (omega arith))

bits_front : (j : ℕ) (m : List ℕ) → j ≤ length m → bits (take j m) ≡ take (8 * j) (bits m)
bits_front j m h =
    let e : bits m ≡ bits (take j m) ++ bits (drop j m) = ap bits (sym (take-append-drop j m)) ∙ bits_both (take j m) (drop j m) in
    sym (ap (take (8 * j)) e ∙ take_at (bits (take j m)) (bits (drop j m)) (8 * j) (bits_long (take j m) ∙ omega (arith, length-take-le j m h)))

-- a beginning of ones and then zeros is that too
front_prefix : (n j : ℕ) (m : List ℕ) → Prefix n m → j ≤ length m → (i : ℕ) × Prefix i (take j m)
front_prefix n j m x h = ⊎_elim less more (lt_or_le n (8 * j))
  where
    long : length (take j m) ≡ j
    long = length-take-le j m h

    zeros : List ℕ
    zeros = replicate (8 * length m - n) 0

    cut : bits (take j m) ≡ take (8 * j) (replicate n 1 ++ zeros)
    cut = bits_front j m h ∙ ap (take (8 * j)) x.is

    more : 8 * j ≤ n → (i : ℕ) × Prefix i (take j m)
    more l =
        let a : take (8 * j) (replicate n 1 ++ zeros) ≡ replicate (8 * j) 1 = take-append-le (8 * j) (replicate n 1) zeros (omega (arith, length-replicate {A = ℕ} n 1)) ∙ take_same (8 * j) n 1 l in
        let z : 8 * length (take j m) - 8 * j ≡ 0 = omega (arith, long) in
        let b : ◌≡◌ {A = List ℕ} (replicate (8 * j) 1) (replicate (8 * j) 1 ++ replicate (8 * length (take j m) - 8 * j) 0) = rw z (sym (append-nil (replicate {A = ℕ} (8 * j) 1))) in
        (8 * j, record { few = omega (arith, long); is = cut ∙ a ∙ b })

    less : n < 8 * j → (i : ℕ) × Prefix i (take j m)
    less l =
        let d = 8 * j - n in
        let e : 8 * j ≡ length (replicate {A = ℕ} n 1) + d = omega (arith, length-replicate {A = ℕ} n 1) in
        let a : take (8 * j) (replicate n 1 ++ zeros) ≡ replicate n 1 ++ take d zeros = ap (λ (k : ℕ). take k (replicate n 1 ++ zeros)) e ∙ take-append-add (replicate n 1) zeros d in
        let b : take d zeros ≡ replicate d 0 = take_same d (8 * length m - n) 0 (omega arith) in
        let c : d ≡ 8 * length (take j m) - n = omega (arith, long) in
        (n, record { few = omega (arith, long); is = cut ∙ a ∙ ap (λ (t : List ℕ). replicate n 1 ++ t) (b ∙ ap (λ (k : ℕ). replicate k 0) c) })

zero_at : (n z : ℕ) (rest : List ℕ) → 0 < z → get_or (replicate n 1 ++ (replicate z 0 ++ rest)) n 0 ≡ 0
zero_at n zero rest h = absurd (omega arith)
zero_at n (suc z) rest h = go n
  where
    go : (k : ℕ) → get_or (replicate k 1 ++ (0 ∷ (replicate z 0 ++ rest))) k 0 ≡ 0
    go zero = refl
    go (suc k) = go k

-- a mask that breaks after its first k octets, which have n ones: no beginning of it has more
most_ones : (k n j i : ℕ) (m : List ℕ) → k ≤ length m → Prefix n (take k m) → (k < length m → (l : ℕ) → Prefix l (take (suc k) m) → ⊥) → Prefix i (take j m) → i ≤ n
most_ones k n j i m h x stop y = ⊎_elim (λ l. absurd (over l)) (λ l. l) (lt_or_le n i)
  where
    long : length (take k m) ≡ k
    long = length-take-le k m h

    one : n < i → get_or (bits m) n 0 ≡ 1
    one l = sym (get_or-take i (bits m) n 0 l) ∙ ap (λ (t : List ℕ). get_or t n 0) (first_ones j i m y) ∙ get_or-replicate i n 1 0 l

    over : n < i → ⊥
    over l = ⊎_elim within beyond (lt_or_le n (8 * k))
      where
        within : n < 8 * k → ⊥
        within q =
            let z = 8 * length (take k m) - n in
            let e : bits m ≡ replicate n 1 ++ (replicate z 0 ++ bits (drop k m)) =
            ap bits (sym (take-append-drop k m)) ∙ bits_both (take k m) (drop k m) ∙ ap (λ (t : List ℕ). t ++ bits (drop k m)) x.is ∙ append_assoc (replicate n 1) (replicate z 0) (bits (drop k m)) in
            let f : get_or (bits m) n 0 ≡ 0 = ap (λ (t : List ℕ). get_or t n 0) e ∙ zero_at n z (bits (drop k m)) (omega (arith, long)) in
            omega (arith, f, one l)

        beyond : 8 * k ≤ n → ⊥
        beyond q =
            let t : suc k ≤ length (take j m) = omega (arith, y.few) in
            let r = front_prefix i (suc k) (take j m) y t in
            let v : suc k ≤ j = omega (arith, t, (taken_few j m).1) in
            let u : take (suc k) (take j m) ≡ take (suc k) m = take-take (suc k) j m v in
            stop (omega (arith, t, (taken_few j m).0)) r.0 (rw u at r.1)

-- and to agree in more bits is to agree in fewer
fewer : (i n : ℕ) (p a : List ℕ) → i ≤ n → Inside n p a → Inside i p a
fewer i n p a l h = sym (take-take i n (bits p) l) ∙ ap (take i) h ∙ take-take i n (bits a) l

-- ---- an address and an entry
abbrev pub Answered : Result Bool ℕ → Type 0
Answered a = (a ≡ Ok true) ⊎ (a ≡ Ok false)

module _ (p q : List ℕ) (bp : Bytes p) (bq : Bytes q) where
  sizes : (x : Result Bool ℕ) → Answered x → match_subnet p q ≡ x → IsAddress p × IsEntry q
  sizes x d e = go (neither (length p) 4 16) (neither (length q) 8 32) refl refl d
    where
      refused : {y : ℕ} → match_subnet p q ≡ Err y → Answered x → ⊥
      refused r (inl y) = yes_refused (sym (e ∙ y) ∙ r)
      refused r (inr y) = no_refused (sym (e ∙ y) ∙ r)

      go : (s t : Bool) → neither (length p) 4 16 ≡ s → neither (length q) 8 32 ≡ t → Answered x → IsAddress p × IsEntry q
      go true t h k d = absurd (refused (no_address p q h) d)
      go false true h k d = absurd (refused (no_subnet p q h k) d)
      go false false h k d = (neither_false (length p) 4 16 h, neither_false (length q) 8 32 k)

  module _ (size : IsAddress p) (twice : length q ≡ length p * 2) where
    abbrev a : List ℕ
    a = take (length p) q

    abbrev m : List ℕ
    m = drop (length p) q

    halves : Halves p q a m
    halves = record { is = sym (take-append-drop (length p) q); address_size = length-take-le (length p) q (omega (arith, twice)); mask_size = length-drop (length p) q ∙ omega (arith, twice) }

    bytes_two : (x y : List ℕ) → Bytes (x ++ y) → Bytes x × Bytes y
    bytes_two [] y b = ((λ i. omega arith), b)
    bytes_two (z ∷ x) y b = let r = bytes_two x y (λ i. b (suc i)) in (cons z x (b 0) r.0, r.1)
      where
        cons : (z : ℕ) (x : List ℕ) → z < 256 → Bytes x → Bytes (z ∷ x)
        cons z x h b zero = h
        cons z x h b (suc i) = b i

    says : Says p a m
    says = let b = bytes_two a m (rw (← take-append-drop (length p) q) at bq) in subnet_says p a m bp b.0 b.1 size halves.address_size halves.mask_size

    is_said : (x : Result Bool ℕ) → match_subnet p (a ++ m) ≡ x → match_subnet p q ≡ x
    is_said x e = ap (match_subnet p) halves.is ∙ e

    -- an answer says that the mask is good for the address
    answered_masked : Answered (match_subnet p q) → Masked p q
    answered_masked d = go says
      where
        go : Says p a m → Masked p q
        go (prefix n x w) = whole a m n halves x
        go (broken k n l x stop (inl w)) = absurd (⊎_elim (λ y. yes_refused (sym y ∙ is_said _ w.0)) (λ y. no_refused (sym y ∙ is_said _ w.0)) d)
        go (broken k n l x stop (inr w)) = outside a m k n halves x w.1

    -- and if it is, there is one
    masked_answered : Masked p q → Answered (match_subnet p q)
    masked_answered k = go says k
      where
        both : Answered (match_subnet p (a ++ m)) → Answered (match_subnet p q)
        both (inl y) = inl (is_said (Ok true) y)
        both (inr y) = inr (is_said (Ok false) y)

        small : (k : ℕ) → k < length m → k ≤ length m
        small k h = omega arith

        go : Says p a m → Masked p q → Answered (match_subnet p q)
        go (prefix n x (inl w)) k = both (inl w.0)
        go (prefix n x (inr w)) k = both (inr w.0)
        go (broken k n l x stop (inr w)) y = both (inr w.0)
        go (broken k n l x stop (inl w)) (whole b c i h y) =
            let z = halves_once p q a m b c halves h in
            let v : Prefix i m = rw z.1 y in
            let f = front_prefix i (suc k) m v l in
            absurd (stop f.0 f.1)
        go (broken k n l x stop (inl w)) (outside b c j i h y out) =
            let z = halves_once p q a m b c halves h in
            let f : i ≤ n = most_ones k n j i m (small k l) x (λ s. stop) (rw z.1 y) in
            absurd (out (rw z.0 at (fewer i n p a f w.1)))

  -- ---- so: an answer other than a refusal just where the two can be compared
  pub address_comparable : Answered (match_subnet p q) → (IsAddress p × IsEntry q) × (length q ≡ length p * 2 → Masked p q)
  address_comparable d =
      let s = sizes (match_subnet p q) d refl in
      (s, λ l. answered_masked s.0 l d)

  pub comparable_address : IsAddress p → IsEntry q → (length q ≡ length p * 2 → Masked p q) → Answered (match_subnet p q)
  comparable_address s t k = go (eqb (length q) (length p * 2)) refl
    where
      go : (b : Bool) → eqb (length q) (length p * 2) ≡ b → Answered (match_subnet p q)
      go true h = let l = eqb-true (length q) (length p * 2) h in masked_answered s l (k l)
      go false h = inr (other_length p q (either_size (length p) 4 16 s) (either_size (length q) 8 32 t) (eqb-false (length q) (length p * 2) h))
