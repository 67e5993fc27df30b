-- SUBNET: with a mask that is a prefix of ones the answer is whether so many first bits agree; a mask that is not is noticed by the addresses that agree
-- as far as it is one, and by no others. Assumes nothing.
use Prim.Native.Nat.{ℕ, zero, suc, ◌+◌, ◌-◌, ◌*◌, ◌/◌, ◌^◌, ◌≤◌, ◌<◌}
use mathlib.Core.Path.{◌≡◌, refl, sym, ap, ◌∙◌}
use mathlib.Core.List.{List, [], ◌∷◌, ◌++◌, append-nil}
use mathlib.Core.Bool.{Bool, true, false, cond, ◌&&◌, ◌||◌}
use mathlib.Core.Logic.{◌⊎◌, inl, inr, ⊎_elim}
use lib.ListN.{length, take, length-append, drop, length-drop, take-append-drop}
use lib.Seq.{take_all, take_at, drop_at, take-append-add, length-take-le}
use lib.Dec.{eqb}
use native.Mathlib.Omega.{arith}
use borrow.Author.Tests.{eqb-true, eqb-false, eq-eqb, ne_eqb}
use Rattle.refusal.specs.Refusals.{bad_der, invalid_network_mask_constraint}
use Rattle.der.specs.Places.{Bytes}
use Rattle.der.proofs.Laws.{lt_or_le}
use Rattle.der.proofs.Parts.{append_inv}
use Rattle.ip.specs.declared.Masked.TheVariants.{Same, Differs}
use Rattle.dns.specs.Answers.{Answers, Decides}
use Rattle.ip.specs.Addresses.{bits_of, bits, Prefix, Inside, InSubnet}
use Rattle.ip.specs.Model.{neither, broken_mask, masked_byte, on_masked, subnet_from, match_subnet}
use Rattle.labels.proofs.Labels.{true_false}
use Rattle.dns.proofs.Texts.{both}
use Rattle.dns.proofs.Laws.{yes_no, yes_refused, no_refused}
use Rattle.ip.proofs.Laws.{neither_false, either_size}
use Rattle.ip.proofs.Bits.{up_to_8, bytes_cons, bits_length, bits_quotient, quotient_bits, bits_within, bits_past, mask_of, mask_more, mask_last, mask_length, mask_prefix, prefix_mask}
use Rattle.std.specs.Prelude.{Ok, Err, Result}

-- ---- a byte of the mask
-- j ones leave blocks of 2 ^ (8 - j)
ones_byte : (x y : ℕ) (j : ℕ) → j ≤ 8 → masked_byte true (256 - 2 ^ (8 - j)) x y ≡ cond (eqb (x / 2 ^ (8 - j)) (y / 2 ^ (8 - j))) Same Differs
unfolding masked_byte broken_mask
ones_byte x y = up_to_8 (λ j. masked_byte true (256 - 2 ^ (8 - j)) x y ≡ cond (eqb (x / 2 ^ (8 - j)) (y / 2 ^ (8 - j))) Same Differs) refl refl refl refl refl refl refl refl refl

not_full : (j : ℕ) → j < 8 → eqb (256 - 2 ^ (8 - j)) 255 ≡ false
not_full j l = up_to_8 (λ k. k < 8 → eqb (256 - 2 ^ (8 - k)) 255 ≡ false) (λ h. refl) (λ h. refl) (λ h. refl) (λ h. refl) (λ h. refl) (λ h. refl) (λ h. refl) (λ h. refl) (λ h. absurd (omega arith)) j (omega arith) l

zero_byte : (full : Bool) (x y : ℕ) → x < 256 → y < 256 → masked_byte full 0 x y ≡ Same
unfolding masked_byte broken_mask
zero_byte full x y a b = let e : x / 256 ≡ y / 256 = omega arith in rw (eq-eqb (x / 256) (y / 256) e)

-- ---- one byte
module _ (full : Bool) (x y m : ℕ) (p a ms : List ℕ) where
  byte_same : masked_byte full m x y ≡ Same → subnet_from full (x ∷ p) (y ∷ a) (m ∷ ms) ≡ subnet_from (eqb m 255) p a ms
  unfolding subnet_from on_masked
  byte_same e = rw e

  byte_differs : masked_byte full m x y ≡ Differs → subnet_from full (x ∷ p) (y ∷ a) (m ∷ ms) ≡ Ok false
  unfolding subnet_from on_masked
  byte_differs e = rw e

  byte_broken : broken_mask full m ≡ true → subnet_from full (x ∷ p) (y ∷ a) (m ∷ ms) ≡ Err invalid_network_mask_constraint
  unfolding subnet_from on_masked masked_byte
  byte_broken e = rw e

-- ---- a front of the mask that is a prefix of ones, and an answer x to all that comes after it
abbrev After : Bool → List ℕ → Result Bool ℕ → Type 0
After full rest x = (p a : List ℕ) → length p ≡ length rest → length a ≡ length rest → subnet_from full p a rest ≡ x

zeros : (k : ℕ) (p a rest : List ℕ) (x : Result Bool ℕ) → Bytes p → Bytes a → length p ≡ k + length rest → length a ≡ k + length rest → After false rest x
    → subnet_from false p a (mask_of 0 k ++ rest) ≡ x
unfolding mask_of
zeros zero p a rest x b c l h f = f p a (omega arith) (omega arith)
zeros (suc k) [] a rest x b c l h f = absurd (omega arith)
zeros (suc k) (y ∷ p) [] rest x b c l h f = absurd (omega arith)
zeros (suc k) (y ∷ p) (z ∷ a) rest x b c l h f =
    byte_same false y z 0 p a (mask_of 0 k ++ rest) (zero_byte false y z (b 0) (c 0))
    ∙ zeros k p a rest x (λ i. b (suc i)) (λ i. c (suc i)) (omega arith) (omega arith) f

-- the first j bits of two bytes agree and the mask's byte finds them the same, or neither
data Bytewise (y z j : ℕ) : Type 0 where
  agree : take j (bits_of 8 y) ≡ take j (bits_of 8 z) → masked_byte true (256 - 2 ^ (8 - j)) y z ≡ Same → Bytewise y z j
  differ : (take j (bits_of 8 y) ≡ take j (bits_of 8 z) → ⊥) → masked_byte true (256 - 2 ^ (8 - j)) y z ≡ Differs → Bytewise y z j

bytewise : (y z j : ℕ) → y < 256 → z < 256 → j ≤ 8 → Bytewise y z j
bytewise y z j b c l = go (eqb (y / 2 ^ (8 - j)) (z / 2 ^ (8 - j))) refl
  where
    go : (t : Bool) → eqb (y / 2 ^ (8 - j)) (z / 2 ^ (8 - j)) ≡ t → Bytewise y z j
    go true e = agree (quotient_bits y z b c j l (eqb-true _ _ e)) (ones_byte y z j l ∙ rw e)
    go false e = differ (λ q. eqb-false _ _ e (bits_quotient y z b c j l q)) (ones_byte y z j l ∙ rw e)

whole_byte : (y : ℕ) → take 8 (bits_of 8 y) ≡ bits_of 8 y
whole_byte y = take_all 8 (bits_of 8 y) (omega (arith, bits_length 8 y))

full_on : (n k : ℕ) → 8 ≤ n → eqb n (8 * suc k) ≡ eqb (n - 8) (8 * k)
full_on n k l = go (eqb (n - 8) (8 * k)) refl
  where
    go : (t : Bool) → eqb (n - 8) (8 * k) ≡ t → eqb n (8 * suc k) ≡ t
    go true e = eq-eqb n (8 * suc k) (omega (arith, eqb-true (n - 8) (8 * k) e))
    go false e = ne_eqb n (8 * suc k) (λ q. eqb-false (n - 8) (8 * k) e (omega arith))

-- eight ones, and what is after them
front_more : (n k y z : ℕ) (p a rest : List ℕ) (x : Result Bool ℕ) → 8 ≤ n → Bytewise y z 8
    → Answers x (subnet_from true p a (mask_of (n - 8) k ++ rest)) (Inside (n - 8) p a) → Answers x (subnet_from true (y ∷ p) (z ∷ a) (mask_of n (suc k) ++ rest)) (Inside n (y ∷ p) (z ∷ a))
front_more n k y z p a rest x l (agree q m) r = rw (mask_more n k l, bits_past n y p l, bits_past n z a l, byte_same true y z 255 p a (mask_of (n - 8) k ++ rest) m) (go r)
  where
    eq : bits_of 8 y ≡ bits_of 8 z
    eq = sym (whole_byte y) ∙ q ∙ whole_byte z

    go : Answers x (subnet_from true p a (mask_of (n - 8) k ++ rest)) (Inside (n - 8) p a)
        → Answers x (subnet_from true p a (mask_of (n - 8) k ++ rest)) (bits_of 8 y ++ take (n - 8) (bits p) ≡ bits_of 8 z ++ take (n - 8) (bits a))
    go (inl w) = inl (w.0, rw (eq, w.1))
    go (inr w) = inr (w.0, λ e. w.1 (append_inv (bits_of 8 y) (bits_of 8 z) (take (n - 8) (bits p)) (take (n - 8) (bits a)) (ap length eq) e).1)
front_more n k y z p a rest x l (differ q m) r =
    rw (mask_more n k l, bits_past n y p l, bits_past n z a l)
    (inr (byte_differs true y z 255 p a (mask_of (n - 8) k ++ rest) m, λ e. q (whole_byte y ∙ (append_inv (bits_of 8 y) (bits_of 8 z) (take (n - 8) (bits p)) (take (n - 8) (bits a)) (bits_length 8 y ∙ sym (bits_length 8 z)) e).0 ∙ sym (whole_byte z))))

-- the last ones, and zeros
front_last : (n k y z : ℕ) (p a rest : List ℕ) (x : Result Bool ℕ) → n < 8 → Bytewise y z n → subnet_from false p a (mask_of 0 k ++ rest) ≡ x
    → Answers x (subnet_from true (y ∷ p) (z ∷ a) (mask_of n (suc k) ++ rest)) (Inside n (y ∷ p) (z ∷ a))
front_last n k y z p a rest x l (agree q m) r =
    rw (mask_last n k l, bits_within n y p (omega arith), bits_within n z a (omega arith))
    (inl (byte_same true y z (256 - 2 ^ (8 - n)) p a (mask_of 0 k ++ rest) m ∙ ap (λ (t : Bool). subnet_from t p a (mask_of 0 k ++ rest)) (not_full n l) ∙ r, q))
front_last n k y z p a rest x l (differ q m) r =
    rw (mask_last n k l, bits_within n y p (omega arith), bits_within n z a (omega arith))
    (inr (byte_differs true y z (256 - 2 ^ (8 - n)) p a (mask_of 0 k ++ rest) m, q))

front : (k n : ℕ) (p a rest : List ℕ) (x : Result Bool ℕ) → Bytes p → Bytes a → n ≤ 8 * k → length p ≡ k + length rest → length a ≡ k + length rest → After (eqb n (8 * k)) rest x
    → Answers x (subnet_from true p a (mask_of n k ++ rest)) (Inside n p a)
unfolding mask_of
front zero n p a rest x b c l h i f =
    let e : n ≡ 0 = omega arith in
    rw e (inl (ap (λ (t : Bool). subnet_from t p a rest) (sym (eq-eqb n (8 * 0) e)) ∙ f p a (omega arith) (omega arith), refl))
front (suc k) n [] a rest x b c l h i f = absurd (omega arith)
front (suc k) n (y ∷ p) [] rest x b c l h i f = absurd (omega arith)
front (suc k) n (y ∷ p) (z ∷ a) rest x b c l h i f =
    ⊎_elim
    (λ s. front_last n k y z p a rest x s (bytewise y z n (b 0) (c 0) (omega arith)) (zeros k p a rest x (λ j. b (suc j)) (λ j. c (suc j)) (omega arith) (omega arith) (rw (ne_eqb n (8 * suc k) (omega arith)) at f)))
    (λ s. front_more n k y z p a rest x s (bytewise y z 8 (b 0) (c 0) (omega arith)) (front k (n - 8) p a rest x (λ j. b (suc j)) (λ j. c (suc j)) (omega arith) (omega arith) (omega arith) (rw (full_on n k s) at f)))
    (lt_or_le n 8)

-- ---- which bytes are ones and then zeros: tried, all of them
is_ones : ℕ → ℕ → Bool
is_ones z zero = false
is_ones z (suc j) = eqb z (256 - 2 ^ (8 - j)) || is_ones z j

all_below : (ℕ → Bool) → ℕ → Bool
all_below f zero = true
all_below f (suc n) = f n && all_below f n

below_all : (f : ℕ → Bool) (n : ℕ) → all_below f n ≡ true → (z : ℕ) → z < n → f z ≡ true
unfolding all_below
below_all f zero e z l = absurd (omega arith)
below_all f (suc n) e z l =
    let q = both (f n) (all_below f n) e in
    ⊎_elim (λ h. below_all f n q.1 z h) (λ h. let i : z ≡ n = omega arith in rw i q.0) (lt_or_le z n)

is_ones_lem : (z k : ℕ) → k ≤ 9 → is_ones z k ≡ true → (j : ℕ) × ((j ≤ 8) × (z ≡ 256 - 2 ^ (8 - j)))
unfolding is_ones
is_ones_lem z zero l e = absurd (true_false e refl)
is_ones_lem z (suc k) l e = go (eqb z (256 - 2 ^ (8 - k))) refl e (is_ones_lem z k (omega arith))
  where
    go : (t : Bool) → eqb z (256 - 2 ^ (8 - k)) ≡ t → (t || is_ones z k) ≡ true → (is_ones z k ≡ true → (j : ℕ) × ((j ≤ 8) × (z ≡ 256 - 2 ^ (8 - j)))) → (j : ℕ) × ((j ≤ 8) × (z ≡ 256 - 2 ^ (8 - j)))
    go true q h ih = (k, (omega arith, eqb-true z (256 - 2 ^ (8 - k)) q))
    go false q h ih = ih h

tried : all_below (λ z. broken_mask true z || is_ones z 9) 256 ≡ true
unfolding all_below is_ones broken_mask
tried = refl

good_byte : (z : ℕ) → z < 256 → broken_mask true z ≡ false → (j : ℕ) × ((j ≤ 8) × (z ≡ 256 - 2 ^ (8 - j)))
good_byte z l e = is_ones_lem z 9 (omega arith) (rw e at (below_all (λ y. broken_mask true y || is_ones y 9) 256 tried z l))

-- ---- a mask is a prefix of ones, or it is one up to a byte that does not go on so
data View (m : List ℕ) : Type 0 where
  whole : (n : ℕ) → n ≤ 8 * length m → m ≡ mask_of n (length m) → View m
  breaks : (k n z : ℕ) (ms : List ℕ) → n ≤ 8 * k → m ≡ mask_of n k ++ (z ∷ ms) → broken_mask (eqb n (8 * k)) z ≡ true → View m

data Zeros (m : List ℕ) : Type 0 where
  all : m ≡ mask_of 0 (length m) → Zeros m
  other : (k z : ℕ) (ms : List ℕ) → m ≡ mask_of 0 k ++ (z ∷ ms) → broken_mask false z ≡ true → Zeros m

zeros_view : (m : List ℕ) → Zeros m
unfolding mask_of broken_mask
zeros_view [] = all refl
zeros_view (z ∷ ms) = go (eqb z 0) refl (zeros_view ms)
  where
    go : (t : Bool) → eqb z 0 ≡ t → Zeros ms → Zeros (z ∷ ms)
    go false e v = other 0 z ms refl (rw e)
    go true e (all q) = all (rw (eqb-true z 0 e) (ap (λ (l : List ℕ). 0 ∷ l) q))
    go true e (other k y ys q x) = other (suc k) y ys (rw (eqb-true z 0 e) (ap (λ (l : List ℕ). 0 ∷ l) q)) x

-- after a byte of ones
view_more : (ms : List ℕ) → View ms → View (255 ∷ ms)
view_more ms (whole n l e) =
    let q : (n + 8) - 8 ≡ n = omega arith in
    whole (n + 8) (omega arith) (sym (mask_more (n + 8) (length ms) (omega arith) ∙ rw (q, ← e)))
view_more ms (breaks k n z ys l e x) =
    let q : (n + 8) - 8 ≡ n = omega arith in
    breaks (suc k) (n + 8) z ys (omega arith)
    (sym (ap (λ (t : List ℕ). t ++ (z ∷ ys)) (mask_more (n + 8) k (omega arith)) ∙ rw (q, ← e)))
    (rw (full_on (n + 8) k (omega arith), q) x)

-- after a byte of j ones, not all
view_last : (j : ℕ) (ms : List ℕ) → j < 8 → Zeros ms → View ((256 - 2 ^ (8 - j)) ∷ ms)
view_last j ms l (all e) = whole j (omega arith) (sym (mask_last j (length ms) l ∙ ap (λ (t : List ℕ). (256 - 2 ^ (8 - j)) ∷ t) (sym e)))
view_last j ms l (other k z ys e x) =
    breaks (suc k) j z ys (omega arith)
    (sym (ap (λ (t : List ℕ). t ++ (z ∷ ys)) (mask_last j k l) ∙ ap (λ (t : List ℕ). (256 - 2 ^ (8 - j)) ∷ t) (sym e)))
    (rw (ne_eqb j (8 * suc k) (omega arith)) x)

view_byte : (z j : ℕ) (ms : List ℕ) → j ≤ 8 → z ≡ 256 - 2 ^ (8 - j) → View ms → View (z ∷ ms)
view_byte z j ms l e v =
    rw e (⊎_elim (λ h. view_last j ms h (zeros_view ms)) (λ h. let i : j ≡ 8 = omega arith in rw i (view_more ms v)) (lt_or_le j 8))

view : (m : List ℕ) → Bytes m → View m
unfolding mask_of
view [] b = whole 0 (omega arith) refl
view (z ∷ ms) b = go (broken_mask true z) refl (view ms (λ i. b (suc i)))
  where
    go : (t : Bool) → broken_mask true z ≡ t → View ms → View (z ∷ ms)
    go true e v = breaks 0 0 z ms (omega arith) refl e
    go false e v = let g = good_byte z (b 0) e in view_byte z g.0 ms g.1.0 g.1.1 v

-- ---- what comes after a front
after_none : (full : Bool) → After full [] (Ok true)
unfolding subnet_from
after_none full [] a l h = refl
after_none full (y ∷ p) a l h = absurd (omega arith)

after_broken : (full : Bool) (z : ℕ) (ms : List ℕ) → broken_mask full z ≡ true → After full (z ∷ ms) (Err invalid_network_mask_constraint)
after_broken full z ms e [] a l h = absurd (omega arith)
after_broken full z ms e (x ∷ p) [] l h = absurd (omega arith)
after_broken full z ms e (x ∷ p) (y ∷ a) l h = byte_broken full x y z p a ms e

whole_answers : (n k : ℕ) (p a : List ℕ) → Bytes p → Bytes a → n ≤ 8 * k → length p ≡ k → length a ≡ k → Decides (subnet_from true p a (mask_of n k)) (Inside n p a)
whole_answers n k p a b c l h i =
    ap_answers (ap (subnet_from true p a) (append-nil (mask_of n k))) (front k n p a [] (Ok true) b c l (omega arith) (omega arith) (after_none (eqb n (8 * k))))
  where
    ap_answers : {x y : Result Bool ℕ} → x ≡ y → Decides x (Inside n p a) → Decides y (Inside n p a)
    ap_answers e w = rw e at w

-- ---- a byte after which no mask goes on
bytes_take : (i : ℕ) (m : List ℕ) → Bytes m → Bytes (take i m)
bytes_take zero m b = λ j. omega arith
bytes_take (suc i) [] b = λ j. omega arith
bytes_take (suc i) (x ∷ m) b = bytes_cons x (take i m) (b 0) (bytes_take i m (λ j. b (suc j)))

cut_front : (n k z : ℕ) (ms : List ℕ) → take (suc k) (mask_of n k ++ (z ∷ ms)) ≡ mask_of n k ++ (z ∷ [])
cut_front n k z ms =
    let e : suc k ≡ length (mask_of n k) + 1 = omega (arith, mask_length n k) in
    ap (λ (i : ℕ). take i (mask_of n k ++ (z ∷ ms))) e ∙ take-append-add (mask_of n k) (z ∷ ms) 1

surely : {x y : Result Bool ℕ} {P : Type 0} → Answers x y P → P → y ≡ x
surely (inl w) p = w.0
surely (inr w) p = absurd (w.1 p)

no_prefix : (n k z : ℕ) → n ≤ 8 * k → broken_mask (eqb n (8 * k)) z ≡ true → Bytes (mask_of n k ++ (z ∷ [])) → (j : ℕ) → Prefix j (mask_of n k ++ (z ∷ [])) → ⊥
no_prefix n k z l x b j p =
    let m = mask_of n k ++ (z ∷ []) in
    let s : length m ≡ k + 1 = length-append (mask_of n k) (z ∷ []) ∙ omega (arith, mask_length n k) in
    let e : m ≡ mask_of j (length m) = prefix_mask j m b p in
    let y : subnet_from true m m (mask_of j (length m)) ≡ Ok true = surely (whole_answers j (length m) m m b b p.few refl refl) refl in
    let r : subnet_from true m m m ≡ Err invalid_network_mask_constraint = surely (front k n m m (z ∷ []) (Err invalid_network_mask_constraint) b b l s s (after_broken (eqb n (8 * k)) z [] x)) refl in
    yes_refused (sym y ∙ ap (subnet_from true m m) (sym e) ∙ r)

-- ---- the answer
-- what is no address and no subnet, and an address of another length than the subnet's
pub no_address : (p q : List ℕ) → neither (length p) 4 16 ≡ true → match_subnet p q ≡ Err bad_der
unfolding match_subnet
no_address p q e = rw e

pub no_subnet : (p q : List ℕ) → neither (length p) 4 16 ≡ false → neither (length q) 8 32 ≡ true → match_subnet p q ≡ Err invalid_network_mask_constraint
unfolding match_subnet
no_subnet p q e f = rw (e, f)

pub other_length : (p q : List ℕ) → neither (length p) 4 16 ≡ false → neither (length q) 8 32 ≡ false → (length q ≡ length p * 2 → ⊥) → match_subnet p q ≡ Ok false
unfolding match_subnet
other_length p q e f n = rw (e, f, ne_eqb (length q) (length p * 2) n)

pub data Says (p address mask : List ℕ) : Type 0 where
  prefix : (n : ℕ) → Prefix n mask → Decides (match_subnet p (address ++ mask)) (Inside n p address) → Says p address mask
  broken : (k n : ℕ) → k < length mask → Prefix n (take k mask) → ((j : ℕ) → Prefix j (take (suc k) mask) → ⊥)
      → Answers (Err invalid_network_mask_constraint) (match_subnet p (address ++ mask)) (Inside n p address) → Says p address mask

module _ (p a m : List ℕ) (bp : Bytes p) (ba : Bytes a) (bm : Bytes m) (size : (length p ≡ 4) ⊎ (length p ≡ 16)) (la : length a ≡ length p) (lm : length m ≡ length p) where
  both_sizes : (length (a ++ m) ≡ 8) ⊎ (length (a ++ m) ≡ 32)
  both_sizes = ⊎_elim (λ h. inl (length-append a m ∙ omega arith)) (λ h. inr (length-append a m ∙ omega arith)) size

  match_is : match_subnet p (a ++ m) ≡ subnet_from true p a m
  unfolding match_subnet
  match_is =
      let l : length (a ++ m) ≡ length p * 2 = length-append a m ∙ omega arith in
      rw (either_size (length p) 4 16 size, either_size (length (a ++ m)) 8 32 both_sizes, eq-eqb (length (a ++ m)) (length p * 2) l, take_at a m (length p) la, drop_at a m (length p) la)

  -- a mask that is a prefix of n ones: yes if the n first bits agree, else no
  pub subnet_decides : (n : ℕ) → Prefix n m → Decides (match_subnet p (a ++ m)) (Inside n p a)
  subnet_decides n x =
      let e : subnet_from true p a m ≡ subnet_from true p a (mask_of n (length m)) = ap (subnet_from true p a) (prefix_mask n m bm x) in
      rw (match_is, e) (whole_answers n (length m) p a bp ba x.few (sym lm) (la ∙ sym lm))

  -- a mask that is not breaks at some byte: it is refused if the bits agree as far as the ones before, else the answer is no
  pub subnet_says : Says p a m
  subnet_says = go (view m bm)
    where
      go : View m → Says p a m
      go (whole n l e) = let x : Prefix n m = rw e (mask_prefix n (length m) l) in prefix n x (subnet_decides n x)
      go (breaks k n z ms l e x) =
          let s : length m ≡ k + suc (length ms) = ap length e ∙ length-append (mask_of n k) (z ∷ ms) ∙ omega (arith, mask_length n k) in
          let f : take k m ≡ mask_of n k = ap (take k) e ∙ take_at (mask_of n k) (z ∷ ms) k (mask_length n k) in
          let g : take (suc k) m ≡ mask_of n k ++ (z ∷ []) = ap (take (suc k)) e ∙ cut_front n k z ms in
          broken k n (omega arith) (rw f (mask_prefix n k l))
          (λ j y. no_prefix n k z l x (rw g at (bytes_take (suc k) m bm)) j (rw g at y))
          (rw (match_is, e) (front k n p a (z ∷ ms) (Err invalid_network_mask_constraint) bp ba l (omega arith) (omega arith) (after_broken (eqb n (8 * k)) z ms x)))

-- ---- whatever the lengths: yes only if the address lies in the subnet, and no only if it does not
-- an answer was given, so the address has one of the two lengths
answered : (p q : List ℕ) (x : Result Bool ℕ) → ((e : ℕ) → x ≡ Err e → ⊥) → match_subnet p q ≡ x → (length p ≡ 4) ⊎ (length p ≡ 16)
answered p q x n e = go (neither (length p) 4 16) refl
  where
    go : (t : Bool) → neither (length p) 4 16 ≡ t → (length p ≡ 4) ⊎ (length p ≡ 16)
    go true h = absurd (n bad_der (sym e ∙ no_address p q h))
    go false h = neither_false (length p) 4 16 h

-- and for a yes the subnet twice that length
twice : (p q : List ℕ) → match_subnet p q ≡ Ok true → length q ≡ length p * 2
twice p q e = go (neither (length p) 4 16) (neither (length q) 8 32) (eqb (length q) (length p * 2)) refl refl refl
  where
    go : (s t u : Bool) → neither (length p) 4 16 ≡ s → neither (length q) 8 32 ≡ t → eqb (length q) (length p * 2) ≡ u → length q ≡ length p * 2
    go true t u h k l = absurd (yes_refused (sym e ∙ no_address p q h))
    go false true u h k l = absurd (yes_refused (sym e ∙ no_subnet p q h k))
    go false false true h k l = eqb-true (length q) (length p * 2) l
    go false false false h k l = absurd (yes_no (sym e ∙ other_length p q h k (eqb-false (length q) (length p * 2) l)))

bytes_append : (a m : List ℕ) → Bytes (a ++ m) → Bytes a × Bytes m
bytes_append [] m b = ((λ i. omega arith), b)
bytes_append (x ∷ a) m b = let r = bytes_append a m (λ i. b (suc i)) in (bytes_cons x a (b 0) r.0, r.1)

pub subnet_yes : (p q : List ℕ) → Bytes p → Bytes q → match_subnet p q ≡ Ok true → InSubnet p q
subnet_yes p q bp bq e = go (subnet_says p a m bp bb.0 bb.1 (answered p q (Ok true) (λ x. yes_refused) e) la lm)
  where
    a : List ℕ
    a = take (length p) q

    m : List ℕ
    m = drop (length p) q

    is : q ≡ a ++ m
    is = sym (take-append-drop (length p) q)

    bb : Bytes a × Bytes m
    bb = bytes_append a m (rw is at bq)

    la : length a ≡ length p
    la = length-take-le (length p) q (omega (arith, twice p q e))

    lm : length m ≡ length p
    lm = length-drop (length p) q ∙ omega (arith, twice p q e)

    said : match_subnet p (a ++ m) ≡ Ok true
    said = ap (match_subnet p) (sym is) ∙ e

    go : Says p a m → InSubnet p q
    go (prefix n x (inl w)) = record { address = a; mask = m; ones = n; is = is; address_size = la; mask_size = lm; prefix = x; inside = w.1 }
    go (prefix n x (inr w)) = absurd (yes_no (sym said ∙ w.0))
    go (broken k n l x y (inl w)) = absurd (yes_refused (sym said ∙ w.0))
    go (broken k n l x y (inr w)) = absurd (yes_no (sym said ∙ w.0))

pub subnet_no : (p q : List ℕ) → Bytes p → Bytes q → match_subnet p q ≡ Ok false → InSubnet p q → ⊥
subnet_no p q bp bq e s =
    let bb = bytes_append s.address s.mask (rw s.is at bq) in
    let said : match_subnet p (s.address ++ s.mask) ≡ Ok false = ap (match_subnet p) (sym s.is) ∙ e in
    let size = answered p q (Ok false) (λ x. no_refused) e in
    yes_no (sym (surely (subnet_decides p s.address s.mask bp bb.0 bb.1 size s.address_size s.mask_size s.ones s.prefix) s.inside) ∙ said)

-- an address that lies in it is never refused for it
pub in_subnet_yes : (p q : List ℕ) → Bytes p → Bytes q → (length p ≡ 4) ⊎ (length p ≡ 16) → InSubnet p q → match_subnet p q ≡ Ok true
in_subnet_yes p q bp bq size s =
    let bb = bytes_append s.address s.mask (rw s.is at bq) in
    ap (match_subnet p) s.is
    ∙ surely (subnet_decides p s.address s.mask bp bb.0 bb.1 size s.address_size s.mask_size s.ones s.prefix) s.inside
