-- THEOREMS: which BIT STRINGs are accepted, whole and as flags, and which of them say the same flags. Assumes nothing.
use Prim.Native.Nat.{ℕ, zero, suc, ◌+◌, ◌-◌, ◌*◌, ◌/◌, ◌%◌, ◌^◌, ◌≤◌, ◌<◌}
use mathlib.Core.Path.{◌≡◌, refl, sym, ap, ◌∙◌}
use mathlib.Core.List.{List, [], ◌∷◌}
use mathlib.Core.Bool.{true, false, cond}
use mathlib.Core.Logic.{⊎_elim, ◌⊎◌, inl, inr}
use lib.ListN.{length, get_or, get_or-eq_default}
use native.Mathlib.Nat.{zero-div, pow-suc, mul_assoc, mul_comm, mul-div_left, mul-mod_left, div-add-mod', div-div-eq-div-mul}
use lib.Dec.{ltb, leb, eqb}
use native.Mathlib.Omega.{arith}
use lib.Pow.{pow_pos, pow-add}
use borrow.Author.Tests.{ltb-false, leb-false, eqb-true, eqb-false}
use Rattle.refusal.specs.Refusals.{bad_der, trailing_bit_string}
use Rattle.der.specs.declared.Span.{Span}
use Rattle.der.specs.Places.{Bytes, part, LIMIT}
use Rattle.der.specs.X690.{encoding, bit, BitString, NamedBits, keep_octet, trimmed}
use Rattle.der.specs.Model.{high_tag, expect_at, on_content}
use Rattle.bits.specs.Model.{whole_octets, bits_at, flags_in, flag_at}
use Rattle.der.proofs.Laws.{tests, value_expect, lt_or_le}
use Rattle.der.proofs.Invert.{peel, either}
use Rattle.der.proofs.Parts.{part_length, part_at, part_cons, part_none, part_tail}
use Rattle.der.proofs.Laid.{expect_laid, laid_read}
use Rattle.values.proofs.SmallValues.{There, content_inv}
use Rattle.std.specs.Prelude.{Result, Ok, Err}

-- what was answered is p
abbrev Is : Result Span ℕ → Span → Type 0
Is r p = r ≡ Ok p

no_got : {e : ℕ} {p : Span} → Err e ≡ Ok p → ⊥
no_got h = let z : ◌≡◌ {A = ℕ} 0 1 = cc in omega arith

-- ---- no unused bits
whole_inv : (s : List ℕ) (from to : ℕ) (p : Span) → whole_octets s from to ≡ Ok p → (p.end ≡ to) × (p.start ≤ p.end) × (part s from to ≡ 0 ∷ part s p.start p.end)
unfolding whole_octets
whole_inv s from to p e =
    let a = peel (ltb (length s) to) e no_got in
    let b = peel (leb to from) a.1 no_got in
    go (ltb-false _ _ a.0) (leb-false _ _ b.0) (either (eqb (get_or s from 0) 0) b.1)
  where
    go : to ≤ length s → from < to
        → ((eqb (get_or s from 0) 0 ≡ true) × Is (Ok (record { start = from + 1; end = to })) p) ⊎ ((eqb (get_or s from 0) 0 ≡ false) × Is (Err bad_der) p)
        → (p.end ≡ to) × (p.start ≤ p.end) × (part s from to ≡ 0 ∷ part s p.start p.end)
    go h l (inl c) =
        let q : ◌≡◌ {A = Span} (record { start = from + 1; end = to }) p = cc c.1 in
        let z : get_or s from 0 ≡ 0 = eqb-true _ _ c.0 in
        rw (← q) (refl, omega arith, part_cons s from to l (omega arith) ∙ ap (λ (x : ℕ). x ∷ part s (from + 1) to) z)
    go h l (inr c) = absurd (no_got c.1)

-- accepted: the encoding of the octets behind a 0 stands there
pub bits_is : (s : List ℕ) → Bytes s → (from to : ℕ) (p : Span) → bits_at s from to ≡ Ok p
    → (p.start ≤ p.end) × There s from to p.end (encoding 3 (0 ∷ part s p.start p.end))
unfolding bits_at
bits_is s b from to p e =
    ⊎_elim
    (λ g.
    let a = g.0 in
    let l = expect_laid s b from to 3 trailing_bit_string a g.1 in
    let w = whole_inv s a.start a.end p g.2 in
    (w.1, record { within = l.within; inside = omega (arith, l.inside, w.0); bytes = rw w.0 (l.bytes ∙ ap (encoding 3) (rw w.0 at w.2)) }))
    (λ g. absurd (no_got g.2))
    (content_inv (expect_at s from to 3 trailing_bit_string) Err (whole_octets s) e)

pub is_bits : (s : List ℕ) (from to next : ℕ) (octets : List ℕ) → There s from to next (encoding 3 (0 ∷ octets)) → suc (length octets) < LIMIT
    → (p : Span) × (bits_at s from to ≡ Ok p) × (p.end ≡ next) × (p.start ≤ p.end) × (part s p.start p.end ≡ octets)
unfolding bits_at on_content whole_octets high_tag
is_bits s from to next octets t small =
    let f = laid_read s from to 3 (0 ∷ octets) next refl small t.within t.inside t.bytes in
    let g = value_expect s from to 3 trailing_bit_string f.start next f.read in
    let l : f.start < next = omega (arith, f.size) in
    let h : next ≤ length s = omega (arith, t.within, t.inside) in
    let q = part_tail s f.start next 0 octets l h f.is in
    let w : whole_octets s f.start next ≡ Ok (record { start = f.start + 1; end = next }) = search (tests, q.0) in
    (record { start = f.start + 1; end = next }, rw (g, w), refl, omega arith, q.1)

-- ---- flags
last_at : (s : List ℕ) (a b : ℕ) → a < b → b ≤ length s → get_or (part s a b) (length (part s a b) - 1) 0 ≡ get_or s (b - 1) 0
last_at s a b h k =
    let n : length (part s a b) ≡ b - a = part_length s a b k in
    let e : length (part s a b) - 1 ≡ (b - a) - 1 = omega arith in
    let f : a + ((b - a) - 1) ≡ b - 1 = omega arith in
    rw e (part_at s a b ((b - a) - 1) (omega arith) ∙ ap (λ (i : ℕ). get_or s i 0) f)

empty_part : (s : List ℕ) (a b : ℕ) → b ≤ length s → part s a b ≡ [] → b ≤ a
empty_part s a b h e = omega (arith, sym (part_length s a b h) ∙ ap length e)

-- the content from `from` to `to` is a BIT STRING's, and p is where its octets stand
pub record FlagsThere (s : List ℕ) (from to : ℕ) (p : Span) : Type 0 where
  pub within : to ≤ length s
  pub some : from < to
  pub start_is : p.start ≡ from + 1
  pub end_is : p.end ≡ to
  pub string : BitString (get_or s from 0) (part s (from + 1) to)

pub flags_is : (s : List ℕ) (from to : ℕ) (p : Span) → flags_in s from to ≡ Ok p → FlagsThere s from to p
unfolding flags_in
flags_is s from to p e =
    let a = peel (ltb (length s) to) e no_got in
    let b = peel (leb to from) a.1 no_got in
    let c = peel (ltb 7 (get_or s from 0)) b.1 no_got in
    go (ltb-false _ _ a.0) (leb-false _ _ b.0) (ltb-false _ _ c.0) (either (eqb (to - from) 1) c.1)
  where
    spanned : (unused : ℕ) → unused ≡ get_or s from 0 → to ≤ length s → from < to → Is (Ok (record { start = from + 1; end = to })) p → BitString unused (part s (from + 1) to) → FlagsThere s from to p
    spanned unused u h l q string =
        let r : ◌≡◌ {A = Span} (record { start = from + 1; end = to }) p = cc in
        rw (← r) (record { within = h; some = l; start_is = refl; end_is = refl; string = rw (← u) string })

    one : to ≤ length s → from < to → to - from ≡ 1
        → ((ltb 0 (get_or s from 0) ≡ true) × Is (Err bad_der) p) ⊎ ((ltb 0 (get_or s from 0) ≡ false) × Is (Ok (record { start = from + 1; end = to })) p)
        → FlagsThere s from to p
    one h l k (inl d) = absurd (no_got d.1)
    one h l k (inr d) =
        let z : get_or s from 0 ≤ 0 = ltb-false _ _ d.0 in
        let f : to ≡ from + 1 = omega arith in
        let none : part s (from + 1) to ≡ [] = rw f (part_none s (from + 1)) in
        spanned 0 (omega arith) h l d.1 (record { few = omega arith; empty = λ x. refl; zeros = rw none })

    more : to ≤ length s → from < to → get_or s from 0 ≤ 7 → (to - from ≡ 1 → ⊥)
        → ((eqb (get_or s (to - 1) 0 % (2 ^ get_or s from 0)) 0 ≡ true) × Is (Ok (record { start = from + 1; end = to })) p) ⊎ ((eqb (get_or s (to - 1) 0 % (2 ^ get_or s from 0)) 0 ≡ false) × Is (Err bad_der) p)
        → FlagsThere s from to p
    more h l few k (inl d) =
        spanned (get_or s from 0) refl h l d.1 (record {
          few = omega arith;
          empty = λ x. absurd (let y = empty_part s (from + 1) to h x in k (omega arith));
          zeros = rw (last_at s (from + 1) to (long k l) h) (eqb-true _ _ d.0);
        })
      where
        long : (to - from ≡ 1 → ⊥) → from < to → from + 1 < to
        long n i = ⊎_elim (λ (x : to < from + 2). absurd (n (omega arith))) (λ x. omega arith) (lt_or_le to (from + 2))
    more h l few k (inr d) = absurd (no_got d.1)

    go : to ≤ length s → from < to → get_or s from 0 ≤ 7
        → ((eqb (to - from) 1 ≡ true) × Is (cond (ltb 0 (get_or s from 0)) (Err bad_der) (Ok (record { start = from + 1; end = to }))) p)
        ⊎ ((eqb (to - from) 1 ≡ false) × Is (cond (eqb (get_or s (to - 1) 0 % (2 ^ get_or s from 0)) 0) (Ok (record { start = from + 1; end = to })) (Err bad_der)) p)
        → FlagsThere s from to p
    go h l few (inl d) = one h l (eqb-true _ _ d.0) (either (ltb 0 (get_or s from 0)) d.1)
    go h l few (inr d) = more h l few (eqb-false _ _ d.0) (either (eqb (get_or s (to - 1) 0 % (2 ^ get_or s from 0)) 0) d.1)

pub is_flags : (s : List ℕ) (from to : ℕ) (p : Span) → FlagsThere s from to p → flags_in s from to ≡ Ok p
unfolding flags_in
is_flags s from to p t =
    let h : to ≤ length s = t.within in
    let l : from < to = t.some in
    let f : get_or s from 0 ≤ 7 = omega (arith, t.string.few) in
    let q : ◌≡◌ {A = Span} (record { start = from + 1; end = to }) p = rw (← t.start_is, ← t.end_is) in
    ⊎_elim
    (λ (x : to < from + 2).
    let k : to - from ≡ 1 = omega arith in
    let g : to ≡ from + 1 = omega arith in
    let none : part s (from + 1) to ≡ [] = rw g (part_none s (from + 1)) in
    let z : get_or s from 0 ≤ 0 = omega (arith, t.string.empty none) in
    search (tests, q))
    (λ (x : from + 2 ≤ to).
    let k : (to - from ≡ 1 → ⊥) = (λ e. omega arith) in
    let z : get_or s (to - 1) 0 % (2 ^ get_or s from 0) ≡ 0 = rw (last_at s (from + 1) to (omega arith) h) at t.string.zeros in
    search (tests, q))
    (lt_or_le to (from + 2))

some_flag : (s : List ℕ) (from to k : ℕ) → to ≤ length s → from < to → k / 8 < to - from → flag_at s from to k ≡ eqb ((get_or s (from + k / 8) 0 / 2 ^ (7 - k % 8)) % 2) 1
unfolding flag_at
some_flag s from to k h m l = search tests

flag_none : (s : List ℕ) (from to k : ℕ) → to ≤ length s → to - from ≤ k / 8 → flag_at s from to k ≡ false
unfolding flag_at
flag_none s from to k h l = ⊎_elim (λ (m : to ≤ from). search tests) (λ (m : from < to). search tests) (swap (lt_or_le from to))
  where
    swap : (from < to) ⊎ (to ≤ from) → (to ≤ from) ⊎ (from < to)
    swap (inl x) = inr x
    swap (inr x) = inl x

-- a flag is the bit of its number
pub flag_bit : (s : List ℕ) (from to k : ℕ) → to ≤ length s → flag_at s from to k ≡ eqb (bit (part s from to) k) 1
unfolding bit
flag_bit s from to k h =
    ⊎_elim
    (λ (l : k / 8 < to - from). flag_some l)
    (λ (l : to - from ≤ k / 8).
    let n : length (part s from to) ≤ k / 8 = omega (arith, part_length s from to h) in
    flag_none s from to k h l ∙ rw (get_or-eq_default (part s from to) 0 n, zero-div))
    (lt_or_le (k / 8) (to - from))
  where
    flag_some : k / 8 < to - from → flag_at s from to k ≡ eqb ((get_or (part s from to) (k / 8) 0 / 2 ^ (7 - k % 8)) % 2) 1
    flag_some l =
        let m : from < to = omega arith in
        rw (part_at s from to (k / 8) l) (some_flag s from to k h m l)

-- ---- which octets say the same flags
trim_get_d : (o : List ℕ) (i : ℕ) → get_or (trimmed o) i 0 ≡ get_or o i 0
unfolding trimmed
trim_get_d [] i = refl
trim_get_d (x ∷ xs) i = keep x (trimmed xs) i (trim_get_d xs)
  where
    keep : (y : ℕ) (ys : List ℕ) (j : ℕ) → ((k : ℕ) → get_or ys k 0 ≡ get_or xs k 0) → get_or (keep_octet y ys) j 0 ≡ get_or (y ∷ xs) j 0
    keep zero [] zero e = refl
    keep zero [] (suc j) e = e j
    keep (suc y) [] zero e = refl
    keep (suc y) [] (suc j) e = e j
    keep zero (z ∷ zs) zero e = refl
    keep zero (z ∷ zs) (suc j) e = e j
    keep (suc y) (z ∷ zs) zero e = refl
    keep (suc y) (z ∷ zs) (suc j) e = e j

trim_none : (o : List ℕ) → ((i : ℕ) → get_or o i 0 ≡ 0) → trimmed o ≡ []
unfolding trimmed
trim_none [] e = refl
trim_none (x ∷ xs) e =
    let h : x ≡ 0 = e 0 in
    rw (trim_none xs (λ i. e (suc i)), h)

trim_same : (o p : List ℕ) → ((i : ℕ) → get_or o i 0 ≡ get_or p i 0) → trimmed o ≡ trimmed p
unfolding trimmed
trim_same [] p e = sym (trim_none p (λ i. sym (e i)))
trim_same (x ∷ xs) [] e = trim_none (x ∷ xs) e
trim_same (x ∷ xs) (y ∷ ys) e =
    let h : x ≡ y = e 0 in
    rw (trim_same xs ys (λ i. e (suc i)), h)

halves : (a b : ℕ) → a / 2 ≡ b / 2 → a % 2 ≡ b % 2 → a ≡ b
halves a b h k = omega arith

-- a number is its low bits and what is above them
low_bits : (k x y : ℕ) → x / 2 ^ k ≡ y / 2 ^ k → ((j : ℕ) → j < k → (x / 2 ^ j) % 2 ≡ (y / 2 ^ j) % 2) → x ≡ y
low_bits zero x y h e = omega arith
low_bits (suc k) x y h e =
    let p : 2 ^ suc k ≡ 2 ^ k * 2 = pow-suc 2 k in
    let q : x / 2 ^ k / 2 ≡ y / 2 ^ k / 2 = div-div-eq-div-mul x (2 ^ k) 2 ∙ (rw p at h) ∙ sym (div-div-eq-div-mul y (2 ^ k) 2) in
    low_bits k x y (halves (x / 2 ^ k) (y / 2 ^ k) q (e k (omega arith))) (λ j l. e j (omega arith))

-- an octet is its eight bits
octet_bits : (x y : ℕ) → x < 256 → y < 256 → ((j : ℕ) → j < 8 → (x / 2 ^ (7 - j)) % 2 ≡ (y / 2 ^ (7 - j)) % 2) → x ≡ y
octet_bits x y h k e =
    low_bits 8 x y (omega arith) (λ j l.
    let q : 7 - (7 - j) ≡ j = omega arith in
    rw q at (e (7 - j) (omega arith)))

abbrev pub SameFlags : List ℕ → List ℕ → Type 0
SameFlags o p = (k : ℕ) → bit o k ≡ bit p k

-- two accepted strings say the same flags exactly if they are the same but for zero octets at the end; the number of unused bits is free
pub same_flags : (o p : List ℕ) → Bytes o → Bytes p → SameFlags o p → trimmed o ≡ trimmed p
unfolding bit
same_flags o p b c e =
    trim_same o p (λ i.
    octet_bits (get_or o i 0) (get_or p i 0) (b i) (c i) (λ j h.
    let q : (8 * i + j) / 8 ≡ i = omega arith in
    let r : (8 * i + j) % 8 ≡ j = omega arith in
    rw (q, r) at (e (8 * i + j))))

pub trimmed_same : (o p : List ℕ) → trimmed o ≡ trimmed p → SameFlags o p
unfolding bit
trimmed_same o p e k =
    let g : get_or o (k / 8) 0 ≡ get_or p (k / 8) 0 = sym (trim_get_d o (k / 8)) ∙ ap (λ (l : List ℕ). get_or l (k / 8) 0) e ∙ trim_get_d p (k / 8) in
    rw g

-- ---- of all of them 11.2.2 allows one: the octets with no zero octet at the end, and the most unused bits
trimmed_self : (o : List ℕ) → ((o ≡ [] → ⊥) → get_or o (length o - 1) 0 ≡ 0 → ⊥) → trimmed o ≡ o
unfolding trimmed
trimmed_self [] h = refl
trimmed_self (zero ∷ []) h = absurd (h (λ e. let z : ◌≡◌ {A = ℕ} 0 1 = cc in omega arith) refl)
trimmed_self (suc x ∷ []) h = refl
trimmed_self (x ∷ (y ∷ ys)) h =
    let e : suc (suc (length ys)) - 1 ≡ suc (length ys) = omega arith in
    let f : length ys ≡ suc (length ys) - 1 = omega arith in
    let last : get_or (x ∷ (y ∷ ys)) (length (x ∷ (y ∷ ys)) - 1) 0 ≡ get_or (y ∷ ys) (length (y ∷ ys) - 1) 0 =
    ap (λ (i : ℕ). get_or (x ∷ (y ∷ ys)) i 0) e ∙ ap (λ (i : ℕ). get_or (y ∷ ys) i 0) f in
    let r : trimmed (y ∷ ys) ≡ y ∷ ys = trimmed_self (y ∷ ys) (λ n z. h (λ q. let w : ◌≡◌ {A = ℕ} 0 1 = cc in omega arith) (last ∙ z)) in
    rw r (keep x)
  where
    keep : (x : ℕ) → keep_octet x (y ∷ ys) ≡ x ∷ (y ∷ ys)
    keep zero = refl
    keep (suc x) = refl

even_above : (m u d : ℕ) → m % 2 ^ (u + suc d) ≡ 0 → (m / 2 ^ u) % 2 ≡ 0
even_above m u d h =
    let w = 2 ^ (u + suc d) in
    let q = m / w in
    let p : w ≡ 2 ^ d * 2 * 2 ^ u = pow-add 2 u (suc d) ∙ mul_comm (2 ^ u) (2 ^ suc d) ∙ ap (λ (x : ℕ). x * 2 ^ u) (pow-suc 2 d) in
    let whole : m ≡ q * w = omega (arith, div-add-mod' m w) in
    let e : m ≡ q * 2 ^ d * 2 * 2 ^ u = whole ∙ ap (λ (x : ℕ). q * x) p ∙ sym (mul_assoc q (2 ^ d * 2) (2 ^ u)) ∙ ap (λ (x : ℕ). x * 2 ^ u) (sym (mul_assoc q (2 ^ d) 2)) in
    let f : m / 2 ^ u ≡ q * 2 ^ d * 2 = ap (λ (x : ℕ). x / 2 ^ u) e ∙ mul-div_left (q * 2 ^ d * 2) (pow_pos u) in
    rw f (mul-mod_left (q * 2 ^ d) 2)

unused_least : (m u v : ℕ) → (m / 2 ^ u) % 2 ≡ 1 → m % 2 ^ v ≡ 0 → v ≤ u
unused_least m u v h k =
    ⊎_elim
    (λ (l : u < v).
    let e : u + suc (v - suc u) ≡ v = omega arith in
    absurd (omega (arith, even_above m u (v - suc u) (rw e k))))
    (λ (l : v ≤ u). l)
    (lt_or_le u v)

zero_bit : (u : ℕ) → (0 / 2 ^ u) % 2 ≡ 1 → ⊥
zero_bit u e = let z : (0 / 2 ^ u) % 2 ≡ 0 = rw zero-div in omega arith

pub named_one : (u v : ℕ) (o p : List ℕ) → NamedBits u o → NamedBits v p → trimmed o ≡ trimmed p → (u ≡ v) × (o ≡ p)
named_one u v o p m n e =
    let same : o ≡ p = sym (self u o m) ∙ e ∙ self v p n in
    (unused u v o p m n same, same)
  where
    self : (u : ℕ) (o : List ℕ) → NamedBits u o → trimmed o ≡ o
    self u o m = trimmed_self o (λ n z. zero_bit u (rw z at (m.last n)))

    unused : (u v : ℕ) (o p : List ℕ) → NamedBits u o → NamedBits v p → o ≡ p → u ≡ v
    unused u v [] p m n same = m.string.empty refl ∙ sym (n.string.empty (sym same))
    unused u v (x ∷ xs) p m n same =
        let some : (x ∷ xs) ≡ [] → ⊥ = (λ q. let w : ◌≡◌ {A = ℕ} 0 1 = cc in omega arith) in
        let l = get_or (x ∷ xs) (length (x ∷ xs) - 1) 0 in
        let z : l % 2 ^ v ≡ 0 = rw (← same) at n.string.zeros in
        let o : (l / 2 ^ v) % 2 ≡ 1 = rw (← same) at (n.last (λ q. some (same ∙ q))) in
        let a = unused_least l u v (m.last some) z in
        let b = unused_least l v u o m.string.zeros in
        omega arith
