-- THEOREMS: BOOLEAN and INTEGER are accepted in exactly the encodings of X.690, a false also where it is written or absent. Assumes nothing.
use Prim.Native.Nat.{ℕ, suc, ◌+◌, ◌-◌, ◌*◌, ◌^◌, ◌≤◌, ◌<◌}
use mathlib.Core.Path.{◌≡◌, refl, sym, ap, ◌∙◌}
use mathlib.Core.List.{List, [], ◌∷◌}
use mathlib.Core.Bool.{Bool, true, false, cond}
use mathlib.Core.Logic.{⊎_elim, ◌⊎◌, inl, inr}
use lib.ListN.{length, get_or}
use lib.Dec.{ltb, leb, eqb, lit<}
use native.Mathlib.Omega.{arith}
use native.Mathlib.Nat.{pow-suc, pow-le-pow_right, mul-le-mul_right}
use borrow.Author.Tests.{ltb-true, ltb-false, leb-true, leb-false, eqb-true, eqb-false, le-ltb}
use Rattle.refusal.specs.Refusals.{bad_der, trailing_bool}
use Rattle.der.specs.declared.Span.{Span}
use Rattle.der.specs.Places.{Bytes, part, LIMIT}
use Rattle.der.specs.X690.{encoding, truth, value_of, Natural}
use Rattle.der.specs.Model.{high_tag, expect_at, on_content}
use Rattle.values.specs.Model.{only_byte, truth_in, read_bool, positive_in, nonnegative, small_in, read_small, truth_is, number_is}
use Rattle.der.proofs.Laws.{tests, value_expect, lt_or_le}
use Rattle.der.proofs.Invert.{peel, either, ok_pair_parts}
use Rattle.der.proofs.Parts.{part_length, part_at, part_cons, part_none, part_tail}
use Rattle.der.proofs.Laid.{expect_laid, laid_read}
use Rattle.std.specs.Prelude.{Ok, Err, Result}

-- the octets stand at `from` and end at `next`, before `to`
pub record There (s : List ℕ) (from to next : ℕ) (octets : List ℕ) : Type 0 where
  pub within : to ≤ length s
  pub inside : next ≤ to
  pub bytes : part s from next ≡ octets

-- a content that was found, or a refusal handed on
pub content_inv : {R : Type 0} (g : Result Span ℕ) (other : ℕ → R) (k : ℕ → ℕ → R) {r : R} → on_content g other k ≡ r
    → ((p : Span) × (g ≡ Ok p) × (k p.start p.end ≡ r)) ⊎ ((e : ℕ) × (g ≡ Err e) × (other e ≡ r))
unfolding on_content
content_inv (Ok p) other k e = inl (p, refl, e)
content_inv (Err n) other k e = inr (n, refl, e)

one_byte : (s : List ℕ) (a b : ℕ) → b ≤ length s → b - a ≡ 1 → part s a b ≡ get_or s a 0 ∷ []
one_byte s a b h e =
    let f : b ≡ a + 1 = omega arith in
    rw f (part_cons s a (a + 1) (omega arith) (omega arith) ∙ ap (λ (l : List ℕ). get_or s a 0 ∷ l) (part_none s (a + 1)))

-- ---- BOOLEAN
no_said : {e n : ℕ} {v : Bool} → Err e ≡ truth_is v n → ⊥
no_said h = let z : ◌≡◌ {A = ℕ} 0 1 = cc in omega arith

only_inv : (from to n : ℕ) (w v : Bool) → only_byte from to w ≡ truth_is v n → (to - from ≡ 1) × (w ≡ v) × (to ≡ n)
unfolding only_byte
only_inv from to n w v e =
    ⊎_elim
    (λ p. let t = ok_pair_parts p.1 in (eqb-true _ _ p.0, t.0, t.1))
    (λ p. absurd (no_said p.1))
    (either (eqb (to - from) 1) e)

truth_inv : (s : List ℕ) (from to n : ℕ) (v : Bool) → truth_in s from to ≡ truth_is v n → (to ≡ n) × (part s from to ≡ truth v)
unfolding truth_in
truth_inv s from to n v e =
    let p = peel (ltb (length s) to) e no_said in
    let q = peel (leb to from) p.1 no_said in
    let h : to ≤ length s = ltb-false _ _ p.0 in
    ⊎_elim
    (λ r. let o = only_inv from to n true v r.1 in
    (o.2, rw (one_byte s from to h o.0, eqb-true (get_or s from 0) 255 r.0, ← o.1)))
    (λ r.
    ⊎_elim
    (λ t. let o = only_inv from to n false v t.1 in
    (o.2, rw (one_byte s from to h o.0, eqb-true (get_or s from 0) 0 t.0, ← o.1)))
    (λ t. absurd (no_said t.1))
    (either (eqb (get_or s from 0) 0) r.1))
    (either (eqb (get_or s from 0) 255) q.1)

is_truth : (s : List ℕ) (from to : ℕ) (v : Bool) → to ≤ length s → to - from ≡ 1 → part s from to ≡ truth v → truth_in s from to ≡ truth_is v to
unfolding truth_in only_byte
is_truth s from to true h k e =
    let b : get_or s from 0 ≡ 255 = (part_tail s from to 255 [] (omega arith) h e).0 in
    let l : from < to = omega arith in
    search (tests, b, k)
is_truth s from to false h k e =
    let b : get_or s from 0 ≡ 0 = (part_tail s from to 0 [] (omega arith) h e).0 in
    let l : from < to = omega arith in
    search (tests, b, k)

-- no BOOLEAN stands there: nothing does, or another tag
abbrev pub NoBoolean : List ℕ → ℕ → ℕ → Type 0
NoBoolean s from to = (to ≤ from) ⊎ (get_or s from 0 ≡ 1 → ⊥)

bool_inv : (s : List ℕ) → Bytes s → (from to next : ℕ) (v : Bool) → read_bool s from to ≡ truth_is v next
    → ((v ≡ false) × (next ≡ from) × (to ≤ length s) × NoBoolean s from to) ⊎ There s from to next (encoding 1 (truth v))
unfolding read_bool
bool_inv s b from to next v e =
    let p = peel (ltb (length s) to) e no_said in
    let h : to ≤ length s = ltb-false _ _ p.0 in
    ⊎_elim
    (λ q. let t = ok_pair_parts q.1 in inl (sym t.0, sym t.1, h, inl (leb-true _ _ q.0)))
    (λ q.
    ⊎_elim
    (λ r.
    ⊎_elim
    (λ g.
    let a = g.0 in
    let l = expect_laid s b from to 1 trailing_bool a g.1 in
    let t = truth_inv s a.start a.end next v g.2 in
    let n : a.end ≡ next = t.0 in
    inr (record {
      within = h;
      inside = omega (arith, l.inside);
      bytes = rw (← n) (l.bytes ∙ ap (encoding 1) t.1);
    }))
    (λ g. absurd (no_said g.2))
    (content_inv (expect_at s from to 1 trailing_bool) Err (truth_in s) r.1))
    (λ r. let t = ok_pair_parts r.1 in inl (sym t.0, sym t.1, h, inr (eqb-false _ _ r.0)))
    (either (eqb (get_or s from 0) 1) q.1))
    (either (leb to from) p.1)

-- a true is accepted in one encoding
pub true_is : (s : List ℕ) → Bytes s → (from to next : ℕ) → read_bool s from to ≡ truth_is true next → There s from to next (encoding 1 (truth true))
true_is s b from to next e =
    ⊎_elim
    (λ h. absurd (let z : true ≡ false = h.0 in let y : ◌≡◌ {A = ℕ} 0 1 = cc in omega arith))
    (λ h. h)
    (bool_inv s b from to next true e)

-- a false in two: absent, or written
pub false_is : (s : List ℕ) → Bytes s → (from to next : ℕ) → read_bool s from to ≡ truth_is false next
    → ((next ≡ from) × (to ≤ length s) × NoBoolean s from to) ⊎ There s from to next (encoding 1 (truth false))
false_is s b from to next e = ⊎_elim (λ h. inl (h.1, h.2, h.3)) (λ h. inr h) (bool_inv s b from to next false e)

truth_length : (v : Bool) → length (truth v) ≡ 1
truth_length true = refl
truth_length false = refl

pub is_bool : (s : List ℕ) (from to next : ℕ) (v : Bool) → There s from to next (encoding 1 (truth v)) → read_bool s from to ≡ truth_is v next
unfolding read_bool on_content encoding high_tag
is_bool s from to next v t =
    let n = truth_length v in
    let f = laid_read s from to 1 (truth v) next refl (omega arith) t.within t.inside t.bytes in
    let l : from < next = omega (arith, f.place, f.ordered) in
    let h : get_or s from 0 ≡ 1 = (part_tail s from next 1 _ l (omega (arith, t.within, t.inside)) t.bytes).0 in
    let g = value_expect s from to 1 trailing_bool f.start next f.read in
    let k = is_truth s f.start next v (omega (arith, t.within, t.inside)) (f.size ∙ n) f.is in
    let m : from < to = omega (arith, t.inside) in
    let w : to ≤ length s = t.within in
    search (tests, h, g, k)

pub absent_bool : (s : List ℕ) (from to : ℕ) → to ≤ length s → NoBoolean s from to → read_bool s from to ≡ truth_is false from
unfolding read_bool
absent_bool s from to h a =
    ⊎_elim
    (λ (l : to ≤ from). search tests)
    (λ (n : get_or s from 0 ≡ 1 → ⊥). simp (le-ltb (length s) to h) (go (leb to from) n))
    a
  where
    go : (b : Bool) → (get_or s from 0 ≡ 1 → ⊥) → cond b (truth_is false from) (cond (eqb (get_or s from 0) 1) (on_content (expect_at s from to 1 trailing_bool) Err (truth_in s)) (truth_is false from)) ≡ truth_is false from
    go true n = refl
    go false n = search tests

-- ---- INTEGER
no_got : {e : ℕ} {p : Span} → Err e ≡ Ok p → ⊥
no_got h = let z : ◌≡◌ {A = ℕ} 0 1 = cc in omega arith

-- the digits of a number: where they end, what they make, and no zero before them
pub record Digits (s : List ℕ) (p : Span) (n next : ℕ) : Type 0 where
  pub ends : p.end ≡ next
  pub ordered : p.start < p.end
  pub inside : p.end ≤ length s
  pub value : value_of (part s p.start p.end) ≡ n
  pub first : get_or s p.start 0 ≡ 0 → p.end - p.start ≡ 1

value_skip : (xs : List ℕ) → value_of (0 ∷ xs) ≡ value_of xs
unfolding value_of
value_skip xs = omega arith

positive_inv : (s : List ℕ) (from to : ℕ) (p : Span) → positive_in s from to ≡ Ok p
    → (n : ℕ) × Natural n (part s from to) × Digits s p n to
unfolding positive_in
positive_inv s from to p e =
    let a = peel (ltb (length s) to) e no_got in
    let b = peel (leb to from) a.1 no_got in
    let c = peel (leb 128 (get_or s from 0)) b.1 no_got in
    let within : to ≤ length s = ltb-false _ _ a.0 in
    let some : from < to = leb-false _ _ b.0 in
    let small : get_or s from 0 < 128 = leb-false _ _ c.0 in
    let long : length (part s from to) ≡ to - from = part_length s from to within in
    let head : get_or (part s from to) 0 0 ≡ get_or s from 0 = part_at s from to 0 (omega arith) ∙ ap (λ (i : ℕ). get_or s i 0) (omega arith) in
    ⊎_elim
    (λ d.
    let q : ◌≡◌ {A = Span} (record { start = from; end = to }) p = cc d.1 in
    let nonzero : 0 < get_or s from 0 = ltb-true _ _ d.0 in (
      value_of (part s from to),
      record {
        some = omega arith;
        positive = omega arith;
        value = refl;
        shortest = λ h z. absurd (omega arith);
      },
      rw (← q) (record { ends = refl; ordered = some; inside = within; value = refl; first = λ z. absurd (omega arith) }),
    ))
    (λ d.
    let zero_first : get_or s from 0 ≤ 0 = ltb-false _ _ d.0 in
    ⊎_elim
    (λ f.
    let one : to - from ≡ 1 = eqb-true _ _ f.0 in
    let q : ◌≡◌ {A = Span} (record { start = from; end = to }) p = cc f.1 in (
      value_of (part s from to),
      record {
        some = omega arith;
        positive = omega arith;
        value = refl;
        shortest = λ h z. absurd (omega arith);
      },
      rw (← q) (record { ends = refl; ordered = some; inside = within; value = refl; first = λ z. one }),
    ))
    (λ f.
    let more : (to - from ≡ 1 → ⊥) = eqb-false _ _ f.0 in
    let g = peel (ltb (get_or s (from + 1) 0) 128) f.1 no_got in
    let high : 128 ≤ get_or s (from + 1) 0 = ltb-false _ _ g.0 in
    let next : get_or (part s from to) 1 0 ≡ get_or s (from + 1) 0 = part_at s from to 1 (omega arith) in
    let q : ◌≡◌ {A = Span} (record { start = from + 1; end = to }) p = cc g.1 in
    let z : get_or s from 0 ≡ 0 = omega arith in
    let split : part s from to ≡ 0 ∷ part s (from + 1) to = part_cons s from to some (omega arith) ∙ ap (λ (x : ℕ). x ∷ part s (from + 1) to) z in (
      value_of (part s (from + 1) to),
      record {
        some = omega arith;
        positive = omega arith;
        value = ap value_of split ∙ value_skip (part s (from + 1) to);
        shortest = λ h k. omega arith;
      },
      rw (← q) (record { ends = refl; ordered = omega arith; inside = within; value = refl; first = λ k. absurd (omega arith) }),
    ))
    (either (eqb (to - from) 1) d.1))
    (either (ltb 0 (get_or s from 0)) c.1)

is_positive : (s : List ℕ) (from to n : ℕ) → to ≤ length s → Natural n (part s from to) → (p : Span) × (positive_in s from to ≡ Ok p) × Digits s p n to
unfolding positive_in
is_positive s from to n within m =
    let long : length (part s from to) ≡ to - from = part_length s from to within in
    let some : from < to = omega (arith, m.some) in
    let head : get_or (part s from to) 0 0 ≡ get_or s from 0 = part_at s from to 0 (omega arith) ∙ ap (λ (i : ℕ). get_or s i 0) (omega arith) in
    let small : get_or s from 0 < 128 = omega (arith, m.positive) in
    ⊎_elim
    (λ (z : get_or s from 0 < 1).
    ⊎_elim
    (λ (l : to - from < 2).
    let one : to - from ≡ 1 = omega arith in
    let u : get_or s from 0 ≤ 0 = omega arith in (
      record { start = from; end = to },
      search tests,
      record { ends = refl; ordered = some; inside = within; value = m.value; first = λ k. one },
    ))
    (λ (l : 2 ≤ to - from).
    let more : (to - from ≡ 1 → ⊥) = (λ e. omega arith) in
    let u : get_or s from 0 ≤ 0 = omega arith in
    let v : get_or s from 0 ≡ 0 = omega arith in
    let next : get_or (part s from to) 1 0 ≡ get_or s (from + 1) 0 = part_at s from to 1 (omega arith) in
    let high : 128 ≤ get_or s (from + 1) 0 = omega (arith, m.shortest (omega arith) (omega arith)) in
    let split : part s from to ≡ 0 ∷ part s (from + 1) to = part_cons s from to some (omega arith) ∙ ap (λ (x : ℕ). x ∷ part s (from + 1) to) v in (
      record { start = from + 1; end = to },
      search tests,
      record { ends = refl; ordered = omega arith; inside = within; value = sym (value_skip (part s (from + 1) to)) ∙ sym (ap value_of split) ∙ m.value; first = λ k. absurd (omega arith) },
    ))
    (lt_or_le (to - from) 2))
    (λ (z : 1 ≤ get_or s from 0). (
      record { start = from; end = to },
      search tests,
      record { ends = refl; ordered = some; inside = within; value = m.value; first = λ k. absurd (omega arith) },
    ))
    (lt_or_le (get_or s from 0) 1)

-- an INTEGER that is accepted as not negative: its one encoding stands there, and the place is that of its digits
pub nonnegative_is : (s : List ℕ) → Bytes s → (from to : ℕ) (p : Span) → nonnegative s from to ≡ Ok p
    → (n : ℕ) × (content : List ℕ) × Natural n content × There s from to p.end (encoding 2 content) × Digits s p n p.end
unfolding nonnegative
nonnegative_is s b from to p e =
    ⊎_elim
    (λ g.
    let a = g.0 in
    let l = expect_laid s b from to 2 bad_der a g.1 in
    let q = positive_inv s a.start a.end p g.2 in
    let d = q.2 in
    let f : a.end ≡ p.end = sym d.ends in (
      q.0,
      part s a.start a.end,
      q.1,
      record { within = l.within; inside = omega (arith, l.inside); bytes = rw (← f) l.bytes },
      record { ends = refl; ordered = d.ordered; inside = d.inside; value = d.value; first = d.first },
    ))
    (λ g. absurd (no_got g.2))
    (content_inv (expect_at s from to 2 bad_der) Err (positive_in s) e)

pub is_nonnegative : (s : List ℕ) (from to next n : ℕ) (content : List ℕ) → There s from to next (encoding 2 content) → Natural n content → length content < LIMIT
    → (p : Span) × (nonnegative s from to ≡ Ok p) × Digits s p n next
unfolding nonnegative on_content high_tag
is_nonnegative s from to next n content t m small =
    let f = laid_read s from to 2 content next refl small t.within t.inside t.bytes in
    let g = value_expect s from to 2 bad_der f.start next f.read in
    let q = is_positive s f.start next n (omega (arith, t.within, t.inside)) (rw f.is m) in
    (q.0, rw (g, q.1), q.2)

-- ---- INTEGER of one byte
byte_power : (x k : ℕ) → 1 ≤ x → 256 ^ k ≤ x * 256 ^ k
byte_power x k h = omega (arith, mul-le-mul_right {m = 1} {n = x} (256 ^ k) h)

-- below 256 there are two shapes: itself, and from 128 on a zero before it
pub natural_small : (v : ℕ) (content : List ℕ) → v < 256 → Natural v content → ((content ≡ v ∷ []) × (v < 128)) ⊎ ((content ≡ 0 ∷ (v ∷ [])) × (128 ≤ v))
unfolding value_of
natural_small v [] h m = absurd (omega (arith, m.some))
natural_small v (x ∷ []) h m = let e : x ≡ v = omega (arith, m.value) in inl (rw e, omega (arith, m.positive))
natural_small v (x ∷ (y ∷ [])) h m =
    let z : x ≡ 0 = omega (arith, m.value) in
    let e : y ≡ v = omega (arith, m.value) in
    inr (rw (z, e), omega (arith, m.shortest (omega arith) z))
natural_small v (x ∷ (y ∷ (w ∷ rest))) h m =
    let k = length rest in
    let one : 256 ^ 0 ≤ 256 ^ k = pow-le-pow_right {n = 256} (lit< tt) {i = 0} {j = k} (omega arith) in
    let p₁ : 256 ^ suc k ≡ 256 ^ k * 256 = pow-suc 256 k in
    let p₂ : 256 ^ suc (suc k) ≡ 256 ^ suc k * 256 = pow-suc 256 (suc k) in
    absurd (
    ⊎_elim
    (λ (z : x < 1).
    let high : 128 ≤ y = m.shortest (omega arith) (omega arith) in
    omega (arith, m.value, byte_power y (suc k) (omega arith)))
    (λ (z : 1 ≤ x). omega (arith, m.value, byte_power x (suc (suc k)) z))
    (lt_or_le x 1)
    )

pub natural_one : (v : ℕ) (c d : List ℕ) → v < 256 → Natural v c → Natural v d → c ≡ d
natural_one v c d h m n =
    ⊎_elim
    (λ a. ⊎_elim (λ b. cc (a.0, b.0)) (λ b. absurd (omega arith)) (natural_small v d h n))
    (λ a. ⊎_elim (λ b. absurd (omega arith)) (λ b. cc (a.0, b.0)) (natural_small v d h n))
    (natural_small v c h m)

no_number : {e v n : ℕ} → Err e ≡ number_is v n → ⊥
no_number h = let z : ◌≡◌ {A = ℕ} 0 1 = cc in omega arith

value_one : (x : ℕ) → value_of (x ∷ []) ≡ x
unfolding value_of
value_one x = omega arith

small_inv : (s : List ℕ) (from to v n : ℕ) → small_in s from to ≡ number_is v n → (value_of (part s from to) ≡ v) × (to ≡ n) × (get_or s from 0 ≡ v)
unfolding small_in
small_inv s from to v n e =
    let a = peel (ltb (length s) to) e no_number in
    let b = peel (leb to from) a.1 no_number in
    go (either (eqb (to - from) 1) b.1) (ltb-false _ _ a.0)
  where
    go : ((eqb (to - from) 1 ≡ true) × (number_is (get_or s from 0) to ≡ number_is v n)) ⊎ ((eqb (to - from) 1 ≡ false) × (Err bad_der ≡ number_is v n)) → to ≤ length s
        → (value_of (part s from to) ≡ v) × (to ≡ n) × (get_or s from 0 ≡ v)
    go (inl c) h =
        let x = ok_pair_parts c.1 in
        (rw (one_byte s from to h (eqb-true (to - from) 1 c.0), x.0) (value_one v), x.1, x.0)
    go (inr c) h = absurd (no_number c.1)

pub small_is : (s : List ℕ) → Bytes s → (from to v next : ℕ) → read_small s from to ≡ number_is v next
    → (v < 256) × ((content : List ℕ) × Natural v content × There s from to next (encoding 2 content))
unfolding read_small
small_is s b from to v next e =
    ⊎_elim
    (λ g.
    let p = g.0 in
    let q = nonnegative_is s b from to p g.1 in
    let r = small_inv s p.start p.end v next g.2 in
    let n : q.0 ≡ v = sym q.4.value ∙ r.0 in
    (omega (arith, b p.start, r.2), (q.1, rw (← n) q.2, rw (← r.1) q.3)))
    (λ g. absurd (no_number g.2))
    (content_inv (nonnegative s from to) Err (small_in s) e)

value_head : (x : ℕ) (xs : List ℕ) → 1 ≤ x → 256 ^ length xs ≤ value_of (x ∷ xs)
unfolding value_of
value_head x xs h = omega (arith, byte_power x (length xs) h)

-- one digit
digit : (s : List ℕ) (p : Span) (v next : ℕ) → v < 256 → Bytes s → Digits s p v next → (p.end - p.start ≡ 1) × (get_or s p.start 0 ≡ v)
digit s p v next h b d =
    ⊎_elim
    (λ (l : p.end - p.start < 2).
    let one : p.end - p.start ≡ 1 = omega (arith, d.ordered) in
    (one, sym (value_one (get_or s p.start 0)) ∙ sym (ap value_of (one_byte s p.start p.end d.inside one)) ∙ d.value))
    (λ (l : 2 ≤ p.end - p.start). absurd (many l))
    (lt_or_le (p.end - p.start) 2)
  where
    many : 2 ≤ p.end - p.start → ⊥
    many l =
        let split : part s p.start p.end ≡ get_or s p.start 0 ∷ part s (p.start + 1) p.end = part_cons s p.start p.end (omega (arith, d.ordered)) (omega (arith, d.ordered, d.inside)) in
        let n : length (part s (p.start + 1) p.end) ≡ p.end - (p.start + 1) = part_length s (p.start + 1) p.end d.inside in
        let nonzero : 1 ≤ get_or s p.start 0 =
        ⊎_elim (λ (z : get_or s p.start 0 < 1). absurd (omega (arith, d.first (omega arith)))) (λ z. z) (lt_or_le (get_or s p.start 0) 1) in
        let k = length (part s (p.start + 1) p.end) in
        let big : 256 ^ 1 ≤ 256 ^ k = pow-le-pow_right {n = 256} (lit< tt) {i = 1} {j = k} (omega arith) in
        omega (arith, value_head (get_or s p.start 0) (part s (p.start + 1) p.end) nonzero, d.value, ap value_of split)

is_small_in : (s : List ℕ) (p : Span) (v next : ℕ) → v < 256 → Bytes s → Digits s p v next → small_in s p.start p.end ≡ number_is v next
unfolding small_in
is_small_in s p v next h b d =
    let q = digit s p v next h b d in
    let i : p.end ≤ length s = d.inside in
    let o : p.start < p.end = d.ordered in
    let r : small_in s p.start p.end ≡ number_is (get_or s p.start 0) p.end = search (tests, q.0) in
    rw (r, q.1, d.ends)

pub is_small : (s : List ℕ) → Bytes s → (from to v next : ℕ) (content : List ℕ) → v < 256 → Natural v content → There s from to next (encoding 2 content)
    → read_small s from to ≡ number_is v next
unfolding read_small on_content
is_small s b from to v next content h m t =
    let few : length content < LIMIT = ⊎_elim (λ a. rw a.0 (omega arith)) (λ a. rw a.0 (omega arith)) (natural_small v content h m) in
    let q = is_nonnegative s from to next v content t m few in
    rw (q.1, is_small_in s q.0 v next h b q.2)
