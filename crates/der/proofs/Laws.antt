-- Laws of the definitions of `specs/Model.antt`. Assumes nothing.
use Prim.Native.Nat.{ℕ, zero, suc, ◌+◌, ◌-◌, ◌*◌, ◌%◌, ◌^◌, ◌≤◌, ◌<◌}
use mathlib.Core.Path.{◌≡◌, refl, sym, ap, ◌∙◌}
use mathlib.Core.List.{List}
use mathlib.Core.Bool.{Bool, true, false, cond}
use mathlib.Core.Logic.{◌⊎◌, inl, inr, ⊎_elim}
use lib.ListN.{length, get_or}
use lib.Dec.{lit<, ltb, eqb}
use native.Mathlib.Omega.{arith}
use native.Mathlib.Nat.{pow-suc}
use lib.Pow.{pow_pos, pow_mono}
use native.Mathlib.Numerals.{add-one}
use borrow.Author.Tests.{eqb-true, ltb-true, ltb-false, lt-ltb, le-ltb, le-leb, lt-leb, eq-eqb, ne_eqb}
use Rattle.der.specs.declared.Span.{Span}
use Rattle.der.specs.Places.{Bytes}
use Rattle.der.specs.Model.{high_tag, number_at, least, long_form, by_first, read_length, with_length, read_limited, read_value, of_tag, expect_at, length_is, value_is}
use Rattle.std.specs.Prelude.{None, Ok, Err, Some, Option, Result, IsErr, IsErrAnd}
use Rattle.std.proofs.lemmas.Result.{err_from_is_err_and}
use Rattle.der.specs.declared.Value.{Value}

-- each test's value from the fact, for `search tests` at a `return`
pub ruleset tests = (lt-ltb, le-ltb, le-leb, lt-leb, eq-eqb, ne_eqb)

-- the refusal that a `?` hands on
pub handed_on : {T : Type 0} (r : Result T ℕ) {e : ℕ} → IsErr r × IsErrAnd r (λ x. x ≡ e) → r ≡ Err e
handed_on r h = let p = err_from_is_err_and r h.1 in p.1 ∙ ap Err p.2

-- an order is decided
pub lt_or_le : (a b : ℕ) → (a < b) ⊎ (b ≤ a)
lt_or_le a b = go (ltb a b) refl
  where
    go : (t : Bool) → ltb a b ≡ t → (a < b) ⊎ (b ≤ a)
    go true e = inl (ltb-true a b e)
    go false e = inr (ltb-false a b e)

-- k bytes are a number below 256 ^ k
pub number_below : (s : List ℕ) → Bytes s → (at k : ℕ) → number_at s at k < 256 ^ k
unfolding number_at
number_below s b at zero = lit< tt
number_below s b at (suc k) = omega (arith, number_below s b at k, b (at + k), pow-suc 256 k)

-- one byte more, at its place after a length's first byte
number_digit : (s : List ℕ) (at k : ℕ) {b : ℕ} → b ≡ get_or s (at + (k + 1)) 0 → number_at s (at + 1) (k + 1) ≡ number_at s (at + 1) k * 256 + b
unfolding number_at
number_digit s at k e =
    let z : (at + 1) + k ≡ at + (k + 1) = omega arith in
    rw (add-one k) (ap (λ (x : ℕ). number_at s (at + 1) k * 256 + x) (rw z (sym e)))

module _ (s : List ℕ) (at : ℕ) where
  pub number_one : {a : ℕ} → a ≡ get_or s (at + 1) 0 → number_at s (at + 1) 1 ≡ a
  unfolding number_at
  number_one h = number_digit s at 0 h ∙ omega arith

  pub number_two : {a b : ℕ} → a ≡ get_or s (at + 1) 0 → b ≡ get_or s (at + 2) 0 → number_at s (at + 1) 2 ≡ a * 256 + b
  number_two h i = omega (arith, number_one h, number_digit s at 1 i)

  pub number_three : {a b c : ℕ} → a ≡ get_or s (at + 1) 0 → b ≡ get_or s (at + 2) 0 → c ≡ get_or s (at + 3) 0 → number_at s (at + 1) 3 ≡ a * 65536 + b * 256 + c
  number_three h i j = omega (arith, number_two h i, number_digit s at 2 j)

  pub number_four : {a b c d : ℕ} → a ≡ get_or s (at + 1) 0 → b ≡ get_or s (at + 2) 0 → c ≡ get_or s (at + 3) 0 → d ≡ get_or s (at + 4) 0 → number_at s (at + 1) 4 ≡ a * 16777216 + b * 65536 + c * 256 + d
  number_four h i j k = omega (arith, number_three h i j, number_digit s at 3 k)

-- ---- a length of k bytes after its first
module _ (s : List ℕ) (at to k : ℕ) where
  pub long_none : to - at ≤ k → long_form s at to k ≡ None
  unfolding long_form
  long_none h = search tests

  pub long_less : k < to - at → number_at s (at + 1) k < least k → long_form s at to k ≡ None
  unfolding long_form
  long_less h l = search tests

  pub long_is : {n next : ℕ} → k < to - at → number_at s (at + 1) k ≡ n → least k ≤ n → next ≡ at + 1 + k → long_form s at to k ≡ length_is n next
  unfolding long_form
  long_is h e l m = search (tests, e, m)

-- a first byte that announces no length
pub first_none : (s : List ℕ) (at to b : ℕ) → 128 ≤ b → (b ≡ 129 → ⊥) → (b ≡ 130 → ⊥) → (b ≡ 131 → ⊥) → (b ≡ 132 → ⊥) → by_first s at to b ≡ None
unfolding by_first
first_none s at to b h n₁ n₂ n₃ n₄ =
    ⊎_elim
    (λ (l : b < 129). search tests)
    (λ (l : 129 ≤ b). let m : 133 ≤ b = omega arith in search tests)
    (lt_or_le b 129)

-- a length of the long form is read as its first byte says
pub length_long : (s : List ℕ) (at to k : ℕ) → to ≤ length s → at < to → get_or s at 0 ≡ 128 + k → 0 < k → k ≤ 4 → read_length s at to ≡ long_form s at to k
unfolding read_length by_first
length_long s at to k a b e p q =
    let low : 129 ≤ 128 + k = omega arith in
    let high : 128 + k < 133 = omega arith in
    let short : 128 ≤ 128 + k = omega arith in
    let is : 128 + k - 128 ≡ k = omega arith in
    search (tests, e, is)

-- ---- powers of two below 256
pub power_below : (k : ℕ) → k < 8 → (0 < 2 ^ k) × (2 ^ k < 256)
power_below k h = let high : 2 ^ k ≤ 2 ^ 7 = pow_mono {i = k} {j = 7} (omega arith) in (pow_pos k, omega arith)

pub one_shifted : (k : ℕ) → k < 8 → (1 * 2 ^ k) % 256 ≡ 2 ^ k
one_shifted k h = let p = power_below k h in omega arith

-- ---- the one way to an accepted value, and the ways to a refusal once a length was looked for
module _ (s : List ℕ) (from to limit : ℕ) where
  module _ (len next : ℕ) (a : to ≤ length s) (b : from < to) (h : high_tag (get_or s from 0) ≡ false) (l : read_length s (from + 1) to ≡ length_is len next) where
    pub limited_value : len < limit → len ≤ to - next → read_limited s from to limit ≡ value_is (get_or s from 0) next (next + len)
    unfolding read_limited with_length
    limited_value c d = search (tests, h, l)

    pub limited_long : limit ≤ len → read_limited s from to limit ≡ None
    unfolding read_limited with_length
    limited_long c = search (tests, h, l)

    pub limited_past : len < limit → to - next < len → read_limited s from to limit ≡ None
    unfolding read_limited with_length
    limited_past c d = search (tests, h, l)

  pub limited_bad : to ≤ length s → from < to → high_tag (get_or s from 0) ≡ false → read_length s (from + 1) to ≡ None → read_limited s from to limit ≡ None
  unfolding read_limited with_length
  limited_bad a b h l = search (tests, h, l)

-- ---- a content that was looked for
of_tag_lem : (tag refusal : ℕ) (r : Option Value) (p : Span) → of_tag tag refusal r ≡ Ok p → r ≡ value_is tag p.start p.end
unfolding of_tag
of_tag_lem tag refusal (Some v) p e = go (eqb v.tag tag) refl e
  where
    go : (x : Bool) → eqb v.tag tag ≡ x → cond x (Ok (record { start = v.start; end = v.end })) (Err refusal) ≡ Ok p → value_is v.tag v.start v.end ≡ value_is tag p.start p.end
    go true h e' =
        let k : v.tag ≡ tag = eqb-true v.tag tag h in
        let q : ◌≡◌ {A = Span} (record { start = v.start; end = v.end }) p = cc in
        rw (k, ← q)
    go false h e' = absurd (let z : ◌≡◌ {A = ℕ} 0 1 = cc in omega arith)
of_tag_lem tag refusal None p e = absurd (let z : ◌≡◌ {A = ℕ} 0 1 = cc in omega arith)

pub expect_value : (s : List ℕ) (from to tag refusal : ℕ) (p : Span) → expect_at s from to tag refusal ≡ Ok p → read_value s from to ≡ value_is tag p.start p.end
unfolding expect_at
expect_value s from to tag refusal p e = of_tag_lem tag refusal (read_value s from to) p e

pub value_expect : (s : List ℕ) (from to tag refusal start end : ℕ) → read_value s from to ≡ value_is tag start end
    → expect_at s from to tag refusal ≡ Ok (record { start = start; end = end })
unfolding expect_at of_tag
value_expect s from to tag refusal start end e = rw (e, eq-eqb tag tag refl)
