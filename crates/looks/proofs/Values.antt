-- What values cost to read: a BIT STRING no more than its bytes, a BOOLEAN one look more, a small INTEGER two. Assumes nothing.
use Prim.Native.Nat.{ℕ, ◌+◌, ◌-◌, ◌*◌, ◌≤◌, ◌<◌}
use mathlib.Core.Path.{◌≡◌, sym, ap}
use mathlib.Core.List.{List}
use mathlib.Core.Bool.{Bool, true, false, cond}
use mathlib.Core.Logic.{⊎_elim}
use lib.ListN.{length, get_or}
use lib.Dec.{ltb, leb, eqb}
use native.Mathlib.Omega.{arith}
use borrow.Author.Tests.{leb-false, eqb-false}
use Rattle.refusal.specs.Refusals.{bad_der, trailing_bool, trailing_bit_string}
use Rattle.der.specs.declared.Span.{Span}
use Rattle.der.specs.Model.{expect_at, on_content}
use Rattle.looks.specs.Der.{nothing, value_looks}
use Rattle.der.proofs.Laws.{lt_or_le}
use Rattle.der.proofs.Invert.{peel, either}
use Rattle.looks.proofs.Der.{at_most, value_few, expect_cost, expect_then, content_then}
use Rattle.values.specs.Model.{only_byte, truth_in, read_bool, positive_in, nonnegative, truth_is}
use Rattle.bits.specs.Model.{whole_octets, bits_at}
use Rattle.looks.specs.Values.{byte_looks, bool_looks, positive_looks, nonnegative_looks, digit_looks, small_looks, bits_looks}
use Rattle.extensions.proofs.Inversion.{on_content_lem, not_content, chosen}
use Rattle.std.specs.Prelude.{Ok, Err}

byte_few : (s : List ℕ) (a b : ℕ) → byte_looks s a b ≤ b - a
unfolding byte_looks
byte_few s a b =
    at_most (ltb (length s) b) (λ e. omega arith) (λ e.
    at_most (leb b a) (λ f. omega arith) (λ f. omega (arith, leb-false b a f)))

-- ---- BOOLEAN
not_said : {e n : ℕ} {v : Bool} → Err e ≡ truth_is v n → ⊥
not_said h = let z : ◌≡◌ {A = ℕ} 0 1 = cc in omega arith

said_end : {m n : ℕ} {v w : Bool} → truth_is v m ≡ truth_is w n → m ≡ n
said_end {m} {n} {v} {w} e = let z : ◌≡◌ {A = Bool × ℕ} (v, m) (w, n) = cc e in ap (λ (p : Bool × ℕ). p.1) z

only_end : (from to n : ℕ) (w v : Bool) → only_byte from to w ≡ truth_is v n → to ≡ n
unfolding only_byte
only_end from to n w v e =
    let p = chosen (eqb (to - from) 1) e not_said in
    said_end p.1

-- one that is accepted ends where its content ends
truth_end : (s : List ℕ) (from to n : ℕ) (v : Bool) → truth_in s from to ≡ truth_is v n → to ≡ n
unfolding truth_in
truth_end s from to n v e =
    let p = peel (ltb (length s) to) e not_said in
    let q = peel (leb to from) p.1 not_said in
    ⊎_elim
    (λ r. only_end from to n true v r.1)
    (λ r. only_end from to n false v (chosen (eqb (get_or s from 0) 0) r.1 not_said).1)
    (either (eqb (get_or s from 0) 255) q.1)

-- the value after its tag was looked at
truth_few : (s : List ℕ) (from to : ℕ) → value_looks s from to + on_content (expect_at s from to 1 trailing_bool) nothing (byte_looks s) ≤ to - from
truth_few s from to =
    let v = value_few s from to in
    expect_then s from to 1 trailing_bool (byte_looks s) (λ n. value_looks s from to + n ≤ to - from) (omega arith) (λ a b h. omega (arith, byte_few s a b))

pub bool_few : (s : List ℕ) (from to : ℕ) → bool_looks s from to ≤ (to - from) + 1
unfolding bool_looks
bool_few s from to =
    let t = truth_few s from to in
    at_most (ltb (length s) to) (λ e. omega arith) (λ e.
    at_most (leb to from) (λ f. omega arith) (λ f.
    let m : cond (eqb (get_or s from 0) 1) (value_looks s from to + on_content (expect_at s from to 1 trailing_bool) nothing (byte_looks s)) 0 ≤ to - from = at_most (eqb (get_or s from 0) 1) (λ g. t) (λ g. omega arith) in
    omega arith))

-- one that is accepted costs its bytes and one look more
pub record Passed (s : List ℕ) (from to next : ℕ) : Type 0 where
  pub cost : bool_looks s from to ≤ (next - from) + 1
  pub ordered : from ≤ next
  pub inside : from ≤ to → next ≤ to

none_passed : (s : List ℕ) (from to next : ℕ) → next ≡ from → bool_looks s from to ≤ 1 → Passed s from to next
none_passed s from to next e c = record { cost = omega arith; ordered = omega arith; inside = λ h. omega arith }

pub bool_cost : (s : List ℕ) (from to next : ℕ) (v : Bool) → read_bool s from to ≡ truth_is v next → Passed s from to next
unfolding read_bool bool_looks on_content
bool_cost s from to next v e =
    let p = peel (ltb (length s) to) e not_said in
    ⊎_elim
    (λ q. none_passed s from to next (sym (said_end q.1)) (rw (p.0, q.0) (omega arith)))
    (λ q.
    ⊎_elim
    (λ r.
    let g = on_content_lem (expect_at s from to 1 trailing_bool) Err (truth_in s) r.1 (λ n. not_said) in
    let a = g.0 in
    let h = expect_cost s from to 1 trailing_bool a g.1 in
    let n = truth_end s a.start a.end next v g.2 in
    record {
      cost = rw (p.0, q.0, r.0, g.1) (omega (arith, byte_few s a.start a.end));
      ordered = omega arith;
      inside = λ i. omega arith;
    })
    (λ (r : (eqb (get_or s from 0) 1 ≡ false) × (truth_is false from ≡ truth_is v next)). none_passed s from to next (sym (said_end r.1)) (rw (p.0, q.0, r.0) (omega arith)))
    (either (eqb (get_or s from 0) 1) q.1))
    (either (leb to from) p.1)

-- ---- INTEGER
positive_few : (s : List ℕ) (a b : ℕ) → positive_looks s a b ≤ (b - a) + 1
unfolding positive_looks
positive_few s a b =
    at_most (ltb (length s) b) (λ e. omega arith) (λ e.
    at_most (leb b a) (λ f. omega arith) (λ f.
    let l = leb-false b a f in
    let n : cond (ltb 0 (get_or s a 0)) 0 (cond (eqb (b - a) 1) 0 1) ≤ (b - a) - 1 =
    at_most (ltb 0 (get_or s a 0)) (λ h. omega arith) (λ h. at_most (eqb (b - a) 1) (λ i. omega arith) (λ i. let j = eqb-false (b - a) 1 i in two (b - a) (omega arith) j)) in
    let m : cond (leb 128 (get_or s a 0)) 0 (1 + cond (ltb 0 (get_or s a 0)) 0 (cond (eqb (b - a) 1) 0 1)) ≤ b - a = at_most (leb 128 (get_or s a 0)) (λ g. omega arith) (λ g. omega arith) in
    omega arith))
  where
    two : (n : ℕ) → 0 < n → (n ≡ 1 → ⊥) → 1 ≤ n - 1
    two n h k = ⊎_elim (λ (l : n < 2). absurd (k (omega arith))) (λ (l : 2 ≤ n). omega arith) (lt_or_le n 2)

nonnegative_few : (s : List ℕ) (from to : ℕ) → nonnegative_looks s from to ≤ (to - from) + 1
unfolding nonnegative_looks
nonnegative_few s from to =
    let v = value_few s from to in
    expect_then s from to 2 bad_der (positive_looks s) (λ n. value_looks s from to + n ≤ (to - from) + 1) (omega arith) (λ a b h. omega (arith, positive_few s a b))

some_digit : (s : List ℕ) (a b : ℕ) (p : Span) → positive_in s a b ≡ Ok p → a < b
unfolding positive_in
some_digit s a b p e =
    let q = peel (ltb (length s) b) e (not_content _) in
    leb-false b a (peel (leb b a) q.1 (not_content _)).0

-- tag, length and a digit
three_bytes : (s : List ℕ) (from to : ℕ) (p : Span) → nonnegative s from to ≡ Ok p → from + 2 < to
unfolding nonnegative
three_bytes s from to p e =
    let g = on_content_lem (expect_at s from to 2 bad_der) Err (positive_in s) e not_content in
    let h = expect_cost s from to 2 bad_der g.0 g.1 in
    omega (arith, some_digit s g.0.start g.0.end p g.2)

digit_few : (s : List ℕ) (a b : ℕ) → digit_looks s a b ≤ 1
unfolding digit_looks
digit_few s a b =
    at_most (ltb (length s) b) (λ e. omega arith) (λ e.
    at_most (leb b a) (λ f. omega arith) (λ f. at_most (eqb (b - a) 1) (λ g. omega arith) (λ g. omega arith)))

-- two looks more than bytes
pub small_few : (s : List ℕ) (from to : ℕ) → small_looks s from to ≤ (to - from) + 2
unfolding small_looks
small_few s from to =
    let n = nonnegative_few s from to in
    content_then (nonnegative s from to) (digit_looks s) (λ d. nonnegative_looks s from to + d ≤ (to - from) + 2) (omega arith) (λ p e. omega (arith, digit_few s p.start p.end))

-- and those only where there are three bytes or more
pub small_for_six : (s : List ℕ) (from to : ℕ) → 6 * small_looks s from to ≤ 7 * (to - from) + 9
unfolding small_looks
small_for_six s from to =
    let n = nonnegative_few s from to in
    content_then (nonnegative s from to) (digit_looks s) (λ d. 6 * (nonnegative_looks s from to + d) ≤ 7 * (to - from) + 9) (omega arith) (λ p e.
    omega (arith, three_bytes s from to p e, digit_few s p.start p.end))

-- ---- BIT STRING
pub bits_few : (s : List ℕ) (from to : ℕ) → bits_looks s from to ≤ to - from
unfolding bits_looks
bits_few s from to =
    let v = value_few s from to in
    expect_then s from to 3 trailing_bit_string (byte_looks s) (λ n. value_looks s from to + n ≤ to - from) (omega arith) (λ a b h. omega (arith, byte_few s a b))

pub bits_wide : (s : List ℕ) (from to : ℕ) (p : Span) → bits_at s from to ≡ Ok p → from + 1 < to
unfolding bits_at
bits_wide s from to p e =
    let g = on_content_lem (expect_at s from to 3 trailing_bit_string) Err (whole_octets s) e not_content in
    let h = expect_cost s from to 3 trailing_bit_string g.0 g.1 in
    omega arith
