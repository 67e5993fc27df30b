-- One value that is read and its encoding, both ways: where it lies, and what its bytes are. Assumes nothing.
use Prim.Native.Nat.{ℕ, ◌+◌, ◌-◌, ◌%◌, ◌≤◌, ◌<◌}
use mathlib.Core.Path.{◌≡◌, refl, sym, ap, ◌∙◌}
use mathlib.Core.List.{List, [], ◌++◌, append-nil}
use mathlib.Core.Bool.{false}
use lib.ListN.{length, length-append}
use lib.Dec.{eqb}
use native.Mathlib.Omega.{arith}
use Rattle.der.specs.declared.Span.{Span}
use Rattle.der.specs.Places.{Bytes, part, LIMIT}
use Rattle.der.specs.X690.{length_bytes, encoding}
use Rattle.der.specs.Model.{high_tag, expect_at}
use Rattle.der.proofs.Laws.{value_expect}
use Rattle.der.proofs.Parts.{part_length, part_split, part_front}
use Rattle.der.proofs.Laid.{expect_laid, laid_read}
use Rattle.extensions.specs.Model.{span}
use Rattle.extensions.specs.Layout.{place_of}
use Rattle.std.specs.Prelude.{Ok}

-- ---- where a content lies
pub encoded_length : (tag : ℕ) (x : List ℕ) → length (encoding tag x) ≡ 1 + length (length_bytes (length x)) + length x
unfolding encoding
encoded_length tag x = simp length-append (omega arith)

pub place_end : (at tag : ℕ) (x : List ℕ) → (place_of at x).end ≡ at + length (encoding tag x)
unfolding place_of
place_end at tag x = omega (arith, encoded_length tag x)

pub place_start : (at : ℕ) (x : List ℕ) → (at < (place_of at x).start) × ((place_of at x).start + length x ≡ (place_of at x).end)
unfolding place_of
place_start at x = (omega arith, refl)

pub span_is : (p : Span) (a b : ℕ) → p.start ≡ a → p.end ≡ b → p ≡ span a b
span_is p a b h k = rw (← h, ← k)

place_is : (at a b tag : ℕ) (x : List ℕ) → length x ≡ b - a → a ≤ b → at < a → length (encoding tag x) ≡ b - at → span a b ≡ place_of at x
unfolding place_of
place_is at a b tag x h k j l =
    let n = encoded_length tag x in
    let e : a ≡ at + 1 + length (length_bytes (length x)) = omega arith in
    let f : b ≡ at + 1 + length (length_bytes (length x)) + length x = omega arith in
    span_is (span a b) _ _ e f

-- ---- a value that was read
pub record Here (s : List ℕ) (from to tag : ℕ) (p : Span) : Type 0 where
  pub within : to ≤ length s
  pub after : from < p.start
  pub ordered : p.start ≤ p.end
  pub inside : p.end ≤ to
  pub small : p.end - p.start < LIMIT
  pub place : p ≡ place_of from (part s p.start p.end)
  pub bytes : part s from p.end ≡ encoding tag (part s p.start p.end)

pub here : (s : List ℕ) → Bytes s → (from to tag e : ℕ) (p : Span) → expect_at s from to tag e ≡ Ok p → Here s from to tag p
here s b from to tag e p h =
    let w = expect_laid s b from to tag e p h in
    let l : length (encoding tag (part s p.start p.end)) ≡ p.end - from = sym (ap length w.bytes) ∙ part_length s from p.end (omega arith) in
    let n : length (part s p.start p.end) ≡ p.end - p.start = part_length s p.start p.end (omega arith) in
    record {
      within = w.within;
      after = omega arith;
      ordered = w.ordered;
      inside = w.inside;
      small = w.small;
      place = place_is from p.start p.end tag (part s p.start p.end) n w.ordered (omega arith) l;
      bytes = w.bytes;
    }

-- its bytes, and those after it
pub here_split : (s : List ℕ) (from to tag : ℕ) (p : Span) → Here s from to tag p → part s from to ≡ encoding tag (part s p.start p.end) ++ part s p.end to
here_split s from to tag p h = rw (← h.bytes) (part_split s from p.end to (omega arith) h.inside)

-- ---- a value that is to be read
pub record Found (s : List ℕ) (from to tag : ℕ) (x rest : List ℕ) : Type 0 where
  pub found : (e : ℕ) → expect_at s from to tag e ≡ Ok (place_of from x)
  pub after : from < (place_of from x).start
  pub ordered : (place_of from x).start ≤ (place_of from x).end
  pub inside : (place_of from x).end ≤ to
  pub content : part s (place_of from x).start (place_of from x).end ≡ x
  pub left : part s (place_of from x).end to ≡ rest

start_is : (at : ℕ) (x : List ℕ) → at + 1 + length (length_bytes (length x)) ≡ (place_of at x).start
unfolding place_of
start_is at x = refl

low_tag : (tag : ℕ) → eqb (tag % 32) 31 ≡ false → high_tag tag ≡ false
unfolding high_tag
low_tag tag h = h

pub find : (s : List ℕ) (from to tag : ℕ) (x rest : List ℕ) → eqb (tag % 32) 31 ≡ false → length x < LIMIT → from ≤ to → to ≤ length s → part s from to ≡ encoding tag x ++ rest
    → Found s from to tag x rest
find s from to tag x rest low short h l e =
    let f = part_front s from to (encoding tag x) rest h l e in
    let m : from + length (encoding tag x) ≡ (place_of from x).end = sym (place_end from tag x) in
    let i : (place_of from x).end ≤ to = rw m at f.0 in
    let r = laid_read s from to tag x (place_of from x).end (low_tag tag low) short l i (rw m at f.1) in
    let p : r.start ≡ (place_of from x).start = r.place ∙ start_is from x in
    record {
      found = λ e. value_expect s from to tag e (place_of from x).start (place_of from x).end (rw p at r.read);
      after = (place_start from x).0;
      ordered = rw p at r.ordered;
      inside = i;
      content = rw p at r.is;
      left = rw m at f.2;
    }

-- one that ends where the reader must
pub find_last : (s : List ℕ) (from to tag : ℕ) (x : List ℕ) → eqb (tag % 32) 31 ≡ false → length x < LIMIT → from ≤ to → to ≤ length s → part s from to ≡ encoding tag x
    → Found s from to tag x [] × ((place_of from x).end ≡ to)
find_last s from to tag x low short h l e =
    let n : length (encoding tag x) ≡ to - from = sym (ap length e) ∙ part_length s from to l in
    let m = place_end from tag x in
    (find s from to tag x [] low short h l (e ∙ sym (append-nil (encoding tag x))), omega arith)

-- ---- in a part that is itself short
short_in : (s : List ℕ) (from to tag : ℕ) (x rest : List ℕ) → from ≤ to → to ≤ length s → to - from < LIMIT → part s from to ≡ encoding tag x ++ rest → length x < LIMIT
short_in s from to tag x rest h l small e =
    let f = part_front s from to (encoding tag x) rest h l e in
    omega (arith, encoded_length tag x)

pub find_in : (s : List ℕ) (from to tag : ℕ) (x rest : List ℕ) → eqb (tag % 32) 31 ≡ false → to - from < LIMIT → from ≤ to → to ≤ length s → part s from to ≡ encoding tag x ++ rest
    → Found s from to tag x rest
find_in s from to tag x rest low small h l e = find s from to tag x rest low (short_in s from to tag x rest h l small e) h l e

pub find_last_in : (s : List ℕ) (from to tag : ℕ) (x : List ℕ) → eqb (tag % 32) 31 ≡ false → to - from < LIMIT → from ≤ to → to ≤ length s → part s from to ≡ encoding tag x
    → Found s from to tag x [] × ((place_of from x).end ≡ to)
find_last_in s from to tag x low small h l e =
    let n : length (encoding tag x) ≡ to - from = sym (ap length e) ∙ part_length s from to l in
    find_last s from to tag x low (omega (arith, encoded_length tag x)) h l e
