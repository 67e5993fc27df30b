-- A value that was read and its encoding, both ways: what a reader of structures goes by. Assumes nothing.
use Prim.Native.Nat.{ℕ, ◌+◌, ◌-◌, ◌≤◌, ◌<◌}
use mathlib.Core.Path.{◌≡◌, refl, sym, ap, ◌∙◌}
use mathlib.Core.List.{List, ◌++◌}
use mathlib.Core.Bool.{false}
use lib.ListN.{length, length-append}
use native.Mathlib.Omega.{arith}
use Rattle.der.specs.declared.Span.{Span}
use Rattle.der.specs.Places.{Bytes, part, LIMIT}
use Rattle.der.specs.X690.{length_bytes, encoding}
use Rattle.der.specs.Model.{high_tag, read_value, expect_at, value_is}
use Rattle.der.proofs.Laws.{expect_value}
use Rattle.der.proofs.Parts.{part_length, part_front, part_tail}
use Rattle.der.proofs.Theorems.{value_places, value_low, accepted_is_encoded, encoded_is_accepted}
use Rattle.std.specs.Prelude.{Ok}

-- the value with the tag stands at `from`, its content from start to end, all of it before `to`
pub record Laid (s : List ℕ) (from to tag start end : ℕ) : Type 0 where
  pub within : to ≤ length s
  pub inside : end ≤ to
  pub ordered : start ≤ end
  pub after : from + 1 < start
  pub small : end - start < LIMIT
  pub low : high_tag tag ≡ false
  pub bytes : part s from end ≡ encoding tag (part s start end)

pub read_laid : (s : List ℕ) → Bytes s → (from to tag start end : ℕ) → read_value s from to ≡ value_is tag start end → Laid s from to tag start end
read_laid s b from to tag start end e =
    let p = value_places s from to tag start end e in
    let l = value_low s from to tag start end e in
    record {
      within = p.within;
      inside = p.inside;
      ordered = p.ordered;
      after = p.after;
      small = l.1;
      low = l.0;
      bytes = accepted_is_encoded s b from to tag start end e;
    }

pub expect_laid : (s : List ℕ) → Bytes s → (from to tag refusal : ℕ) (p : Span) → expect_at s from to tag refusal ≡ Ok p
    → Laid s from to tag p.start p.end
expect_laid s b from to tag refusal p e = read_laid s b from to tag p.start p.end (expect_value s from to tag refusal p e)

-- where a content is found again
pub record Found (s : List ℕ) (from to tag : ℕ) (content : List ℕ) (end : ℕ) : Type 0 where
  pub start : ℕ
  pub read : read_value s from to ≡ value_is tag start end
  pub is : part s start end ≡ content
  pub ordered : start ≤ end
  pub size : end - start ≡ length content
  pub place : start ≡ from + 1 + length (length_bytes (length content))

pub laid_read : (s : List ℕ) (from to tag : ℕ) (content : List ℕ) (end : ℕ) → high_tag tag ≡ false → length content < LIMIT → to ≤ length s → end ≤ to
    → part s from end ≡ encoding tag content → Found s from to tag content end
unfolding encoding
laid_read s from to tag content end low small within inside e =
    let n = length content in
    let k = length (length_bytes n) in
    let m : length (encoding tag content) ≡ 1 + k + n = simp length-append (omega arith) in
    let l : end - from ≡ length (encoding tag content) = sym (part_length s from end (omega arith)) ∙ ap length e in
    let f : from + length (encoding tag content) ≡ end = omega arith in
    let r = encoded_is_accepted s from to tag content low small within (omega arith) (rw f e) in
    let q : part s (from + 1) end ≡ length_bytes n ++ content = (part_tail s from end tag (length_bytes n ++ content) (omega arith) (omega arith) e).1 in
    let g = part_front s (from + 1) end (length_bytes n) content (omega arith) (omega arith) q in
    record {
      start = from + 1 + k;
      read = rw f at r;
      is = g.2;
      ordered = omega arith;
      size = omega arith;
      place = refl;
    }
