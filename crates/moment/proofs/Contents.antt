-- Where the content of a value lies. Assumes nothing.
use Prim.Native.Nat.{ℕ, ◌+◌, ◌-◌, ◌≤◌, ◌<◌}
use mathlib.Core.Path.{◌≡◌, sym, ap, ◌∙◌}
use mathlib.Core.List.{List, ◌∷◌}
use mathlib.Core.Bool.{false}
use lib.ListN.{length, length-append}
use native.Mathlib.Omega.{arith}
use Rattle.der.specs.declared.Span.{Span}
use Rattle.der.specs.Places.{part}
use Rattle.der.specs.X690.{length_bytes, encoding}
use Rattle.der.specs.Model.{high_tag, read_value, expect_at, value_is}
use Rattle.der.proofs.Laws.{expect_value}
use Rattle.der.proofs.Parts.{part_length, part_front}
use Rattle.der.proofs.Theorems.{value_places, encoded_is_accepted}
use Rattle.std.specs.Prelude.{Ok}

-- a content that was looked for lies within the bytes
pub content_within : (s : List ℕ) (from to tag refusal : ℕ) (p : Span) → expect_at s from to tag refusal ≡ Ok p
    → (p.start ≤ p.end) × (p.end ≤ length s)
content_within s from to tag refusal p e =
    let v = value_places s from to tag p.start p.end (expect_value s from to tag refusal p e) in
    (omega arith, omega arith)

-- an encoding is read as a value with its content
pub record EncodedAt (s : List ℕ) (from to next tag : ℕ) (content : List ℕ) : Type 0 where
  pub start : ℕ
  pub found : read_value s from to ≡ value_is tag start next
  pub ordered : start ≤ next
  pub content_is : part s start next ≡ content

encoding_length : (tag : ℕ) (content : List ℕ) → length (encoding tag content) ≡ 1 + length (length_bytes (length content)) + length content
unfolding encoding
encoding_length tag content = simp length-append (omega arith)

pub encoded_at : (s : List ℕ) (from to next tag : ℕ) (content : List ℕ) → high_tag tag ≡ false → length content < 65535 → next ≤ to → to ≤ length s → part s from next ≡ encoding tag content → EncodedAt s from to next tag content
unfolding encoding
encoded_at s from to next tag content low short h l e =
    let k = length (length_bytes (length content)) in
    let m = encoding_length tag content in
    let all : next - from ≡ 1 + k + length content = sym (part_length s from next (omega arith)) ∙ ap length e ∙ m in
    let end : from + length (encoding tag content) ≡ next = omega arith in
    let f = part_front s from next (tag ∷ length_bytes (length content)) content (omega arith) (omega arith) e in
    let start : from + length (tag ∷ length_bytes (length content)) ≡ from + 1 + k = omega arith in
    record {
      start = from + 1 + k;
      found = rw end at (encoded_is_accepted s from to tag content low short l (omega arith) (rw end e));
      ordered = omega arith;
      content_is = rw start at f.2;
    }
