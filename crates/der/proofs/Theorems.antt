-- The reader accepts exactly the encodings, and no two lists of bytes encode the same. Assumes nothing.
use Prim.Native.Nat.{ℕ, ◌+◌, ◌-◌, ◌≤◌, ◌<◌}
use mathlib.Core.Path.{◌≡◌, sym, ap, ◌∙◌}
use mathlib.Core.List.{List}
use mathlib.Core.Bool.{false}
use lib.ListN.{length}
use native.Mathlib.Omega.{arith}
use Rattle.der.specs.Model.{high_tag, read_value, value_is}
use Rattle.der.specs.X690.{length_bytes, encoding}
use Rattle.der.specs.Places.{part, Bytes}
use Rattle.der.proofs.Invert.{value_inv}
use Rattle.der.proofs.Sound.{value_sound}
use Rattle.der.proofs.Complete.{value_complete}

pub accepted_is_encoded : (s : List ℕ) → Bytes s → (from to tag start end : ℕ) → read_value s from to ≡ value_is tag start end → part s from end ≡ encoding tag (part s start end)
unfolding read_value
accepted_is_encoded s b from to tag start end e = value_sound s b from to 65535 tag start end e

pub encoded_is_accepted : (s : List ℕ) (from to tag : ℕ) (content : List ℕ) → high_tag tag ≡ false → length content < 65535 → to ≤ length s
    → from + length (encoding tag content) ≤ to → part s from (from + length (encoding tag content)) ≡ encoding tag content
    → read_value s from to ≡ value_is tag (from + 1 + length (length_bytes (length content))) (from + length (encoding tag content))
unfolding read_value
encoded_is_accepted s from to tag content low short l r e = value_complete s from to 65535 tag content low short (omega arith) l r e

-- two accepted values of one tag and one content were written in the same bytes
pub one_encoding : (s s' : List ℕ) → Bytes s → Bytes s' → (from to start end from' to' start' end' tag : ℕ)
    → read_value s from to ≡ value_is tag start end → read_value s' from' to' ≡ value_is tag start' end' → part s start end ≡ part s' start' end'
    → part s from end ≡ part s' from' end'
one_encoding s s' b b' from to start end from' to' start' end' tag e e' same =
    accepted_is_encoded s b from to tag start end e ∙ ap (encoding tag) same ∙ sym (accepted_is_encoded s' b' from' to' tag start' end' e')

-- where an accepted value lies: what callers go by
pub record Places (s : List ℕ) (from to start end : ℕ) : Type 0 where
  pub within : to ≤ length s
  pub after : from + 1 < start
  pub ordered : start ≤ end
  pub inside : end ≤ to

pub value_places : (s : List ℕ) (from to tag start end : ℕ) → read_value s from to ≡ value_is tag start end → Places s from to start end
unfolding read_value
value_places s from to tag start end e =
    let v = value_inv s from to 65535 tag start end e in
    record { within = v.within; after = v.after; ordered = v.ordered; inside = v.inside }

pub value_low : (s : List ℕ) (from to tag start end : ℕ) → read_value s from to ≡ value_is tag start end → (high_tag tag ≡ false) × (end - start < 65535)
unfolding read_value
value_low s from to tag start end e =
    let v = value_inv s from to 65535 tag start end e in
    (v.low, v.short)
