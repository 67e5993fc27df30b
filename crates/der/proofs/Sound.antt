-- What the reader accepts is an encoding. Assumes nothing.
use Prim.Native.Nat.{ℕ, zero, suc, ◌+◌, ◌-◌, ◌*◌, ◌/◌, ◌%◌, ◌^◌, ◌≤◌, ◌<◌}
use mathlib.Core.Path.{◌≡◌, sym}
use mathlib.Core.List.{List}
use mathlib.Core.Logic.{⊎_elim}
use lib.ListN.{length, get_or}
use native.Mathlib.Omega.{arith}
use borrow.Author.Tests.{lt-ltb, le-ltb}
use Rattle.der.specs.Model.{number_at, least, read_length, read_limited, length_is, value_is}
use Rattle.der.specs.X690.{big_endian, octets_of, length_bytes, encoding}
use Rattle.der.specs.Places.{part, Bytes}
use Rattle.der.proofs.Laws.{number_below}
use Rattle.der.proofs.Parts.{part_length, part_split, part_more, part_cons, part_none}
use Rattle.der.proofs.Invert.{length_inv, value_inv}

-- the bytes that a number was read from are its encoding
pub number_bytes : (s : List ℕ) → Bytes s → (at k : ℕ) → at + k ≤ length s → big_endian k (number_at s at k) ≡ part s at (at + k)
unfolding big_endian number_at
number_bytes s b at zero h = let e : at + 0 ≡ at = omega arith in rw e (sym (part_none s at))
number_bytes s b at (suc k) h =
    let l : at + k < length s = omega arith in
    let q : (number_at s at k * 256 + get_or s (at + k) 0) / 256 ≡ number_at s at k = omega (arith, b (at + k)) in
    let r : (number_at s at k * 256 + get_or s (at + k) 0) % 256 ≡ get_or s (at + k) 0 = omega (arith, b (at + k)) in
    rw (q, r, part_more s at k l, number_bytes s b at k (omega arith))

-- a number of k bytes that none fewer hold
pub octets_is : (k n : ℕ) → 1 ≤ k → k ≤ 4 → least k ≤ n → n < 256 ^ k → (octets_of n ≡ k) × (128 ≤ n)
unfolding octets_of least
octets_is zero n h j a b = omega arith
octets_is (suc zero) n h j a b = (simp (lt-ltb n 256 b), a)
octets_is (suc (suc zero)) n h j a b = (simp (le-ltb n 256 a, lt-ltb n 65536 b), omega arith)
octets_is (suc (suc (suc zero))) n h j a b = (simp (le-ltb n 256 (omega arith), le-ltb n 65536 a, lt-ltb n 16777216 b), omega arith)
octets_is (suc (suc (suc (suc zero)))) n h j a b = (simp (le-ltb n 256 (omega arith), le-ltb n 65536 (omega arith), le-ltb n 16777216 a), omega arith)
octets_is (suc (suc (suc (suc (suc k))))) n h j a b = absurd (omega arith)

-- an accepted length stands there in its one encoding
pub length_sound : (s : List ℕ) → Bytes s → (at to len next : ℕ) → read_length s at to ≡ length_is len next → part s at next ≡ length_bytes len
unfolding length_bytes
length_sound s b at to len next e =
    let l = length_inv s at to len next e in
    ⊎_elim
    (λ h. rw (lt-ltb len 128 h.small, h.after, part_cons s at (at + 1) (omega arith) (omega arith), part_none, h.is))
    (λ h.
    let k = h.0 in
    let g = h.1 in
    let n : big_endian k len ≡ part s (at + 1) (at + 1 + k) = rw (← g.is) (number_bytes s b (at + 1) k (omega arith)) in
    let z : len < 256 ^ k = rw (← g.is) (number_below s b (at + 1) k) in
    let o = octets_is k len g.some g.few g.shortest z in
    rw (le-ltb len 128 o.1, o.0, n, g.after, part_cons s at (at + 1 + k) (omega arith) (omega arith), g.first))
    l.form

-- SOUND: what is accepted from `from` to `end` is the encoding of the tag and the content, so there is no other for them
pub value_sound : (s : List ℕ) → Bytes s → (from to limit tag start end : ℕ) → read_limited s from to limit ≡ value_is tag start end
    → part s from end ≡ encoding tag (part s start end)
unfolding encoding
value_sound s b from to limit tag start end e =
    let v = value_inv s from to limit tag start end e in
    let n : length (part s start end) ≡ end - start = part_length s start end (omega arith) in
    let l = length_sound s b (from + 1) to (end - start) start v.length_is in
    rw (part_cons s from end (omega arith) (omega arith), v.tag_is, n, part_split s (from + 1) start end (omega arith) (omega arith), l)
