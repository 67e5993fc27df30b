-- THEOREMS: the reader of lengths and values accepts exactly the encodings of X.690, each with its places. Assumes nothing.
use Prim.Native.Nat.{ℕ, ◌+◌, ◌-◌, ◌%◌, ◌^◌, ◌≤◌, ◌<◌}
use mathlib.Core.Path.{◌≡◌, sym, ap, ◌∙◌}
use mathlib.Core.List.{List}
use mathlib.Core.Bool.{false}
use mathlib.Core.Logic.{⊎_elim}
use lib.ListN.{length}
use native.Mathlib.Omega.{arith}
use native.Mathlib.Nat.{pow-le-pow_right}
use lib.Dec.{lit<}
use borrow.Author.Tests.{ne_eqb, eqb-false}
use Rattle.der.specs.Places.{Bytes, part}
use Rattle.der.specs.X690.{OneOctet, Minimal, length_bytes, encoding}
use Rattle.der.specs.Model.{high_tag, read_length, read_limited, length_is as the_length, value_is as the_value}
use Rattle.der.proofs.Laws.{number_below}
use Rattle.der.proofs.Parts.{part_length}
use Rattle.der.proofs.Invert.{length_inv, length_next, value_inv}
use Rattle.der.proofs.Sound.{length_sound, value_sound}
use Rattle.der.proofs.Complete.{length_complete, value_complete}
use Rattle.der.proofs.Minimum.{minimal, minimal_is}

-- ---- lengths: n stands at `at`, in its minimal form, and `next` is the place after it
pub record LengthThere (s : List ℕ) (at to n next : ℕ) : Type 0 where
  pub within : to ≤ length s
  pub inside : next ≤ to
  pub ahead : at ≤ next
  pub small : n < 2 ^ 32
  pub form : Minimal n (part s at next)

length_small : (s : List ℕ) → Bytes s → (at to n next : ℕ) → read_length s at to ≡ the_length n next → n < 2 ^ 32
length_small s b at to n next e =
    ⊎_elim
    (λ h. omega (arith, h.small))
    (λ h.
    let k = h.0 in
    let g = h.1 in
    let z : n < 256 ^ k = rw (← g.is) (number_below s b (at + 1) k) in
    let m : 256 ^ k ≤ 256 ^ 4 = pow-le-pow_right {n = 256} (lit< tt) {i = k} {j = 4} g.few in
    omega arith)
    (length_inv s at to n next e).form

pub length_is : (s : List ℕ) → Bytes s → (at to n next : ℕ) → read_length s at to ≡ the_length n next → LengthThere s at to n next
length_is s b at to n next e =
    let l = length_inv s at to n next e in
    let p = length_next s at to n next e in
    let small = length_small s b at to n next e in
    record {
      within = l.within;
      inside = p.1;
      ahead = omega arith;
      small = small;
      form = rw (length_sound s b at to n next e) (minimal n small);
    }

pub is_length : (s : List ℕ) (at to n next : ℕ) → LengthThere s at to n next → read_length s at to ≡ the_length n next
is_length s at to n next t =
    let e : part s at next ≡ length_bytes n = minimal_is n t.small (part s at next) t.form in
    let l : next ≡ at + length (length_bytes n) = omega (arith, t.inside, t.within, sym (part_length s at next (omega (arith, t.inside, t.within))) ∙ ap length e, t.ahead) in
    rw l (length_complete s at to n t.small t.within (omega (arith, t.inside)) (rw l at e))

-- ---- values: one with the tag stands at `from`, its content from start to end
pub record ValueThere (s : List ℕ) (from to limit tag start end : ℕ) : Type 0 where
  pub within : to ≤ length s
  pub inside : end ≤ to
  pub ordered : start ≤ end
  pub low : OneOctet tag
  pub short : end - start < limit
  pub small : end - start < 2 ^ 32
  pub bytes : part s from end ≡ encoding tag (part s start end)
  pub place : start ≡ from + 1 + length (length_bytes (end - start))

pub high_no : (tag : ℕ) → OneOctet tag → high_tag tag ≡ false
unfolding high_tag
high_no tag h = ne_eqb (tag % 32) 31 h

pub no_high : (tag : ℕ) → high_tag tag ≡ false → OneOctet tag
unfolding high_tag
no_high tag h = eqb-false (tag % 32) 31 h

pub value_is : (s : List ℕ) → Bytes s → (from to limit tag start end : ℕ) → read_limited s from to limit ≡ the_value tag start end
    → ValueThere s from to limit tag start end
value_is s b from to limit tag start end e =
    let v = value_inv s from to limit tag start end e in
    let t = length_is s b (from + 1) to (end - start) start v.length_is in
    let q : part s (from + 1) start ≡ length_bytes (end - start) = length_sound s b (from + 1) to (end - start) start v.length_is in
    record {
      within = v.within;
      inside = v.inside;
      ordered = v.ordered;
      low = no_high tag v.low;
      short = v.short;
      small = t.small;
      bytes = value_sound s b from to limit tag start end e;
      place = omega (arith, v.after, v.inside, v.within, v.ordered, sym (part_length s (from + 1) start (omega (arith, v.inside, v.within, v.ordered))) ∙ ap length q);
    }

pub is_value : (s : List ℕ) (from to limit tag start end : ℕ) → ValueThere s from to limit tag start end → read_limited s from to limit ≡ the_value tag start end
unfolding encoding
is_value s from to limit tag start end t =
    let c = part s start end in
    let n : length c ≡ end - start = part_length s start end (omega (arith, t.inside, t.within)) in
    let k = length (length_bytes (end - start)) in
    let l : length (encoding tag c) ≡ end - from = sym (ap length t.bytes) ∙ part_length s from end (omega (arith, t.inside, t.within)) in
    let h : from + 1 + k + (end - start) ≡ end = omega (arith, t.place, t.ordered) in
    let f : from + length (encoding tag c) ≡ end = omega arith in
    let a : from + 1 + length (length_bytes (length c)) ≡ start = rw n (sym t.place) in
    let r = value_complete s from to limit tag c (high_no tag t.low) (rw n t.short) (rw n t.small) t.within (omega (arith, t.inside)) (rw f t.bytes) in
    rw (f, a) at r
