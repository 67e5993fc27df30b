-- What an accepted length and an accepted value say of the bytes, test by test. Assumes nothing.
use Prim.Native.Nat.{ℕ, ◌+◌, ◌-◌, ◌≤◌, ◌<◌}
use mathlib.Core.Path.{◌≡◌, refl, sym, ap}
use mathlib.Core.List.{List}
use mathlib.Core.Bool.{Bool, true, false, cond}
use mathlib.Core.Logic.{◌⊎◌, inl, inr, ⊎_elim}
use lib.ListN.{length, get_or}
use lib.Dec.{ltb, leb}
use native.Mathlib.Omega.{arith}
use borrow.Author.Tests.{ltb-true, ltb-false, leb-false}
use Rattle.der.specs.Model.{high_tag, number_at, least, long_form, by_first, read_length, with_length, read_limited, length_is, value_is}
use Rattle.std.specs.Prelude.{None, Some, Option, Ok, Result}
use Rattle.std.proofs.lemmas.Option.{none-some, same_Some}
use Rattle.der.specs.declared.Length.{Length}
use Rattle.der.specs.declared.Value.{Value}

-- an answer that is not the first branch's is the second's
pub peel : {A : Type 0} (b : Bool) {x y z : A} → cond b x y ≡ z → (x ≡ z → ⊥) → (b ≡ false) × (y ≡ z)
peel true e other = absurd (other e)
peel false e other = (refl, e)

-- an answer is one of the two branches'
pub either : {A : Type 0} (b : Bool) {x y z : A} → cond b x y ≡ z → ((b ≡ true) × (x ≡ z)) ⊎ ((b ≡ false) × (y ≡ z))
either true e = inl (refl, e)
either false e = inr (refl, e)

pub same_ok : {A E : Type 0} {x y : A} → ◌≡◌ {A = Result A E} (Ok x) (Ok y) → x ≡ y
same_ok e = cc e

pub ok_pair_parts : {A B E : Type 0} {a c : A} {b d : B} → ◌≡◌ {A = Result (A × B) E} (Ok (a, b)) (Ok (c, d)) → (a ≡ c) × (b ≡ d)
ok_pair_parts e =
    let p = same_ok e in
    (ap (λ q. q.0) p, ap (λ q. q.1) p)

-- equal lengths, and equal values, have equal parts
pub same_length : {l n l' n' : ℕ} → length_is l n ≡ length_is l' n' → (l ≡ l') × (n ≡ n')
same_length e =
    let p = same_Some _ _ e in
    (ap (λ (v : Length). v.len) p, ap (λ (v : Length). v.next) p)

pub same_value : {t a b t' a' b' : ℕ} → value_is t a b ≡ value_is t' a' b' → (t ≡ t') × (a ≡ a') × (b ≡ b')
same_value e =
    let p = same_Some _ _ e in
    (ap (λ (v : Value). v.tag) p, ap (λ (v : Value). v.start) p, ap (λ (v : Value). v.end) p)

-- a length of the short form
pub record Short (s : List ℕ) (at len next : ℕ) : Type 0 where
  pub is : get_or s at 0 ≡ len
  pub small : len < 128
  pub after : next ≡ at + 1

-- a length of k bytes after the first
pub record Long (s : List ℕ) (at to len next k : ℕ) : Type 0 where
  pub first : get_or s at 0 ≡ 128 + k
  pub some : 1 ≤ k
  pub few : k ≤ 4
  pub room : at + k < to
  pub is : number_at s (at + 1) k ≡ len
  pub shortest : least k ≤ len
  pub after : next ≡ at + 1 + k

pub record LengthAt (s : List ℕ) (at to len next : ℕ) : Type 0 where
  pub within : to ≤ length s
  pub before : at < to
  pub form : Short s at len next ⊎ ((k : ℕ) × Long s at to len next k)

long_inv : (s : List ℕ) (at to len next k : ℕ) → long_form s at to k ≡ length_is len next
    → (at + k < to) × (number_at s (at + 1) k ≡ len) × (least k ≤ len) × (next ≡ at + 1 + k)
unfolding long_form
long_inv s at to len next k e =
    let p = peel (leb (to - at) k) e (none-some _) in
    let q = peel (ltb (number_at s (at + 1) k) (least k)) p.1 (none-some _) in
    let l = same_length q.1 in
    (omega (arith, leb-false (to - at) k p.0), l.0, omega (arith, l.0, ltb-false (number_at s (at + 1) k) (least k) q.0), sym l.1)

first_inv : (s : List ℕ) (at to len next : ℕ) → by_first s at to (get_or s at 0) ≡ length_is len next
    → Short s at len next ⊎ ((k : ℕ) × Long s at to len next k)
unfolding by_first
first_inv s at to len next e =
    ⊎_elim
    (λ p.
    let l = same_length p.1 in
    inl (record {
      is = l.0;
      small = omega (arith, l.0, ltb-true (get_or s at 0) 128 p.0);
      after = sym l.1;
    }))
    (λ p.
    let q = peel (ltb (get_or s at 0) 129) p.1 (none-some _) in
    let r = peel (ltb 132 (get_or s at 0)) q.1 (none-some _) in
    let l = long_inv s at to len next (get_or s at 0 - 128) r.1 in
    let lo : 129 ≤ get_or s at 0 = ltb-false _ _ q.0 in
    let hi : get_or s at 0 ≤ 132 = ltb-false _ _ r.0 in
    inr (
      get_or s at 0 - 128,
      record {
        first = omega arith;
        some = omega arith;
        few = omega arith;
        room = l.0;
        is = l.1;
        shortest = l.2;
        after = l.3;
      },
    ))
    (either (ltb (get_or s at 0) 128) e)

pub length_inv : (s : List ℕ) (at to len next : ℕ) → read_length s at to ≡ length_is len next → LengthAt s at to len next
unfolding read_length
length_inv s at to len next e =
    let p = peel (ltb (length s) to) e (none-some _) in
    let q = peel (leb to at) p.1 (none-some _) in
    record {
      within = ltb-false _ _ p.0;
      before = leb-false _ _ q.0;
      form = first_inv s at to len next q.1;
    }

-- the place after an accepted length is in reach
pub length_next : (s : List ℕ) (at to len next : ℕ) → read_length s at to ≡ length_is len next → (at < next) × (next ≤ to)
length_next s at to len next e =
    let l = length_inv s at to len next e in
    ⊎_elim (λ h. omega arith) (λ h. omega arith) l.form

-- an accepted value: its tag, its length and the room for its content
pub record ValueAt (s : List ℕ) (from to limit tag start end : ℕ) : Type 0 where
  pub within : to ≤ length s
  pub before : from < to
  pub tag_is : get_or s from 0 ≡ tag
  pub low : high_tag tag ≡ false
  pub length_is : read_length s (from + 1) to ≡ length_is (end - start) start
  pub short : end - start < limit
  pub ordered : start ≤ end
  pub inside : end ≤ to
  pub after : from + 1 < start

with_inv : (s : List ℕ) (at to limit tag t start end : ℕ) (l : Option Length) → read_length s at to ≡ l → with_length tag to limit l ≡ value_is t start end
    → (tag ≡ t) × (read_length s at to ≡ length_is (end - start) start) × (end - start < limit) × (start ≤ end) × (end ≤ to) × (at < start)
unfolding with_length
with_inv s at to limit tag t start end (Some v) h e =
    let p = peel (leb limit v.len) e (none-some _) in
    let q = peel (ltb (to - v.next) v.len) p.1 (none-some _) in
    let m = same_value q.1 in
    let a : tag ≡ t = m.0 in
    let b : v.next ≡ start = m.1 in
    let d : v.next + v.len ≡ end = m.2 in
    let n = length_next s at to v.len v.next h in
    let f : v.len < limit = leb-false _ _ p.0 in
    let g : v.len ≤ to - v.next = ltb-false _ _ q.0 in
    let len_is : v.len ≡ end - start = omega arith in
    (a, rw (h, len_is, b), omega arith, omega arith, omega arith, omega arith)
with_inv s at to limit tag t start end None h e = absurd (none-some _ e)

pub value_inv : (s : List ℕ) (from to limit tag start end : ℕ) → read_limited s from to limit ≡ value_is tag start end → ValueAt s from to limit tag start end
unfolding read_limited
value_inv s from to limit tag start end e =
    let p = peel (ltb (length s) to) e (none-some _) in
    let q = peel (leb to from) p.1 (none-some _) in
    let r = peel (high_tag (get_or s from 0)) q.1 (none-some _) in
    let w = with_inv s (from + 1) to limit (get_or s from 0) tag start end (read_length s (from + 1) to) refl r.1 in
    record {
      within = ltb-false _ _ p.0;
      before = leb-false _ _ q.0;
      tag_is = w.0;
      low = rw w.0 at r.0;
      length_is = w.1;
      short = w.2;
      ordered = w.3;
      inside = w.4;
      after = w.5;
    }
