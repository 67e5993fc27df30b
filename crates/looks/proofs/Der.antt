-- What a header costs to read: no more than its bytes; and what a comparison costs. Assumes nothing.
use Prim.Native.Nat.{ℕ, zero, suc, ◌+◌, ◌-◌, ◌*◌, ◌≤◌, ◌<◌}
use mathlib.Core.Path.{◌≡◌, refl}
use mathlib.Core.List.{List, [], ◌∷◌}
use mathlib.Core.Bool.{Bool, true, false, cond}
use mathlib.Core.Logic.{⊎_elim}
use lib.ListN.{length, get_or}
use lib.Dec.{ltb, leb, eqb}
use native.Mathlib.Omega.{arith}
use borrow.Author.Tests.{ltb-true, ltb-false, leb-false, eqb-true}
use Rattle.der.specs.declared.Span.{Span}
use Rattle.der.specs.Places.{part}
use Rattle.der.specs.Model.{high_tag, read_length, read_value, expect_at, on_content, length_is}
use Rattle.der.specs.Loop.{run, walk}
use Rattle.looks.specs.Der.{nothing, long_looks, first_looks, length_looks, value_looks, pair_looks, same_looks}
use Rattle.der.proofs.Laws.{expect_value}
use Rattle.der.proofs.Invert.{length_inv, value_inv}
use Rattle.der.proofs.Parts.{part_length}
use Rattle.std.specs.Prelude.{Ok, Err, Result}

-- a choice between two numbers is no more than m if either is not
pub at_most : (b : Bool) {x y m : ℕ} → (b ≡ true → x ≤ m) → (b ≡ false → y ≤ m) → cond b x y ≤ m
at_most true h k = h refl
at_most false h k = k refl

-- ---- a header
long_few : (at to k : ℕ) → (long_looks at to k ≤ k) × (long_looks at to k ≤ to - at - 1)
unfolding long_looks
long_few at to k = (
  at_most (leb (to - at) k) (λ e. omega arith) (λ e. omega arith),
  at_most (leb (to - at) k) (λ e. omega arith) (λ e. omega (arith, leb-false (to - at) k e)),
)

first_few : (at to b : ℕ) → (first_looks at to b ≤ b - 128) × (first_looks at to b ≤ to - at - 1)
unfolding first_looks
first_few at to b =
    let l = long_few at to (b - 128) in (
      at_most (ltb b 128) (λ e. omega arith) (λ e. at_most (ltb b 129) (λ f. omega arith) (λ f. at_most (ltb 132 b) (λ g. omega arith) (λ g. l.0))),
      at_most (ltb b 128) (λ e. omega arith) (λ e. at_most (ltb b 129) (λ f. omega arith) (λ f. at_most (ltb 132 b) (λ g. omega arith) (λ g. l.1))),
    )

length_few : (s : List ℕ) (at to : ℕ) → (length_looks s at to ≤ 1 + (get_or s at 0 - 128)) × (length_looks s at to ≤ to - at)
unfolding length_looks
length_few s at to =
    let l = first_few at to (get_or s at 0) in (
      at_most (ltb (length s) to) (λ e. omega arith) (λ e. at_most (leb to at) (λ f. omega arith) (λ f. omega arith)),
      at_most (ltb (length s) to) (λ e. omega arith) (λ e. at_most (leb to at) (λ f. omega arith) (λ f. omega (arith, leb-false to at f))),
    )

-- a length that is read costs the bytes up to the place after it
length_cost : (s : List ℕ) (at to len next : ℕ) → read_length s at to ≡ length_is len next → length_looks s at to ≤ next - at
length_cost s at to len next e =
    let l = length_few s at to in
    ⊎_elim (λ h. omega arith) (λ h. omega (arith, h.1.first, h.1.after)) (length_inv s at to len next e).form

-- what is between the places bounds a header that is looked for
pub value_few : (s : List ℕ) (from to : ℕ) → value_looks s from to ≤ to - from
unfolding value_looks
value_few s from to =
    let l = length_few s (from + 1) to in
    at_most (ltb (length s) to) (λ e. omega arith) (λ e.
    at_most (leb to from) (λ f. omega arith) (λ f.
    let b = leb-false to from f in
    let m : cond (high_tag (get_or s from 0)) 0 (length_looks s (from + 1) to) ≤ to - (from + 1) = at_most (high_tag (get_or s from 0)) (λ g. omega arith) (λ g. l.1) in
    omega arith))

value_most : (s : List ℕ) (from to : ℕ) → value_looks s from to ≤ 1 + length_looks s (from + 1) to
unfolding value_looks
value_most s from to =
    at_most (ltb (length s) to) (λ e. omega arith) (λ e.
    at_most (leb to from) (λ f. omega arith) (λ f.
    let m : cond (high_tag (get_or s from 0)) 0 (length_looks s (from + 1) to) ≤ length_looks s (from + 1) to = at_most (high_tag (get_or s from 0)) (λ g. omega arith) (λ g. omega arith) in
    omega arith))

-- a content that is found costs the header before it
pub record Headed (s : List ℕ) (from to start end : ℕ) : Type 0 where
  pub cost : value_looks s from to + from ≤ start
  pub within : to ≤ length s
  pub after : from + 1 < start
  pub ordered : start ≤ end
  pub inside : end ≤ to

pub expect_cost : (s : List ℕ) (from to tag refusal : ℕ) (p : Span) → expect_at s from to tag refusal ≡ Ok p → Headed s from to p.start p.end
unfolding read_value
expect_cost s from to tag refusal p e =
    let v = value_inv s from to 65535 tag p.start p.end (expect_value s from to tag refusal p e) in
    let l = length_cost s (from + 1) to (p.end - p.start) p.start v.length_is in
    record {
      cost = omega (arith, value_most s from to, v.after);
      within = v.within;
      after = v.after;
      ordered = v.ordered;
      inside = v.inside;
    }

-- what is looked at after a content
pub content_then : (g : Result Span ℕ) (k : ℕ → ℕ → ℕ) (P : ℕ → Type 0) → P 0 → ((p : Span) → g ≡ Ok p → P (k p.start p.end)) → P (on_content g nothing k)
unfolding on_content
content_then (Ok p) k P z h = h p refl
content_then (Err e) k P z h = z

pub expect_then : (s : List ℕ) (from to tag refusal : ℕ) (k : ℕ → ℕ → ℕ) (P : ℕ → Type 0) → P 0 → ((a b : ℕ) → Headed s from to a b → P (k a b))
    → P (on_content (expect_at s from to tag refusal) nothing k)
expect_then s from to tag refusal k P z h =
    content_then (expect_at s from to tag refusal) k P z (λ p e. h p.start p.end (expect_cost s from to tag refusal p e))

-- what is looked at after a test
pub test_then : (b : Bool) (x : ℕ) (P : ℕ → Type 0) → P 0 → (b ≡ true → P x) → P (cond b x 0)
test_then true x P z h = h refl
test_then false x P z h = z

-- ---- a comparison
pair_few : (xs ys : List ℕ) → pair_looks xs ys ≤ 2 * length xs
unfolding pair_looks
pair_few [] ys = omega arith
pair_few (x ∷ xs) [] = omega arith
pair_few (x ∷ xs) (y ∷ ys) =
    let l = pair_few xs ys in
    let m : cond (eqb x y) (pair_looks xs ys) 0 ≤ 2 * length xs = at_most (eqb x y) (λ e. l) (λ e. omega arith) in
    omega arith

-- each byte of the two parts once
pub same_few : (s : List ℕ) (a b : ℕ) (t : List ℕ) (c d : ℕ) → same_looks s a b t c d ≤ (b - a) + (d - c)
unfolding same_looks
same_few s a b t c d =
    at_most (ltb b a) (λ e. omega arith) (λ e.
    at_most (ltb (length s) b) (λ f. omega arith) (λ f.
    at_most (ltb d c) (λ g. omega arith) (λ g.
    at_most (ltb (length t) d) (λ h. omega arith) (λ h.
    at_most (eqb (b - a) (d - c))
    (λ i. omega (arith, pair_few (part s a b) (part t c d), part_length s a b (ltb-false (length s) b f), eqb-true (b - a) (d - c) i))
    (λ i. omega arith)))))

-- ---- a walk
module _ {S R : Type 0} (to : ℕ) (done : ℕ → S → R) (step : ℕ → S → (ℕ → S → R) → R) where
  module _ (P : ℕ → R → Type 0) (ends : (at : ℕ) (s : S) → P at (done at s))
      (goes : (at : ℕ) (s : S) (k : ℕ → S → R) → at < to → ((a : ℕ) (x : S) → P a (k a x)) → P at (step at s k)) where
    run_keeps : (fuel at : ℕ) (s : S) → P at (run to done step fuel at s)
    unfolding run
    run_keeps zero at s = ends at s
    run_keeps (suc fuel) at s = by (ltb at to) refl (run_keeps fuel)
      where
        by : (t : Bool) → ltb at to ≡ t → ((a : ℕ) (x : S) → P a (run to done step fuel a x)) → P at (cond t (step at s (run to done step fuel)) (done at s))
        by true e r = goes at s (run to done step fuel) (ltb-true at to e) r
        by false e r = ends at s

    -- what holds at the end of a walk, and of a step if it holds of what comes after it, holds of the walk
    pub walk_keeps : (from : ℕ) (s : S) → P from (walk to done step from s)
    unfolding walk
    walk_keeps from s = run_keeps (to - from) from s
