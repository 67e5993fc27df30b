-- A budget is spent step by step as it is spent at once. Assumes nothing.
use Prim.Native.Nat.{ℕ, zero, suc, ◌+◌, ◌-◌, ◌≤◌, ◌<◌}
use mathlib.Core.Path.{◌≡◌, refl, sym, ap, ◌∙◌}
use mathlib.Core.Bool.{Bool, true, false, cond}
use mathlib.Core.Logic.{⊎_elim}
use lib.Dec.{eqb}
use native.Mathlib.Omega.{arith}
use borrow.Author.Tests.{lt-ltb, le-ltb, le-leb, lt-leb, eq-eqb, ne_eqb}
use Rattle.refusal.specs.Refusals.{maximum_name_constraint_comparisons_exceeded}
use Rattle.der.specs.Loop.{run, walk}
use Rattle.der.proofs.Laws.{lt_or_le}
use Rattle.entries.specs.Tally.{Spent, Tally, tally, after, spend}

pub enough : (left : ℕ) (t : Tally) → t.taken ≤ left → spend left t ≡ record { left = left - t.taken; refusal = t.refusal }
unfolding spend
enough left t h = rw (le-leb _ _ h)

pub lacking : (left : ℕ) (t : Tally) → left < t.taken → spend left t ≡ record { left = 0; refusal = maximum_name_constraint_comparisons_exceeded }
unfolding spend
lacking left t h = rw (lt-leb _ _ h)

-- nothing is taken
pub at_once : (left e : ℕ) → spend left (tally 0 e) ≡ record { left = left; refusal = e }
at_once left e = enough left (tally 0 e) (omega arith) ∙ (let z : left - 0 ≡ left = omega arith in rw z)

-- one is taken
pub one_taken : (left e : ℕ) → (left ≡ 0 → ⊥) → spend left (tally 1 e) ≡ record { left = left - 1; refusal = e }
one_taken left e n = enough left (tally 1 e) (omega arith)

-- a budget refusal is a refusal
lacks : (left : ℕ) (t : Tally) (x : Spent) → left < t.taken → spend left t ≡ x → x.refusal ≡ 0 → ⊥
lacks left t x h e z = let q : maximum_name_constraint_comparisons_exceeded ≡ 0 = cc (lacking left t h) in omega arith

-- ---- one check after another
module _ (left : ℕ) (a b : Tally) (x : Spent) (e : x ≡ spend left a) where
  pub refused_first : (x.refusal ≡ 0 → ⊥) → x ≡ spend left (after a b)
  unfolding after
  refused_first n =
      ⊎_elim
      (λ (l : left < a.taken).
      go (eqb a.refusal 0) l)
      (λ (l : a.taken ≤ left).
      let r : a.refusal ≡ 0 → ⊥ = (λ z. n (ap (λ (y : Spent). y.refusal) (e ∙ enough left a l) ∙ z)) in
      rw (ne_eqb _ _ r) e)
      (lt_or_le left a.taken)
    where
      go : (t : Bool) → left < a.taken → x ≡ spend left (cond t (tally (a.taken + b.taken) b.refusal) a)
      go true l = e ∙ lacking left a l ∙ sym (lacking left (tally (a.taken + b.taken) b.refusal) (omega arith))
      go false l = e

  pub passed_first : x.refusal ≡ 0 → spend x.left b ≡ spend left (after a b)
  unfolding after
  passed_first z =
      ⊎_elim
      (λ (l : left < a.taken). absurd (lacks left a x l (sym e) z))
      (λ (l : a.taken ≤ left).
      let f = e ∙ enough left a l in
      let r : a.refusal ≡ 0 = sym (ap (λ (y : Spent). y.refusal) f) ∙ z in
      let k : x.left ≡ left - a.taken = ap (λ (y : Spent). y.left) f in
      rw (eq-eqb _ _ r) (both k l))
      (lt_or_le left a.taken)
    where
      both : x.left ≡ left - a.taken → a.taken ≤ left → spend x.left b ≡ spend left (tally (a.taken + b.taken) b.refusal)
      both k l =
          ⊎_elim
          (λ (m : x.left < b.taken). lacking x.left b m ∙ sym (lacking left (tally (a.taken + b.taken) b.refusal) (omega arith)))
          (λ (m : b.taken ≤ x.left).
          let q : x.left - b.taken ≡ left - (a.taken + b.taken) = omega arith in
          enough x.left b m ∙ (rw q refl) ∙ sym (enough left (tally (a.taken + b.taken) b.refusal) (omega arith)))
          (lt_or_le x.left b.taken)

-- ---- a walk of such checks: what is left of it, with what is left of the budget, has the whole walk's answer
module _ {S : Type 0} (to : ℕ) (done : ℕ → S → Tally) (step : ℕ → S → (ℕ → S → Tally) → Tally) where
  pub record Paying (r : Spent) (left at : ℕ) (s : S) : Type 0 where
    pub fuel : ℕ
    pub enough : to - at ≤ fuel
    pub answer : spend left (run to done step fuel at s) ≡ r

  pub begins : (left from : ℕ) (s : S) → Paying (spend left (walk to done step from s)) left from s
  unfolding walk
  begins left from s = record { fuel = to - from; enough = omega arith; answer = refl }

  step_of : (left fuel at : ℕ) (s : S) (r : Spent) → at < to → to - at ≤ fuel → spend left (run to done step fuel at s) ≡ r
      → (f : ℕ) × (to - at ≤ suc f) × (spend left (step at s (run to done step f)) ≡ r)
  unfolding run
  step_of left zero at s r l h e = absurd (omega arith)
  step_of left (suc f) at s r l h e = (f, h, rw (lt-ltb at to l) at e)

  -- a check that refuses nothing, and the walk goes on
  pub pays : {r : Spent} (left at at' : ℕ) (s s' : S) (t : Tally) (x : Spent) → Paying r left at s → at < to → at < at'
      → ((k : ℕ → S → Tally) → step at s k ≡ after t (k at' s')) → x ≡ spend left t → x.refusal ≡ 0 → Paying r x.left at' s'
  pays {r} left at at' s s' t x g l m e p z =
      let q = step_of left g.fuel at s r l g.enough g.answer in
      record {
        fuel = q.0;
        enough = omega arith;
        answer = passed_first left t (run to done step q.0 at' s') x p z ∙ sym (ap (spend left) (e (run to done step q.0))) ∙ q.2;
      }

  -- a check that refuses
  pub refuses : {r : Spent} (left at at' : ℕ) (s s' : S) (t : Tally) (x : Spent) → Paying r left at s → at < to
      → ((k : ℕ → S → Tally) → step at s k ≡ after t (k at' s')) → x ≡ spend left t → (x.refusal ≡ 0 → ⊥) → x ≡ r
  refuses {r} left at at' s s' t x g l e p n =
      let q = step_of left g.fuel at s r l g.enough g.answer in
      refused_first left t (run to done step q.0 at' s') x p n ∙ sym (ap (spend left) (e (run to done step q.0))) ∙ q.2

  -- a step that ends the walk
  pub stops : {r : Spent} (left at : ℕ) (s : S) (t : Tally) → Paying r left at s → at < to → ((k : ℕ → S → Tally) → step at s k ≡ t) → spend left t ≡ r
  stops {r} left at s t g l e =
      let q = step_of left g.fuel at s r l g.enough g.answer in
      sym (ap (spend left) (e (run to done step q.0))) ∙ q.2

  -- no comparison is left, and each step takes one
  pub broke : {r : Spent} (left at : ℕ) (s : S) → Paying r left at s → at < to → left ≡ 0 → ((k : ℕ → S → Tally) → 0 < (step at s k).taken)
      → record { left = 0; refusal = maximum_name_constraint_comparisons_exceeded } ≡ r
  broke {r} left at s g l z e =
      let q = step_of left g.fuel at s r l g.enough g.answer in
      sym (lacking left _ (omega (arith, e (run to done step q.0)))) ∙ q.2

  ends_at : (fuel at : ℕ) (s : S) → to ≤ at → run to done step fuel at s ≡ done at s
  unfolding run
  ends_at zero at s h = refl
  ends_at (suc f) at s h = rw (le-ltb at to h)

  pub ends : {r : Spent} (left at : ℕ) (s : S) → Paying r left at s → to ≤ at → spend left (done at s) ≡ r
  ends left at s g h = sym (ap (spend left) (ends_at g.fuel at s h)) ∙ g.answer
