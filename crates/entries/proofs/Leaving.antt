-- What a function answers and leaves of the comparisons that it is lent, one check after another. Assumes nothing.
use Prim.Native.Nat.{ℕ, zero, suc}
use mathlib.Core.Path.{◌≡◌, refl, sym, ap, ◌∙◌}
use native.Mathlib.Omega.{arith}
use Rattle.std.specs.Prelude.{Ok, Err, Result}
use Rattle.refusal.specs.Model.{outcome}
use Rattle.refusal.proofs.Laws.{outcome_ok, outcome_err, outcome_none, outcome_some}
use Rattle.entries.specs.Tally.{Spent, Tally, tally, clean, after, spend, Leaves}
use Rattle.entries.proofs.Spending.{at_once, refused_first, passed_first}

-- an answer that is a refusal is not that of 0
err_some : (n e : ℕ) → outcome n ≡ Err e → n ≡ 0 → ⊥
unfolding outcome
err_some zero e h z = cc h
err_some (suc n) e h z = omega arith

-- the same of another check that leaves as much
pub alike : {left left' new : ℕ} {r : Result (Unit {0}) ℕ} {t t' : Tally} → Leaves left new r t → spend left t ≡ spend left' t' → Leaves left' new r t'
alike l e = record { answer = l.answer ∙ ap (λ (x : Spent). outcome x.refusal) e; rest = l.rest ∙ ap (λ (x : Spent). x.left) e }

pub along : {left new : ℕ} {r : Result (Unit {0}) ℕ} {t t' : Tally} → t' ≡ t → Leaves left new r t → Leaves left new r t'
along {left} e l = alike l (sym (ap (spend left) e))

-- so much is left, and this is the refusal, or 0
pub answers : {left : ℕ} {t : Tally} (new e : ℕ) → record { left = new; refusal = e } ≡ spend left t → Leaves left new (outcome e) t
answers new e h = record { answer = ap (λ (x : Spent). outcome x.refusal) h; rest = ap (λ (x : Spent). x.left) h }

pub passes : {left : ℕ} {t : Tally} (new : ℕ) → record { left = new; refusal = 0 } ≡ spend left t → Leaves left new (Ok tt) t
passes new h = rw outcome_none at (answers new 0 h)

pub refuses_by : {left : ℕ} {t : Tally} (new e : ℕ) → (e ≡ 0 → ⊥) → record { left = new; refusal = e } ≡ spend left t → Leaves left new (Err e) t
refuses_by new e n h = rw (outcome_some e (omega arith)) at (answers new e h)

-- nothing is taken
pub nothing : (left : ℕ) → Leaves left left (Ok tt) clean
nothing left = passes left (sym (at_once left 0))

pub refused_at_once : (left e : ℕ) → (e ≡ 0 → ⊥) → Leaves left left (Err e) (tally 0 e)
refused_at_once left e n = refuses_by left e n (sym (at_once left e))

-- ---- one check, and if it refuses nothing the next
pub passed : {left new : ℕ} {t : Tally} → Leaves left new (Ok tt) t → (spend left t).refusal ≡ 0
passed l = outcome_ok _ (sym l.answer)

pub refused : {left new e : ℕ} {t : Tally} → Leaves left new (Err e) t → (spend left t).refusal ≡ 0 → ⊥
refused {left} {new} {e} {t} l = err_some _ e (sym l.answer)

pub refused_by : {left new e : ℕ} {t : Tally} → Leaves left new (Err e) t → (spend left t).refusal ≡ e
refused_by l = outcome_err _ _ (sym l.answer)

pub first_refused : {left new e : ℕ} {a : Tally} (b : Tally) → Leaves left new (Err e) a → Leaves left new (Err e) (after a b)
first_refused {left} {new} {e} {a} b l = alike l (refused_first left a b _ refl (refused l))

-- the check passes: what is left has the next to answer for
pub goes_on : {left mid : ℕ} {a : Tally} (b : Tally) → Leaves left mid (Ok tt) a → spend mid b ≡ spend left (after a b)
goes_on {left} {mid} {a} b l = rw l.rest (passed_first left a b _ refl (passed l))

pub first_passed : {left mid new : ℕ} {r : Result (Unit {0}) ℕ} {a b : Tally} → Leaves left mid (Ok tt) a → Leaves mid new r b → Leaves left new r (after a b)
first_passed {left} {mid} {new} {r} {a} {b} l k = alike k (goes_on b l)

-- ---- a row of checks: what is left of it, with what is left of the budget, has the answer of the whole
pub turns_on : {left mid : ℕ} {r : Spent} {t a : Tally} (b : Tally) → Leaves left mid (Ok tt) a → t ≡ after a b → spend left t ≡ r → spend mid b ≡ r
turns_on {left} b l e inv = goes_on b l ∙ sym (ap (spend left) e) ∙ inv

pub turns_out : {left left' new e : ℕ} {t t' a : Tally} (b : Tally) → Leaves left new (Err e) a → t ≡ after a b → spend left t ≡ spend left' t' → Leaves left' new (Err e) t'
turns_out {left} b l h inv = alike (first_refused b l) (sym (ap (spend left) h) ∙ inv)

pub turns_end : {left left' : ℕ} {t t' : Tally} → t ≡ clean → spend left t ≡ spend left' t' → Leaves left' left (Ok tt) t'
turns_end {left} e inv = alike (along e (nothing left)) inv
