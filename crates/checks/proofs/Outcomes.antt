-- The checks' numbers as outcomes: what a reader refuses is passed on, and of two findings the first refusal. Assumes nothing.
use Prim.Native.Nat.{ℕ, zero, suc}
use mathlib.Core.Path.{◌≡◌, sym}
use mathlib.Core.List.{List}
use lib.Dec.{lit<}
use borrow.Author.Tests.{ne_eqb}
use native.Mathlib.Omega.{arith}
use Rattle.std.specs.Prelude.{Ok, Err, Result}
use Rattle.refusal.specs.Model.{outcome}
use Rattle.refusal.specs.Refusals.{bad_der}
use Rattle.refusal.proofs.Laws.{outcome_some}
use Rattle.der.specs.Model.{expect_at}
use Rattle.values.specs.Model.{read_bool, read_small}
use Rattle.moment.specs.Model.{time_at}
use Rattle.extensions.proofs.Refusals.{GotFair, got_not, TruthFair, truth_not, expect_fair, bool_fair}
use Rattle.cert.proofs.Refusals.{SmallFair, small_not, small_fair}
use Rattle.checks.specs.Model.{first_of}
use Rattle.checks.proofs.Refusals.{TimeFair, time_not, time_fair}

-- ---- a refusal is never 0, so its outcome is that refusal
module _ (s : List ℕ) (from to : ℕ) {e : ℕ} where
  pub time_passed : Err e ≡ time_at s from to → Err e ≡ outcome e
  time_passed h = go (rw (← h) at (time_fair s from to))
    where
      go : TimeFair (Err e) → Err e ≡ outcome e
      go (time_not f) = sym (outcome_some _ f.0)

  pub bool_passed : Err e ≡ read_bool s from to → Err e ≡ outcome e
  bool_passed h = go (rw (← h) at (bool_fair s from to))
    where
      go : TruthFair (Err e) → Err e ≡ outcome e
      go (truth_not f) = sym (outcome_some _ f.0)

  pub small_passed : Err e ≡ read_small s from to → Err e ≡ outcome e
  small_passed h = go (rw (← h) at (small_fair s from to))
    where
      go : SmallFair (Err e) → Err e ≡ outcome e
      go (small_not f) = sym (outcome_some _ f.0)

  pub purpose_passed : Err e ≡ expect_at s from to 6 bad_der → Err e ≡ outcome e
  purpose_passed h = go (rw (← h) at (expect_fair s from to 6 bad_der (lit< tt, lit< tt)))
    where
      go : GotFair (Err e) → Err e ≡ outcome e
      go (got_not f) = sym (outcome_some _ f.0)

-- ---- the first of two findings
pub first_err : (d f : ℕ) {e : ℕ} → Err e ≡ outcome d → Err e ≡ outcome (first_of d f)
unfolding outcome first_of
first_err zero f h = cc h
first_err (suc d) f h = rw (ne_eqb (suc d) 0 (λ z. omega arith)) h

pub first_ok : (d f : ℕ) {r : Result (Unit {0}) ℕ} → Ok tt ≡ outcome d → r ≡ outcome f → r ≡ outcome (first_of d f)
unfolding outcome first_of
first_ok zero f h k = k
first_ok (suc d) f h k = cc h
