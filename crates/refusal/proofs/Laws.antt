-- What a search may cite of ranks, of the refusal that is kept, and of the refusals that end it. Assumes nothing.
use Prim.Native.Nat.{ℕ, max, ◌≤◌, ◌<◌}
use mathlib.Core.Path.{◌≡◌, refl, sym}
use mathlib.Core.Bool.{Bool, true, false, cond}
use mathlib.Core.Logic.{◌⊎◌, inl, inr, ⊎_elim}
use mathlib.Core.List.{List, [], ◌∷◌}
use lib.Dec.{eqb, ltb}
use native.Mathlib.Omega.{arith}
use native.Mathlib.Nat.{max-eq_left, max-eq_right}
use borrow.Author.Tests.{ltb-true, ltb-false, eqb-true, lt-ltb, le-ltb, ne_eqb}
use Rattle.refusal.specs.Refusals.{has, rank_of, is_fatal, unknown_issuer, maximum_signature_checks_exceeded, maximum_path_build_calls_exceeded, maximum_name_constraint_comparisons_exceeded}
use Rattle.std.specs.Prelude.{zero, suc, Ok, Err}
use Rattle.refusal.specs.Model.{worse_of, outcome}

-- ---- a number past the last refusal has rank 0
past_eqb : (n k : ℕ) → k ≤ n → (m : ℕ) → ltb m k ≡ true → eqb n m ≡ false
past_eqb n k h m e = ne_eqb n m (λ q. omega (arith, ltb-true m k e))

pub rank_past : (n : ℕ) → 72 ≤ n → rank_of n ≡ 0
unfolding rank_of
rank_past n h = search (past_eqb n 72 h)

-- ---- which of two is kept
pub worse_higher : (a b : ℕ) → rank_of a < rank_of b → worse_of a b ≡ b
unfolding worse_of
worse_higher a b h = rw (lt-ltb (rank_of a) (rank_of b))

pub worse_no_higher : (a b : ℕ) → rank_of b ≤ rank_of a → worse_of a b ≡ a
unfolding worse_of
worse_no_higher a b h = rw (le-ltb (rank_of a) (rank_of b))

-- the earlier of two of one rank
pub worse_equal : (a b : ℕ) → rank_of a ≡ rank_of b → worse_of a b ≡ a
worse_equal a b e = worse_no_higher a b (omega arith)

by_rank : {P : Type 0} (a b : ℕ) → (rank_of a < rank_of b → P) → (rank_of b ≤ rank_of a → P) → P
by_rank {P} a b f g = go (ltb (rank_of a) (rank_of b)) refl
  where
    go : (t : Bool) → ltb (rank_of a) (rank_of b) ≡ t → P
    go true e = f (ltb-true (rank_of a) (rank_of b) e)
    go false e = g (ltb-false (rank_of a) (rank_of b) e)

-- the higher of the two ranks
pub worse_rank : (a b : ℕ) → rank_of (worse_of a b) ≡ max (rank_of a) (rank_of b)
worse_rank a b =
    by_rank a b
    (λ h. rw (worse_higher a b h) (sym (max-eq_right (omega arith))))
    (λ h. rw (worse_no_higher a b h) (sym (max-eq_left h)))

-- one of the two is kept
pub worse_one : (a b : ℕ) → (worse_of a b ≡ a) ⊎ (worse_of a b ≡ b)
worse_one a b = by_rank a b (λ h. inr (worse_higher a b h)) (λ h. inl (worse_no_higher a b h))

pub worse_assoc : (a b c : ℕ) → worse_of (worse_of a b) c ≡ worse_of a (worse_of b c)
worse_assoc a b c =
    by_rank a b
    (λ h. by_rank b c
    (λ k. simp (worse_higher a b h, worse_higher b c k, worse_higher a c (omega arith)))
    (λ k. simp (worse_higher a b h, worse_no_higher b c k)))
    (λ h. by_rank b c
    (λ k. simp (worse_no_higher a b h, worse_higher b c k))
    (λ k. simp (worse_no_higher a b h, worse_no_higher b c k, worse_no_higher a c (omega arith))))

-- ---- the refusal that a search begins with is lowest
pub start_rank : rank_of unknown_issuer ≡ 0
unfolding rank_of
start_rank = refl

pub worse_start : (e : ℕ) → 0 < rank_of e → worse_of unknown_issuer e ≡ e
worse_start e h = worse_higher unknown_issuer e (rw start_rank h)

pub worse_start_rank : (e : ℕ) → rank_of (worse_of unknown_issuer e) ≡ rank_of e
worse_start_rank e =
    by_rank unknown_issuer e
    (λ h. rw (worse_higher unknown_issuer e h))
    (λ h. rw (worse_no_higher unknown_issuer e h) (omega (arith, start_rank)))

-- after any refusal it changes nothing
pub worse_keeps : (e : ℕ) → worse_of e unknown_issuer ≡ e
worse_keeps e = worse_no_higher e unknown_issuer (omega (arith, start_rank))

-- ---- what ends a search
abbrev Ends : ℕ → Type 0
Ends n = (n ≡ maximum_signature_checks_exceeded) ⊎ ((n ≡ maximum_path_build_calls_exceeded) ⊎ (n ≡ maximum_name_constraint_comparisons_exceeded))

-- a listed number is the first or one of the rest
listed : (m : ℕ) (ms : List ℕ) (n : ℕ) → has (m ∷ ms) n ≡ true → (n ≡ m) ⊎ (has ms n ≡ true)
listed m ms n e = go (eqb n m) refl e
  where
    go : (t : Bool) → eqb n m ≡ t → cond t true (has ms n) ≡ true → (n ≡ m) ⊎ (has ms n ≡ true)
    go true p q = inl (eqb-true n m p)
    go false p q = inr q

unlisted : {P : Type 0} → false ≡ true → P
unlisted e = let z : ◌≡◌ {A = ℕ} 0 1 = cc in absurd (omega arith)

pub fatal_exactly : (n : ℕ) → (is_fatal n ≡ true → Ends n) × (Ends n → is_fatal n ≡ true)
unfolding is_fatal
fatal_exactly n = (
  λ e. ⊎_elim inl
      (λ f. inr (⊎_elim inl
      (λ g. inr (⊎_elim (λ p. p) unlisted (listed maximum_name_constraint_comparisons_exceeded [] n g)))
      (listed maximum_path_build_calls_exceeded (maximum_name_constraint_comparisons_exceeded ∷ []) n f)))
      (listed maximum_signature_checks_exceeded (maximum_path_build_calls_exceeded ∷ maximum_name_constraint_comparisons_exceeded ∷ []) n e),
  ⊎_elim (λ p. rw p) (⊎_elim (λ p. rw p) (λ p. rw p)),
)

-- they are the last of the table: what comes before them ends nothing
abbrev pub Mild : ℕ → Type 0
Mild n = n < maximum_signature_checks_exceeded

pub mild_not_fatal : (n : ℕ) → Mild n → is_fatal n ≡ false
mild_not_fatal n m = go (is_fatal n) refl
  where
    go : (t : Bool) → is_fatal n ≡ t → t ≡ false
    go true e =
        absurd (⊎_elim (λ (q : n ≡ maximum_signature_checks_exceeded). omega arith)
        (⊎_elim (λ (q : n ≡ maximum_path_build_calls_exceeded). omega arith) (λ (q : n ≡ maximum_name_constraint_comparisons_exceeded). omega arith))
        ((fatal_exactly n).0 e))
    go false e = refl

-- ---- a number as an outcome: 0 is no refusal, and every other number is one
pub outcome_none : outcome 0 ≡ Ok tt
unfolding outcome
outcome_none = refl

pub outcome_some : (e : ℕ) → 0 < e → outcome e ≡ Err e
unfolding outcome
outcome_some zero h = absurd (omega (arith, h))
outcome_some (suc e) h = refl

pub outcome_ok : (e : ℕ) → outcome e ≡ Ok tt → e ≡ 0
unfolding outcome
outcome_ok zero h = refl
outcome_ok (suc e) h = cc h

pub outcome_err : (e f : ℕ) → outcome e ≡ Err f → e ≡ f
unfolding outcome
outcome_err zero f h = cc h
outcome_err (suc e) f h = cc h
