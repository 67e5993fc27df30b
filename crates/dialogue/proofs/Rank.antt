-- Which no: a refusal is the first of the highest rank among those noted, in the order of time. Assumes nothing.
use Prim.Native.Nat.{ℕ, ◌≤◌, ◌<◌}
use mathlib.Core.Path.{◌≡◌, refl, sym, ◌∙◌, ap}
use mathlib.Core.Bool.{Bool, true, false, cond}
use mathlib.Core.Logic.{◌⊎◌, inl, inr, ⊎_elim}
use mathlib.Core.List.Memᴰ
use mathlib.Core.List.{List, [], ◌∷◌, ◌++◌, Memᴰ}
use native.Mathlib.Omega.{arith}
use lib.Dec.{ltb}
use borrow.Author.Tests.{ltb-true, ltb-false}
use Rattle.refusal.specs.Refusals.{rank_of, is_fatal, unknown_issuer, maximum_signature_checks_exceeded, maximum_path_build_calls_exceeded, maximum_name_constraint_comparisons_exceeded}
use Rattle.refusal.specs.Model.{worse_of}
use Rattle.refusal.proofs.Laws.{rank_past, fatal_exactly}
use Rattle.dialogue.specs.Account.{kept, First}

-- ---- what is kept is the first of the highest rank
later : (e x : ℕ) (xs : List ℕ) (r : ℕ) → rank_of e < rank_of x → First (x ∷ xs) r → First (e ∷ x ∷ xs) r
later e x xs r l f = record {
  highest = λ y m. ⊎_elim (λ (q : y ≡ e). rw q (omega (arith, f.highest x (Memᴰ.head refl)))) (λ m'. f.highest y m') (Memᴰ.cases_cons m);
  before = e ∷ f.before;
  after = f.after;
  split = ap (λ (t : List ℕ). e ∷ t) f.split;
  lower = λ y m. ⊎_elim (λ (q : y ≡ e). rw q (omega (arith, f.highest x (Memᴰ.head refl)))) (λ m'. f.lower y m') (Memᴰ.cases_cons m);
}

passed : (e x : ℕ) (xs : List ℕ) (r : ℕ) → rank_of x ≤ rank_of e → First (e ∷ xs) r → First (e ∷ x ∷ xs) r
passed e x xs r l f = by f.before f.split f.lower
  where
    high : (y : ℕ) → Memᴰ y (e ∷ x ∷ xs) → rank_of y ≤ rank_of r
    high y m =
        ⊎_elim (λ (q : y ≡ e). rw q (f.highest e (Memᴰ.head refl)))
        (λ (m' : Memᴰ y (x ∷ xs)). ⊎_elim (λ (q : y ≡ x). rw q (omega (arith, f.highest e (Memᴰ.head refl)))) (λ m''. f.highest y (Memᴰ.tail m'')) (Memᴰ.cases_cons m'))
        (Memᴰ.cases_cons m)

    by : (b : List ℕ) → e ∷ xs ≡ b ++ (r ∷ f.after) → ((y : ℕ) → Memᴰ y b → rank_of y < rank_of r) → First (e ∷ x ∷ xs) r
    by [] q n =
        let er : e ≡ r = cc in
        record { highest = high; before = []; after = x ∷ xs; split = ap (λ (t : ℕ). t ∷ x ∷ xs) er; lower = λ y m. absurd (Memᴰ.not-nil m) }
    by (a ∷ b) q n =
        let ea : e ≡ a = cc in
        let et : xs ≡ b ++ (r ∷ f.after) = cc in
        let le : rank_of e < rank_of r = rw ea (n a (Memᴰ.head refl)) in
        record {
          highest = high;
          before = e ∷ x ∷ b;
          after = f.after;
          split = ap (λ (t : List ℕ). e ∷ x ∷ t) et;
          lower = λ y m. ⊎_elim (λ (h : y ≡ e). rw h le) (λ (m' : Memᴰ y (x ∷ b)). ⊎_elim (λ (h : y ≡ x). rw h (omega arith)) (λ m''. n y (Memᴰ.tail m'')) (Memᴰ.cases_cons m')) (Memᴰ.cases_cons m);
        }

pub kept_first : (e : ℕ) (xs : List ℕ) → First (e ∷ xs) (kept e xs)
unfolding kept worse_of
kept_first e [] = record {
  highest = λ y m. ⊎_elim (λ (q : y ≡ e). rw q (omega arith)) (λ m'. absurd (Memᴰ.not-nil m')) (Memᴰ.cases_cons m);
  before = [];
  after = [];
  split = refl;
  lower = λ y m. absurd (Memᴰ.not-nil m);
}
kept_first e (x ∷ xs) = by (ltb (rank_of e) (rank_of x)) refl (kept_first (worse_of e x) xs)
  where
    by : (t : Bool) → ltb (rank_of e) (rank_of x) ≡ t → First (cond t x e ∷ xs) (kept (cond t x e) xs) → First (e ∷ x ∷ xs) (kept (cond t x e) xs)
    by true h f = later e x xs (kept x xs) (ltb-true (rank_of e) (rank_of x) h) f
    by false h f = passed e x xs (kept e xs) (ltb-false (rank_of e) (rank_of x) h) f

-- ---- the first refusal is that of a search which noted nothing: it stays only where nothing has a rank
pub start_or_ranked : (xs : List ℕ) (r : ℕ) → First (unknown_issuer ∷ xs) r → (r ≡ unknown_issuer) ⊎ (0 < rank_of r)
start_or_ranked xs r f = by f.before f.split f.lower
  where
    by : (b : List ℕ) → unknown_issuer ∷ xs ≡ b ++ (r ∷ f.after) → ((y : ℕ) → Memᴰ y b → rank_of y < rank_of r) → (r ≡ unknown_issuer) ⊎ (0 < rank_of r)
    by [] q n = let e : r ≡ unknown_issuer = cc in inl e
    by (a ∷ b) q n = inr (omega (arith, n a (Memᴰ.head refl)))

-- so it is a refusal of the table, and none that says that a budget is used up
unranked : (r x : ℕ) → rank_of x ≡ 0 → (unknown_issuer ≡ x → ⊥) → r ≡ x → (r ≡ unknown_issuer) ⊎ (0 < rank_of r) → ⊥
unranked r x z d e h = ⊎_elim (λ (u : r ≡ unknown_issuer). d (sym u ∙ e)) (λ (p : 0 < rank_of r). omega (arith, ap rank_of e)) h

pub known : (r : ℕ) → (r ≡ unknown_issuer) ⊎ (0 < rank_of r) → r < 72
known r h = by (ltb r 72) refl
  where
    by : (t : Bool) → ltb r 72 ≡ t → r < 72
    by true e = ltb-true r 72 e
    by false e =
        let far = ltb-false r 72 e in
        absurd (⊎_elim (λ (u : r ≡ unknown_issuer). omega arith) (λ (p : 0 < rank_of r). omega (arith, rank_past r far)) h)

pub not_fatal : (r : ℕ) → (r ≡ unknown_issuer) ⊎ (0 < rank_of r) → is_fatal r ≡ false
unfolding rank_of
not_fatal r h = by (is_fatal r) refl
  where
    by : (t : Bool) → is_fatal r ≡ t → t ≡ false
    by true e =
        absurd (⊎_elim (λ (q : r ≡ maximum_signature_checks_exceeded). unranked r maximum_signature_checks_exceeded refl (λ u. omega arith) q h)
        (⊎_elim (λ (q : r ≡ maximum_path_build_calls_exceeded). unranked r maximum_path_build_calls_exceeded refl (λ u. omega arith) q h)
        (λ (q : r ≡ maximum_name_constraint_comparisons_exceeded). unranked r maximum_name_constraint_comparisons_exceeded refl (λ u. omega arith) q h))
        ((fatal_exactly r).0 e))
    by false e = refl
