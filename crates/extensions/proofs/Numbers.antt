-- The kind of an identifier, against RFC 5280's numbers under id-ce. Assumes nothing.
use Prim.Native.Nat.{ℕ, ◌+◌, ◌-◌, ◌≤◌}
use mathlib.Core.Path.{◌≡◌, refl, sym, ap, ◌∙◌}
use mathlib.Core.List.{List, []}
use mathlib.Core.Bool.{Bool, true, false}
use mathlib.Core.Logic.{⊎_elim}
use lib.ListN.{length, get_or}
use lib.Dec.{ltb, eqb}
use native.Mathlib.Omega.{arith}
use borrow.Author.Tests.{ltb-false, eqb-true, eqb-false}
use Rattle.der.specs.Places.{part}
use Rattle.parts.specs.Lists.{same_list}
use Rattle.der.proofs.Laws.{tests}
use Rattle.der.proofs.Invert.{peel, either}
use Rattle.parts.proofs.Equal.{same_true, same_refl}
use Rattle.der.proofs.Parts.{part_length, part_cons, part_none}
use Rattle.extensions.specs.Model.{known_kind, kind_of}
use Rattle.extensions.specs.Accepted.{KnownNumber, key_usage, subject_alt_name, basic_constraints, name_constraints, crl_distribution_points, ext_key_usage}
use Rattle.extensions.specs.Rfc5280.{id_ce}
use Rattle.extensions.proofs.Inversion.{chosen}
use Rattle.extensions.proofs.Small.{part_first}

pub false_true : false ≡ true → ⊥
false_true e = let z : ◌≡◌ {A = ℕ} 0 1 = cc in omega arith

pub not-true : (b : Bool) → (b ≡ true → ⊥) → b ≡ false
not-true true h = absurd (h refl)
not-true false h = refl

-- what holds of each known number
pub numbers : (P : ℕ → Type 0) → P 15 → P 17 → P 19 → P 30 → P 31 → P 37 → (n : ℕ) → KnownNumber n → P n
numbers P a b c d e f n key_usage = a
numbers P a b c d e f n subject_alt_name = b
numbers P a b c d e f n basic_constraints = c
numbers P a b c d e f n name_constraints = d
numbers P a b c d e f n crl_distribution_points = e
numbers P a b c d e f n ext_key_usage = f

pub number_some : (n : ℕ) → KnownNumber n → n ≡ 0 → ⊥
number_some =
    numbers (λ n. n ≡ 0 → ⊥) (λ e. omega arith) (λ e. omega arith) (λ e. omega arith) (λ e. omega arith) (λ e. omega arith) (λ e. omega arith)

-- ---- the table
kind_known : (n : ℕ) → KnownNumber n → known_kind n ≡ n
unfolding known_kind
kind_known = numbers (λ n. known_kind n ≡ n) refl refl refl refl refl refl

same_number : {n m k : ℕ} → KnownNumber m → n ≡ m → n ≡ k → (n ≡ k) × KnownNumber k
same_number a e f = (f, rw (sym f ∙ e) a)

known_kind_inv : (n k : ℕ) → known_kind n ≡ k → (k ≡ 0 → ⊥) → (n ≡ k) × KnownNumber k
unfolding known_kind
known_kind_inv n k e some =
    ⊎_elim (λ p. same_number key_usage (eqb-true n 15 p.0) p.1) (λ p.
    ⊎_elim (λ q. same_number subject_alt_name (eqb-true n 17 q.0) q.1) (λ q.
    ⊎_elim (λ r. same_number basic_constraints (eqb-true n 19 r.0) r.1) (λ r.
    ⊎_elim (λ t. same_number name_constraints (eqb-true n 30 t.0) t.1) (λ t.
    ⊎_elim (λ u. same_number crl_distribution_points (eqb-true n 31 u.0) u.1) (λ u.
    ⊎_elim (λ v. same_number ext_key_usage (eqb-true n 37 v.0) v.1) (λ v. absurd (some (sym v.1)))
    (either (eqb n 37) u.1))
    (either (eqb n 31) t.1))
    (either (eqb n 30) r.1))
    (either (eqb n 19) q.1))
    (either (eqb n 17) p.1))
    (either (eqb n 15) e)

-- ---- the identifier between two places
module _ (s : List ℕ) (from to : ℕ) where
  kind_case : {n k : ℕ} → to ≤ length s → from + 3 ≡ to → get_or s from 0 ≡ 85 → get_or s (from + 1) 0 ≡ 29 → get_or s (from + 2) 0 ≡ n → known_kind n ≡ k → kind_of s from to ≡ k
  unfolding kind_of
  kind_case l h a b c d =
      let i : from ≤ to = omega arith in
      let j : to - from ≡ 3 = omega arith in
      search (tests, j, a, b, c, d)

  pub kind_is : {n : ℕ} → KnownNumber n → from ≤ to → to ≤ length s → part s from to ≡ id_ce n → kind_of s from to ≡ n
  kind_is k h l e =
      let p = part_first s from to 85 _ h l e in
      let q = part_first s (from + 1) to 29 _ (omega arith) l p.2 in
      let i : from + 1 + 1 ≡ from + 2 = omega arith in
      let r = part_first s (from + 2) to _ [] (omega arith) l (rw i at q.2) in
      let m : to - from ≡ 3 = sym (part_length s from to l) ∙ ap length e in
      kind_case l (omega arith) p.1 q.1 r.1 (kind_known _ k)

  pub kind_inv : {k : ℕ} → kind_of s from to ≡ k → (k ≡ 0 → ⊥) → KnownNumber k × (part s from to ≡ id_ce k)
  unfolding kind_of
  kind_inv {k} e some =
      let no : 0 ≡ k → ⊥ = λ (h : 0 ≡ k). some (sym h) in
      let a = peel (ltb (length s) to) e no in
      let b = peel (ltb to from) a.1 no in
      let c = chosen (eqb (to - from) 3) b.1 no in
      let d = chosen (eqb (get_or s from 0) 85) c.1 no in
      let f = chosen (eqb (get_or s (from + 1) 0) 29) d.1 no in
      let g = known_kind_inv (get_or s (from + 2) 0) k f.1 some in
      let l : to ≤ length s = ltb-false (length s) to a.0 in
      let h : from ≤ to = ltb-false to from b.0 in
      let j : to - from ≡ 3 = eqb-true (to - from) 3 c.0 in
      let i : from + 1 + 1 ≡ from + 2 = omega arith in
      let n : from + 2 + 1 ≡ to = omega arith in (
        g.1,
        part_cons s from to (omega arith) (omega arith)
            ∙ rw (eqb-true (get_or s from 0) 85 d.0, part_cons s (from + 1) to (omega arith) (omega arith), eqb-true (get_or s (from + 1) 0) 29 f.0, i, part_cons s (from + 2) to (omega arith) (omega arith), n, part_none, g.0),
      )

  pub kind_none : kind_of s from to ≡ 0 → from ≤ to → to ≤ length s → (n : ℕ) → KnownNumber n → same_list (part s from to) (id_ce n) ≡ false
  kind_none e h l n k =
      not-true (same_list (part s from to) (id_ce n)) (λ t. number_some n k (sym (kind_is k h l (same_true _ _ t)) ∙ e))

  pub none_kind : ((n : ℕ) → KnownNumber n → same_list (part s from to) (id_ce n) ≡ false) → kind_of s from to ≡ 0
  none_kind never = go (eqb (kind_of s from to) 0) refl
    where
      go : (b : Bool) → eqb (kind_of s from to) 0 ≡ b → kind_of s from to ≡ 0
      go true h = eqb-true (kind_of s from to) 0 h
      go false h =
          let i = kind_inv {k = kind_of s from to} refl (eqb-false (kind_of s from to) 0 h) in
          absurd (false_true (sym (never (kind_of s from to) i.0) ∙ rw i.1 (same_refl (id_ce (kind_of s from to)))))
