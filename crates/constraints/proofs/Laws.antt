-- Laws of the model that the functions' proofs cite: the certificates of a path. Assumes nothing.
use Prim.Native.Nat.{ℕ, zero, suc, ◌-◌}
use mathlib.Core.Path.{◌≡◌, refl}
use mathlib.Core.List.{List, [], ◌∷◌}
use lib.ListN.{get_or}
use native.Mathlib.Omega.{arith}
use Rattle.lent.specs.Lent.{lower}
use Rattle.entries.specs.Tally.{clean, after}
use Rattle.subtrees.specs.Noted.{Noted}
use Rattle.constraints.specs.Paths.{certs_at}
use Rattle.constraints.specs.Model.{own_in, issuers_in}

module _ (cert : ℕ → Noted) (path : List ℕ) where
  pub lowest : (k : ℕ) → k ≡ 0 → certs_at cert path k ≡ cert (get_or path k 0) ∷ []
  unfolding certs_at lower
  lowest zero z = refl
  lowest (suc k) z = absurd (omega arith)

  pub higher : (k : ℕ) → (k ≡ 0 → ⊥) → certs_at cert path k ≡ cert (get_or path k 0) ∷ certs_at cert path (k - 1)
  unfolding certs_at lower
  higher zero n = absurd (n refl)
  higher (suc k) n = let e : suc k - 1 ≡ k = omega arith in rw e

  issuers_on : (k : ℕ) (c : Noted) → issuers_in (c ∷ certs_at cert path k) ≡ after (own_in c (certs_at cert path k)) (issuers_in (certs_at cert path k))
  unfolding certs_at issuers_in
  issuers_on k c = refl

  pub issuers_more : (k : ℕ) → (k ≡ 0 → ⊥) → issuers_in (certs_at cert path k) ≡ after (own_in (cert (get_or path k 0)) (certs_at cert path (k - 1))) (issuers_in (certs_at cert path (k - 1)))
  issuers_more k n = rw (higher k n) (issuers_on (k - 1) (cert (get_or path k 0)))

  pub issuers_last : (k : ℕ) → k ≡ 0 → issuers_in (certs_at cert path k) ≡ clean
  unfolding issuers_in
  issuers_last k z = rw (lowest k z)
