-- Each exit and each turn of the checks above one certificate: an issuer's constraints, a path. Assumes nothing.
use Prim.Native.Nat.{ℕ, zero, suc, ◌+◌, ◌-◌, ◌≤◌, ◌<◌}
use mathlib.Core.Path.{◌≡◌, refl}
use mathlib.Core.List.{List, map}
use mathlib.Core.Bool.{true, false}
use lib.ListN.{get_or}
use native.Mathlib.Omega.{arith}
use Rattle.refusal.specs.Refusals.{bad_der}
use Rattle.cert.specs.declared.Certificate.{Certificate}
use Rattle.entries.specs.Tally.{Tally, tally, clean, after}
use Rattle.subtrees.specs.declared.Subtrees.{Subtrees}
use Rattle.subtrees.specs.Noted.{Noted}
use Rattle.lent.specs.Lent.{lower}
use Rattle.constraints.specs.Paths.{certs_at}
use Rattle.subtrees.specs.Model.{on_read, certificate_as, subtrees_at}
use Rattle.constraints.specs.Model.{on_lists, below_in, left_over, constraints_in, own_in, issuers_in}
use Rattle.constraints.proofs.Laws.{issuers_more, issuers_last}
use Rattle.std.specs.Prelude.{Ok, Err}

-- ---- the certificates of a path from level k down: the one at that level, and each below it
module _ (s : List ℕ) (lists : Subtrees) (cert : ℕ → Noted) (path : List ℕ) (k : ℕ) where
  abbrev pub under : Tally
  under = below_in s lists (map cert (lower path k))

module _ (s : List ℕ) (lists : Subtrees) (cert : ℕ → Noted) (path : List ℕ) where
  pub below_top : (k : ℕ) {n : ℕ} → n ≡ get_or path k 0
      → below_in s lists (certs_at cert path k) ≡ after (certificate_as s lists (cert n)) (under s lists cert path k)
  unfolding certs_at below_in
  below_top k e = rw e

  pub below_turn : (k : ℕ) {n : ℕ} → 0 < k → n ≡ get_or path (k - 1) 0
      → under s lists cert path k ≡ after (certificate_as s lists (cert n)) (under s lists cert path (k - 1))
  unfolding lower below_in
  below_turn zero h e = absurd (omega arith)
  below_turn (suc k) h e = let z : suc k - 1 ≡ k = omega arith in rw (e, z)

  pub below_end : (k : ℕ) → k ≤ 0 → under s lists cert path k ≡ clean
  unfolding lower below_in
  below_end zero h = refl
  below_end (suc k) h = absurd (omega arith)

-- ---- one issuer's constraints
module _ (s : List ℕ) (from to : ℕ) (cs : List Noted) where
  pub constraints_are : (lists : Subtrees) → subtrees_at s from to ≡ Ok lists
      → constraints_in s from to cs ≡ after (below_in s lists cs) (left_over lists.excluded.end to)
  unfolding constraints_in on_lists
  constraints_are lists e = rw e

  pub constraints_none : (e : ℕ) → subtrees_at s from to ≡ Err e → constraints_in s from to cs ≡ tally 0 e
  unfolding constraints_in on_lists
  constraints_none e h = rw h

module _ (t : Noted) (cs : List Noted) where
  pub own_bound : (c : Certificate) → t.reading ≡ Ok c → c.known.name_constraints.known ≡ true
      → own_in t cs ≡ constraints_in t.bytes c.known.name_constraints.start c.known.name_constraints.end cs
  unfolding own_in on_read
  own_bound c e h = rw (e, h)

  pub own_free : (c : Certificate) → t.reading ≡ Ok c → c.known.name_constraints.known ≡ false → own_in t cs ≡ clean
  unfolding own_in on_read
  own_free c e h = rw (e, h)

  pub own_unread : (e : ℕ) → t.reading ≡ Err e → own_in t cs ≡ tally 0 bad_der
  unfolding own_in on_read
  own_unread e h = rw h

-- ---- the issuers of a path from level k down
module _ (cert : ℕ → Noted) (path : List ℕ) where
  pub issuers_turn : (k : ℕ) {n : ℕ} → 0 < k → n ≡ get_or path (k - 1 + 1) 0
      → issuers_in (certs_at cert path k) ≡ after (own_in (cert n) (certs_at cert path (k - 1))) (issuers_in (certs_at cert path (k - 1)))
  issuers_turn k h e = let z : k - 1 + 1 ≡ k = omega arith in rw (e, z) (issuers_more cert path k (λ q. omega arith))

  pub issuers_end : (k : ℕ) → k ≤ 0 → issuers_in (certs_at cert path k) ≡ clean
  issuers_end k h = issuers_last cert path k (omega arith)
