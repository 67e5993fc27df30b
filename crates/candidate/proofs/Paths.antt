-- A path that grew by verdicts and checks is in order, and every path in order grows so. Assumes nothing.
use Prim.Native.Nat.{ℕ}
use mathlib.Core.Path.{◌≡◌}
use mathlib.Core.List.{List, [], ◌∷◌}
use mathlib.Core.Bool.{Bool}
use lib.ListN.{length}
use Rattle.der.specs.Places.{Bytes}
use Rattle.candidate.specs.declared.Verdict.TheVariants.{Extend}
use Rattle.lent.specs.Lent.{certificate_of, newest}
use Rattle.candidate.specs.Paths.{InOrder}
use Rattle.path.specs.Model.{check_on}
use Rattle.candidate.specs.Model.{verdict_on}
use Rattle.path.proofs.Checked.{path_check_sound, path_check_complete}
use Rattle.candidate.proofs.Verdicts.{extend_sound, extend_complete}

module _ (issuers : List (List ℕ)) (end : List ℕ) (subjects keys constraints : List (List ℕ)) (bound : List ℕ) (distrusted : List (List ℕ))
    (time : ℕ) (wanted : List ℕ) (demanded : Bool) (bs : (n : ℕ) → Bytes (certificate_of issuers end (length subjects) n)) where
  abbrev Checked : List ℕ → Type 0
  Checked path = check_on issuers end (length subjects) distrusted time wanted demanded path ≡ 0

  -- from the end entity up: each passes its checks, and each is one to extend the path below it with
  abbrev pub Grown : List ℕ → Type 0
  Grown [] = ⊥
  Grown (n ∷ []) = Checked (n ∷ [])
  Grown (i ∷ (n ∷ ns)) = Grown (n ∷ ns) × (verdict_on issuers end subjects keys constraints bound distrusted (n ∷ ns) i ≡ Extend) × Checked (i ∷ (n ∷ ns))

  pub grown_in_order : (path : List ℕ) → Grown path → InOrder issuers end subjects keys distrusted time wanted demanded path
  grown_in_order [] g = g
  grown_in_order (n ∷ []) g = path_check_sound issuers end (length subjects) distrusted time wanted demanded (n ∷ []) (bs (newest (n ∷ []))) g
  grown_in_order (i ∷ (n ∷ ns)) g =
      let p = i ∷ (n ∷ ns) in (
        grown_in_order (n ∷ ns) g.0,
        extend_sound issuers end subjects keys constraints bound distrusted (n ∷ ns) i bs g.1,
        path_check_sound issuers end (length subjects) distrusted time wanted demanded p (bs (newest p)) g.2,
      )

  pub in_order_grown : (path : List ℕ) → InOrder issuers end subjects keys distrusted time wanted demanded path → Grown path
  in_order_grown [] g = g
  in_order_grown (n ∷ []) g = path_check_complete issuers end (length subjects) distrusted time wanted demanded (n ∷ []) (bs (newest (n ∷ []))) g.0 g.1 g.2
  in_order_grown (i ∷ (n ∷ ns)) g =
      let p = i ∷ (n ∷ ns) in (
        in_order_grown (n ∷ ns) g.0,
        extend_complete issuers end subjects keys constraints bound distrusted (n ∷ ns) i bs g.1,
        path_check_complete issuers end (length subjects) distrusted time wanted demanded p (bs (newest p)) g.2.0 g.2.1 g.2.2,
      )
