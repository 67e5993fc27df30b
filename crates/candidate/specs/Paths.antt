-- The conditions on a path before any signature is asked, certificate by certificate, from the end entity up.
use Rattle.std.specs.Prelude.{ℕ, List, [], ◌∷◌, Bool, length}
use Rattle.checks.specs.Conditions.{Contents}
use Rattle.path.specs.Conditions.{Fit, role_of}
use Rattle.checks.specs.Skeletons.{IsCertificate}
use Rattle.candidate.specs.Candidates.{Extends}
use Rattle.lent.specs.Lent.{certificate_of, newest}

module _ (issuers : List (List ℕ)) (end : List ℕ) (subjects keys distrusted : List (List ℕ)) (time : ℕ) (wanted : List ℕ) (demanded : Bool) where
  -- the newest certificate fits where it stands
  abbrev pub Fits : List ℕ → Type 0
  Fits path =
      (o : Contents) × IsCertificate (certificate_of issuers end (length subjects) (newest path)) o × Fit distrusted time wanted demanded (role_of path) o

  -- every certificate fits where it stands, and is the next of the path below it
  abbrev pub InOrder : List ℕ → Type 0
  InOrder [] = ⊥
  InOrder (n ∷ []) = Fits (n ∷ [])
  InOrder (i ∷ (n ∷ ns)) = InOrder (n ∷ ns) × Extends issuers end subjects keys distrusted (n ∷ ns) i × Fits (i ∷ (n ∷ ns))
