-- THEOREMS, as types: which definitions of the standard's side are what the code's models are. Models are named here, and nowhere that these definitions stand.
use Rattle.std.specs.Prelude.{ℕ, ◌≡◌, List, ◌∷◌, length}
use Rattle.checks.specs.Conditions.{Contents}
use Rattle.candidate.specs.Candidates.{Whole}
use Rattle.machine.specs.World.{names_of}
use Rattle.conditions.specs.Request.{Request}
use Rattle.conditions.specs.Conditions.{Lends, Readable}
use Rattle.conditions.specs.Exactly.{ExactlyMet, constraints_of}

-- the code's name constraints refuse nothing
abbrev pub passed : Request → ℕ → List ℕ → Type 0
passed R anchor path = (names_of R.issuers R.end (length R.subjects) R.constraints R.bound anchor path).refusal ≡ 0

-- just if the exact relation holds of the contents of the path's certificates, for an anchor that lacks nothing
abbrev pub ExactlyType : Type 0
ExactlyType =
    (R : Request) → Lends R → (anchor n : ℕ) → Whole R.constraints R.bound anchor → (path : List ℕ) (os : List Contents) → Readable R (n ∷ path) os
    → (passed R anchor (n ∷ path) → ExactlyMet (constraints_of R anchor) os) × (ExactlyMet (constraints_of R anchor) os → passed R anchor (n ∷ path))
