-- What it is for a candidate to be the next of a path, and for an anchor to be above it.
use Rattle.std.specs.Prelude.{ℕ, suc, ◌≤◌, ◌<◌, ◌≡◌, length, get_or}
use mathlib.Core.List.{List, [], Memᴰ}
use Rattle.checks.specs.Conditions.{Contents}
use Rattle.path.specs.Conditions.{Trusted, Chained, Same}
use Rattle.checks.specs.Skeletons.{IsCertificate}
use Rattle.lent.specs.Lent.{most_intermediates, certificate_of, newest}

-- an anchor whose flag says that it has name constraints has them in the list. A flag that is not there says that it has none
abbrev pub Whole : List (List ℕ) → List ℕ → ℕ → Type 0
Whole constraints bound i = (get_or bound i 0 ≡ 0 → ⊥) → i < length constraints

module _ (issuers : List (List ℕ)) (end : List ℕ) (subjects keys distrusted : List (List ℕ)) (path : List ℕ) (i : ℕ) where
  -- the certificate with a number is one with these contents
  abbrev pub Has : ℕ → Contents → Type 0
  Has n o = IsCertificate (certificate_of issuers end (length subjects) n) o

  -- a certificate that is no anchor, is the newest one's issuer, and has not both subject and key of one that is there already
  pub record Extends : Type 0 where
    pub few : length path ≤ suc most_intermediates
    pub candidate : length subjects ≤ i
    pub head : Contents
    pub newest_is : Has (newest path) head
    pub next : Contents
    pub next_is : Has i next
    pub chained : Chained head next.subject
    pub once : (n : ℕ) → Memᴰ n path → (o : Contents) → Has n o → Same next o → ⊥

  -- an anchor that is the newest one's issuer, lacks nothing, and is trusted
  pub record Anchors (constraints : List (List ℕ)) (bound : List ℕ) : Type 0 where
    pub few : length path ≤ suc most_intermediates
    pub candidate : i < length subjects
    pub keyed : i < length keys
    pub whole : Whole constraints bound i
    pub head : Contents
    pub newest_is : Has (newest path) head
    pub chained : Chained head (get_or subjects i [])
    pub trusted : Trusted distrusted (get_or keys i [])
