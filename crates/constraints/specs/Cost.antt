-- How many comparisons the name constraints of a path take where nothing is refused: for each list of entries, the names of all certificates below, times the
-- entries. This serves the account of a search, and so a certificate's fields are those that crate `cert` reads.
use Rattle.std.specs.Prelude.{ℕ, ◌+◌, ◌*◌, ◌≡◌, List, [], ◌∷◌, ◌++◌, Bool, true, false, length, Ok}
use Rattle.der.specs.Places.{Bytes, part}
use Rattle.cert.specs.declared.Certificate.{Certificate}
use Rattle.cert.specs.Model.{read_certificate}
use Rattle.names.specs.General.{General}
use Rattle.subtrees.specs.Rfc5280Names.{NameConstraints}
use Rattle.subtrees.specs.Presents.{Presents}

-- bytes, as every certificate has them
unfoldable pub EachBytes : List (List ℕ) → Type 0
EachBytes [] = Unit {0}
EachBytes (c ∷ cs) = Bytes c × EachBytes cs

-- those of several certificates
pub data Presented : List (List ℕ) → List General → Type 0 where
  none : Presented [] []
  more : {t : List ℕ} {ts : List (List ℕ)} {ns ms : List General} → Presents t ns → Presented ts ms → Presented (t ∷ ts) (ns ++ ms)

-- name constraints of this content over these certificates: n comparisons, one for each name and each entry. A certificate has one name more than it has
-- alternative names
pub record Takes (content : List ℕ) (cs : List (List ℕ)) (n : ℕ) : Type 0 where
  pub permitted : List General
  pub excluded : List General
  pub names : List General
  pub is : NameConstraints content permitted excluded
  pub presented : Presented cs names
  pub cost : n ≡ length names * (length permitted + length excluded)

-- the constraints of the certificate t, if it has any, over the certificates cs
pub record OwnTakes (t : List ℕ) (cs : List (List ℕ)) (n : ℕ) : Type 0 where
  pub c : Certificate
  pub read : read_certificate t true ≡ Ok c
  pub bound : c.known.name_constraints.known ≡ true → Takes (part t c.known.name_constraints.start c.known.name_constraints.end) cs n
  pub free : c.known.name_constraints.known ≡ false → n ≡ 0

-- a path, the highest certificate first and the end entity last: the constraints of each are over all below it
pub data IssuersTake : List (List ℕ) → ℕ → Type 0 where
  last : (c : List ℕ) → IssuersTake (c ∷ []) 0
  more : {c d : List ℕ} {ds : List (List ℕ)} {n m : ℕ} → OwnTakes c (d ∷ ds) n → IssuersTake (d ∷ ds) m → IssuersTake (c ∷ (d ∷ ds)) (n + m)

pub record PathTakes (anchor : List ℕ) (bound : Bool) (cs : List (List ℕ)) (n : ℕ) : Type 0 where
  pub by_anchor : ℕ
  pub by_issuers : ℕ
  pub anchor_bound : bound ≡ true → Takes anchor cs by_anchor
  pub anchor_free : bound ≡ false → by_anchor ≡ 0
  pub issuers_take : IssuersTake cs by_issuers
  pub cost : n ≡ by_anchor + by_issuers
