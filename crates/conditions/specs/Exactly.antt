-- The exact relation of name constraints for a path, on the contents of its certificates: those of the anchor, and of each issuer, over all certificates
-- below. RFC 5280, 4.2.1.6, 4.2.1.10, 6.1.3 (b), (c), 6.1.4 (g). No reader and no model is named here.
use Rattle.std.specs.Prelude.{ℕ, ◌<◌, ◌≡◌, List, [], ◌∷◌, cond, eqb, length, get_or}
use Rattle.extensions.specs.Rfc5280.{sequence}
use Rattle.names.specs.General.{General, Named, encoded, Each}
use Rattle.entries.specs.Kinds.{directory_name}
use Rattle.subtrees.specs.Rfc5280Names.{subtrees, NameConstraints}
use Rattle.subtrees.specs.ExactNames.{Exactly}
use Rattle.checks.specs.Conditions.{Optional, absent, present, Contents}
use Rattle.conditions.specs.Request.{Request}
use Rattle.conditions.specs.Conditions.{content_in, Each as EachOf}

-- ---- whose constraints are over whom, for any rule on one certificate and the lists of permitted and excluded entries
module _ (Rule : List General → List General → Contents → Type 0) where
  -- name constraints of this content, and the certificates that they apply to; self-issued ones are no exception (stricter, D26)
  pub record Met (content : List ℕ) (below : List Contents) : Type 0 where
    pub permitted : List General
    pub excluded : List General
    -- 4.2.1.10: [0] before [1], nothing else, of each entry the base alone. Both may be empty or missing (D22): then nothing is restricted, and the names
    -- of all certificates below are read all the same
    pub is : NameConstraints content permitted excluded
    -- neither is longer than a reader takes, which for a certificate's is so anyway
    pub short : (length (subtrees permitted) < 65535) × (length (subtrees excluded) < 65535)
    pub rule : EachOf (Rule permitted excluded) below

  abbrev pub Own : Optional → List Contents → Type 0
  Own absent below = Unit {0}
  Own (present content) below = Met content below

  -- the highest first. The last is the end entity, whose own constraints are over nobody, and are not read
  unfoldable pub Issuers : List Contents → Type 0
  Issuers [] = Unit {0}
  Issuers (o ∷ []) = Unit {0}
  Issuers (o ∷ (p ∷ os)) = Own o.name_constraints (p ∷ os) × Issuers (p ∷ os)

  -- the anchor's, if it has any, and each issuer's
  pub record Over (anchor : Optional) (path : List Contents) : Type 0 where
    pub anchor_met : Own anchor path
    pub issuers_met : Issuers path

-- ---- one certificate
-- 4.1.2.6: the subject, as a directory name is written among alternative names
abbrev pub subject_name : Contents → General
subject_name o = record { kind = directory_name; content = sequence o.subject }

-- 4.2.1.6: its alternative names are general names, to the end; each of them conforms, and so does the subject
pub record Passes (permitted excluded : List General) (o : Contents) : Type 0 where
  pub alternative : List General
  pub is : content_in o.subject_alt_name ≡ encoded alternative
  pub named : Each Named alternative
  pub conform : Each (Exactly permitted excluded) alternative
  pub subject : Exactly permitted excluded (subject_name o)

abbrev pub ExactlyMet : Optional → List Contents → Type 0
ExactlyMet = Over Passes

-- ---- the constraints of a request's anchor: those with its number, where its flag is set. That the list has them then is a condition of its own (`whole`)
unfoldable pub constraints_of : Request → ℕ → Optional
constraints_of R anchor = cond (eqb (get_or R.bound anchor 0) 0) absent (present (get_or R.constraints anchor []))
