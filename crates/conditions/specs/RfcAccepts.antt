-- What is accepted, RFC 5280, 6.1, accepts, but for exceptions that each have a name here. A statement about `Stands` alone: no model is named, and no search.
use Rattle.std.specs.Prelude.{ℕ, ◌≡◌, true, ◌⊎◌, length, get_or}
use mathlib.Core.List.{List, [], ◌∷◌, map, Memᴰ}
use Rattle.parts.specs.Lists.{Every}
use Rattle.extensions.specs.Rfc5280.{Extension, listed, is_critical, is_number}
use Rattle.names.specs.General.{General}
use Rattle.subtrees.specs.Rfc5280Names.{NameConstraints}
use Rattle.checks.specs.Conditions.{Optional, absent, present}
use Rattle.checks.specs.Skeletons.{value_in}
use Rattle.asked.specs.Questions.{KeyOf}
use Rattle.dialogue.specs.Log.{What, of_certificate}
use Rattle.conditions.specs.Request.{Request}
use Rattle.conditions.specs.Conditions.{bytes_of}
use Rattle.conditions.specs.Exactly.{constraints_of}
use Rattle.conditions.specs.RfcNames.{MailInSubject}
use Rattle.conditions.specs.Meets.{Stands}
use Rattle.conditions.specs.Rfc5280Path.{Certificate, World, Inputs, MaySign, Validates}

-- ---- the exceptions
-- D21: a mail address in a subject, and an entry for mail among the constraints of the anchor or of a certificate of the path
pub record MailException (anchor : Optional) (path : List Certificate) : Type 0 where
  pub certificate : Certificate
  pub is_on_path : Memᴰ certificate path
  pub content : List ℕ
  pub whose : (anchor ≡ present content) ⊎ ((c : Certificate) × Memᴰ c path × (c.contents.name_constraints ≡ present content))
  pub permitted : List General
  pub excluded : List General
  pub is : NameConstraints content permitted excluded
  pub name : General
  pub mail : MailInSubject permitted excluded certificate.contents name

-- D31: 6.1.4 (n) is not looked at. It is asked of issuers, and so of all but the last
unfoldable pub KeyUsageKept : List Certificate → Type 0
KeyUsageKept [] = Unit {0}
KeyUsageKept (c ∷ []) = Unit {0}
KeyUsageKept (c ∷ (d ∷ ds)) = MaySign (value_in 15 (listed c.skeleton.extensions)) × KeyUsageKept (d ∷ ds)

module _ (W : World) where
  -- D10: critical distribution points count as known, and nothing processes them
  abbrev pub PointsProcessed : Certificate → Type 0
  PointsProcessed c = Every (λ x. is_number 31 x ≡ true → is_critical x.critical ≡ true → W.Processed x) (listed c.skeleton.extensions)

  -- no exception applies. Purposes (extension 37) count as processed: by Pathjudge, for the purpose that the caller asked for
  pub record Unexceptional (anchor : Optional) (path : List Certificate) : Type 0 where
    pub purposes : (x : Extension) → is_number 37 x ≡ true → W.Processed x
    pub mail : MailException anchor path → ⊥
    pub key_usage : KeyUsageKept path
    pub points : Every PointsProcessed path
    -- D46: revocation is not looked at; D36: nor are policies. These two are assumed as a whole
    pub not_revoked : Every W.NotRevoked path
    pub policies : W.Policies path

-- ---- the inputs of 6.1.1 that a request and an anchor are; the anchor's constraints are initial subtrees, as RFC 5937, 3.2, has it
abbrev pub Initially : Optional → Inputs → Type 0
Initially absent I = (I.initial_permitted ≡ []) × (I.initial_excluded ≡ [])
Initially (present content) I = (permitted : List General) × NameConstraints content permitted I.initial_excluded × (I.initial_permitted ≡ permitted ∷ [])

pub record InputsOf (R : Request) (anchor : ℕ) (I : Inputs) : Type 0 where
  pub time : I.time ≡ R.time
  pub issuer : I.issuer ≡ get_or R.subjects anchor []
  pub key : I.key ≡ get_or R.keys anchor []
  pub subtrees : Initially (constraints_of R anchor) I

-- ---- THEOREM. `Yes` is true of signatures: where it says that a key signed a certificate, the one verifies with the other
abbrev pub True : Request → World → (ℕ → What → Type 0) → Type 0
True R W Yes =
    (key what : ℕ) (content : List ℕ) → KeyOf R.issuers R.end R.keys (length R.subjects) key content → Yes key (of_certificate what) → W.Verifies content (bytes_of R what)

pub record Accepts (R : Request) (W : World) (anchor : ℕ) (path : List ℕ) : Type 0 where
  pub certificates : List Certificate
  pub are : map (λ (c : Certificate). c.bytes) certificates ≡ map (bytes_of R) path
  pub inputs : Inputs
  pub inputs_of : InputsOf R anchor inputs
  pub validates : Unexceptional W (constraints_of R anchor) certificates → Validates W inputs certificates

abbrev pub AcceptsType : Type 1
AcceptsType = (R : Request) (W : World) (Yes : ℕ → What → Type 0) → True R W Yes → (anchor : ℕ) (path : List ℕ) → Stands R Yes anchor path → Accepts R W anchor path
