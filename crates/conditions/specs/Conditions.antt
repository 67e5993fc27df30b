-- The parts of the conditions on a path for a request, on the bytes that are lent: RFC 5280, 6.1, as far as it is followed. `Meets` puts them together. No model
-- and no search is named here.
use Rattle.std.specs.Prelude.{ℕ, ◌≤◌, ◌<◌, ◌≡◌, true, List, [], ◌∷◌, length, get_or}
use Rattle.der.specs.Places.{Bytes}
use Rattle.labels.specs.Names.{wanted_name}
use Rattle.names.specs.General.{ForDns, ForIp, Reached}
use Rattle.lent.specs.Lent.{certificate_of}
use Rattle.checks.specs.Conditions.{Optional, absent, present, Contents, end_entity, issuer, InRole}
use Rattle.path.specs.Conditions.{Chained, Same}
use Rattle.checks.specs.Skeletons.{IsCertificate}
use Rattle.asked.specs.Questions.{Opens}
use Rattle.dialogue.specs.Log.{What, of_certificate}
use Rattle.conditions.specs.Request.{Request, end_of}

-- what is lent are bytes, as in every slice of them
pub record Lends (R : Request) : Type 0 where
  pub issuers : (i : ℕ) → Bytes (get_or R.issuers i [])
  pub end : Bytes R.end
  pub keys : (i : ℕ) → Bytes (get_or R.keys i [])
  pub constraints : (i : ℕ) → Bytes (get_or R.constraints i [])

-- an extension that is not there has nothing in it
unfoldable pub content_in : Optional → List ℕ
content_in absent = []
content_in (present content) = content

unfoldable pub Each : (Contents → Type 0) → List Contents → Type 0
Each P [] = Unit {0}
Each P (o ∷ os) = P o × Each P os

-- an issuer has as many intermediates below it as there are certificates below it, but for the last, which is the end entity
unfoldable pub InPlace : List Contents → Type 0
InPlace [] = Unit {0}
InPlace (o ∷ []) = InRole end_entity o.basic_constraints
InPlace (o ∷ (p ∷ os)) = InRole (issuer (length os)) o.basic_constraints × InPlace (p ∷ os)

-- each one's issuer is the subject above it
unfoldable pub Chain : List ℕ → List Contents → Type 0
Chain subject [] = Unit {0}
Chain subject (o ∷ os) = Chained o subject × Chain o.subject os

-- no two have the same subject and the same key
unfoldable pub Apart : List Contents → Type 0
Apart [] = Unit {0}
Apart (o ∷ os) = Each (λ p. Same o p → ⊥) os × Apart os

module _ (R : Request) where
  abbrev pub bytes_of : ℕ → List ℕ
  bytes_of n = certificate_of R.issuers R.end (length R.subjects) n

  -- the last number is the end entity's, and every other one an intermediate's
  unfoldable pub Numbers : List ℕ → Type 0
  Numbers [] = ⊥
  Numbers (n ∷ []) = n ≡ end_of R
  Numbers (i ∷ (n ∷ ns)) = (length R.subjects ≤ i) × (i < end_of R) × Numbers (n ∷ ns)

  -- each number's bytes are a certificate with the contents beside it
  unfoldable pub Readable : List ℕ → List Contents → Type 0
  Readable [] [] = Unit {0}
  Readable [] (o ∷ os) = ⊥
  Readable (n ∷ ns) [] = ⊥
  Readable (n ∷ ns) (o ∷ os) = IsCertificate (bytes_of n) o × Readable ns os

  -- the caller says yes: the key above each certificate signed it; and that key can be read, without which no answer is yes
  unfoldable pub Signed : (ℕ → What → Type 0) → ℕ → List ℕ → Type 0
  Signed Yes key [] = Unit {0}
  Signed Yes key (n ∷ ns) = Opens R.issuers R.end R.keys (length R.subjects) key × Yes key (of_certificate n) × Signed Yes n ns

  -- alternative names that are good for the wanted name: one of them, before any that is no general name, stands for it
  pub data Names (content : List ℕ) : Type 0 where
    unwanted : R.kind ≡ 0 → Names content
    dns : R.kind ≡ 1 → wanted_name R.name ≡ true → Reached (ForDns R.name) content → Names content
    ip : R.kind ≡ 2 → Reached (ForIp R.name) content → Names content

  -- the end entity is good for the wanted name
  pub record Named : Type 0 where
    pub contents : Contents
    pub readable : IsCertificate R.end contents
    pub names : Names (content_in contents.subject_alt_name)
