-- The contents of a certificate by its skeleton: RFC 5280, 4.1 and 4.2. No reader is named here.
use Rattle.std.specs.Prelude.{ℕ, ◌≡◌, List, [], ◌∷◌, true, cond}
use Rattle.extensions.specs.Rfc5280.{Extension, listed, sequence, is_number}
use Rattle.cert.specs.Accepted.{Readable}
use Rattle.cert.specs.Rfc5280.{Skeleton, certificate}
use Rattle.checks.specs.Conditions.{Optional, absent, present, Contents}

-- the value of extension n, where the list has it
unfoldable pub value_in : ℕ → List Extension → Optional
value_in n [] = absent
value_in n (x ∷ xs) = cond (is_number n x) (present x.value) (value_in n xs)

-- the content of the SEQUENCE that a value is
abbrev pub InSequence : Optional → Optional → Type 0
InSequence absent o = o ≡ absent
InSequence (present value) o = (content : List ℕ) × (value ≡ sequence content) × (o ≡ present content)

pub record Describes (k : Skeleton) (o : Contents) : Type 0 where
  pub issuer : k.issuer ≡ o.issuer
  pub validity : k.validity ≡ o.validity
  pub subject : k.subject ≡ o.subject
  pub key : k.key ≡ o.key
  pub basic_constraints : InSequence (value_in 19 (listed k.extensions)) o.basic_constraints
  pub ext_key_usage : InSequence (value_in 37 (listed k.extensions)) o.ext_key_usage
  pub subject_alt_name : InSequence (value_in 17 (listed k.extensions)) o.subject_alt_name
  pub name_constraints : InSequence (value_in 30 (listed k.extensions)) o.name_constraints

-- the bytes are the encoding of a certificate with these contents, which keeps the rules of a reader
pub record IsCertificate (s : List ℕ) (o : Contents) : Type 0 where
  pub k : Skeleton
  pub bytes : s ≡ certificate k
  pub rules : Readable true k
  pub describes : Describes k o
