-- What RFC 5280 demands of a certificate's extensions, 4.1, 4.2 and 4.2.1, as far as it can be said of their skeleton. No reader is named here.
use Rattle.std.specs.Prelude.{ℕ, ◌≤◌, ◌≡◌, List, [], ◌∷◌, Bool, true, false, length}
use Rattle.der.specs.X690.{encoding, ObjectIdentifier}
use Rattle.parts.specs.Lists.{Every}
use Rattle.extensions.specs.Rfc5280.{is_critical, Extension, Extensions, listed, id_ce}
use Rattle.extensions.specs.Meaning.{DerExtensions}

-- ---- 4.2.1.1 to 4.2.1.15: the type of the value of each extension id-ce n, by its tag (X.680, 8.4), and the fewest octets of its content: 1 where there has to
-- be a component, of SIZE (1..MAX) or because the text says so; 2 in a BIT STRING that has to have a bit (4.2.1.3)
pub data Typed : ℕ → ℕ → ℕ → Type 0 where
  authority_key_identifier : Typed 35 48 0
  subject_key_identifier : Typed 14 4 0
  key_usage : Typed 15 3 2
  certificate_policies : Typed 32 48 1
  policy_mappings : Typed 33 48 1
  subject_alt_name : Typed 17 48 1
  issuer_alt_name : Typed 18 48 1
  subject_directory_attributes : Typed 9 48 1
  basic_constraints : Typed 19 48 0
  name_constraints : Typed 30 48 1
  policy_constraints : Typed 36 48 1
  ext_key_usage : Typed 37 48 1
  crl_distribution_points : Typed 31 48 1
  inhibit_any_policy : Typed 54 2 1
  freshest_crl : Typed 46 48 1

-- 4.2.1: the extensions id-ce n that a conforming CA must mark critical, and those that it must not
pub data Marked : ℕ → Bool → Type 0 where
  of_authority_key_identifier : Marked 35 false
  of_subject_key_identifier : Marked 14 false
  of_subject_directory_attributes : Marked 9 false
  of_name_constraints : Marked 30 true
  of_policy_constraints : Marked 36 true
  of_inhibit_any_policy : Marked 54 true
  of_freshest_crl : Marked 46 false

-- the octets are an encoding under that tag, and nothing else; of the content no more is said
pub record Value (tag least : ℕ) (value : List ℕ) : Type 0 where
  pub content : List ℕ
  pub is : value ≡ encoding tag content
  pub enough : least ≤ length content

-- ---- one extension: 4.1, extnID OBJECT IDENTIFIER; 4.2, the value has the type that belongs to the identifier, and it is marked as 4.2.1 says
pub record ConformingExtension (x : Extension) : Type 0 where
  pub identifier : ObjectIdentifier x.identifier
  pub value : (n tag least : ℕ) → Typed n tag least → x.identifier ≡ id_ce n → Value tag least x.value
  pub marked : (n : ℕ) (b : Bool) → Marked n b → x.identifier ≡ id_ce n → is_critical x.critical ≡ b

-- ---- all of them: 4.2, no more than one instance of a particular extension
unfoldable pub Distinct : List Extension → Type 0
Distinct [] = Unit {0}
Distinct (x ∷ xs) = Every (λ y. y.identifier ≡ x.identifier → ⊥) xs × Distinct xs

pub record ConformingExtensions (es : Extensions) : Type 0 where
  pub der : DerExtensions es
  pub each : Every ConformingExtension (listed es)
  pub once : Distinct (listed es)
