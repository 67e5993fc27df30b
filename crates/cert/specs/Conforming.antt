-- What RFC 5280 demands of a certificate of version 3, 4.1 and 4.2, as far as it can be said of its skeleton. Where a value is of the type ANY, or its content is
-- another document's, nothing is said of it. So what is demanded here is necessary: a certificate that breaks it breaks the RFC, leap seconds apart. No reader is
-- named here.
use Rattle.std.specs.Prelude.{ℕ, ◌≤◌, ◌<◌, ◌≡◌, List, [], ◌∷◌, ◌++◌, true, ◌⊎◌, length}
use Rattle.der.specs.X690.{encoding, Natural, bit, BitString, ObjectIdentifier}
use Rattle.parts.specs.Lists.{Some}
use Rattle.moment.specs.Calendar.{Date, Real, Kind, utc, tag_of, text, Writes}
use Rattle.extensions.specs.Rfc5280.{Extension, listed, id_ce, is_critical, sequence, boolean}
use Rattle.extensions.specs.Conforming.{ConformingExtensions}
use Rattle.cert.specs.Rfc5280.{Skeleton}

-- ---- 4.1.1.2: AlgorithmIdentifier ::= SEQUENCE { algorithm OBJECT IDENTIFIER, parameters ANY OPTIONAL }
pub record AlgorithmIdentifier (content : List ℕ) : Type 0 where
  pub algorithm : List ℕ
  pub parameters : List ℕ
  pub whole : content ≡ encoding 6 algorithm ++ parameters
  pub named : ObjectIdentifier algorithm

-- ---- 4.1.2.2: CertificateSerialNumber ::= INTEGER, positive, no longer than 20 octets; X.690, 8.3
pub record Serial (content : List ℕ) : Type 0 where
  pub number : ℕ
  pub natural : Natural number content
  pub positive : 0 < number
  pub few : length content ≤ 20

-- ---- 4.1.2.4: Name ::= SEQUENCE OF RelativeDistinguishedName, each a SET SIZE (1..MAX) OF AttributeTypeAndValue ::= SEQUENCE { type OBJECT IDENTIFIER, value ANY }
pub record Attribute (content : List ℕ) : Type 0 where
  pub type : List ℕ
  pub value : List ℕ
  pub whole : content ≡ encoding 6 type ++ value
  pub named : ObjectIdentifier type

pub data Attributes : List ℕ → Type 0 where
  last : {content : List ℕ} (attribute : List ℕ) → content ≡ encoding 48 attribute → Attribute attribute → Attributes content
  more : {content : List ℕ} (attribute rest : List ℕ) → content ≡ encoding 48 attribute ++ rest → Attribute attribute → Attributes rest → Attributes content

pub data Name : List ℕ → Type 0 where
  none : {content : List ℕ} → content ≡ [] → Name content
  more : {content : List ℕ} (set rest : List ℕ) → content ≡ encoding 49 set ++ rest → Attributes set → Name rest → Name content

-- ---- 4.1.2.5: Validity ::= SEQUENCE { notBefore Time, notAfter Time }; a date through 2049 is written as UTCTime, a later one as GeneralizedTime; 4.1.2.5.1 and
-- 4.1.2.5.2 say how (`text`). No date has a leap second here
pub record Time (bytes : List ℕ) : Type 0 where
  pub kind : Kind
  pub date : Date
  pub real : Real date
  pub writes : Writes kind date.year
  pub through : (kind ≡ utc) ⊎ (2050 ≤ date.year)
  pub encoded : bytes ≡ encoding (tag_of kind) (text kind date)

pub record Validity (content : List ℕ) : Type 0 where
  pub not_before : List ℕ
  pub not_after : List ℕ
  pub whole : content ≡ not_before ++ not_after
  pub begins : Time not_before
  pub ends : Time not_after

-- ---- 4.1.2.7: SubjectPublicKeyInfo ::= SEQUENCE { algorithm AlgorithmIdentifier, subjectPublicKey BIT STRING }
pub record SubjectPublicKeyInfo (content : List ℕ) : Type 0 where
  pub algorithm : List ℕ
  pub unused : ℕ
  pub octets : List ℕ
  pub whole : content ≡ encoding 48 algorithm ++ encoding 3 (unused ∷ octets)
  pub of : AlgorithmIdentifier algorithm
  pub bits : BitString unused octets

-- ---- extensions that bear on other fields
-- 4.2.1.9: basic constraints with cA, which is then the first component, true
abbrev pub SaysCa : Extension → Type 0
SaysCa x = (x.identifier ≡ id_ce 19) × ((rest : List ℕ) × (x.value ≡ sequence (boolean true ++ rest)))

-- 4.2.1.6: an alternative name, critical
abbrev pub CriticalName : Extension → Type 0
CriticalName x = (x.identifier ≡ id_ce 17) × (is_critical x.critical ≡ true)

-- ---- 4.1: the whole
pub record Conforming (k : Skeleton) : Type 0 where
  pub serial : Serial k.serial
  pub algorithm : AlgorithmIdentifier k.algorithm
  -- 4.1.2.4: not empty
  pub issuer : Name k.issuer
  pub issuer_some : k.issuer ≡ [] → ⊥
  pub validity : Validity k.validity
  -- 4.1.2.6: a CA's is not empty; where another's is, there is an alternative name, and it is critical
  pub subject : Name k.subject
  pub subject_ca : Some SaysCa (listed k.extensions) → k.subject ≡ [] → ⊥
  pub subject_some : k.subject ≡ [] → Some CriticalName (listed k.extensions)
  pub key : SubjectPublicKeyInfo k.key
  pub extensions : ConformingExtensions k.extensions
  -- 4.2.1.10: name constraints are used only in a CA's certificate
  pub constraints : Some (λ x. x.identifier ≡ id_ce 30) (listed k.extensions) → Some SaysCa (listed k.extensions)
  -- 4.1.1.3: a signature is not empty
  pub signature : k.signature ≡ [] → ⊥

-- ---- 4.2.1.1 to 4.2.1.3: which extensions have to be there, and when. This stands apart from `Conforming`: a certificate without them is read all the same
abbrev pub Has : ℕ → Skeleton → Type 0
Has n k = Some (λ x. x.identifier ≡ id_ce n) (listed k.extensions)

-- 4.2.1.3: KeyUsage ::= BIT STRING: a value that has bit n
unfoldable pub HasBit : ℕ → List ℕ → Type 0
HasBit n value = (unused : ℕ) × (octets : List ℕ) × (value ≡ encoding 3 (unused ∷ octets)) × (bit octets n ≡ 1)

-- keyCertSign is bit 5
abbrev pub Signs : Extension → Type 0
Signs x = (x.identifier ≡ id_ce 15) × HasBit 5 x.value

pub record Equipped (k : Skeleton) : Type 0 where
  -- 4.2.1.1: the authority key identifier, in every certificate but one that is self-signed; there the issuer is the subject
  pub authority_key : (k.issuer ≡ k.subject → ⊥) → Has 35 k
  -- 4.2.1.2: the subject key identifier, in a CA's certificate
  pub subject_key : Some SaysCa (listed k.extensions) → Has 14 k
  -- 4.2.1.3: key usage, in a CA's certificate; keyCertSign, only there
  pub usage : Some SaysCa (listed k.extensions) → Has 15 k
  pub signs : Some Signs (listed k.extensions) → Some SaysCa (listed k.extensions)
