-- The conditions on one certificate by itself in its place, on the contents of the fields: RFC 5280, 4.1.2.5, 4.2.1.9, 4.2.1.12, 6.1.3 (a) (2) and
-- 6.1.4 (k) to (m). No reader is named here.
use Rattle.std.specs.Prelude.{ℕ, ◌≤◌, ◌<◌, ◌≡◌, List, [], ◌++◌, Bool, true, false, ◌⊎◌, length}
use Rattle.der.specs.X690.{encoding, truth, Natural}
use Rattle.der.specs.Places.{LIMIT}
use Rattle.moment.specs.Calendar.{IsTime, utc, generalized}

-- ---- 4.1.2.5: Validity ::= SEQUENCE { notBefore Time, notAfter Time }; 6.1.3 (a) (2): it includes the time, and its ends belong to it. No
-- time is before 1970 (stricter, D6); GeneralizedTime may write years before 2050, which 4.1.2.5 forbids to CAs
-- Time ::= CHOICE { utcTime, generalTime }
abbrev pub IsMoment : List ℕ → ℕ → Type 0
IsMoment bytes n = IsTime utc bytes n ⊎ IsTime generalized bytes n

pub record InValidity (content : List ℕ) (time : ℕ) : Type 0 where
  pub first : List ℕ
  pub second : List ℕ
  pub whole : content ≡ first ++ second
  pub not_before : ℕ
  pub not_after : ℕ
  pub begins : IsMoment first not_before
  pub ends : IsMoment second not_after
  pub begun : not_before ≤ time
  pub lasting : time ≤ not_after

-- an extension's content, where it is there
pub data Optional : Type 0 where
  absent : Optional
  present : List ℕ → Optional

-- ---- 4.2.1.9: BasicConstraints ::= SEQUENCE { cA BOOLEAN DEFAULT FALSE, pathLenConstraint INTEGER (0..MAX) OPTIONAL }
-- a false may be written, which X.690, 11.5, has left out
pub data Authority (bytes : List ℕ) (authority : Bool) : Type 0 where
  unwritten : bytes ≡ [] → authority ≡ false → Authority bytes authority
  written : bytes ≡ encoding 1 (truth authority) → Authority bytes authority

pub data Bound : Type 0 where
  unbounded : Bound
  at_most : ℕ → Bound

-- numbers above 255 are refused (stricter, D33)
pub data PathLength (bytes : List ℕ) (bound : Bound) : Type 0 where
  none : bytes ≡ [] → bound ≡ unbounded → PathLength bytes bound
  some : (n : ℕ) (content : List ℕ) → n < 256 → Natural n content → bytes ≡ encoding 2 content → bound ≡ at_most n → PathLength bytes bound

pub record BasicConstraints (content : List ℕ) (authority : Bool) (bound : Bound) : Type 0 where
  pub first : List ℕ
  pub second : List ℕ
  pub whole : content ≡ first ++ second
  pub says : Authority first authority
  pub limits : PathLength second bound

-- the default is a subject that is no CA
abbrev pub Constrained : Optional → Bool → Bound → Type 0
Constrained absent authority bound = (authority ≡ false) × (bound ≡ unbounded)
Constrained (present content) authority bound = BasicConstraints content authority bound

-- the end entity, or an issuer with that many intermediates below it
pub data Role : Type 0 where
  end_entity : Role
  issuer : ℕ → Role

-- 6.1.4 (l), (m), but self-issued intermediates count too (stricter, D30)
abbrev pub Allows : Bound → ℕ → Type 0
Allows unbounded below = Unit {0}
Allows (at_most n) below = below ≤ n

-- 6.1.4 (k): every issuer is a CA; that the end entity is none is no rule of RFC 5280 (stricter, D48)
abbrev pub InRole : Role → Optional → Type 0
InRole end_entity extension = (bound : Bound) × Constrained extension false bound
InRole (issuer below) extension = (bound : Bound) × Constrained extension true bound × Allows bound below

-- ---- 4.2.1.12: ExtKeyUsageSyntax ::= SEQUENCE SIZE (1..MAX) OF KeyPurposeId
-- the wanted purpose is among them, of issuers too (stricter, D49), and anyExtendedKeyUsage is one like others (stricter, D34); what comes after it is not looked at
pub data Lists (wanted : List ℕ) : List ℕ → Type 0 where
  here : {content : List ℕ} (rest : List ℕ) → length wanted < LIMIT → content ≡ encoding 6 wanted ++ rest → Lists wanted content
  later : {content : List ℕ} (other rest : List ℕ) → length other < LIMIT → content ≡ encoding 6 other ++ rest → Lists wanted rest → Lists wanted content

-- without the extension every purpose is allowed, unless the caller demands that it is listed
abbrev pub ForPurpose : List ℕ → Bool → Optional → Type 0
ForPurpose wanted demanded absent = demanded ≡ false
ForPurpose wanted demanded (present content) = Lists wanted content

-- ---- one certificate
pub record Contents : Type 0 where
  pub issuer : List ℕ
  pub validity : List ℕ
  pub subject : List ℕ
  pub key : List ℕ
  pub basic_constraints : Optional
  pub ext_key_usage : Optional
  pub subject_alt_name : Optional
  pub name_constraints : Optional
