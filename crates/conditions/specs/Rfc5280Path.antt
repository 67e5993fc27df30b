-- RFC 5280, 6.1: basic path validation, as the RFC writes it, with its inputs, its state and its steps. No reader, no model and no search is named here.
-- Of a path the certificates are numbered from the one that the anchor issued, 1, to the one that is to be validated, n.
use Rattle.std.specs.Prelude.{ℕ, suc, ◌≤◌, ◌<◌, ◌≡◌, List, [], ◌∷◌, ◌++◌, Bool, true, false, ◌⊎◌, length}
use Rattle.parts.specs.Lists.{Every}
use Rattle.der.specs.X690.{encoding, truth, Natural, bit, BitString}
use Rattle.extensions.specs.Rfc5280.{Extension, listed, is_critical, is_number}
use Rattle.cert.specs.Rfc5280.{Skeleton, certificate}
use Rattle.names.specs.General.{General, Named, encoded, Each}
use Rattle.subtrees.specs.Rfc5280Names.{Others, NameConstraints, Conforms}
use Rattle.checks.specs.Conditions.{Optional, absent, present, Contents, InValidity, Bound, unbounded, at_most}
use Rattle.checks.specs.Skeletons.{value_in, Describes}
use Rattle.conditions.specs.Conditions.{content_in}
use Rattle.conditions.specs.Exactly.{subject_name}
use Rattle.conditions.specs.RfcNames.{MailOf}

-- ---- a certificate: its bytes, what they encode (4.1), and the contents of its fields
pub record Certificate : Type 0 where
  pub bytes : List ℕ
  pub skeleton : Skeleton
  pub contents : Contents
  pub encodes : bytes ≡ certificate skeleton
  pub describes : Describes skeleton contents

-- ---- what the RFC takes from elsewhere
pub record World : Type 1 where
  -- 7.1: two names are the same; and it can be told
  pub SameName : List ℕ → List ℕ → Type 0
  pub itself : (name : List ℕ) → SameName name name
  pub told : (a b : List ℕ) → SameName a b ⊎ (SameName a b → ⊥)
  -- 6.1.3 (a) (1): the signature of the certificate with these bytes is verified with the key in this SubjectPublicKeyInfo. Parameters that 6.1.4 (e) has a
  -- key inherit are not among them
  pub Verifies : List ℕ → List ℕ → Type 0
  -- 6.1.3 (a) (3)
  pub NotRevoked : Certificate → Type 0
  -- 6.1.3 (d) to (f), 6.1.4 (a), (b), (h) to (j), 6.1.5 (a), (b), (g): policies are processed to success. They have state of their own, and share none
  pub Policies : List Certificate → Type 0
  -- 4.2.1.10: being in a subtree, of kinds other than DNS names and addresses
  pub other : Others
  -- 6.1.4 (o), 6.1.5 (f): an extension, other than those of 6.1, that the application recognizes and processes
  pub Processed : Extension → Type 0

-- ---- 6.1.1: inputs; (a) the path is beside them, (c), (e) to (g) are in `Policies`
pub record Inputs : Type 0 where
  -- (b)
  pub time : ℕ
  -- (d): the trusted issuer name, and the trusted public key with its algorithm and parameters
  pub issuer : List ℕ
  pub key : List ℕ
  -- (h), (i)
  pub initial_permitted : List (List General)
  pub initial_excluded : List General

-- ---- 6.1.2: the state
pub record State : Type 0 where
  -- (b): the intersection of these lists; a list without an entry of a kind does not restrict that kind. (c): the union
  pub permitted_subtrees : List (List General)
  pub excluded_subtrees : List General
  -- (g) to (i), (j), (k)
  pub working_public_key : List ℕ
  pub working_issuer_name : List ℕ
  pub max_path_length : ℕ

abbrev pub initially : Inputs → ℕ → State
initially I n = record {
  permitted_subtrees = I.initial_permitted;
  excluded_subtrees = I.initial_excluded;
  working_public_key = I.key;
  working_issuer_name = I.issuer;
  max_path_length = n;
}

-- ---- 6.1.4, (g), (k), (m), (n): what the extensions of an issuer say
-- (g)
abbrev pub Constrains : Optional → State → List (List General) → List General → Type 0
Constrains absent s permitted excluded = (permitted ≡ s.permitted_subtrees) × (excluded ≡ s.excluded_subtrees)
Constrains (present content) s permitted excluded =
    (own : List General) × (out : List General) × NameConstraints content own out × (permitted ≡ own ∷ s.permitted_subtrees) × (excluded ≡ out ++ s.excluded_subtrees)

-- (k): basic constraints are there and cA is true; pathLenConstraint INTEGER (0..MAX) OPTIONAL
pub data Limit (rest : List ℕ) (bound : Bound) : Type 0 where
  none : rest ≡ [] → bound ≡ unbounded → Limit rest bound
  some : (n : ℕ) (content : List ℕ) → Natural n content → rest ≡ encoding 2 content → bound ≡ at_most n → Limit rest bound

abbrev pub Authority : Optional → Bound → Type 0
Authority absent bound = ⊥
Authority (present content) bound = (rest : List ℕ) × (content ≡ encoding 1 (truth true) ++ rest) × Limit rest bound

-- (m)
abbrev pub Lowered : Bound → ℕ → ℕ → Type 0
Lowered unbounded m left = left ≡ m
Lowered (at_most n) m left = ((n < m) × (left ≡ n)) ⊎ ((m ≤ n) × (left ≡ m))

-- (n): KeyUsage is a BIT STRING; keyCertSign is bit 5
abbrev pub MaySign : Optional → Type 0
MaySign absent = Unit {0}
MaySign (present v) = (unused : ℕ) × (octets : List ℕ) × (v ≡ encoding 3 (unused ∷ octets)) × BitString unused octets × (bit octets 5 ≡ 1)

module _ (W : World) where
  -- 6.1: self-issued: subject and issuer are the same
  abbrev pub SelfIssued : Certificate → Type 0
  SelfIssued c = W.SameName c.contents.subject c.contents.issuer

  -- ---- 6.1.3 (b), (c): a name is within the permitted subtrees of its kind, and in no excluded one
  pub record Within (s : State) (n : General) : Type 0 where
    pub permitted : Every (λ p. Conforms W.other p [] n) s.permitted_subtrees
    pub excluded : Conforms W.other [] s.excluded_subtrees n

  -- the names: 4.2.1.10 for a subject that is not empty, and a mail address in it where there is no alternative name
  pub record NamesWithin (s : State) (o : Contents) : Type 0 where
    pub alternative : List General
    pub is : content_in o.subject_alt_name ≡ encoded alternative
    pub named : Each Named alternative
    pub conform : Each (Within s) alternative
    pub subject : (o.subject ≡ [] → ⊥) → Within s (subject_name o)
    pub mail : (n : General) → MailOf o n → Within s n

  -- ---- 6.1.3: basic certificate processing; (d) to (f) are in `Policies`
  pub record Basic (time : ℕ) (s : State) (final : Bool) (c : Certificate) : Type 0 where
    -- (a) (1) to (4); of dates, those before 1970 are left out
    pub signature : W.Verifies s.working_public_key c.bytes
    pub validity : InValidity c.contents.validity time
    pub not_revoked : W.NotRevoked c
    pub issuer : W.SameName s.working_issuer_name c.contents.issuer
    -- (b), (c): skipped for a certificate that is self-issued and not the final one; and, since they need not be general names then, where nothing restricts
    -- any name
    pub names : (final ≡ false → SelfIssued c → ⊥) → (s.permitted_subtrees ≡ [] → s.excluded_subtrees ≡ [] → ⊥) → NamesWithin s c.contents

  -- ---- 6.1.4: preparation for the next certificate
  -- (l)
  pub data Counted (c : Certificate) (m left : ℕ) : Type 0 where
    self_issued : SelfIssued c → left ≡ m → Counted c m left
    counted : (SelfIssued c → ⊥) → m ≡ suc left → Counted c m left

  -- (o), and 6.1.5 (f): every critical extension is one of those that are processed here, or is processed elsewhere
  pub data Handled (x : Extension) : Type 0 where
    not_critical : is_critical x.critical ≡ false → Handled x
    key_usage : is_number 15 x ≡ true → Handled x
    subject_alt_name : is_number 17 x ≡ true → Handled x
    basic_constraints : is_number 19 x ≡ true → Handled x
    name_constraints : is_number 30 x ≡ true → Handled x
    elsewhere : W.Processed x → Handled x

  pub record Prepared (s : State) (c : Certificate) (next : State) : Type 0 where
    -- (c), and (d) to (f) without inherited parameters
    pub name : next.working_issuer_name ≡ c.contents.subject
    pub key : next.working_public_key ≡ c.contents.key
    -- (g)
    pub constrains : Constrains c.contents.name_constraints s next.permitted_subtrees next.excluded_subtrees
    -- (k)
    pub bound : Bound
    pub authority : Authority c.contents.basic_constraints bound
    -- (l), then (m)
    pub left : ℕ
    pub counted : Counted c s.max_path_length left
    pub lowered : Lowered bound left next.max_path_length
    -- (n), (o)
    pub may_sign : MaySign (value_in 15 (listed c.skeleton.extensions))
    pub handled : Every Handled (listed c.skeleton.extensions)

  -- ---- 6.1.3 to 6.1.5 for certificates i to n; 6.1.5 (c) to (e) give the key to the caller
  unfoldable pub Onward : ℕ → State → List Certificate → Type 0
  Onward time s [] = ⊥
  Onward time s (c ∷ []) = Basic time s true c × Every Handled (listed c.skeleton.extensions)
  Onward time s (c ∷ (d ∷ ds)) = Basic time s false c × ((next : State) × Prepared s c next × Onward time next (d ∷ ds))

  pub record Validates (I : Inputs) (path : List Certificate) : Type 0 where
    pub steps : Onward I.time (initially I (length path)) path
    pub policies : W.Policies path
