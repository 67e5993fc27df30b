-- Name constraints: RFC 5280, 4.2.1.10, 6.1.3 (b) and (c), 6.1.4 (g). No reader is named here. Where the RFC leaves a choice, it is said at the definition.
use Rattle.std.specs.Prelude.{ℕ, ◌≡◌, List, [], ◌∷◌, ◌++◌, true, ◌⊎◌}
use Rattle.der.specs.X690.{encoding}
use Rattle.labels.specs.Names.{Labels, labels, presented_name, entry_name}
use Rattle.dns.specs.Names.{StandsFor, InSubtree}
use Rattle.names.specs.General.{dns_name, ip_address, General, Named, Each}
use Rattle.ip.specs.Addresses.{InSubnet, IsAddress, IsEntry, InMasked}

-- ---- 4.2.1.10: the extension
-- GeneralSubtrees: of each the base alone, since minimum is 0, which DER leaves out, and maximum is absent
unfoldable pub subtrees : List General → List ℕ
subtrees [] = []
subtrees (n ∷ ns) = encoding 48 (encoding n.kind n.content) ++ subtrees ns

-- a list under its tag, or not there; an empty list restricts as little as none
pub data Field (tag : ℕ) (ns : List General) (bytes : List ℕ) : Type 0 where
  absent : ns ≡ [] → bytes ≡ [] → Field tag ns bytes
  present : bytes ≡ encoding tag (subtrees ns) → Field tag ns bytes

-- the content of NameConstraints: [0] permittedSubtrees, [1] excludedSubtrees
pub record NameConstraints (content : List ℕ) (permitted excluded : List General) : Type 0 where
  pub first : List ℕ
  pub second : List ℕ
  pub is : content ≡ first ++ second
  pub permitted_is : Field 160 permitted first
  pub excluded_is : Field 161 excluded second
  pub named : Each Named permitted × Each Named excluded

-- ---- what a presented name stands for: a DNS name for host names, any other for itself
pub data Meaning : Type 0 where
  host : Labels → Meaning
  value : List ℕ → Meaning

-- a star stands for any one label, and all that a name stands for must conform
unfoldable pub Means : General → Meaning → Type 0
Means n (host ls) = (n.kind ≡ dns_name) × StandsFor (labels n.content) ls
Means n (value v) = (n.kind ≡ dns_name → ⊥) × (v ≡ n.content)

-- ---- 4.2.1.10: to be in the subtree of an entry of the same kind
-- kind, name, entry: what it is for the other kinds. The RFC compares directory names by attributes, URIs by their host, mail addresses
-- by mailbox, host or domain, and leaves otherName, ediPartyName and registeredID undefined. What is proved holds whatever is meant, so that nothing need be chosen here.
abbrev pub Others : Type 1
Others = ℕ → List ℕ → List ℕ → Type 0

unfoldable pub In : Others → General → Meaning → Type 0
In other e (host ls) = InSubtree (labels e.content) ls
In other e (value v) = ((e.kind ≡ ip_address) × InSubnet v e.content) ⊎ ((e.kind ≡ ip_address → ⊥) × other e.kind v e.content)

-- ---- lists of names and entries
unfoldable pub Some : (General → Type 0) → List General → Type 0
Some P [] = ⊥
Some P (n ∷ ns) = P n ⊎ Some P ns

abbrev pub OfKind : General → General → Type 0
OfKind n e = e.kind ≡ n.kind

-- to be touched by an excluded entry: `In`, but with a mask as it stands. (A permitted one must have a mask that is ones and then zeros: `In`)
unfoldable pub Touches : Others → General → Meaning → Type 0
Touches other e (host ls) = InSubtree (labels e.content) ls
Touches other e (value v) = ((e.kind ≡ ip_address) × InMasked v e.content) ⊎ ((e.kind ≡ ip_address → ⊥) × other e.kind v e.content)

-- a name and an entry of its kind that are compared have their form: DNS names that of 4.2.1.6 and 4.2.1.10, addresses their lengths
pub record Formed (n e : General) : Type 0 where
  pub dns : n.kind ≡ dns_name → (presented_name n.content ≡ true) × (entry_name e.content ≡ true)
  pub ip : n.kind ≡ ip_address → IsAddress n.content × IsEntry e.content

-- ---- 6.1.3 (b) and (c), for one issuer's lists; by 6.1.4 (g) the lists of several issuers are met just if those of each are
pub record Conforms (other : Others) (permitted excluded : List General) (n : General) : Type 0 where
  -- (b), with 6.1.4 (g) (1): if there are permitted entries of the kind, all that it stands for is in one of them
  pub within : (m : Meaning) → Means n m → Some (OfKind n) permitted → Some (λ e. OfKind n e × In other e m) permitted
  -- (c): nothing that it stands for is touched by an excluded one
  pub without : (m : Meaning) → Means n m → Each (λ e. OfKind n e → Touches other e m → ⊥) excluded
  pub formed : Each (λ e. OfKind n e → Formed n e) permitted × Each (λ e. OfKind n e → Formed n e) excluded
