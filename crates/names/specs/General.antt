-- The alternative names of a certificate, RFC 5280, 4.2.1.6, as a row of encodings; and which of them are good for a name that is looked for. No reader is named here.
use Rattle.std.specs.Prelude.{ℕ, ◌<◌, ◌≡◌, List, [], ◌∷◌, ◌++◌, Bool, true, false, cond, ◌⊎◌, length, eqb}
use Rattle.der.specs.X690.{encoding}
use Rattle.labels.specs.Names.{labels, relative, presented_name}
use Rattle.dns.specs.Names.{StandsFor}

abbrev pub dns_name : ℕ
dns_name = 130

abbrev pub ip_address : ℕ
ip_address = 135

-- the nine choices of a GeneralName by their tags: otherName, rfc822Name, dNSName, x400Address, directoryName, ediPartyName,
-- uniformResourceIdentifier, iPAddress, registeredID
unfoldable pub choices : List ℕ
choices = 160 ∷ 129 ∷ dns_name ∷ 163 ∷ 164 ∷ 165 ∷ 134 ∷ ip_address ∷ 136 ∷ []

unfoldable pub among : ℕ → List ℕ → Bool
among t [] = false
among t (x ∷ xs) = cond (eqb t x) true (among t xs)

-- a name: its kind, which is its tag, and its content
pub record General : Type 0 where
  pub kind : ℕ
  pub content : List ℕ

-- the content is shorter than every certificate's limit
pub record Named (n : General) : Type 0 where
  pub known : among n.kind choices ≡ true
  pub small : length n.content < 65535

unfoldable pub encoded : List General → List ℕ
encoded [] = []
encoded (n ∷ ns) = encoding n.kind n.content ++ encoded ns

unfoldable pub Each : (General → Type 0) → List General → Type 0
Each P [] = Unit {0}
Each P (n ∷ ns) = P n × Each P ns

-- no name begins so
abbrev pub Broken : List ℕ → Type 0
Broken bytes = (n : General) → Named n → (rest : List ℕ) → bytes ≡ encoding n.kind n.content ++ rest → ⊥

-- RFC 9525, 6.3: a DNS name that stands for the one that is looked for
pub record ForDns (wanted : List ℕ) (n : General) : Type 0 where
  pub kind_is : n.kind ≡ dns_name
  pub is_name : presented_name n.content ≡ true
  pub stands : StandsFor (labels n.content) (relative (labels wanted))

-- RFC 9525, 6.4: an address, of 4 octets or 16, that is the one that is looked for
pub record ForIp (wanted : List ℕ) (n : General) : Type 0 where
  pub kind_is : n.kind ≡ ip_address
  pub size : (length n.content ≡ 4) ⊎ (length n.content ≡ 16)
  pub is : n.content ≡ wanted

-- a row of names that begins the bytes and ends with one of which P holds
pub record Reached (P : General → Type 0) (bytes : List ℕ) : Type 0 where
  pub before : List General
  pub name : General
  pub after : List ℕ
  pub is : bytes ≡ encoded before ++ (encoding name.kind name.content ++ after)
  pub named : Each Named before × Named name
  pub holds : P name

-- the bytes are a row of names of which P holds of none
pub record Passed (P : General → Type 0) (bytes : List ℕ) : Type 0 where
  pub names : List General
  pub is : bytes ≡ encoded names
  pub named : Each Named names
  pub none : Each (λ n. P n → ⊥) names

-- the same up to a place where bytes are left and no name begins
pub record BrokenOff (P : General → Type 0) (bytes : List ℕ) : Type 0 where
  pub names : List General
  pub rest : List ℕ
  pub is : bytes ≡ encoded names ++ rest
  pub named : Each Named names
  pub none : Each (λ n. P n → ⊥) names
  pub some : rest ≡ [] → ⊥
  pub broken : Broken rest
