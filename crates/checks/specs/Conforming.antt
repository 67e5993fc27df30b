-- What RFC 5280 demands of the contents of extensions that the checks open, and of what they say together. No reader is named here.
use Rattle.std.specs.Prelude.{ℕ, ◌≡◌, List, ◌++◌, Bool, true, ◌⊎◌}
use Rattle.der.specs.X690.{encoding, ObjectIdentifier}
use Rattle.cert.specs.Conforming.{HasBit}
use Rattle.checks.specs.Conditions.{Optional, absent, present, Bound, unbounded, at_most}

-- ---- 4.2.1.12: ExtKeyUsageSyntax ::= SEQUENCE SIZE (1..MAX) OF KeyPurposeId, which is an OBJECT IDENTIFIER: the content
pub data KeyPurposes : List ℕ → Type 0 where
  last : {content : List ℕ} (purpose : List ℕ) → content ≡ encoding 6 purpose → ObjectIdentifier purpose → KeyPurposes content
  more : {content : List ℕ} (purpose rest : List ℕ) → content ≡ encoding 6 purpose ++ rest → ObjectIdentifier purpose → KeyPurposes rest → KeyPurposes content

-- ---- 4.2.1.3: the key usage has the bit keyCertSign, which is bit 5
abbrev pub KeyCertSign : Optional → Type 0
KeyCertSign absent = ⊥
KeyCertSign (present value) = HasBit 5 value

-- 4.2.1.9: a path length only where cA is true and the key usage has keyCertSign
abbrev pub Bounds : Optional → Bool → Bound → Type 0
Bounds usage authority unbounded = Unit {0}
Bounds usage authority (at_most n) = (authority ≡ true) × KeyCertSign usage

-- 4.2.1.12: for server authentication a key usage, if it is there, has digitalSignature, keyEncipherment or keyAgreement: bit 0, 2 or 4
abbrev pub ServerUsage : Optional → Type 0
ServerUsage absent = Unit {0}
ServerUsage (present value) = HasBit 0 value ⊎ (HasBit 2 value ⊎ HasBit 4 value)
