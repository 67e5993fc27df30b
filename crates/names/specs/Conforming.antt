-- What RFC 5280, 4.2.1.6, demands of the content of a general name, as far as it is said here. What is demanded is necessary: a name that breaks it breaks the RFC.
-- No reader is named here.
use Rattle.std.specs.Prelude.{ℕ, ◌≡◌, List, Bool, true, ◌||◌, eqb}
use Rattle.der.specs.X690.{encoding}
use Rattle.labels.specs.Names.{star, hyphen, digit, letter, every, labels}
use Rattle.ip.specs.Addresses.{IsAddress}
use Rattle.names.specs.General.{General, dns_name, ip_address}

abbrev pub directory_name : ℕ
directory_name = 164

-- RFC 1034, 3.5: letters, digits and the hyphen; 4.2.1.6 leaves a star to those who use it
unfoldable pub preferred : ℕ → Bool
preferred b = letter b || (digit b || (eqb b hyphen || eqb b star))

pub record ConformingName (n : General) : Type 0 where
  -- a DNS name is in the preferred syntax
  pub dns : n.kind ≡ dns_name → every (every preferred) (labels n.content) ≡ true
  -- an address has 4 octets or 16
  pub address : n.kind ≡ ip_address → IsAddress n.content
  -- Name is a CHOICE, so the tag is explicit: its SEQUENCE is inside
  pub directory : n.kind ≡ directory_name → (name : List ℕ) × (n.content ≡ encoding 48 name)
