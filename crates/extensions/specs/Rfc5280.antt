-- RFC 5280: a certificate's extensions and their encoding. Their values are contents of which nothing more is said. No reader is named
-- here.
use Rattle.std.specs.Prelude.{ℕ, ◌+◌, List, [], ◌∷◌, ◌++◌, Bool, false}
use Rattle.der.specs.X690.{encoding, truth}
use Rattle.parts.specs.Lists.{same_list}

-- ---- X.680, 8.4: the universal tags; X.690, 8.9.1 and 8.14.2: a SEQUENCE and an explicit [n] are constructed
unfoldable pub octet_string : List ℕ → List ℕ
octet_string content = encoding 4 content

unfoldable pub object_identifier : List ℕ → List ℕ
object_identifier content = encoding 6 content

unfoldable pub sequence : List ℕ → List ℕ
sequence content = encoding 48 content

unfoldable pub explicit : ℕ → List ℕ → List ℕ
explicit n content = encoding (160 + n) content

-- X.690, 8.2 and 11.1
unfoldable pub boolean : Bool → List ℕ
boolean b = encoding 1 (truth b)

-- ---- 4.1: the extensions
-- critical BOOLEAN DEFAULT FALSE: as it is written. X.690, 11.5, has false unwritten
pub data Criticality : Type 0 where
  unwritten : Criticality
  written : Bool → Criticality

unfoldable pub is_critical : Criticality → Bool
is_critical unwritten = false
is_critical (written b) = b

pub record Extension : Type 0 where
  pub identifier : List ℕ
  pub critical : Criticality
  pub value : List ℕ

-- extensions [3] EXPLICIT Extensions OPTIONAL
pub data Extensions : Type 0 where
  missing : Extensions
  present : List Extension → Extensions

-- ---- 4.1: their encoding
unfoldable pub criticality : Criticality → List ℕ
criticality unwritten = []
criticality (written b) = boolean b

-- Extension ::= SEQUENCE { extnID OBJECT IDENTIFIER, critical BOOLEAN DEFAULT FALSE, extnValue OCTET STRING }
unfoldable pub extension_content : Extension → List ℕ
extension_content x =
    object_identifier x.identifier ++ (criticality x.critical ++ octet_string x.value)

unfoldable pub extension : Extension → List ℕ
extension x = sequence (extension_content x)

-- Extensions ::= SEQUENCE SIZE (1..MAX) OF Extension
unfoldable pub extension_list : List Extension → List ℕ
extension_list [] = []
extension_list (x ∷ xs) = extension x ++ extension_list xs

unfoldable pub extensions : Extensions → List ℕ
extensions missing = []
extensions (present xs) = explicit 3 (sequence (extension_list xs))

-- id-ce ::= { joint-iso-ccitt(2) ds(5) 29 }, encoded as X.690, 8.19 has it
abbrev pub id_ce : ℕ → List ℕ
id_ce n = 85 ∷ 29 ∷ n ∷ []

unfoldable pub is_number : ℕ → Extension → Bool
is_number n x = same_list x.identifier (id_ce n)

unfoldable pub listed : Extensions → List Extension
listed missing = []
listed (present xs) = xs
