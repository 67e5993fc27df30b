-- RFC 5280: a certificate's skeleton and its encoding. Serial number, algorithm, names, validity and key are contents of which
-- nothing more is said; of the extensions the crate below speaks. No reader is named here.
use Rattle.std.specs.Prelude.{ℕ, List, [], ◌∷◌, ◌++◌}
use Rattle.der.specs.X690.{encoding}
use Rattle.extensions.specs.Rfc5280.{sequence, explicit, Extensions, extensions}

-- ---- X.680, 8.4: the universal tags
unfoldable pub integer : List ℕ → List ℕ
integer content = encoding 2 content

-- X.690, 8.6.2: the first octet says how many bits of the last are unused: none
unfoldable pub bit_string : List ℕ → List ℕ
bit_string octets = encoding 3 (0 ∷ octets)

-- ---- 4.1: the skeleton
pub record Skeleton : Type 0 where
  pub serial : List ℕ
  pub algorithm : List ℕ
  pub issuer : List ℕ
  pub validity : List ℕ
  pub subject : List ℕ
  pub key : List ℕ
  pub extensions : Extensions
  pub signature : List ℕ

-- ---- 4.1: its encoding
-- version [0] EXPLICIT Version: v3 is 2
unfoldable pub version : List ℕ
version = explicit 0 (integer (2 ∷ []))

-- TBSCertificate ::= SEQUENCE { version, serialNumber, signature, issuer, validity, subject, subjectPublicKeyInfo, extensions }:
-- without issuerUniqueID [1] and subjectUniqueID [2]
unfoldable pub tbs_content : Skeleton → List ℕ
tbs_content k =
    version
    ++ (integer k.serial
    ++ (sequence k.algorithm
    ++ (sequence k.issuer
    ++ (sequence k.validity
    ++ (sequence k.subject ++ (sequence k.key ++ extensions k.extensions))))))

unfoldable pub tbs_certificate : Skeleton → List ℕ
tbs_certificate k = sequence (tbs_content k)

-- Certificate ::= SEQUENCE { tbsCertificate, signatureAlgorithm, signatureValue }; 4.1.1.2: both algorithms are the same
unfoldable pub certificate_content : Skeleton → List ℕ
certificate_content k =
    tbs_certificate k ++ (sequence k.algorithm ++ bit_string k.signature)

unfoldable pub certificate : Skeleton → List ℕ
certificate k = sequence (certificate_content k)

-- 4.1.2.7: SubjectPublicKeyInfo ::= SEQUENCE { algorithm, subjectPublicKey BIT STRING }: its content
unfoldable pub key_content : List ℕ → List ℕ → List ℕ
key_content algorithm bits = sequence algorithm ++ bit_string bits
