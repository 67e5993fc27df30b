-- What a signature question is about: RFC 5280, 4.1.1, 4.1.2.7 and 6.1.3 (a) (1).
use Rattle.std.specs.Prelude.{ℕ, suc, ◌≤◌, ◌<◌, ◌≡◌, List, [], true, length, get_or}
use Rattle.der.specs.declared.Span.{Span}
use Rattle.der.specs.Places.{part, LIMIT}
use Rattle.cert.specs.Accepted.{Readable}
use Rattle.cert.specs.Rfc5280.{Skeleton, certificate, tbs_certificate, key_content}
use Rattle.checks.specs.Conditions.{Contents}
use Rattle.checks.specs.Skeletons.{IsCertificate}
use Rattle.lent.specs.Lent.{certificate_of}

-- the places are those of the signed bytes, the algorithm and the signature of a certificate
pub record Signed (s : List ℕ) (signed algorithm signature : Span) : Type 0 where
  pub k : Skeleton
  pub bytes : s ≡ certificate k
  pub rules : Readable true k
  pub signed_is : part s signed.start signed.end ≡ tbs_certificate k
  pub algorithm_is : part s algorithm.start algorithm.end ≡ k.algorithm
  pub signature_is : part s signature.start signature.end ≡ k.signature

-- the key with a number: an anchor's, or a certificate's
pub data KeyOf (issuers : List (List ℕ)) (end : List ℕ) (keys : List (List ℕ)) (anchors n : ℕ) (key : List ℕ) : Type 0 where
  of_anchor : n < anchors → n < length keys → key ≡ get_or keys n [] → KeyOf issuers end keys anchors n key
  from_certificate : anchors ≤ n → (o : Contents) → IsCertificate (certificate_of issuers end anchors n) o → key ≡ o.key → KeyOf issuers end keys anchors n key

-- the key can be read: it is an algorithm and bits, neither longer than a reader takes
pub record Opens (issuers : List (List ℕ)) (end : List ℕ) (keys : List (List ℕ)) (anchors n : ℕ) : Type 0 where
  pub key : List ℕ
  pub is : KeyOf issuers end keys anchors n key
  pub algorithm : List ℕ
  pub bits : List ℕ
  pub content : key ≡ key_content algorithm bits
  pub algorithm_short : length algorithm < LIMIT
  pub bits_short : suc (length bits) < LIMIT
