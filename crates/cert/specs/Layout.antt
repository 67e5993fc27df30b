-- Where the fields of a skeleton lie in its encoding: each place by adding up the lengths of what comes before it.
use Rattle.std.specs.Prelude.{ℕ, ◌+◌, List, [], ◌∷◌}
use Rattle.der.specs.declared.Span.{Span}
use Rattle.extensions.specs.Layout.{place_of, known_at}
use Rattle.cert.specs.declared.Certificate.{Certificate}
use Rattle.cert.specs.Rfc5280.{Skeleton, integer, tbs_content, certificate_content}

-- the bits of a BIT STRING that is encoded at `at`: after the octet that counts the unused ones
abbrev pub bits_of : ℕ → List ℕ → Span
bits_of at octets =
    let content = place_of at (0 ∷ octets) in
    record { start = content.start + 1; end = content.end }

-- ---- a certificate that is encoded at 0
unfoldable pub places : Skeleton → Certificate
places k =
    let whole = place_of 0 (certificate_content k) in
    let tbs = place_of whole.start (tbs_content k) in
    let algorithm = place_of tbs.end k.algorithm in
    let version = place_of tbs.start (integer (2 ∷ [])) in
    let serial = place_of version.end k.serial in
    let inner = place_of serial.end k.algorithm in
    let issuer = place_of inner.end k.issuer in
    let validity = place_of issuer.end k.validity in
    let subject = place_of validity.end k.subject in
    let key = place_of subject.end k.key in
    record {
      signed = record { start = whole.start; end = tbs.end };
      algorithm = algorithm;
      signature = bits_of algorithm.end k.signature;
      serial = serial;
      inner_algorithm = inner;
      issuer = issuer;
      validity = validity;
      subject = subject;
      key = key;
      known = known_at key.end k.extensions;
    }
