-- What the code answers, as functions of the bytes: the same tests in the same order.
use Rattle.std.specs.Prelude.{ℕ, List, Bool, false, cond, eqb, Ok, Err, Result}
use Rattle.refusal.specs.Refusals.{bad_der, trailing_subject_public_key_info, unsupported_cert_version}
use Rattle.der.specs.Model.{expect_at, on_content}
use Rattle.bits.specs.Model.{bits_at}
use Rattle.extensions.specs.Model.{span, on_kept, extensions_at}
use Rattle.extensions.specs.declared.Known.{Known}
use Rattle.envelope.specs.declared.Envelope.{Envelope}
use Rattle.envelope.specs.declared.Beginning.{Beginning}
use Rattle.cert.specs.declared.Certificate.{Certificate}
use Rattle.cert.specs.declared.Fields.{Fields}
use Rattle.envelope.specs.Model.{on_parts, opened, begun, on_begun}
use Rattle.cert.specs.declared.TrustAnchor.{TrustAnchor}
use Rattle.cert.specs.declared.key.Key.{Key}
use Rattle.extensions.specs.declared.Slot.{Slot}
use Rattle.der.specs.declared.Span.{Span}

-- what comes of reading a certificate
abbrev pub Reading : Type 0
Reading = Result Certificate ℕ

-- a key that is read, and an anchor
abbrev pub key_is : Span → Span → Result Key ℕ
key_is algorithm bits = Ok (record { algorithm = algorithm; bits = bits })

abbrev pub anchor_is : Span → Span → Slot → Result TrustAnchor ℕ
anchor_is subject key constraints = Ok (record { subject = subject; key = key; constraints = constraints })

-- ---- the signed content
unfoldable pub fields_at : List ℕ → ℕ → ℕ → Result Fields ℕ
fields_at s from to =
    on_content (expect_at s from to 48 bad_der) Err (λ a b.
    on_content (expect_at s b to 48 bad_der) Err (λ c d.
    on_content (expect_at s d to 48 bad_der) Err (λ e f.
    on_content (expect_at s f to 48 bad_der) Err (λ g h.
    Ok (record { issuer = span a b; validity = span c d; subject = span e f; key = span g h })))))

-- ---- the whole
unfoldable pub on_found : {R : Type 0} → Result Fields ℕ → (ℕ → R) → (Fields → R) → R
on_found (Ok p) other k = k p
on_found (Err e) other k = other e

abbrev pub whole_of : Envelope → Beginning → Fields → Known → Certificate
whole_of p q f known =
    record {
      signed = p.signed;
      algorithm = p.algorithm;
      signature = p.signature;
      serial = q.serial;
      inner_algorithm = q.algorithm;
      issuer = f.issuer;
      validity = f.validity;
      subject = f.subject;
      key = f.key;
      known = known;
    }

unfoldable pub read_certificate : List ℕ → Bool → Reading
read_certificate s strict =
    on_parts (opened s) Err (λ p.
    on_begun (begun s p.content.start p.content.end p.algorithm) Err (λ q.
    on_found (fields_at s q.algorithm.end p.content.end) Err (λ f.
    on_kept (extensions_at s f.key.end p.content.end strict) Err (λ known.
    Ok (whole_of p q f known)))))

-- of a trusted certificate
unfoldable pub anchor_of : Reading → Result TrustAnchor ℕ
anchor_of (Ok c) = anchor_is c.subject c.key c.known.name_constraints
anchor_of (Err e) = cond (eqb e unsupported_cert_version) (Err bad_der) (Err e)

unfoldable pub read_anchor : List ℕ → Result TrustAnchor ℕ
read_anchor s = anchor_of (read_certificate s false)

-- ---- a key's parts
unfoldable pub key_parts : List ℕ → ℕ → ℕ → Result Key ℕ
key_parts s from to =
    on_content (expect_at s from to 48 bad_der) Err (λ a b.
    on_content (bits_at s b to) Err (λ c d.
    cond (eqb d to) (key_is (span a b) (span c d)) (Err trailing_subject_public_key_info)))
