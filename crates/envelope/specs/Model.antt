-- What the code answers, as functions of the bytes: the same tests in the same order.
use Rattle.std.specs.Prelude.{ℕ, List, cond, length, eqb, Ok, Err, Result}
use Rattle.refusal.specs.Refusals.{bad_der, trailing_signed_data, trailing_certificate, unsupported_cert_version, signature_algorithm_mismatch}
use Rattle.der.specs.declared.Span.{Span}
use Rattle.der.specs.Model.{expect_at, on_content}
use Rattle.parts.specs.Model.{same_parts}
use Rattle.bits.specs.Model.{bits_at}
use Rattle.values.specs.Model.{read_small}
use Rattle.extensions.specs.Model.{span}
use Rattle.envelope.specs.declared.Envelope.{Envelope}
use Rattle.envelope.specs.declared.Beginning.{Beginning}

-- ---- the outer SEQUENCE
unfoldable pub parts_in : List ℕ → ℕ → ℕ → Result Envelope ℕ
parts_in s from to =
    on_content (expect_at s from to 48 bad_der) Err (λ a b.
    on_content (expect_at s b to 48 bad_der) Err (λ c d.
    on_content (bits_at s d to) Err (λ e f.
    cond (eqb f to)
    (Ok (record { signed = span from b; content = span a b; algorithm = span c d; signature = span e f }))
    (Err trailing_signed_data))))

unfoldable pub on_parts : {R : Type 0} → Result Envelope ℕ → (ℕ → R) → (Envelope → R) → R
on_parts (Ok p) other k = k p
on_parts (Err e) other k = other e

unfoldable pub opened : List ℕ → Result Envelope ℕ
opened s =
    on_content (expect_at s 0 (length s) 48 trailing_signed_data) Err (λ a b.
    on_parts (parts_in s a b) Err (λ p.
    cond (eqb b (length s)) (Ok p) (Err trailing_certificate)))

-- ---- the signed content
unfoldable pub is_version : ℕ → ℕ → Result (ℕ × ℕ) ℕ → Result Span ℕ
is_version start end (Ok v) =
    cond (eqb v.0 2)
    (cond (eqb v.1 end) (Ok (span start end)) (Err unsupported_cert_version))
    (Err unsupported_cert_version)
is_version start end (Err e) = Err e

unfoldable pub version_at : List ℕ → ℕ → ℕ → Result Span ℕ
version_at s from to =
    on_content (expect_at s from to 160 unsupported_cert_version) Err (λ a b. is_version a b (read_small s a b))

unfoldable pub begun : List ℕ → ℕ → ℕ → Span → Result Beginning ℕ
begun s from to outer =
    on_content (version_at s from to) Err (λ v w.
    on_content (expect_at s w to 2 bad_der) Err (λ a b.
    on_content (expect_at s b to 48 bad_der) Err (λ c d.
    cond (same_parts s c d s outer.start outer.end)
    (Ok (record { serial = span a b; algorithm = span c d }))
    (Err signature_algorithm_mismatch))))

unfoldable pub on_begun : {R : Type 0} → Result Beginning ℕ → (ℕ → R) → (Beginning → R) → R
on_begun (Ok p) other k = k p
on_begun (Err e) other k = other e
