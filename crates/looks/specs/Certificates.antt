-- How many elements of a slice are read for a certificate: the tests of `Model.antt` in `crates/envelope/specs` and `crates/cert/specs` in the same order, and 1 for each `s[i]` that the code beside it comes to.
-- k is what is looked at afterwards.
use Rattle.std.specs.Prelude.{ℕ, ◌+◌, List, [], ◌∷◌, Bool, true, cond, length, eqb}
use Rattle.refusal.specs.Refusals.{bad_der, trailing_signed_data, unsupported_cert_version}
use Rattle.der.specs.declared.Span.{Span}
use Rattle.der.specs.Model.{expect_at, on_content}
use Rattle.parts.specs.Model.{same_parts}
use Rattle.bits.specs.Model.{bits_at}
use Rattle.extensions.specs.Model.{span}
use Rattle.envelope.specs.Model.{version_at}
use Rattle.looks.specs.Der.{nothing, value_looks, same_looks}
use Rattle.looks.specs.Values.{small_looks, bits_looks}
use Rattle.looks.specs.Extensions.{extensions_looks}

-- `parts_in`: k of the signed content and of the algorithm beside it
unfoldable pub parts_looks : List ℕ → ℕ → ℕ → (Span → Span → ℕ) → ℕ
parts_looks s from to k =
    value_looks s from to + on_content (expect_at s from to 48 bad_der) nothing (λ a b.
    value_looks s b to + on_content (expect_at s b to 48 bad_der) nothing (λ c d.
    bits_looks s d to + on_content (bits_at s d to) nothing (λ e f. cond (eqb f to) (k (span a b) (span c d)) 0)))

-- `envelope_of`
unfoldable pub opened_looks : List ℕ → (Span → Span → ℕ) → ℕ
opened_looks s k =
    value_looks s 0 (length s) + on_content (expect_at s 0 (length s) 48 trailing_signed_data) nothing (λ a b.
    parts_looks s a b (λ content algorithm. cond (eqb b (length s)) (k content algorithm) 0))

-- `version_at`
unfoldable pub version_looks : List ℕ → ℕ → ℕ → ℕ
version_looks s from to = value_looks s from to + on_content (expect_at s from to 160 unsupported_cert_version) nothing (small_looks s)

-- `begin`: k of the place after the algorithm
unfoldable pub begun_looks : List ℕ → ℕ → ℕ → Span → (ℕ → ℕ) → ℕ
begun_looks s from to outer k =
    version_looks s from to + on_content (version_at s from to) nothing (λ v w.
    value_looks s w to + on_content (expect_at s w to 2 bad_der) nothing (λ a b.
    value_looks s b to + on_content (expect_at s b to 48 bad_der) nothing (λ c d.
    same_looks s c d s outer.start outer.end + cond (same_parts s c d s outer.start outer.end) (k d) 0)))

-- `fields_at`: k of the place after the key
unfoldable pub fields_looks : List ℕ → ℕ → ℕ → (ℕ → ℕ) → ℕ
fields_looks s from to k =
    value_looks s from to + on_content (expect_at s from to 48 bad_der) nothing (λ a b.
    value_looks s b to + on_content (expect_at s b to 48 bad_der) nothing (λ c d.
    value_looks s d to + on_content (expect_at s d to 48 bad_der) nothing (λ e f.
    value_looks s f to + on_content (expect_at s f to 48 bad_der) nothing (λ g h. k h))))

-- `read`, and so `anchor`
unfoldable pub read_looks : List ℕ → Bool → ℕ
read_looks s strict =
    opened_looks s (λ content algorithm.
    begun_looks s content.start content.end algorithm (λ at.
    fields_looks s at content.end (λ next. extensions_looks s next content.end strict)))

-- `key::parts`
unfoldable pub key_looks : List ℕ → ℕ → ℕ → ℕ
key_looks s from to = value_looks s from to + on_content (expect_at s from to 48 bad_der) nothing (λ a b. bits_looks s b to)

-- `table::fill`, which reads each certificate that has a row, where there is a row for each: the intermediates and the end entity
unfoldable pub fill_looks : List (List ℕ) → List ℕ → ℕ
fill_looks [] end = read_looks end true
fill_looks (s ∷ issuers) end = read_looks s true + fill_looks issuers end

-- how many bytes are lent as certificates
unfoldable pub lent_bytes : List (List ℕ) → List ℕ → ℕ
lent_bytes [] end = length end
lent_bytes (s ∷ issuers) end = length s + lent_bytes issuers end
