-- What the code answers of one certificate by itself, as functions of its bytes and of what was read of them: the same tests in the same order. Where a
-- number is a refusal or none, 0 is none.
use Rattle.std.specs.Prelude.{ℕ, List, Bool, false, cond, length, ltb, eqb, Err, Ok, Result}
use Rattle.refusal.specs.Refusals.{bad_der, invalid_cert_validity, cert_not_valid_yet, cert_expired, path_len_constraint_violated, end_entity_used_as_ca, ca_used_as_end_entity, empty_eku_extension, required_eku_not_found}
use Rattle.der.specs.Model.{expect_at, on_content}
use Rattle.parts.specs.Model.{same_parts}
use Rattle.values.specs.Model.{read_small, read_bool}
use Rattle.der.specs.Loop.{walk}
use Rattle.moment.specs.Model.{time_at}
use Rattle.cert.specs.declared.Certificate.{Certificate}
use Rattle.extensions.specs.Model.{on_truth}

unfoldable pub in_time : ℕ → ℕ → ℕ → ℕ → ℕ → ℕ
in_time start last time next to =
    cond (ltb last start)
    invalid_cert_validity
    (cond (ltb time start) cert_not_valid_yet (cond (ltb last time) cert_expired (cond (eqb next to) 0 bad_der)))

unfoldable pub on_time : {R : Type 0} → Result (ℕ × ℕ) ℕ → (ℕ → R) → (ℕ → ℕ → R) → R
on_time (Ok v) other k = k v.0 v.1
on_time (Err e) other k = other e

abbrev pub itself : ℕ → ℕ
itself e = e

unfoldable pub valid_at : List ℕ → ℕ → ℕ → ℕ → ℕ
valid_at s from to time =
    on_time (time_at s from to) itself (λ start middle.
    on_time (time_at s middle to) itself (λ last next.
    in_time start last time next to))

unfoldable pub in_role : Bool → Bool → ℕ → ℕ → ℕ
in_role issuer authority limit below =
    cond issuer
    (cond authority (cond (ltb limit below) path_len_constraint_violated 0) end_entity_used_as_ca)
    (cond authority ca_used_as_end_entity 0)

-- the first of two findings that is a refusal
unfoldable pub first_of : ℕ → ℕ → ℕ
first_of d e = cond (eqb d 0) e d

unfoldable pub on_number : {R : Type 0} → Result (ℕ × ℕ) ℕ → (ℕ → R) → (ℕ → ℕ → R) → R
on_number (Ok v) other k = k v.0 v.1
on_number (Err e) other k = other e

unfoldable pub bounded_role : List ℕ → ℕ → ℕ → Bool → Bool → ℕ → ℕ
bounded_role s from to issuer authority below =
    on_number (read_small s from to) itself (λ limit next.
    first_of (in_role issuer authority limit below) (cond (eqb next to) 0 bad_der))

unfoldable pub basic_in : List ℕ → ℕ → ℕ → Bool → ℕ → ℕ
basic_in s from to issuer below =
    on_truth (read_bool s from to) itself (λ authority next.
    cond (eqb next to) (in_role issuer authority below below) (bounded_role s next to issuer authority below))

unfoldable pub basic_of : List ℕ → Bool → ℕ → ℕ → Bool → ℕ → ℕ
basic_of s present from to issuer below =
    cond present (basic_in s from to issuer below) (in_role issuer false below below)

unfoldable pub purpose_step : List ℕ → ℕ → List ℕ → ℕ → (ℕ → Unit {0} → ℕ) → ℕ
purpose_step s to wanted at go =
    on_content (expect_at s at to 6 bad_der) itself (λ a b.
    cond (same_parts s a b wanted 0 (length wanted)) 0 (go b tt))

unfoldable pub no_purpose : ℕ → Unit {0} → ℕ
no_purpose at u = required_eku_not_found

unfoldable pub purpose_in : List ℕ → ℕ → ℕ → List ℕ → ℕ
purpose_in s from to wanted = walk to no_purpose (λ at u. purpose_step s to wanted at) from tt

unfoldable pub purposes_of : List ℕ → Bool → ℕ → ℕ → List ℕ → Bool → ℕ
purposes_of s present from to wanted demanded =
    cond present
    (cond (eqb from to) empty_eku_extension (purpose_in s from to wanted))
    (cond demanded required_eku_not_found 0)

unfoldable pub own_of : List ℕ → Certificate → ℕ → List ℕ → Bool → Bool → ℕ → ℕ
own_of s c time wanted demanded issuer below =
    let role = c.known.basic_constraints in
    let purposes = c.known.key_purposes in
    first_of (valid_at s c.validity.start c.validity.end time)
    (first_of (basic_of s role.known role.start role.end issuer below)
    (purposes_of s purposes.known purposes.start purposes.end wanted demanded))
