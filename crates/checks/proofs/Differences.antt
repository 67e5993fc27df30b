-- Where a check passes that RFC 5280 does not allow, each by its row in docs/DIFFERENCES.md. Assumes nothing.
use Prim.Native.Nat.{ℕ}
use mathlib.Core.Path.{◌≡◌, refl, sym, ◌∙◌}
use mathlib.Core.List.{List, [], ◌∷◌, append-nil}
use mathlib.Core.Bool.{true, false}
use mathlib.Core.Logic.{⊎_elim}
use lib.Dec.{lit<}
use native.Mathlib.Omega.{arith}
use Rattle.der.specs.Places.{part}
use Rattle.der.specs.X690.{big_endian, octets_of, length_bytes, encoding, bit}
use Rattle.der.specs.Loop.{run, walk}
use Rattle.der.specs.Model.{high_tag, by_first, read_length, with_length, read_limited, read_value, of_tag, expect_at, on_content}
use Rattle.moment.specs.Calendar.{leap_year, month_lengths, days_of_month, days_of_months, days_of_year, days_of_years, days_to, seconds_to, full_year}
use Rattle.moment.specs.Model.{of_digits, two_at, date_at, no_such_day, no_such_time, unreal, moment_of, after_year_at, utc_in, is_utc, utc_at, time_at}
use Rattle.parts.specs.Lists.{same_list, Every}
use Rattle.parts.specs.Model.{same_parts}
use Rattle.values.specs.Model.{only_byte, truth_in, read_bool, positive_in, nonnegative, small_in, read_small}
use Rattle.extensions.specs.Model.{on_truth}
use Rattle.extensions.proofs.Unique.{once_in, last_in}
use Rattle.extensions.specs.Rfc5280.{unwritten, octet_string, object_identifier, sequence, explicit, criticality, extension_content, extension, extension_list, extensions, id_ce, is_number, listed}
use Rattle.extensions.specs.Layout.{place_of, absent, there, header, value_of, kept_of, slot_for, slots, known_at}
use Rattle.extensions.specs.Conforming.{Distinct}
use Rattle.extensions.specs.Accepted.{ext_key_usage, usage as of_usage, known, none as no_more, more as and_then}
use Rattle.cert.specs.declared.Certificate.{Certificate}
use Rattle.cert.specs.Model.{read_certificate}
use Rattle.cert.specs.Rfc5280.{integer, bit_string, Skeleton, version, tbs_content, tbs_certificate, certificate_content, certificate}
use Rattle.cert.specs.Layout.{places}
use Rattle.cert.specs.Conforming.{HasBit}
use Rattle.cert.proofs.Differences.{not_same, extended, one_of, below, authority_key_extension, a_key_id, list_accepted}
use Rattle.checks.specs.Conditions.{Optional, present, at_most}
use Rattle.checks.specs.Conforming.{KeyPurposes, last, more, Bounds, ServerUsage}
use Rattle.checks.specs.Model.{in_role, first_of, on_number, bounded_role, basic_in, purpose_step, purpose_in, own_of, valid_at, on_time, in_time, basic_of, purposes_of}
use Rattle.checks.specs.Skeletons.{value_in}
use Rattle.extensions.proofs.Numbers.{false_true}
use Rattle.std.specs.Prelude.{Ok}

-- ---- key purposes
no_purpose_lem : (x : ℕ) (xs : List ℕ) → (x ≡ 6 → ⊥) → KeyPurposes (x ∷ xs) → ⊥
unfolding encoding
no_purpose_lem x xs h (last p e o) = h (cc)
no_purpose_lem x xs h (more p rest e o k) = h (cc)

-- 4.2.1.12: 06 01 2a ff ff, and 2a is wanted: what follows the wanted purpose is none
pub d35 : (purpose_in (6 ∷ 1 ∷ 42 ∷ 255 ∷ 255 ∷ []) 0 5 (42 ∷ []) ≡ 0) × (KeyPurposes (6 ∷ 1 ∷ 42 ∷ 255 ∷ 255 ∷ []) → ⊥)
unfolding purpose_in purpose_step walk run high_tag by_first read_length with_length read_limited read_value of_tag expect_at on_content part same_list same_parts encoding length_bytes
d35 = (refl, go)
  where
    go : KeyPurposes (6 ∷ 1 ∷ 42 ∷ 255 ∷ 255 ∷ []) → ⊥
    go (last p e o) =
        let r = (once_in 6 (42 ∷ []) p (255 ∷ 255 ∷ []) [] refl (lit< tt) (e ∙ sym (append-nil _))).1 in
        let z : ◌≡◌ {A = ℕ} 0 1 = cc in
        omega arith
    go (more p rest e o k) =
        let r = (once_in 6 (42 ∷ []) p (255 ∷ 255 ∷ []) rest refl (lit< tt) e).1 in
        no_purpose_lem 255 (255 ∷ []) (λ h. omega arith) (rw r k)

-- X.690, 8.19: 06 00 06 01 2a, and 2a is wanted: a purpose that is no identifier
pub d44 : (purpose_in (6 ∷ 0 ∷ 6 ∷ 1 ∷ 42 ∷ []) 0 5 (42 ∷ []) ≡ 0) × (KeyPurposes (6 ∷ 0 ∷ 6 ∷ 1 ∷ 42 ∷ []) → ⊥)
unfolding purpose_in purpose_step walk run high_tag by_first read_length with_length read_limited read_value of_tag expect_at on_content part same_list same_parts encoding length_bytes
d44 = (refl, go)
  where
    go : KeyPurposes (6 ∷ 0 ∷ 6 ∷ 1 ∷ 42 ∷ []) → ⊥
    go (last p e o) = o.some (sym (once_in 6 [] p (6 ∷ 1 ∷ 42 ∷ []) [] refl (lit< tt) (e ∙ sym (append-nil _))).0)
    go (more p rest e o k) = o.some (sym (once_in 6 [] p (6 ∷ 1 ∷ 42 ∷ []) rest refl (lit< tt) e).0)

-- ---- key usage
-- a key usage of one octet: its bits are those of the octet
has_bit : (unused octet n : ℕ) → HasBit n (3 ∷ 2 ∷ unused ∷ octet ∷ []) → bit (octet ∷ []) n ≡ 1
unfolding HasBit encoding length_bytes
has_bit unused octet n m =
    let e = (last_in 3 (unused ∷ octet ∷ []) (m.0 ∷ m.1) refl (lit< tt) m.2).0 in
    let o : m.1 ≡ octet ∷ [] = cc in
    rw o at m.3

not_zero : ◌≡◌ {A = ℕ} 0 1 → ⊥
not_zero e = omega arith

-- ---- basic constraints
-- 4.2.1.9: 02 01 00 on an end entity, a path length where cA is false
pub d32 : (usage : Optional) → (basic_in (2 ∷ 1 ∷ 0 ∷ []) 0 3 false 0 ≡ 0) × (Bounds usage false (at_most 0) → ⊥)
unfolding basic_in bounded_role in_role first_of on_number on_truth read_bool read_small nonnegative positive_in small_in high_tag by_first read_length with_length read_limited read_value of_tag expect_at on_content
d32 usage = (refl, λ b. false_true b.0)

-- 4.2.1.9: 01 01 ff 02 01 00 on an issuer whose key usage is 03 02 07 80, digitalSignature alone: the key usage is not looked at
pub d43 : (basic_in (1 ∷ 1 ∷ 255 ∷ 2 ∷ 1 ∷ 0 ∷ []) 0 6 true 0 ≡ 0) × (Bounds (present (3 ∷ 2 ∷ 7 ∷ 128 ∷ [])) true (at_most 0) → ⊥)
unfolding basic_in bounded_role in_role first_of on_number on_truth read_bool truth_in only_byte read_small nonnegative positive_in small_in high_tag by_first read_length with_length read_limited read_value of_tag
    expect_at on_content bit
d43 = (refl, λ b. not_zero (has_bit 7 128 _ b.1))

-- ---- key usage and key purposes
-- id-kp-serverAuth, 1.3.6.1.5.5.7.3.1
abbrev server_auth : List ℕ
server_auth = 43 ∷ 6 ∷ 1 ∷ 5 ∷ 5 ∷ 7 ∷ 3 ∷ 1 ∷ []

-- 4.2.1.12: an end entity with the key purposes 30 0a 06 08 2b 06 01 05 05 07 03 01, server authentication, and the key usage 03 02 01 02, cRLSign alone
abbrev listing : Skeleton
listing =
    extended below
    (authority_key_extension ∷ one_of (id_ce 15) unwritten (3 ∷ 2 ∷ 1 ∷ 2 ∷ []) ∷ one_of (id_ce 37) unwritten (48 ∷ 10 ∷ 6 ∷ 8 ∷ server_auth) ∷ [])

-- its bytes, and where its fields lie
abbrev bytes : List ℕ
bytes =
    48 ∷ 129 ∷ 154 ∷ 48 ∷ 129 ∷ 140 ∷ 160 ∷ 3 ∷ 2 ∷ 1 ∷ 2 ∷ 2 ∷ 1 ∷ 1 ∷ 48 ∷ 5 ∷ 6 ∷ 3 ∷ 42 ∷ 3 ∷ 4 ∷ 48 ∷ 12 ∷ 49 ∷ 10 ∷ 48 ∷ 8 ∷ 6 ∷ 3 ∷ 85 ∷ 4 ∷ 3 ∷ 12 ∷
    1 ∷ 65 ∷ 48 ∷ 30 ∷ 23 ∷ 13 ∷ 50 ∷ 48 ∷ 48 ∷ 49 ∷ 48 ∷ 49 ∷ 48 ∷ 48 ∷ 48 ∷ 48 ∷ 48 ∷ 48 ∷ 90 ∷ 23 ∷ 13 ∷ 52 ∷ 48 ∷ 48 ∷ 49 ∷ 48 ∷ 49 ∷ 48 ∷ 48 ∷ 48 ∷ 48 ∷
    48 ∷ 48 ∷ 90 ∷ 48 ∷ 12 ∷ 49 ∷ 10 ∷ 48 ∷ 8 ∷ 6 ∷ 3 ∷ 85 ∷ 4 ∷ 3 ∷ 12 ∷ 1 ∷ 66 ∷ 48 ∷ 11 ∷ 48 ∷ 5 ∷ 6 ∷ 3 ∷ 42 ∷ 3 ∷ 4 ∷ 3 ∷ 2 ∷ 0 ∷ 170 ∷ 163 ∷ 50 ∷ 48 ∷
    48 ∷ 48 ∷ 12 ∷ 6 ∷ 3 ∷ 85 ∷ 29 ∷ 35 ∷ 4 ∷ 5 ∷ 48 ∷ 3 ∷ 128 ∷ 1 ∷ 1 ∷ 48 ∷ 11 ∷ 6 ∷ 3 ∷ 85 ∷ 29 ∷ 15 ∷ 4 ∷ 4 ∷ 3 ∷ 2 ∷ 1 ∷ 2 ∷ 48 ∷ 19 ∷ 6 ∷ 3 ∷ 85 ∷ 29 ∷
    37 ∷ 4 ∷ 12 ∷ 48 ∷ 10 ∷ 6 ∷ 8 ∷ 43 ∷ 6 ∷ 1 ∷ 5 ∷ 5 ∷ 7 ∷ 3 ∷ 1 ∷ 48 ∷ 5 ∷ 6 ∷ 3 ∷ 42 ∷ 3 ∷ 4 ∷ 3 ∷ 2 ∷ 0 ∷ 170 ∷ []

abbrev found : Certificate
found =
    record {
      signed = record { start = 3; end = 146 };
      algorithm = record { start = 148; end = 153 };
      signature = record { start = 156; end = 157 };
      serial = record { start = 13; end = 14 };
      inner_algorithm = record { start = 16; end = 21 };
      issuer = record { start = 23; end = 35 };
      validity = record { start = 37; end = 67 };
      subject = record { start = 69; end = 81 };
      key = record { start = 83; end = 94 };
      known = record {
        key_usage = there 121 125;
        alternative_name = absent;
        basic_constraints = absent;
        name_constraints = absent;
        distribution_points = absent;
        key_purposes = there 136 146;
      };
    }

listing_bytes : certificate listing ≡ bytes
unfolding certificate certificate_content tbs_certificate tbs_content version explicit integer sequence bit_string extensions extension_list extension extension_content object_identifier octet_string
    criticality encoding length_bytes octets_of big_endian
listing_bytes = refl

listing_found : places listing ≡ found
unfolding certificate_content tbs_certificate tbs_content version explicit integer sequence bit_string extensions extension_list extension extension_content object_identifier octet_string
    criticality encoding length_bytes octets_of big_endian places place_of known_at slots slot_for kept_of value_of header is_number same_list
listing_found = refl

own_good : own_of bytes found 1700000000 server_auth true false 0 ≡ 0
unfolding own_of first_of valid_at on_time in_time time_at is_utc utc_at utc_in after_year_at moment_of unreal no_such_day no_such_time date_at two_at of_digits full_year basic_of in_role purposes_of
    purpose_in purpose_step walk run high_tag by_first read_length with_length read_limited read_value of_tag expect_at on_content part same_list same_parts
    leap_year month_lengths days_of_month days_of_months days_of_year days_of_years days_to seconds_to
own_good = refl

-- it is read, and the checks find nothing against it at the time 1700000000, as an end entity for server authentication; that is no purpose its key usage allows
pub d60_lists : (read_certificate (certificate listing) true ≡ Ok (places listing)) × (own_of (certificate listing) (places listing) 1700000000 server_auth true false 0 ≡ 0)
    × (ServerUsage (value_in 15 (listed listing.extensions)) → ⊥)
unfolding listed Every Distinct sequence encoding length_bytes value_in is_number same_list bit
d60_lists = (
  list_accepted _ _ (lit< tt) (and_then a_key_id (and_then (of_usage refl) (and_then (known 37 ext_key_usage (λ e. omega arith) refl (6 ∷ 8 ∷ server_auth) refl) no_more)))
      ((not_same 15 35 (λ e. omega arith), (not_same 37 35 (λ e. omega arith), tt)), ((not_same 37 15 (λ e. omega arith), tt), (tt, tt))),
  rw (listing_bytes, listing_found) own_good,
  ⊎_elim (λ m. not_zero (has_bit 1 2 _ m)) (⊎_elim (λ m. not_zero (has_bit 1 2 _ m)) (λ m. not_zero (has_bit 1 2 _ m))),
)
