-- How often bytes are looked at, by computation: of two refused inputs, and of a small certificate. Assumes nothing.
use Prim.Native.Nat.{ℕ, ◌*◌, ◌/◌}
use mathlib.Core.Path.{◌≡◌, refl}
use mathlib.Core.List.{List, [], ◌∷◌}
use mathlib.Core.Bool.{true}
use Rattle.der.specs.Places.{part}
use Rattle.der.specs.Loop.{run, walk}
use Rattle.der.specs.Model.{high_tag, number_at, least, long_form, by_first, read_length, with_length, read_limited, read_value, of_tag, expect_at, on_content}
use Rattle.parts.specs.Lists.{same_list}
use Rattle.parts.specs.Model.{same_parts}
use Rattle.looks.specs.Der.{long_looks, first_looks, length_looks, value_looks, pair_looks, same_looks}
use Rattle.values.specs.Model.{only_byte, truth_in, read_bool, positive_in, nonnegative, small_in, read_small}
use Rattle.bits.specs.Model.{whole_octets, bits_at}
use Rattle.looks.specs.Values.{byte_looks, bool_looks, positive_looks, nonnegative_looks, digit_looks, small_looks, bits_looks}
use Rattle.extensions.specs.Model.{span, known_kind, kind_of, slot_of, put, set_slot, none_known, on_truth, extension_in, content_of, passed_over, remembered, on_parsed, on_kept, taken, go_on, all_kept, gathered, extensions_at}
use Rattle.envelope.specs.Model.{parts_in, on_parts, opened, is_version, version_at, begun, on_begun}
use Rattle.cert.specs.Model.{fields_at, on_found, read_certificate}
use Rattle.looks.specs.Extensions.{kind_looks, extension_looks, content_looks, remembered_looks, taken_looks, gathered_looks, extensions_looks}
use Rattle.looks.specs.Certificates.{parts_looks, opened_looks, version_looks, begun_looks, fields_looks, read_looks, key_looks, fill_looks, lent_bytes}
use Rattle.std.specs.Prelude.{Ok}

-- a SEQUENCE that holds an empty one and nothing more
abbrev pub nearly_empty : List ℕ
nearly_empty = 48 ∷ 2 ∷ 48 ∷ 0 ∷ []

-- a SEQUENCE of 256 bytes, none of which is there
abbrev pub cut_short : List ℕ
cut_short = 48 ∷ 130 ∷ 1 ∷ 0 ∷ []

-- 54 bytes: the version, which is written 2, the algorithm 05 00 twice, the smallest extension, basic constraints that are critical, and all else empty
abbrev pub small_certificate : List ℕ
small_certificate =
    48 ∷ 52 ∷ 48 ∷ 43 ∷ 160 ∷ 3 ∷ 2 ∷ 1 ∷ 2 ∷ 2 ∷ 0 ∷ 48 ∷ 2 ∷ 5 ∷ 0 ∷ 48 ∷ 0 ∷ 48 ∷ 0 ∷ 48 ∷ 0 ∷ 48 ∷ 0 ∷ 163 ∷ 22 ∷ 48 ∷ 20 ∷ 48 ∷ 4 ∷ 6 ∷ 0 ∷ 4 ∷ 0 ∷ 48 ∷ 12 ∷ 6 ∷ 3 ∷ 85 ∷ 29 ∷ 19 ∷ 1 ∷ 1 ∷ 255 ∷ 4 ∷ 2 ∷ 48 ∷ 0 ∷ 48 ∷ 2 ∷ 5 ∷ 0 ∷ 3 ∷ 1 ∷ 0 ∷ []

pub refused_looks : (read_looks nearly_empty true ≡ 4) × (read_looks cut_short true ≡ 4)
unfolding read_looks opened_looks parts_looks value_looks length_looks first_looks long_looks high_tag number_at least long_form by_first read_length with_length read_limited read_value of_tag expect_at on_content
refused_looks = (refl, refl)

pub small_is_read : read_certificate small_certificate true ≡ Ok (record {
  signed = span 2 47;
  algorithm = span 49 51;
  signature = span 54 54;
  serial = span 11 11;
  inner_algorithm = span 13 15;
  issuer = span 17 17;
  validity = span 19 19;
  subject = span 21 21;
  key = span 23 23;
  known = set_slot none_known 19 (record { known = true; start = 47; end = 47 });
})
unfolding read_certificate opened parts_in on_parts version_at is_version begun fields_at kind_of known_kind slot_of put set_slot none_known on_truth extension_in content_of passed_over remembered on_parsed on_kept taken go_on all_kept gathered extensions_at on_begun on_found run walk part high_tag by_first read_length with_length read_limited read_value of_tag expect_at on_content same_list same_parts only_byte truth_in read_bool positive_in nonnegative small_in read_small whole_octets bits_at
small_is_read = refl

pub small_looks_lem : read_looks small_certificate true ≡ 58
unfolding read_looks opened_looks parts_looks version_looks begun_looks fields_looks extensions_looks gathered_looks taken_looks remembered_looks content_looks extension_looks kind_looks bits_looks small_looks digit_looks nonnegative_looks positive_looks bool_looks byte_looks same_looks pair_looks value_looks length_looks first_looks long_looks version_at is_version kind_of known_kind slot_of put set_slot none_known on_truth content_of passed_over on_kept run walk part high_tag by_first read_length with_length read_limited read_value of_tag expect_at on_content same_list same_parts only_byte truth_in read_bool positive_in nonnegative small_in read_small whole_octets bits_at
small_looks_lem = refl

-- ---- the smallest extension has six bytes, and is looked at seven times
-- no identifier and no value: six bytes
abbrev pub small_extension : List ℕ
small_extension = 48 ∷ 4 ∷ 6 ∷ 0 ∷ 4 ∷ 0 ∷ []

pub extension_looks_lem : taken_looks small_extension 0 6 none_known true (λ at known. 0) ≡ 7
unfolding taken_looks extension_looks remembered_looks kind_looks content_looks bool_looks value_looks length_looks first_looks high_tag by_first read_length with_length read_limited read_value of_tag expect_at on_content read_bool on_truth kind_of passed_over on_kept
extension_looks_lem = refl

-- ---- the bounds are reached
-- 14 bytes, the signed part of which is a version and nothing more: each is looked at once, and the version's number twice more. Of 7 looks for 6 bytes that
-- is all: 16 is 7 * 14 / 6 in whole numbers
abbrev pub version_only : List ℕ
version_only = 48 ∷ 12 ∷ 48 ∷ 5 ∷ 160 ∷ 3 ∷ 2 ∷ 1 ∷ 2 ∷ 48 ∷ 0 ∷ 3 ∷ 1 ∷ 0 ∷ []

pub all_looks_lem : (read_looks version_only true ≡ 16) × (fill_looks [] version_only ≡ 7 * lent_bytes [] version_only / 6)
unfolding read_looks fill_looks lent_bytes opened_looks parts_looks version_looks begun_looks fields_looks bits_looks small_looks digit_looks nonnegative_looks positive_looks byte_looks value_looks length_looks first_looks long_looks version_at is_version run walk part high_tag by_first read_length with_length read_limited read_value of_tag expect_at on_content positive_in nonnegative small_in read_small whole_octets bits_at
all_looks_lem = (refl, refl)

-- a key's parts, of which every byte is looked at once
abbrev pub short_key : List ℕ
short_key = 48 ∷ 0 ∷ 3 ∷ 1 ∷ 0 ∷ []

pub all_key_looks : key_looks short_key 0 5 ≡ 5
unfolding key_looks bits_looks byte_looks value_looks length_looks first_looks long_looks high_tag by_first read_length with_length read_limited read_value of_tag expect_at on_content whole_octets bits_at
all_key_looks = refl

-- equal parts, of which every byte is looked at once
pub all_same_looks : same_looks short_key 0 5 short_key 0 5 ≡ 10
unfolding same_looks pair_looks part
all_same_looks = refl
