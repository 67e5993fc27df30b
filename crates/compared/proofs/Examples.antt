-- How often bytes are looked at, by computation: inputs that reach the bounds. Assumes nothing.
use Prim.Native.Nat.{ℕ}
use mathlib.Core.Path.{◌≡◌, refl}
use mathlib.Core.List.{List, [], ◌∷◌, ◌++◌}
use lib.ListN.{replicate}
use mathlib.Core.Bool.{true}
use Rattle.der.specs.Places.{part}
use Rattle.der.specs.Loop.{run, walk}
use Rattle.der.specs.Model.{high_tag, number_at, least, long_form, by_first, read_length, with_length, read_limited, read_value, of_tag, expect_at, on_content}
use Rattle.parts.specs.Lists.{same_list}
use Rattle.parts.specs.Model.{same_parts}
use Rattle.looks.specs.Der.{long_looks, first_looks, length_looks, value_looks, pair_looks, same_looks}
use Rattle.labels.specs.Names.{digit, letter, capital}
use Rattle.dns.specs.Names.{small}
use Rattle.dns.specs.Model.{stands_for, match_wanted, same_text, in_subtree, meets_subtree, match_excluded}
use Rattle.texts.specs.Model.{begins, relative_text, from_dot}
use Rattle.labels.specs.Model.{whole, take_byte, on_taken, host_from, host_text, valid_starred, valid_presented, valid_wanted, valid_entry}
use Rattle.names.specs.General.{among, choices}
use Rattle.ip.specs.Model.{neither, same_address, broken_mask, masked_byte}
use Rattle.names.specs.Model.{is_yes, fits, is_wanted, is_kind, of_kind, general_name}
use Rattle.entries.specs.Tally.{after, spend}
use Rattle.entries.specs.Model.{on_name, base_at, compared, settled, on_base, judged, closed, ended, go_on, entries}
use Rattle.compared.specs.Dns.{begins_looks, text_looks, same_text_looks, relative_looks, from_dot_looks, through, all_taken, label_looks, host_looks, starred_looks, presented_looks, wanted_looks, entry_looks, stands_looks, in_looks, meets_looks, match_wanted_looks, permitted_looks, excluded_looks}
use Rattle.compared.specs.Names.{after_masked, subnet_looks, match_subnet_looks, address_looks, fit_looks, try_looks, good_looks, good_dns_looks, good_ip_looks}
use Rattle.compared.specs.Entries.{base_looks, compared_looks, judged_looks, after_step, turn_looks, all_looks, used}

-- the names a and b
abbrev pub name_a : List ℕ
name_a = 97 ∷ []

abbrev pub name_b : List ℕ
name_b = 98 ∷ []

-- *.abcd.e, and abcd.x
abbrev pub star_name : List ℕ
star_name = 42 ∷ 46 ∷ 97 ∷ 98 ∷ 99 ∷ 100 ∷ 46 ∷ 101 ∷ []

abbrev pub other_end : List ℕ
other_end = 97 ∷ 98 ∷ 99 ∷ 100 ∷ 46 ∷ 120 ∷ []

-- 3 for each byte of a and b, and 1
pub excluded_looks_lem : excluded_looks name_a name_b ≡ 7
unfolding excluded_looks presented_looks entry_looks meets_looks in_looks same_text_looks text_looks begins_looks host_looks label_looks all_taken through valid_presented valid_entry in_subtree same_text begins host_text host_from on_taken take_byte whole digit letter capital small
excluded_looks_lem = refl

-- 3 for each byte of a and a
pub permitted_looks_lem : permitted_looks name_a name_a ≡ 6
unfolding permitted_looks presented_looks entry_looks in_looks same_text_looks text_looks begins_looks host_looks label_looks all_taken through valid_presented valid_entry begins host_text host_from on_taken take_byte whole digit letter capital small
permitted_looks_lem = refl

-- 14 bytes: 4 less than the bound
pub star_looks : excluded_looks star_name other_end ≡ 39
unfolding excluded_looks presented_looks starred_looks from_dot_looks entry_looks meets_looks in_looks same_text_looks text_looks begins_looks host_looks label_looks all_taken through valid_presented valid_starred from_dot valid_entry in_subtree same_text begins host_text host_from on_taken take_byte whole digit letter capital small
star_looks = refl

-- 3 for the byte that is presented, 2 for the one that is wanted, and 3
pub wanted_looks_lem : match_wanted_looks name_a name_a ≡ 8
unfolding match_wanted_looks presented_looks wanted_looks relative_looks relative_text stands_looks same_text_looks text_looks begins_looks host_looks label_looks all_taken through valid_presented valid_wanted begins host_text host_from on_taken take_byte whole digit letter capital small
wanted_looks_lem = refl

-- ---- addresses: each byte once
-- an address, and the subnet of all
pub subnet_looks_lem : match_subnet_looks (1 ∷ 2 ∷ 3 ∷ 4 ∷ []) (0 ∷ 0 ∷ 0 ∷ 0 ∷ 0 ∷ 0 ∷ 0 ∷ 0 ∷ []) ≡ 12
unfolding match_subnet_looks subnet_looks after_masked neither masked_byte broken_mask
subnet_looks_lem = refl

-- ---- one entry, of five bytes: the DNS name b; against the name a it costs 3 for each byte of the two, less 7
abbrev pub entry_b : List ℕ
entry_b = 48 ∷ 3 ∷ 130 ∷ 1 ∷ name_b

pub entry_looks_lem : judged_looks entry_b 5 true 130 name_a 0 ≡ 11
unfolding judged_looks base_looks compared_looks value_looks high_tag length_looks first_looks on_content expect_at of_tag read_value read_limited with_length read_length by_first on_name general_name of_kind is_kind among choices part excluded_looks presented_looks entry_looks meets_looks in_looks same_text_looks text_looks begins_looks host_looks label_looks all_taken through valid_presented valid_entry in_subtree same_text begins host_text host_from on_taken take_byte whole digit letter capital small
entry_looks_lem = refl

-- two such entries, with no comparison left, with one, and with two
abbrev pub list_b : List ℕ
list_b = 48 ∷ 3 ∷ 130 ∷ 1 ∷ 98 ∷ entry_b

pub list_looks : (all_looks list_b 0 10 true 130 name_a 0 ≡ 0) × (all_looks list_b 0 10 true 130 name_a 1 ≡ 11) × (all_looks list_b 0 10 true 130 name_a 2 ≡ 22)
unfolding all_looks turn_looks after_step walk run judged base_at on_base settled compared match_excluded meets_subtree judged_looks base_looks compared_looks value_looks high_tag length_looks first_looks on_content expect_at of_tag read_value read_limited with_length read_length by_first on_name general_name of_kind is_kind among choices part excluded_looks presented_looks entry_looks meets_looks in_looks same_text_looks text_looks begins_looks host_looks label_looks all_taken through valid_presented valid_entry in_subtree same_text begins host_text host_from on_taken take_byte whole digit letter capital small
list_looks = (refl, refl, refl)

-- the comparisons that these take of the budget
pub list_used : (used 0 (entries list_b 0 10 true 130 name_a) ≡ 0) × (used 1 (entries list_b 0 10 true 130 name_a) ≡ 1) × (used 2 (entries list_b 0 10 true 130 name_a) ≡ 2)
unfolding used spend entries ended go_on after closed walk run judged base_at on_base settled compared match_excluded meets_subtree high_tag on_content expect_at of_tag read_value read_limited with_length read_length by_first on_name general_name of_kind is_kind among choices part valid_presented valid_entry in_subtree same_text begins host_text host_from on_taken take_byte whole digit letter capital small
list_used = (refl, refl, refl)

-- ---- the longest: 253 bytes with a star, and an excluded entry of 252 after a dot that differs in the last byte
abbrev pub three_labels : List ℕ
three_labels = replicate 63 97 ++ (46 ∷ (replicate 63 97 ++ (46 ∷ (replicate 63 97 ++ (46 ∷ replicate 58 97)))))

abbrev pub long_name : List ℕ
long_name = 42 ∷ 46 ∷ (three_labels ++ name_a)

abbrev pub long_entry : List ℕ
long_entry = 48 ∷ 129 ∷ 255 ∷ 130 ∷ 129 ∷ 252 ∷ 46 ∷ (three_labels ++ name_b)

pub longest_looks : judged_looks long_entry 258 true 130 long_name 0 ≡ 1145
unfolding judged_looks base_looks compared_looks value_looks high_tag length_looks first_looks long_looks number_at least long_form on_content expect_at of_tag read_value read_limited with_length read_length by_first on_name general_name of_kind is_kind among choices part excluded_looks presented_looks starred_looks from_dot_looks entry_looks meets_looks in_looks same_text_looks text_looks begins_looks host_looks label_looks all_taken through valid_presented valid_starred from_dot valid_entry in_subtree same_text begins host_text host_from on_taken take_byte whole digit letter capital small
longest_looks = refl

-- two of it: as many looks for each of two comparisons
pub longest_list : all_looks (long_entry ++ long_entry) 0 516 true 130 long_name 2 ≡ 2290
unfolding all_looks turn_looks after_step walk run judged base_at on_base settled compared match_excluded meets_subtree judged_looks base_looks compared_looks value_looks high_tag length_looks first_looks long_looks number_at least long_form on_content expect_at of_tag read_value read_limited with_length read_length by_first on_name general_name of_kind is_kind among choices part excluded_looks presented_looks starred_looks from_dot_looks entry_looks meets_looks in_looks same_text_looks text_looks begins_looks host_looks label_looks all_taken through valid_presented valid_starred from_dot valid_entry in_subtree same_text begins host_text host_from on_taken take_byte whole digit letter capital small
longest_list = refl

-- ---- the wanted name b, and the names a and a: 22, where the bound says 66 for three times as many
abbrev pub two_names : List ℕ
two_names = 130 ∷ 1 ∷ 97 ∷ 130 ∷ 1 ∷ 97 ∷ []

pub good_dns_looks_lem : good_dns_looks two_names 0 6 name_b ≡ 22
unfolding good_dns_looks good_looks walk run try_looks fit_looks is_wanted fits is_yes match_wanted match_wanted_looks value_looks high_tag length_looks first_looks read_value read_limited with_length read_length by_first on_name general_name of_kind is_kind among choices part presented_looks wanted_looks relative_looks relative_text stands_looks same_text_looks text_looks begins_looks host_looks label_looks all_taken through valid_presented valid_wanted stands_for same_text begins host_text host_from on_taken take_byte whole digit letter capital small
good_dns_looks_lem = refl

-- an address that is wanted, in six bytes
pub good_ip_looks_lem : good_ip_looks (135 ∷ 4 ∷ 1 ∷ 2 ∷ 3 ∷ 4 ∷ []) 0 6 (1 ∷ 2 ∷ 3 ∷ 4 ∷ []) ≡ 10
unfolding good_ip_looks good_looks walk run try_looks fit_looks is_wanted fits same_address address_looks neither same_parts same_list same_looks pair_looks value_looks high_tag length_looks first_looks read_value read_limited with_length read_length by_first on_name general_name of_kind is_kind among choices part
good_ip_looks_lem = refl
