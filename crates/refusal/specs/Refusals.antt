-- Every refusal by its number; the rank of each; which of them end a search. docs/REFUSALS.md has the same as one table.
use Rattle.std.specs.Prelude.{ℕ, Bool, true, false, cond, List, [], ◌∷◌, eqb}

abbrev pub cert_not_valid_yet : ℕ
cert_not_valid_yet = 1

abbrev pub cert_expired : ℕ
cert_expired = 2

abbrev pub cert_not_valid_for_name : ℕ
cert_not_valid_for_name = 3

abbrev pub cert_distrusted : ℕ
cert_distrusted = 4

abbrev pub cert_revoked : ℕ
cert_revoked = 5

abbrev pub unknown_revocation_status : ℕ
unknown_revocation_status = 6

abbrev pub crl_expired : ℕ
crl_expired = 7

abbrev pub invalid_signature_for_public_key : ℕ
invalid_signature_for_public_key = 8

abbrev pub invalid_crl_signature_for_public_key : ℕ
invalid_crl_signature_for_public_key = 9

abbrev pub signature_algorithm_mismatch : ℕ
signature_algorithm_mismatch = 10

abbrev pub empty_eku_extension : ℕ
empty_eku_extension = 11

abbrev pub required_eku_not_found : ℕ
required_eku_not_found = 12

abbrev pub name_constraint_violation : ℕ
name_constraint_violation = 13

abbrev pub path_len_constraint_violated : ℕ
path_len_constraint_violated = 14

abbrev pub ca_used_as_end_entity : ℕ
ca_used_as_end_entity = 15

abbrev pub end_entity_used_as_ca : ℕ
end_entity_used_as_ca = 16

abbrev pub issuer_not_crl_signer : ℕ
issuer_not_crl_signer = 17

abbrev pub invalid_cert_validity : ℕ
invalid_cert_validity = 18

abbrev pub invalid_network_mask_constraint : ℕ
invalid_network_mask_constraint = 19

abbrev pub invalid_serial_number : ℕ
invalid_serial_number = 20

abbrev pub invalid_crl_number : ℕ
invalid_crl_number = 21

abbrev pub unsupported_signature_algorithm_for_public_key : ℕ
unsupported_signature_algorithm_for_public_key = 22

abbrev pub unsupported_crl_signature_algorithm_for_public_key : ℕ
unsupported_crl_signature_algorithm_for_public_key = 23

abbrev pub unsupported_signature_algorithm : ℕ
unsupported_signature_algorithm = 24

abbrev pub unsupported_crl_signature_algorithm : ℕ
unsupported_crl_signature_algorithm = 25

abbrev pub unsupported_critical_extension : ℕ
unsupported_critical_extension = 26

abbrev pub unsupported_cert_version : ℕ
unsupported_cert_version = 27

abbrev pub unsupported_crl_version : ℕ
unsupported_crl_version = 28

abbrev pub unsupported_delta_crl : ℕ
unsupported_delta_crl = 29

abbrev pub unsupported_indirect_crl : ℕ
unsupported_indirect_crl = 30

abbrev pub unsupported_name_type : ℕ
unsupported_name_type = 31

abbrev pub unsupported_revocation_reason : ℕ
unsupported_revocation_reason = 32

abbrev pub unsupported_revocation_reasons_partitioning : ℕ
unsupported_revocation_reasons_partitioning = 33

abbrev pub unsupported_crl_issuing_distribution_point : ℕ
unsupported_crl_issuing_distribution_point = 34

abbrev pub maximum_path_depth_exceeded : ℕ
maximum_path_depth_exceeded = 35

abbrev pub malformed_dns_identifier : ℕ
malformed_dns_identifier = 36

abbrev pub malformed_name_constraint : ℕ
malformed_name_constraint = 37

abbrev pub malformed_extensions : ℕ
malformed_extensions = 38

abbrev pub trailing_bit_string : ℕ
trailing_bit_string = 39

abbrev pub trailing_bool : ℕ
trailing_bool = 40

abbrev pub trailing_certificate : ℕ
trailing_certificate = 41

abbrev pub trailing_certificate_extensions : ℕ
trailing_certificate_extensions = 42

abbrev pub trailing_certificate_tbs_certificate : ℕ
trailing_certificate_tbs_certificate = 43

abbrev pub trailing_cert_revocation_list : ℕ
trailing_cert_revocation_list = 44

abbrev pub trailing_cert_revocation_list_extension : ℕ
trailing_cert_revocation_list_extension = 45

abbrev pub trailing_crl_distribution_point : ℕ
trailing_crl_distribution_point = 46

abbrev pub trailing_common_name_inner : ℕ
trailing_common_name_inner = 47

abbrev pub trailing_common_name_outer : ℕ
trailing_common_name_outer = 48

abbrev pub trailing_distribution_point_name : ℕ
trailing_distribution_point_name = 49

abbrev pub trailing_extension : ℕ
trailing_extension = 50

abbrev pub trailing_general_name : ℕ
trailing_general_name = 51

abbrev pub trailing_revocation_reason : ℕ
trailing_revocation_reason = 52

abbrev pub trailing_signature : ℕ
trailing_signature = 53

abbrev pub trailing_signature_algorithm : ℕ
trailing_signature_algorithm = 54

abbrev pub trailing_signed_data : ℕ
trailing_signed_data = 55

abbrev pub trailing_subject_public_key_info : ℕ
trailing_subject_public_key_info = 56

abbrev pub trailing_time : ℕ
trailing_time = 57

abbrev pub trailing_trust_anchor_v1 : ℕ
trailing_trust_anchor_v1 = 58

abbrev pub trailing_trust_anchor_v1_tbs_certificate : ℕ
trailing_trust_anchor_v1_tbs_certificate = 59

abbrev pub trailing_u8 : ℕ
trailing_u8 = 60

abbrev pub trailing_revoked_certificate : ℕ
trailing_revoked_certificate = 61

abbrev pub trailing_revoked_certificate_extension : ℕ
trailing_revoked_certificate_extension = 62

abbrev pub trailing_revoked_cert_entry : ℕ
trailing_revoked_cert_entry = 63

abbrev pub trailing_issuing_distribution_point : ℕ
trailing_issuing_distribution_point = 64

abbrev pub extension_value_invalid : ℕ
extension_value_invalid = 65

abbrev pub bad_der_time : ℕ
bad_der_time = 66

abbrev pub bad_der : ℕ
bad_der = 67

abbrev pub unknown_issuer : ℕ
unknown_issuer = 68

abbrev pub maximum_signature_checks_exceeded : ℕ
maximum_signature_checks_exceeded = 69

abbrev pub maximum_path_build_calls_exceeded : ℕ
maximum_path_build_calls_exceeded = 70

abbrev pub maximum_name_constraint_comparisons_exceeded : ℕ
maximum_name_constraint_comparisons_exceeded = 71

-- data left over, for each type in which that is refused
abbrev pub trailing : List ℕ
trailing =
    trailing_bit_string ∷ trailing_bool ∷ trailing_certificate ∷ trailing_certificate_extensions ∷
    trailing_certificate_tbs_certificate ∷ trailing_cert_revocation_list ∷ trailing_cert_revocation_list_extension ∷
    trailing_crl_distribution_point ∷ trailing_common_name_inner ∷ trailing_common_name_outer ∷
    trailing_distribution_point_name ∷ trailing_extension ∷ trailing_general_name ∷ trailing_revocation_reason ∷
    trailing_signature ∷ trailing_signature_algorithm ∷ trailing_signed_data ∷ trailing_subject_public_key_info ∷
    trailing_time ∷ trailing_trust_anchor_v1 ∷ trailing_trust_anchor_v1_tbs_certificate ∷ trailing_u8 ∷
    trailing_revoked_certificate ∷ trailing_revoked_certificate_extension ∷ trailing_revoked_cert_entry ∷
    trailing_issuing_distribution_point ∷ []

-- what ends a search
abbrev pub ending : List ℕ
ending = maximum_signature_checks_exceeded ∷ maximum_path_build_calls_exceeded ∷ maximum_name_constraint_comparisons_exceeded ∷ []

-- a rank and the refusals that have it
pub record Row : Type 0 where
  pub rank : ℕ
  pub refusals : List ℕ

abbrev row : ℕ → List ℕ → Row
row rank refusals = record { rank = rank; refusals = refusals }

abbrev pub table : List Row
table =
    row 290 (cert_not_valid_yet ∷ cert_expired ∷ [])
    ∷ row 280 (cert_not_valid_for_name ∷ [])
    ∷ row 270 (cert_distrusted ∷ cert_revoked ∷ unknown_revocation_status ∷ crl_expired ∷ [])
    ∷ row 260 (invalid_signature_for_public_key ∷ invalid_crl_signature_for_public_key ∷ [])
    ∷ row 250 (signature_algorithm_mismatch ∷ [])
    ∷ row 245 (empty_eku_extension ∷ [])
    ∷ row 240 (required_eku_not_found ∷ [])
    ∷ row 230 (name_constraint_violation ∷ [])
    ∷ row 220 (path_len_constraint_violated ∷ [])
    ∷ row 210 (ca_used_as_end_entity ∷ end_entity_used_as_ca ∷ [])
    ∷ row 200 (issuer_not_crl_signer ∷ [])
    ∷ row 190 (invalid_cert_validity ∷ [])
    ∷ row 180 (invalid_network_mask_constraint ∷ [])
    ∷ row 170 (invalid_serial_number ∷ [])
    ∷ row 160 (invalid_crl_number ∷ [])
    ∷ row 150 (unsupported_signature_algorithm_for_public_key ∷ unsupported_crl_signature_algorithm_for_public_key ∷ [])
    ∷ row 140 (unsupported_signature_algorithm ∷ unsupported_crl_signature_algorithm ∷ [])
    ∷ row 130 (unsupported_critical_extension ∷ unsupported_cert_version ∷ [])
    ∷ row 120 (unsupported_crl_version ∷ [])
    ∷ row 110 (unsupported_delta_crl ∷ [])
    ∷ row 100 (unsupported_indirect_crl ∷ [])
    ∷ row 95 (unsupported_name_type ∷ [])
    ∷ row 90 (unsupported_revocation_reason ∷ [])
    ∷ row 80 (unsupported_revocation_reasons_partitioning ∷ [])
    ∷ row 70 (unsupported_crl_issuing_distribution_point ∷ [])
    ∷ row 61 (maximum_path_depth_exceeded ∷ [])
    ∷ row 60 (malformed_dns_identifier ∷ [])
    ∷ row 50 (malformed_name_constraint ∷ [])
    ∷ row 40 (malformed_extensions ∷ trailing)
    ∷ row 30 (extension_value_invalid ∷ [])
    ∷ row 20 (bad_der_time ∷ [])
    ∷ row 10 (bad_der ∷ [])
    ∷ row 0 (unknown_issuer ∷ ending)
    ∷ []

abbrev pub has : List ℕ → ℕ → Bool
has [] n = false
has (m ∷ ms) n = cond (eqb n m) true (has ms n)

abbrev pub rank_in : List Row → ℕ → ℕ
rank_in [] n = 0
rank_in (r ∷ rs) n = cond (has r.refusals n) r.rank (rank_in rs n)

-- the rank of a refusal; 0 for a number that is none
unfoldable pub rank_of : ℕ → ℕ
rank_of n = rank_in table n

-- whether a refusal ends a search
unfoldable pub is_fatal : ℕ → Bool
is_fatal n = has ending n
