-- Where a certificate is accepted that RFC 5280 or X.690 does not allow, each by its row in docs/DIFFERENCES.md: a witness that is accepted, and is not as the RFC
-- demands. Each is a certificate that is as it demands (`plain_conforming`), with one thing changed. Assumes nothing.
use Prim.Native.Nat.{ℕ, ◌+◌, ◌*◌, ◌/◌, ◌%◌, ◌≤◌, ◌<◌}
use mathlib.Core.Path.{◌≡◌, refl, sym, ap, ◌∙◌}
use mathlib.Core.List.{List, [], ◌∷◌, ◌++◌}
use mathlib.Core.Bool.{Bool, true, false, cond}
use mathlib.Core.Logic.{◌⊎◌, inl, inr, ⊎_elim}
use lib.ListN.{length, length-append}
use lib.Dec.{ltb, lit<, lit≤}
use native.Mathlib.Omega.{arith}
use Rattle.der.specs.Places.{LIMIT}
use Rattle.der.specs.X690.{big_endian, octets_of, length_bytes, encoding, value_of, bit, subidentifiers, ObjectIdentifier}
use Rattle.der.proofs.Complete.{big_length}
use Rattle.parts.specs.Lists.{same_list, Every, Some}
use Rattle.moment.specs.Calendar.{Date, Real, leap_year, month_lengths, days_of_month, Kind, utc, generalized, tag_of, two_digits, after_year, text, full_year, Writes}
use Rattle.extensions.specs.Rfc5280.{octet_string, object_identifier, sequence, explicit, boolean, Criticality, unwritten, written, is_critical, criticality}
use Rattle.extensions.specs.Rfc5280.{Extension, Extensions, missing, present, extension_content, extension, extension_list, extensions, id_ce, is_number, listed}
use Rattle.extensions.specs.Meaning.{said_by, said}
use Rattle.extensions.specs.Conforming.{Typed, Marked, Value, Distinct}
use Rattle.extensions.specs.Conforming as conforming
use Rattle.extensions.specs.Accepted.{KnownNumber, subject_alt_name, basic_constraints, name_constraints, crl_distribution_points, occurs}
use Rattle.extensions.specs.Accepted.{Taken, usage, known, other, Each, none as no_more, more as and_then}
use Rattle.extensions.proofs.Value.{encoded_length}
use Rattle.extensions.proofs.Numbers.{false_true, numbers}
use Rattle.extensions.proofs.Unique.{last_in}
use Rattle.extensions.proofs.Conforming.{occurs_once}
use Rattle.cert.specs.Model.{read_certificate}
use Rattle.cert.specs.Rfc5280.{integer, bit_string, Skeleton, version, tbs_content, tbs_certificate, certificate_content, certificate}
use Rattle.cert.specs.Meaning.{meaning}
use Rattle.cert.specs.Conforming.{AlgorithmIdentifier, Serial, last, Name, none, more, Time, Validity, SubjectPublicKeyInfo, Conforming, HasBit, Equipped}
use Rattle.cert.specs.Layout.{places}
use Rattle.cert.proofs.Complete.{complete}
use Rattle.cert.proofs.Unique.{unique}
use Rattle.cert.proofs.Conforming.{conforming_accepted}
use Rattle.std.specs.Prelude.{Ok}

-- ---- how long an encoding can be
few_octets : (n : ℕ) → length (length_bytes n) ≤ 5
unfolding length_bytes octets_of
few_octets n = go (ltb n 128) (ltb n 256) (ltb n 65536) (ltb n 16777216)
  where
    go : (a b c d : Bool) → length (cond a (n ∷ []) ((128 + cond b 1 (cond c 2 (cond d 3 4))) ∷ big_endian (cond b 1 (cond c 2 (cond d 3 4))) n)) ≤ 5
    go true b c d = lit≤ tt
    go false true c d = omega (arith, big_length 1 n)
    go false false true d = omega (arith, big_length 2 n)
    go false false false true = omega (arith, big_length 3 n)
    go false false false false = omega (arith, big_length 4 n)

encoded_few : (tag : ℕ) (x : List ℕ) → length (encoding tag x) ≤ 6 + length x
encoded_few tag x = omega (arith, encoded_length tag x, few_octets (length x))

sequence_few : (x : List ℕ) → length (sequence x) ≤ 6 + length x
unfolding sequence
sequence_few x = encoded_few 48 x

critical_few : (c : Criticality) → length (criticality c) ≤ 7
unfolding criticality boolean
critical_few unwritten = lit≤ tt
critical_few (written true) = encoded_few 1 (255 ∷ [])
critical_few (written false) = encoded_few 1 (0 ∷ [])

extension_few : (x : Extension) → length (extension x) ≤ 25 + (length x.identifier + length x.value)
unfolding extension extension_content sequence object_identifier octet_string
extension_few x =
    let i = encoding 6 x.identifier in
    let c = criticality x.critical in
    let v = encoding 4 x.value in
    omega (arith, encoded_few 48 (i ++ (c ++ v)), length-append i (c ++ v), length-append c v, encoded_few 6 x.identifier, critical_few x.critical, encoded_few 4 x.value)

abbrev weight_of : List Extension → ℕ
weight_of [] = 0
weight_of (x ∷ xs) = 25 + (length x.identifier + length x.value) + weight_of xs

list_few : (xs : List Extension) → length (extension_list xs) ≤ weight_of xs
unfolding extension_list
list_few [] = lit≤ tt
list_few (x ∷ xs) = omega (arith, length-append (extension x) (extension_list xs), extension_few x, list_few xs)

extensions_few : (es : Extensions) → length (extensions es) ≤ 12 + weight_of (listed es)
unfolding extensions explicit sequence listed
extensions_few missing = omega arith
extensions_few (present xs) = omega (arith, encoded_few 163 (encoding 48 (extension_list xs)), encoded_few 48 (extension_list xs), list_few xs)

abbrev weight : Skeleton → ℕ
weight k =
    length k.serial + 2 * length k.algorithm + length k.issuer + length k.validity + length k.subject + length k.key + length k.signature

certificate_few : (k : Skeleton) → length (certificate k) ≤ 99 + weight k + weight_of (listed k.extensions)
unfolding certificate certificate_content tbs_certificate tbs_content version explicit integer sequence bit_string
certificate_few k =
    let w = encoding 160 (encoding 2 (2 ∷ [])) in
    let n = encoding 2 k.serial in
    let a = encoding 48 k.algorithm in
    let i = encoding 48 k.issuer in
    let v = encoding 48 k.validity in
    let u = encoding 48 k.subject in
    let y = encoding 48 k.key in
    let e = extensions k.extensions in
    let g = encoding 3 (0 ∷ k.signature) in
    let tbs = w ++ (n ++ (a ++ (i ++ (v ++ (u ++ (y ++ e)))))) in
    let p : length tbs ≡ length w + (length n + (length a + (length i + (length v + (length u + (length y + length e)))))) = simp length-append in
    let q : length (encoding 48 tbs ++ (a ++ g)) ≡ length (encoding 48 tbs) + (length a + length g) = simp length-append in
    omega (
      arith,
      encoded_few 48 (encoding 48 tbs ++ (a ++ g)),
      encoded_few 48 tbs,
      encoded_few 160 (encoding 2 (2 ∷ [])),
      encoded_few 2 (2 ∷ []),
      encoded_few 2 k.serial,
      encoded_few 48 k.algorithm,
      encoded_few 48 k.issuer,
      encoded_few 48 k.validity,
      encoded_few 48 k.subject,
      encoded_few 48 k.key,
      extensions_few k.extensions,
      encoded_few 3 (0 ∷ k.signature),
    )

content_few : (k : Skeleton) → length (certificate_content k) < length (certificate k)
unfolding certificate sequence
content_few k = omega (arith, encoded_length 48 (certificate_content k))

-- ---- a witness: it is accepted, and its bytes are the encoding of no certificate that is as RFC 5280 demands
pub record Breaks (Demand : Skeleton → Type 0) (k : Skeleton) : Type 0 where
  pub accepted : read_certificate (certificate k) true ≡ Ok (places k)
  pub not_conforming : (k' : Skeleton) → certificate k ≡ certificate k' → Demand k' → ⊥

abbrev pub Weaker : Skeleton → Type 0
Weaker k = Breaks Conforming k

module _ (k : Skeleton) (small : weight k + weight_of (listed k.extensions) < 60000) where
  short : length (certificate_content k) < LIMIT
  short = omega (arith, content_few k, certificate_few k)

  module _ (each : Each true (listed k.extensions)) (once : (n : ℕ) → KnownNumber n → occurs n (listed k.extensions) ≤ 1) where
    is_accepted : read_certificate (certificate k) true ≡ Ok (places k)
    is_accepted = complete true k (record { short = short; each = each; once = once })

    weaker : (Demand : Skeleton → Type 0) → (Demand k → ⊥) → Breaks Demand k
    weaker Demand broken =
        let l = certificate_few k in
        record {
          accepted = is_accepted;
          not_conforming = λ k' e d. broken (rw (unique k k' short (omega (arith, content_few k', ap length e)) e) d);
        }

-- ---- a certificate that is as RFC 5280 demands
abbrev identifier : List ℕ
identifier = 42 ∷ 3 ∷ 4 ∷ []

-- an algorithm with the identifier 1.2.3.4 and no parameters
abbrev algorithm : List ℕ
algorithm = 6 ∷ 3 ∷ 42 ∷ 3 ∷ 4 ∷ []

-- the common name A, as UTF8String
abbrev name : List ℕ
name = 49 ∷ 10 ∷ 48 ∷ 8 ∷ 6 ∷ 3 ∷ 85 ∷ 4 ∷ 3 ∷ 12 ∷ 1 ∷ 65 ∷ []

-- 200101000000Z and 400101000000Z
abbrev first : List ℕ
first = 23 ∷ 13 ∷ 50 ∷ 48 ∷ 48 ∷ 49 ∷ 48 ∷ 49 ∷ 48 ∷ 48 ∷ 48 ∷ 48 ∷ 48 ∷ 48 ∷ 90 ∷ []

abbrev second : List ℕ
second = 23 ∷ 13 ∷ 52 ∷ 48 ∷ 48 ∷ 49 ∷ 48 ∷ 49 ∷ 48 ∷ 48 ∷ 48 ∷ 48 ∷ 48 ∷ 48 ∷ 90 ∷ []

abbrev key : List ℕ
key = 48 ∷ 5 ∷ 6 ∷ 3 ∷ 42 ∷ 3 ∷ 4 ∷ 3 ∷ 2 ∷ 0 ∷ 170 ∷ []

abbrev made : List ℕ → List ℕ → List ℕ → List ℕ → List ℕ → List ℕ → Extensions → List ℕ → Skeleton
made n a i v u y e g =
    record { serial = n; algorithm = a; issuer = i; validity = v; subject = u; key = y; extensions = e; signature = g }

abbrev pub plain : Skeleton
plain = made (1 ∷ []) algorithm name (first ++ second) name key missing (170 ∷ [])

named : ObjectIdentifier identifier
unfolding subidentifiers
named = record { some = λ e. let z : ◌≡◌ {A = ℕ} 0 1 = cc in omega arith; series = refl }

common_name : ObjectIdentifier (85 ∷ 4 ∷ 3 ∷ [])
unfolding subidentifiers
common_name = record { some = λ e. let z : ◌≡◌ {A = ℕ} 0 1 = cc in omega arith; series = refl }

an_algorithm : AlgorithmIdentifier algorithm
unfolding encoding length_bytes
an_algorithm = record { algorithm = identifier; parameters = []; whole = refl; named = named }

a_name : Name name
unfolding encoding length_bytes
a_name =
    more (48 ∷ 8 ∷ 6 ∷ 3 ∷ 85 ∷ 4 ∷ 3 ∷ 12 ∷ 1 ∷ 65 ∷ []) [] refl
    (last (6 ∷ 3 ∷ 85 ∷ 4 ∷ 3 ∷ 12 ∷ 1 ∷ 65 ∷ []) refl (record { type = 85 ∷ 4 ∷ 3 ∷ []; value = 12 ∷ 1 ∷ 65 ∷ []; whole = refl; named = common_name }))
    (none refl)

abbrev new_year : ℕ → Date
new_year y = record { year = y; month = 1; day = 1; hour = 0; minute = 0; second = 0 }

real_2020 : Real (new_year 2020)
unfolding days_of_month month_lengths leap_year
real_2020 = record { month_first = lit≤ tt; month_last = lit≤ tt; day_first = lit≤ tt; day_last = lit≤ tt; hour_last = lit≤ tt; minute_last = lit≤ tt; second_last = lit≤ tt }

real_2040 : Real (new_year 2040)
unfolding days_of_month month_lengths leap_year
real_2040 = record { month_first = lit≤ tt; month_last = lit≤ tt; day_first = lit≤ tt; day_last = lit≤ tt; hour_last = lit≤ tt; minute_last = lit≤ tt; second_last = lit≤ tt }

a_validity : Validity (first ++ second)
unfolding encoding length_bytes tag_of text two_digits after_year Writes full_year
a_validity =
    record {
      not_before = first;
      not_after = second;
      whole = refl;
      begins = record { kind = utc; date = new_year 2020; real = real_2020; writes = refl; through = inl refl; encoded = refl };
      ends = record { kind = utc; date = new_year 2040; real = real_2040; writes = refl; through = inl refl; encoded = refl };
    }

a_key : SubjectPublicKeyInfo key
unfolding encoding length_bytes
a_key =
    record {
      algorithm = algorithm;
      unused = 0;
      octets = 170 ∷ [];
      whole = refl;
      of = an_algorithm;
      bits = record { few = lit< tt; empty = λ e. refl; zeros = refl };
    }

one : Serial (1 ∷ [])
unfolding value_of
one =
    record {
      number = 1;
      natural = record { some = lit≤ tt; positive = lit< tt; value = refl; shortest = λ h _. omega arith };
      positive = omega arith;
      few = lit≤ tt;
    }

no_bytes : {x : ℕ} {xs : List ℕ} → x ∷ xs ≡ [] → ⊥
no_bytes e = let z : ◌≡◌ {A = ℕ} 0 1 = cc in omega arith

pub plain_conforming : Conforming plain
unfolding listed Some Every Distinct
plain_conforming =
    record {
      serial = one;
      algorithm = an_algorithm;
      issuer = a_name;
      issuer_some = no_bytes;
      validity = a_validity;
      subject = a_name;
      subject_ca = λ h. absurd h;
      subject_some = λ e. absurd (no_bytes e);
      key = a_key;
      extensions = record { der = record { each = tt; size = λ e. let z : ◌≡◌ {A = ℕ} 0 1 = cc in omega arith }; each = tt; once = tt };
      constraints = λ h. h;
      signature = no_bytes;
    }

-- its bytes
pub plain_bytes : certificate plain ≡
    48 ∷ 101 ∷ 48 ∷ 88 ∷ 160 ∷ 3 ∷ 2 ∷ 1 ∷ 2 ∷ 2 ∷ 1 ∷ 1 ∷ 48 ∷ 5 ∷ 6 ∷ 3 ∷ 42 ∷ 3 ∷ 4 ∷ 48 ∷ 12 ∷ 49 ∷ 10 ∷ 48 ∷ 8 ∷ 6 ∷ 3 ∷ 85 ∷ 4 ∷ 3 ∷ 12 ∷ 1 ∷
    65 ∷ 48 ∷ 30 ∷ 23 ∷ 13 ∷ 50 ∷ 48 ∷ 48 ∷ 49 ∷ 48 ∷ 49 ∷ 48 ∷ 48 ∷ 48 ∷ 48 ∷ 48 ∷ 48 ∷ 90 ∷ 23 ∷ 13 ∷ 52 ∷ 48 ∷ 48 ∷ 49 ∷ 48 ∷ 49 ∷ 48 ∷ 48 ∷ 48 ∷
    48 ∷ 48 ∷ 48 ∷ 90 ∷ 48 ∷ 12 ∷ 49 ∷ 10 ∷ 48 ∷ 8 ∷ 6 ∷ 3 ∷ 85 ∷ 4 ∷ 3 ∷ 12 ∷ 1 ∷ 65 ∷ 48 ∷ 11 ∷ 48 ∷ 5 ∷ 6 ∷ 3 ∷ 42 ∷ 3 ∷ 4 ∷ 3 ∷ 2 ∷ 0 ∷ 170 ∷ 48 ∷
    5 ∷ 6 ∷ 3 ∷ 42 ∷ 3 ∷ 4 ∷ 3 ∷ 2 ∷ 0 ∷ 170 ∷ []
unfolding certificate certificate_content tbs_certificate tbs_content version explicit integer sequence bit_string extensions encoding length_bytes
plain_bytes = refl

-- it is accepted as it stands: what follows changes one field each
pub plain_accepted : read_certificate (certificate plain) true ≡ Ok (places plain)
unfolding listed Every
plain_accepted = conforming_accepted true plain plain_conforming (short plain (lit< tt)) (λ s. tt)

-- ---- witnesses with other fields than extensions
fields_weaker : (n a i v u y g : List ℕ) → weight (made n a i v u y missing g) < 60000 → (Conforming (made n a i v u y missing g) → ⊥) → Weaker (made n a i v u y missing g)
unfolding listed occurs
fields_weaker n a i v u y g small broken = weaker (made n a i v u y missing g) (omega arith) no_more (λ m k. lit≤ tt) Conforming broken

-- RFC 5280, 4.1.2.5: 18 0f 32 30 32 30 ..: the date 2020-01-01 00:00:00 as GeneralizedTime
abbrev late : List ℕ
late = 24 ∷ 15 ∷ 50 ∷ 48 ∷ 50 ∷ 48 ∷ 48 ∷ 49 ∷ 48 ∷ 49 ∷ 48 ∷ 48 ∷ 48 ∷ 48 ∷ 48 ∷ 48 ∷ 90 ∷ []

late_time : (not_before not_after : List ℕ) → late ++ second ≡ not_before ++ not_after → Time not_before → ⊥
unfolding encoding length_bytes tag_of text two_digits after_year
late_time not_before not_after e t = go t.kind t.date t.through (e ∙ ap (λ (l : List ℕ). l ++ not_after) t.encoded)
  where
    go : (k : Kind) (d : Date) → (k ≡ utc) ⊎ (2050 ≤ d.year) → late ++ second ≡ encoding (tag_of k) (text k d) ++ not_after → ⊥
    go utc d h q = let z : ◌≡◌ {A = ℕ} 24 23 = cc in omega arith
    go generalized d (inl h) q = let z : ◌≡◌ {A = ℕ} 0 1 = cc in omega arith
    go generalized d (inr h) q =
        let c : 50 ≡ 48 + d.year / 100 / 10 = cc in
        let m : 48 ≡ 48 + (d.year / 100) % 10 = cc in
        let t : 50 ≡ 48 + (d.year % 100) / 10 = cc in
        omega arith

pub d5 : Weaker (made (1 ∷ []) algorithm name (late ++ second) name key missing (170 ∷ []))
d5 = fields_weaker _ _ _ _ _ _ _ (lit< tt) (λ c. late_time _ _ c.validity.whole c.validity.begins)

-- X.690, 8.3.1, 8.3.2, RFC 5280, 4.1.2.2: 02 00; 02 01 ff; 02 02 00 00; 02 01 00; 02 15 01 00 .. 00, of 21 octets
abbrev numbered : List ℕ → Skeleton
numbered n = made n algorithm name (first ++ second) name key missing (170 ∷ [])

abbrev long : List ℕ
long = 1 ∷ 0 ∷ 0 ∷ 0 ∷ 0 ∷ 0 ∷ 0 ∷ 0 ∷ 0 ∷ 0 ∷ 0 ∷ 0 ∷ 0 ∷ 0 ∷ 0 ∷ 0 ∷ 0 ∷ 0 ∷ 0 ∷ 0 ∷ 0 ∷ []

pub d11_empty : Weaker (numbered [])
d11_empty = fields_weaker _ _ _ _ _ _ _ (lit< tt) (λ c. omega (arith, c.serial.natural.some))

pub d11_negative : Weaker (numbered (255 ∷ []))
d11_negative = fields_weaker _ _ _ _ _ _ _ (lit< tt) (λ c. omega (arith, c.serial.natural.positive))

pub d11_padded : Weaker (numbered (0 ∷ 0 ∷ []))
d11_padded = fields_weaker _ _ _ _ _ _ _ (lit< tt) (λ c. omega (arith, c.serial.natural.shortest (lit≤ tt) refl))

pub d11_zero : Weaker (numbered (0 ∷ []))
unfolding value_of
d11_zero = fields_weaker _ _ _ _ _ _ _ (lit< tt) (λ c. omega (arith, c.serial.natural.value, c.serial.positive))

pub d11_long : Weaker (numbered long)
d11_long = fields_weaker _ _ _ _ _ _ _ (lit< tt) (λ c. omega (arith, c.serial.few))

-- RFC 5280, 4.1.2.4 to 4.1.2.7, 4.1.1.2: 30 02 ff ff as issuer, validity, subject and key; 30 00 as algorithm
abbrev junk : List ℕ
junk = 255 ∷ 255 ∷ []

no_encoding : (tag : ℕ) (x rest xs : List ℕ) → (255 ≡ tag → ⊥) → 255 ∷ xs ≡ encoding tag x ++ rest → ⊥
unfolding encoding
no_encoding tag x rest xs h e = h (cc)

no_name : Name junk → ⊥
no_name (none e) = no_bytes e
no_name (more set rest e a n) = no_encoding 49 set rest _ (λ h. omega arith) e

no_time : (not_before not_after : List ℕ) → junk ≡ not_before ++ not_after → Time not_before → ⊥
unfolding tag_of
no_time not_before not_after e t = go t.kind t.date (e ∙ ap (λ (l : List ℕ). l ++ not_after) t.encoded)
  where
    go : (k : Kind) (d : Date) → junk ≡ encoding (tag_of k) (text k d) ++ not_after → ⊥
    go utc d q = no_encoding 23 _ not_after _ (λ h. omega arith) q
    go generalized d q = no_encoding 24 _ not_after _ (λ h. omega arith) q

no_algorithm : AlgorithmIdentifier [] → ⊥
unfolding encoding
no_algorithm a = no_bytes (sym a.whole)

pub d12_issuer : Weaker (made (1 ∷ []) algorithm junk (first ++ second) name key missing (170 ∷ []))
d12_issuer = fields_weaker _ _ _ _ _ _ _ (lit< tt) (λ c. no_name c.issuer)

pub d12_validity : Weaker (made (1 ∷ []) algorithm name junk name key missing (170 ∷ []))
d12_validity = fields_weaker _ _ _ _ _ _ _ (lit< tt) (λ c. no_time _ _ c.validity.whole c.validity.begins)

pub d12_subject : Weaker (made (1 ∷ []) algorithm name (first ++ second) junk key missing (170 ∷ []))
d12_subject = fields_weaker _ _ _ _ _ _ _ (lit< tt) (λ c. no_name c.subject)

pub d12_key : Weaker (made (1 ∷ []) algorithm name (first ++ second) name junk missing (170 ∷ []))
d12_key = fields_weaker _ _ _ _ _ _ _ (lit< tt) (λ c. no_encoding 48 _ _ _ (λ h. omega arith) c.key.whole)

pub d12_algorithm : Weaker (made (1 ∷ []) [] name (first ++ second) name key missing (170 ∷ []))
d12_algorithm = fields_weaker _ _ _ _ _ _ _ (lit< tt) (λ c. no_algorithm c.algorithm)

-- RFC 5280, 4.1.1.3: 03 01 00, a signature of no bits
pub d14 : Weaker (made (1 ∷ []) algorithm name (first ++ second) name key missing [])
d14 = fields_weaker _ _ _ _ _ _ _ (lit< tt) (λ c. c.signature refl)

-- RFC 5280, 4.1.2.4: 30 00, an empty issuer; 4.1.2.6: an empty subject, and no alternative name
pub d37_issuer : Weaker (made (1 ∷ []) algorithm [] (first ++ second) name key missing (170 ∷ []))
d37_issuer = fields_weaker _ _ _ _ _ _ _ (lit< tt) (λ c. c.issuer_some refl)

pub d37_subject : Weaker (made (1 ∷ []) algorithm name (first ++ second) [] key missing (170 ∷ []))
unfolding listed Some
d37_subject = fields_weaker _ _ _ _ _ _ _ (lit< tt) (λ c. c.subject_some refl)

-- ---- witnesses with extensions
abbrev pub extended : List ℕ → List Extension → Skeleton
extended u xs = made (1 ∷ []) algorithm name (first ++ second) u key (present xs) (170 ∷ [])

abbrev pub one_of : List ℕ → Criticality → List ℕ → Extension
one_of i c v = record { identifier = i; critical = c; value = v }

pub list_accepted : (u : List ℕ) (xs : List Extension) → weight (extended u xs) + weight_of xs < 60000 → Each true xs → Distinct xs
    → read_certificate (certificate (extended u xs)) true ≡ Ok (places (extended u xs))
unfolding listed
list_accepted u xs small each once = is_accepted (extended u xs) small each (λ n k. occurs_once n xs once)

list_breaks : (u : List ℕ) (xs : List Extension) → weight (extended u xs) + weight_of xs < 60000 → Each true xs → Distinct xs
    → (Demand : Skeleton → Type 0) → (Demand (extended u xs) → ⊥) → Breaks Demand (extended u xs)
unfolding listed
list_breaks u xs small each once Demand broken = weaker (extended u xs) small each (λ n k. occurs_once n xs once) Demand broken

list_weaker : (u : List ℕ) (xs : List Extension) → weight (extended u xs) + weight_of xs < 60000 → Each true xs → Distinct xs → (Conforming (extended u xs) → ⊥) → Weaker (extended u xs)
list_weaker u xs small each once broken = list_breaks u xs small each once Conforming broken

-- X.690, 11.5: 30 0c 06 03 55 1d 13 01 01 00 04 02 30 00, a criticality of false that is written; it says what the one without says
pub d1 : Weaker (extended name (one_of (id_ce 19) (written false) (48 ∷ 0 ∷ []) ∷ []))
    × (meaning (extended name (one_of (id_ce 19) (written false) (48 ∷ 0 ∷ []) ∷ [])) ≡ meaning (extended name (one_of (id_ce 19) unwritten (48 ∷ 0 ∷ []) ∷ [])))
unfolding listed Every Distinct sequence encoding length_bytes meaning said said_by is_critical
d1 = (
  list_weaker _ _ (lit< tt) (and_then (known 19 basic_constraints (λ e. omega arith) refl [] refl) no_more) (tt, tt) (λ c. c.extensions.der.each.0 refl),
  refl,
)

-- RFC 5280, 4.1: a3 02 30 00, a list of no extensions; it says what no list says
pub d7 : Weaker (extended name []) × (meaning (extended name []) ≡ meaning plain)
unfolding Distinct meaning said listed
d7 = (list_weaker _ _ (lit< tt) no_more tt (λ c. c.extensions.der.size refl), refl)

-- ---- an extension that is not known
unknown : (i v : List ℕ) → ((n : ℕ) → KnownNumber n → same_list i (id_ce n) ≡ false) → Taken true (one_of i unwritten v)
unfolding is_number is_critical
unknown i v never = other never (λ s e. false_true e)

never_key : (n : ℕ) → KnownNumber n → same_list (85 ∷ 29 ∷ 14 ∷ []) (id_ce n) ≡ false
unfolding same_list
never_key = numbers (λ n. same_list (85 ∷ 29 ∷ 14 ∷ []) (id_ce n) ≡ false) refl refl refl refl refl refl

-- RFC 5280, 4.2: 30 09 06 03 55 1d 0e 04 02 04 00 twice
pub d8 : Weaker (extended name (one_of (id_ce 14) unwritten (4 ∷ 0 ∷ []) ∷ one_of (id_ce 14) unwritten (4 ∷ 0 ∷ []) ∷ []))
unfolding listed Every Distinct occurs is_number
d8 =
    weaker (extended name (one_of (id_ce 14) unwritten (4 ∷ 0 ∷ []) ∷ one_of (id_ce 14) unwritten (4 ∷ 0 ∷ []) ∷ [])) (lit< tt)
    (and_then (unknown _ _ never_key) (and_then (unknown _ _ never_key) no_more))
    (λ n k. rw (never_key n k) (lit≤ tt))
    Conforming
    (λ c. c.extensions.once.0.0 refl)

-- X.690, 8.19: 06 00 and 06 01 80 as identifiers
pub d13_empty : Weaker (extended name (one_of [] unwritten [] ∷ []))
unfolding listed Every Distinct same_list
d13_empty =
    list_weaker _ _ (lit< tt) (and_then (unknown _ _ (numbers (λ n. same_list [] (id_ce n) ≡ false) refl refl refl refl refl refl)) no_more) (tt, tt)
    (λ c. c.extensions.each.0.identifier.some refl)

pub d13_unfinished : Weaker (extended name (one_of (128 ∷ []) unwritten [] ∷ []))
unfolding listed Every Distinct same_list subidentifiers
d13_unfinished =
    list_weaker _ _ (lit< tt) (and_then (unknown _ _ (numbers (λ n. same_list (128 ∷ []) (id_ce n) ≡ false) refl refl refl refl refl refl)) no_more) (tt, tt)
    (λ c. false_true c.extensions.each.0.identifier.series)

-- RFC 5280, 4.2.1.14: inhibitAnyPolicy that is not critical, 30 0a 06 03 55 1d 36 04 03 02 01 00
pub d45 : Weaker (extended name (one_of (id_ce 54) unwritten (2 ∷ 1 ∷ 0 ∷ []) ∷ []))
unfolding listed Every Distinct same_list is_critical
d45 =
    list_weaker _ _ (lit< tt) (and_then (unknown _ _ (numbers (λ n. same_list (id_ce 54) (id_ce n) ≡ false) refl refl refl refl refl refl)) no_more) (tt, tt)
    (λ c. false_true (c.extensions.each.0.marked 54 true conforming.of_inhibit_any_policy refl))

-- ---- an extension that is known
-- RFC 5280, 4.2.1.3: 30 0a 06 03 55 1d 0f 04 03 02 01 00 and 30 07 06 03 55 1d 0f 04 00, key usages that are no BIT STRING
pub d9_number : Weaker (extended name (one_of (id_ce 15) unwritten (2 ∷ 1 ∷ 0 ∷ []) ∷ []))
unfolding listed Every Distinct encoding
d9_number =
    list_weaker _ _ (lit< tt) (and_then (usage refl) no_more) (tt, tt)
    (λ c. let e = (c.extensions.each.0.value 15 3 2 conforming.key_usage refl).is in let z : ◌≡◌ {A = ℕ} 2 3 = cc in omega arith)

pub d9_empty : Weaker (extended name (one_of (id_ce 15) unwritten [] ∷ []))
unfolding listed Every Distinct encoding
d9_empty =
    list_weaker _ _ (lit< tt) (and_then (usage refl) no_more) (tt, tt)
    (λ c. no_bytes (sym (c.extensions.each.0.value 15 3 2 conforming.key_usage refl).is))

-- RFC 5280, 4.2.1.13: 30 10 06 03 55 1d 1f 01 01 ff 04 04 30 02 ff ff, critical distribution points of which the first, as any DistributionPoint, would be a
-- SEQUENCE: none is there
abbrev points : Skeleton
points = extended name (one_of (id_ce 31) (written true) (sequence junk) ∷ [])

pub d42 : (read_certificate (certificate points) true ≡ Ok (places points)) × ((point rest : List ℕ) → sequence junk ≡ sequence (sequence point ++ rest) → ⊥)
unfolding Distinct Every sequence
d42 = (
  list_accepted _ _ (omega (arith, encoded_few 48 junk)) (and_then (known 31 crl_distribution_points (λ e. omega arith) refl junk refl) no_more) (tt, tt),
  λ point rest e. no_encoding 48 point rest _ (λ h. omega arith) (last_in 48 junk (encoding 48 point ++ rest) refl (omega (arith, encoded_few 48 junk)) e).0,
)

-- the alternative name a, a DNS name; the value of a CA's basic constraints; the name constraints that permit the DNS name a
abbrev a : List ℕ
a = 130 ∷ 1 ∷ 97 ∷ []

abbrev ca : Extension
ca = one_of (id_ce 19) (written true) (48 ∷ 3 ∷ 1 ∷ 1 ∷ 255 ∷ [])

abbrev permits : List ℕ
permits = 160 ∷ 5 ∷ 48 ∷ 3 ∷ 130 ∷ 1 ∷ 97 ∷ []

is_ca : Taken true ca
unfolding sequence encoding length_bytes
is_ca = known 19 basic_constraints (λ e. omega arith) refl (1 ∷ 1 ∷ 255 ∷ []) refl

alternative : (c : Criticality) → Taken true (one_of (id_ce 17) c (48 ∷ 3 ∷ a))
unfolding sequence encoding length_bytes
alternative c = known 17 subject_alt_name (λ e. omega arith) refl a refl

constraining : (c : Criticality) → Taken true (one_of (id_ce 30) c (48 ∷ 7 ∷ permits))
unfolding sequence encoding length_bytes
constraining c = known 30 name_constraints (λ e. omega arith) refl permits refl

pub not_same : (m n : ℕ) → (m ≡ n → ⊥) → id_ce m ≡ id_ce n → ⊥
not_same m n h e = h (cc)

-- with this extension the certificate is a CA's, and as RFC 5280 demands too
typed_basic : (n tag least : ℕ) → Typed n tag least → id_ce 19 ≡ id_ce n → Value tag least (48 ∷ 3 ∷ 1 ∷ 1 ∷ 255 ∷ [])
unfolding encoding length_bytes
typed_basic n tag least conforming.basic_constraints e = record { content = 1 ∷ 1 ∷ 255 ∷ []; is = refl; enough = omega arith }
typed_basic n tag least conforming.authority_key_identifier e = absurd (not_same 19 _ (λ h. omega arith) e)
typed_basic n tag least conforming.subject_key_identifier e = absurd (not_same 19 _ (λ h. omega arith) e)
typed_basic n tag least conforming.key_usage e = absurd (not_same 19 _ (λ h. omega arith) e)
typed_basic n tag least conforming.certificate_policies e = absurd (not_same 19 _ (λ h. omega arith) e)
typed_basic n tag least conforming.policy_mappings e = absurd (not_same 19 _ (λ h. omega arith) e)
typed_basic n tag least conforming.subject_alt_name e = absurd (not_same 19 _ (λ h. omega arith) e)
typed_basic n tag least conforming.issuer_alt_name e = absurd (not_same 19 _ (λ h. omega arith) e)
typed_basic n tag least conforming.subject_directory_attributes e = absurd (not_same 19 _ (λ h. omega arith) e)
typed_basic n tag least conforming.name_constraints e = absurd (not_same 19 _ (λ h. omega arith) e)
typed_basic n tag least conforming.policy_constraints e = absurd (not_same 19 _ (λ h. omega arith) e)
typed_basic n tag least conforming.ext_key_usage e = absurd (not_same 19 _ (λ h. omega arith) e)
typed_basic n tag least conforming.crl_distribution_points e = absurd (not_same 19 _ (λ h. omega arith) e)
typed_basic n tag least conforming.inhibit_any_policy e = absurd (not_same 19 _ (λ h. omega arith) e)
typed_basic n tag least conforming.freshest_crl e = absurd (not_same 19 _ (λ h. omega arith) e)

marked_basic : (n : ℕ) (b : Bool) → Marked n b → id_ce 19 ≡ id_ce n → true ≡ b
marked_basic n b conforming.of_authority_key_identifier e = absurd (not_same 19 _ (λ h. omega arith) e)
marked_basic n b conforming.of_subject_key_identifier e = absurd (not_same 19 _ (λ h. omega arith) e)
marked_basic n b conforming.of_subject_directory_attributes e = absurd (not_same 19 _ (λ h. omega arith) e)
marked_basic n b conforming.of_name_constraints e = absurd (not_same 19 _ (λ h. omega arith) e)
marked_basic n b conforming.of_policy_constraints e = absurd (not_same 19 _ (λ h. omega arith) e)
marked_basic n b conforming.of_inhibit_any_policy e = absurd (not_same 19 _ (λ h. omega arith) e)
marked_basic n b conforming.of_freshest_crl e = absurd (not_same 19 _ (λ h. omega arith) e)

no_list : (ca ∷ []) ≡ [] → ⊥
no_list e = let z : ◌≡◌ {A = ℕ} 0 1 = cc in omega arith

pub ca_conforming : Conforming (extended name (ca ∷ []))
unfolding listed Some Every Distinct is_critical subidentifiers
ca_conforming =
    record {
      serial = one;
      algorithm = an_algorithm;
      issuer = a_name;
      issuer_some = no_bytes;
      validity = a_validity;
      subject = a_name;
      subject_ca = λ h. no_bytes;
      subject_some = λ e. absurd (no_bytes e);
      key = a_key;
      extensions = record {
        der = record { each = ((λ e. let b : true ≡ false = cc in false_true (sym b)), tt); size = λ e. no_list (cc) };
        each = (record { identifier = record { some = no_bytes; series = refl }; value = typed_basic; marked = marked_basic }, tt);
        once = (tt, tt);
      };
      constraints = ⊎_elim (λ h. absurd (not_same 19 30 (λ e. omega arith) h)) (λ h. absurd h);
      signature = no_bytes;
    }

-- RFC 5280, 4.1.2.6: an empty subject in a CA's certificate, whose alternative name is critical; an empty subject with an alternative name that is not critical
pub d37_ca : Weaker (extended [] (ca ∷ one_of (id_ce 17) (written true) (48 ∷ 3 ∷ a) ∷ []))
unfolding listed Every Some Distinct sequence boolean encoding length_bytes
d37_ca =
    list_weaker _ _ (lit< tt) (and_then is_ca (and_then (alternative _) no_more)) ((not_same 17 19 (λ e. omega arith), tt), (tt, tt))
    (λ c. c.subject_ca (inl (refl, ([], refl))) refl)

pub d37_unmarked : Weaker (extended [] (one_of (id_ce 17) unwritten (48 ∷ 3 ∷ a) ∷ []))
unfolding listed Every Some Distinct is_critical
d37_unmarked =
    list_weaker _ _ (lit< tt) (and_then (alternative _) no_more) (tt, tt) (λ c. ⊎_elim (λ h. false_true h.1) (λ h. h) (c.subject_some refl))

-- RFC 5280, 4.2.1.6: 30 09 06 03 55 1d 11 04 02 30 00, an alternative name that lists none
pub d38_empty : Weaker (extended name (one_of (id_ce 17) unwritten (48 ∷ 0 ∷ []) ∷ []))
unfolding listed Every Distinct sequence encoding length_bytes
d38_empty =
    list_weaker _ _ (lit< tt) (and_then (known 17 subject_alt_name (λ e. omega arith) refl [] refl) no_more) (tt, tt)
    (λ c. let v = c.extensions.each.0.value 17 48 1 conforming.subject_alt_name refl in let e = (last_in 48 [] v.content refl (lit< tt) v.is).0 in omega (arith, ap length e, v.enough))

-- 30 0b 06 03 55 1d 11 04 04 30 02 ff ff: an alternative name that is not looked at; no GeneralName begins so, since each is context-specific (X.690, 8.1.2.2)
abbrev unread : Skeleton
unread = extended name (one_of (id_ce 17) unwritten (sequence junk) ∷ [])

pub d38_unread : (read_certificate (certificate unread) true ≡ Ok (places unread)) × ((tag : ℕ) (content rest : List ℕ) → tag < 192 → junk ≡ encoding tag content ++ rest → ⊥)
unfolding Distinct Every
d38_unread = (
  list_accepted _ _ (omega (arith, sequence_few junk)) (and_then (known 17 subject_alt_name (λ e. omega arith) refl junk refl) no_more) (tt, tt),
  λ tag content rest h e. no_encoding tag content rest _ (λ i. omega arith) e,
)

-- RFC 5280, 4.2.1.10: name constraints in a certificate that is no CA's; and in a CA's, but not critical
pub d40 : Weaker (extended name (one_of (id_ce 30) (written true) (48 ∷ 7 ∷ permits) ∷ []))
unfolding listed Every Some Distinct
d40 =
    list_weaker _ _ (lit< tt) (and_then (constraining _) no_more) (tt, tt)
    (λ c. ⊎_elim (λ h. not_same 30 19 (λ e. omega arith) h.0) (λ h. h) (c.constraints (inl refl)))

pub d41 : Weaker (extended name (ca ∷ one_of (id_ce 30) unwritten (48 ∷ 7 ∷ permits) ∷ []))
unfolding listed Every Distinct is_critical
d41 =
    list_weaker _ _ (lit< tt) (and_then is_ca (and_then (constraining _) no_more)) ((not_same 30 19 (λ e. omega arith), tt), (tt, tt))
    (λ c. false_true (c.extensions.each.1.0.marked 30 true conforming.of_name_constraints refl))

-- ---- key identifiers and key usage
-- the subject B; an authority key identifier and a subject key identifier of the octet 1; a key usage of keyCertSign alone
abbrev pub below : List ℕ
below = 49 ∷ 10 ∷ 48 ∷ 8 ∷ 6 ∷ 3 ∷ 85 ∷ 4 ∷ 3 ∷ 12 ∷ 1 ∷ 66 ∷ []

abbrev pub authority_key_extension : Extension
authority_key_extension = one_of (id_ce 35) unwritten (48 ∷ 3 ∷ 128 ∷ 1 ∷ 1 ∷ [])

abbrev subject_key_extension : Extension
subject_key_extension = one_of (id_ce 14) unwritten (4 ∷ 1 ∷ 1 ∷ [])

abbrev signing : Extension
signing = one_of (id_ce 15) (written true) (3 ∷ 2 ∷ 2 ∷ 4 ∷ [])

pub a_key_id : Taken true authority_key_extension
unfolding same_list
a_key_id = unknown _ _ (numbers (λ n. same_list (id_ce 35) (id_ce n) ≡ false) refl refl refl refl refl refl)

other_subject : name ≡ below → ⊥
other_subject e = let z : ◌≡◌ {A = ℕ} 65 66 = cc in omega arith

-- a CA's certificate with all of them has what it has to have
pub ca_equipped : Equipped (extended below (ca ∷ authority_key_extension ∷ subject_key_extension ∷ signing ∷ []))
unfolding listed Some sequence boolean encoding length_bytes
ca_equipped =
    record {
      authority_key = λ h. inr (inl refl);
      subject_key = λ h. inr (inr (inl refl));
      usage = λ h. inr (inr (inr (inl refl)));
      signs = λ h. inl (refl, ([], refl));
    }

-- three extensions, of different numbers
apart : (a b c : ℕ) (p q r : Criticality) (u v w : List ℕ) → (b ≡ a → ⊥) → (c ≡ a → ⊥) → (c ≡ b → ⊥)
    → Distinct (one_of (id_ce a) p u ∷ one_of (id_ce b) q v ∷ one_of (id_ce c) r w ∷ [])
unfolding Distinct Every
apart a b c p q r u v w h i j = ((not_same b a h, (not_same c a i, tt)), ((not_same c b j, tt), (tt, tt)))

no_fourth : (n a b c : ℕ) → (a ≡ n → ⊥) → (b ≡ n → ⊥) → (c ≡ n → ⊥) → (id_ce a ≡ id_ce n) ⊎ ((id_ce b ≡ id_ce n) ⊎ ((id_ce c ≡ id_ce n) ⊎ ⊥)) → ⊥
no_fourth n a b c h i j = ⊎_elim (not_same a n h) (⊎_elim (not_same b n i) (⊎_elim (not_same c n j) (λ e. e)))

-- RFC 5280, 4.2.1.1, 4.2.1.2, 4.2.1.3: without one of the three
pub d59_authority : Breaks Equipped (extended below (ca ∷ subject_key_extension ∷ signing ∷ []))
unfolding listed Some
d59_authority =
    list_breaks _ _ (lit< tt) (and_then is_ca (and_then (unknown _ _ never_key) (and_then (usage refl) no_more)))
    (apart 19 14 15 _ _ _ _ _ _ (λ e. omega arith) (λ e. omega arith) (λ e. omega arith)) Equipped
    (λ c. no_fourth 35 19 14 15 (λ e. omega arith) (λ e. omega arith) (λ e. omega arith) (c.authority_key other_subject))

pub d59_subject : Breaks Equipped (extended below (ca ∷ authority_key_extension ∷ signing ∷ []))
unfolding listed Some sequence boolean encoding length_bytes
d59_subject =
    list_breaks _ _ (lit< tt) (and_then is_ca (and_then a_key_id (and_then (usage refl) no_more)))
    (apart 19 35 15 _ _ _ _ _ _ (λ e. omega arith) (λ e. omega arith) (λ e. omega arith)) Equipped
    (λ c. no_fourth 14 19 35 15 (λ e. omega arith) (λ e. omega arith) (λ e. omega arith) (c.subject_key (inl (refl, ([], refl)))))

pub d59_usage : Breaks Equipped (extended below (ca ∷ authority_key_extension ∷ subject_key_extension ∷ []))
unfolding listed Some sequence boolean encoding length_bytes
d59_usage =
    list_breaks _ _ (lit< tt) (and_then is_ca (and_then a_key_id (and_then (unknown _ _ never_key) no_more)))
    (apart 19 35 14 _ _ _ _ _ _ (λ e. omega arith) (λ e. omega arith) (λ e. omega arith)) Equipped
    (λ c. no_fourth 15 19 35 14 (λ e. omega arith) (λ e. omega arith) (λ e. omega arith) (c.usage (inl (refl, ([], refl)))))

-- RFC 5280, 4.2.1.3: keyCertSign, 03 02 02 04, in a certificate that is no CA's
pub d60_certificates : Breaks Equipped (extended below (authority_key_extension ∷ signing ∷ []))
unfolding listed Some Every Distinct encoding length_bytes bit HasBit
d60_certificates =
    list_breaks _ _ (lit< tt) (and_then a_key_id (and_then (usage refl) no_more)) ((not_same 15 35 (λ e. omega arith), tt), (tt, tt)) Equipped
    (λ c.
    ⊎_elim (λ h. not_same 35 19 (λ e. omega arith) h.0) (⊎_elim (λ h. not_same 15 19 (λ e. omega arith) h.0) (λ h. h))
    (c.signs (inr (inl (refl, (2, 4 ∷ [], refl, refl))))))
