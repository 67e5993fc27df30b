-- The small values of a certificate that are opened, and their encodings, both ways: BIT STRING without unused bits, and the version.
-- Assumes nothing.
use Prim.Native.Nat.{ℕ, ◌+◌, ◌-◌, ◌≤◌, ◌<◌}
use mathlib.Core.Path.{◌≡◌, refl, sym, ap, ◌∙◌}
use mathlib.Core.List.{List, [], ◌∷◌, ◌++◌}
use lib.ListN.{length, get_or}
use lib.Dec.{lit<, lit≤}
use native.Mathlib.Omega.{arith}
use Rattle.refusal.specs.Refusals.{unsupported_cert_version, bad_der}
use Rattle.der.specs.declared.Span.{Span}
use Rattle.der.specs.Places.{Bytes, part, LIMIT}
use Rattle.der.specs.X690.{encoding, length_bytes, Natural, value_of}
use Rattle.der.specs.Model.{expect_at, on_content}
use Rattle.bits.specs.Model.{bits_at}
use Rattle.values.specs.Model.{positive_in, nonnegative, small_in, read_small, number_is}
use Rattle.der.proofs.Laws.{tests}
use Rattle.der.proofs.Parts.{part_length}
use Rattle.values.proofs.SmallValues.{natural_one, small_is}
use Rattle.bits.proofs.BitStrings.{bits_is, is_bits}
use Rattle.extensions.proofs.Small.{part_first}
use Rattle.envelope.specs.Model.{version_at}
use Rattle.extensions.specs.Rfc5280.{explicit}
use Rattle.cert.specs.Rfc5280.{bit_string, integer, version}
use Rattle.extensions.specs.Layout.{place_of}
use Rattle.cert.specs.Layout.{bits_of}
use Rattle.envelope.proofs.Cases.{version_case}
use Rattle.envelope.proofs.Inversion.{version_inv}
use Rattle.extensions.proofs.Value.{encoded_length, span_is, here, Found, find, find_last, place_start}
use Rattle.std.specs.Prelude.{Ok}

-- ---- BIT STRING
octets_at : (s : List ℕ) (from : ℕ) (p : Span) (octets : List ℕ) → p.start ≤ p.end → p.end ≤ length s → part s from p.end ≡ encoding 3 (0 ∷ octets) → part s p.start p.end ≡ octets
    → (p ≡ bits_of from octets) × (from < p.start)
unfolding place_of
octets_at s from p octets h l e f =
    let n : length (encoding 3 (0 ∷ octets)) ≡ p.end - from = sym (ap length e) ∙ part_length s from p.end l in
    let m : length octets ≡ p.end - p.start = sym (ap length f) ∙ part_length s p.start p.end l in
    let k = encoded_length 3 (0 ∷ octets) in
    (span_is p _ _ (omega arith) (omega arith), omega arith)

-- what was read as bits: its octets, and the encoding
pub record BitsHere (s : List ℕ) (from to : ℕ) (p : Span) : Type 0 where
  pub within : to ≤ length s
  pub after : from < p.start
  pub ordered : p.start ≤ p.end
  pub inside : p.end ≤ to
  pub place : p ≡ bits_of from (part s p.start p.end)
  pub bytes : part s from p.end ≡ bit_string (part s p.start p.end)

pub bits_here : (s : List ℕ) → Bytes s → (from to : ℕ) (p : Span) → bits_at s from to ≡ Ok p → BitsHere s from to p
unfolding bit_string
bits_here s b from to p e =
    let i = bits_is s b from to p e in
    let t = i.1 in
    let l = t.inside in
    let o = octets_at s from p (part s p.start p.end) i.0 (omega (arith, t.within)) t.bytes refl in
    record {
      within = t.within;
      after = o.1;
      ordered = i.0;
      inside = t.inside;
      place = o.0;
      bytes = t.bytes;
    }

pub bits_short : (s : List ℕ) (from to : ℕ) (octets : List ℕ) → to - from < LIMIT → to ≤ length s → part s from to ≡ bit_string octets → length (0 ∷ octets) < LIMIT
unfolding bit_string
bits_short s from to octets small l e =
    let n : length (encoding 3 (0 ∷ octets)) ≡ to - from = sym (ap length e) ∙ part_length s from to l in
    omega (arith, encoded_length 3 (0 ∷ octets))

pub bits_found : (s : List ℕ) (from to : ℕ) (octets : List ℕ) → length (0 ∷ octets) < LIMIT → to ≤ length s → part s from to ≡ bit_string octets
    → (bits_at s from to ≡ Ok (bits_of from octets)) × ((bits_of from octets).end ≡ to)
unfolding bit_string
bits_found s from to octets short l e =
    let r = is_bits s from to to octets (record { within = l; inside = omega arith; bytes = e }) short in
    let p = r.0 in
    let o = octets_at s from p octets r.3 (omega (arith, r.2)) (rw r.2 e) r.4 in
    (r.1 ∙ ap Ok o.0, sym (ap (λ (q : Span). q.end) o.0) ∙ r.2)

-- ---- the version: an INTEGER that is 2
two_natural : Natural 2 (2 ∷ [])
unfolding value_of
two_natural =
    record {
      some = lit≤ tt;
      positive = lit< tt;
      value = refl;
      shortest = λ h _. omega arith;
    }

two_here : (s : List ℕ) → Bytes s → (from to next : ℕ) → read_small s from to ≡ number_is 2 next → part s from next ≡ encoding 2 (2 ∷ [])
two_here s b from to next e =
    let i = small_is s b from to 2 next e in
    i.1.2.bytes ∙ ap (encoding 2) (natural_one 2 i.1.0 (2 ∷ []) (lit< tt) i.1.1 two_natural)

two_case : (s : List ℕ) (from to : ℕ) (q : Span) → expect_at s from to 2 bad_der ≡ Ok q → q.end ≤ length s → q.start + 1 ≡ q.end → get_or s q.start 0 ≡ 2
    → read_small s from to ≡ number_is 2 q.end
unfolding read_small nonnegative positive_in small_in on_content
two_case s from to q e l h z =
    let i : q.start < q.end = omega arith in
    let j : q.end - q.start ≡ 1 = omega arith in
    search (tests, e, z, j)

two_found : (s : List ℕ) (from to : ℕ) → from ≤ to → to ≤ length s → part s from to ≡ integer (2 ∷ []) → read_small s from to ≡ number_is 2 to
unfolding integer
two_found s from to h l e =
    let f = find_last s from to 2 (2 ∷ []) refl (lit< tt) h l e in
    let q = place_of from (2 ∷ []) in
    let t = part_first s q.start q.end 2 [] f.0.ordered (omega (arith, f.0.inside)) f.0.content in
    let n = place_start from (2 ∷ []) in
    two_case s from to q (f.0.found bad_der) (omega (arith, f.0.inside)) n.1 t.1 ∙ ap (λ (x : ℕ). number_is 2 x) f.1

-- the version that was read
pub record VersionHere (s : List ℕ) (from to : ℕ) (p : Span) : Type 0 where
  pub after : from < p.start
  pub inside : p.end ≤ to
  pub ordered : p.start ≤ p.end
  pub place : p ≡ place_of from (integer (2 ∷ []))
  pub bytes : part s from p.end ≡ version

pub version_here : (s : List ℕ) → Bytes s → (from to : ℕ) (p : Span) → version_at s from to ≡ Ok p → VersionHere s from to p
unfolding version explicit integer
version_here s b from to p e =
    let i = version_inv s from to p e in
    let h = here s b from to 160 unsupported_cert_version p i.field in
    let c : part s p.start p.end ≡ encoding 2 (2 ∷ []) = sym (ap (λ (n : ℕ). part s p.start n) i.all) ∙ two_here s b p.start p.end i.next i.number in
    record {
      after = h.after;
      inside = h.inside;
      ordered = h.ordered;
      place = rw c at h.place;
      bytes = rw c at h.bytes;
    }

two_short : length (integer (2 ∷ [])) < LIMIT
unfolding integer encoding length_bytes
two_short = lit< tt

version_of : (s : List ℕ) (from to : ℕ) (rest : List ℕ) → to ≤ length s → Found s from to 160 (integer (2 ∷ [])) rest → version_at s from to ≡ Ok (place_of from (integer (2 ∷ [])))
version_of s from to rest l f =
    let p = place_of from (integer (2 ∷ [])) in
    let g = two_found s p.start p.end f.ordered (omega (arith, f.inside)) f.content in
    version_case s from to (f.found unsupported_cert_version) g refl

pub version_found : (s : List ℕ) (from to : ℕ) (rest : List ℕ) → from ≤ to → to ≤ length s → part s from to ≡ version ++ rest
    → (version_at s from to ≡ Ok (place_of from (integer (2 ∷ [])))) × Found s from to 160 (integer (2 ∷ [])) rest
unfolding version explicit
version_found s from to rest h l e =
    let f = find s from to 160 (integer (2 ∷ [])) rest refl two_short h l e in
    (version_of s from to rest l f, f)
