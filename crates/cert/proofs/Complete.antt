-- COMPLETE: the encoding of every skeleton within the rules is read, with the places of its layout. Assumes nothing.
use Prim.Native.Nat.{ℕ, ◌-◌, ◌≤◌, ◌<◌}
use mathlib.Core.Path.{◌≡◌, refl, sym, ap, ◌∙◌}
use mathlib.Core.List.{List, [], ◌∷◌, ◌++◌}
use mathlib.Core.Bool.{Bool}
use lib.ListN.{length}
use native.Mathlib.Omega.{arith}
use Rattle.refusal.specs.Refusals.{bad_der, trailing_signed_data}
use Rattle.der.specs.declared.Span.{Span}
use Rattle.der.specs.Places.{part, LIMIT}
use Rattle.der.specs.X690.{encoding}
use Rattle.der.proofs.Parts.{part_length, part_whole}
use Rattle.parts.proofs.Equal.{same_equal}
use Rattle.extensions.proofs.Complete.{extensions_found}
use Rattle.envelope.specs.declared.Envelope.{Envelope}
use Rattle.envelope.specs.declared.Beginning.{Beginning}
use Rattle.cert.specs.declared.Fields.{Fields}
use Rattle.extensions.specs.Model.{span}
use Rattle.envelope.specs.Model.{opened, begun}
use Rattle.cert.specs.Model.{fields_at, read_certificate}
use Rattle.extensions.specs.Rfc5280.{sequence, extensions}
use Rattle.cert.specs.Accepted.{Readable}
use Rattle.cert.specs.Rfc5280.{Skeleton, integer, bit_string, version, tbs_content, tbs_certificate, certificate_content, certificate}
use Rattle.extensions.specs.Layout.{place_of, known_at}
use Rattle.cert.specs.Layout.{bits_of, places}
use Rattle.envelope.proofs.Cases.{parts_case, opened_case, begun_case}
use Rattle.cert.proofs.Cases.{fields_case, read_case}
use Rattle.extensions.proofs.Value.{find_last, find_in}
use Rattle.cert.proofs.Small.{bits_short, bits_found, version_found}
use Rattle.cert.proofs.Sound.{placed}
use Rattle.std.specs.Prelude.{Ok}

-- ---- issuer, validity, subject, key
pub fields_found : (s : List ℕ) (from to : ℕ) (issuer validity subject key rest : List ℕ) → from ≤ to → to ≤ length s → to - from < LIMIT
    → part s from to ≡ sequence issuer ++ (sequence validity ++ (sequence subject ++ (sequence key ++ rest)))
    → (f : Fields) × (fields_at s from to ≡ Ok f) × (f.issuer ≡ place_of from issuer) × (f.validity ≡ place_of f.issuer.end validity) × (f.subject ≡ place_of f.validity.end subject)
    × (f.key ≡ place_of f.subject.end key) × (from ≤ f.key.end) × (f.key.end ≤ to) × (part s f.key.end to ≡ rest)
unfolding sequence
fields_found s from to issuer validity subject key rest h l small e =
    let i = find_in s from to 48 issuer _ refl small h l e in
    let p = place_of from issuer in
    let ii = i.inside in
    let ia = i.after in
    let io = i.ordered in
    let v = find_in s p.end to 48 validity _ refl (omega arith) i.inside l i.left in
    let q = place_of p.end validity in
    let vi = v.inside in
    let va = v.after in
    let vo = v.ordered in
    let u = find_in s q.end to 48 subject _ refl (omega arith) v.inside l v.left in
    let r = place_of q.end subject in
    let ui = u.inside in
    let ua = u.after in
    let uo = u.ordered in
    let k = find_in s r.end to 48 key rest refl (omega arith) u.inside l u.left in (
      record { issuer = p; validity = q; subject = r; key = place_of r.end key },
      fields_case s from to (i.found bad_der) (v.found bad_der) (u.found bad_der) (k.found bad_der),
      refl,
      refl,
      refl,
      refl,
      omega (arith, k.after, k.ordered),
      k.inside,
      k.left,
    )

-- ---- version, serial number, algorithm
pub begun_found : (s : List ℕ) (from to : ℕ) (outer : Span) (serial algorithm rest : List ℕ) → from ≤ to → to ≤ length s → to - from < LIMIT
    → outer.start ≤ outer.end → outer.end ≤ length s → part s outer.start outer.end ≡ algorithm
    → part s from to ≡ version ++ (integer serial ++ (sequence algorithm ++ rest))
    → (b : Beginning) × (begun s from to outer ≡ Ok b) × (b.serial ≡ place_of (place_of from (integer (2 ∷ []))).end serial) × (b.algorithm ≡ place_of b.serial.end algorithm)
    × (from ≤ b.algorithm.end) × (b.algorithm.end ≤ to) × (part s b.algorithm.end to ≡ rest)
unfolding integer sequence
begun_found s from to outer serial algorithm rest h l small oo oi oa e =
    let v = version_found s from to _ h l e in
    let p = place_of from (encoding 2 (2 ∷ [])) in
    let vi = v.1.inside in
    let va = v.1.after in
    let vo = v.1.ordered in
    let n = find_in s p.end to 2 serial _ refl (omega arith) v.1.inside l v.1.left in
    let q = place_of p.end serial in
    let ni = n.inside in
    let na = n.after in
    let no' = n.ordered in
    let a = find_in s q.end to 48 algorithm rest refl (omega arith) n.inside l n.left in
    let r = place_of q.end algorithm in
    let ai = a.inside in
    let same = same_equal s r.start r.end s outer.start outer.end a.ordered (omega arith) oo oi (a.content ∙ sym oa) in (
      record { serial = q; algorithm = r },
      begun_case s from to outer v.0 (n.found bad_der) (a.found bad_der) same,
      refl,
      refl,
      omega (arith, a.after, a.ordered),
      a.inside,
      a.left,
    )

-- ---- the outer SEQUENCE
abbrev outside : List ℕ → List ℕ → List ℕ → List ℕ
outside tbs algorithm octets = sequence tbs ++ (sequence algorithm ++ bit_string octets)

record EnvelopeFound (s tbs algorithm octets : List ℕ) : Type 0 where
  pub v : Envelope
  pub found : opened s ≡ Ok v
  pub signed : v.signed ≡ span (place_of 0 (outside tbs algorithm octets)).start v.content.end
  pub content_at : v.content ≡ place_of (place_of 0 (outside tbs algorithm octets)).start tbs
  pub algorithm_at : v.algorithm ≡ place_of v.content.end algorithm
  pub signature_at : v.signature ≡ bits_of v.algorithm.end octets
  pub content : part s v.content.start v.content.end ≡ tbs
  pub ordered : v.content.start ≤ v.content.end
  pub inside : v.content.end ≤ length s
  pub small : v.content.end - v.content.start < LIMIT
  pub algorithm_is : part s v.algorithm.start v.algorithm.end ≡ algorithm
  pub algorithm_ordered : v.algorithm.start ≤ v.algorithm.end
  pub algorithm_inside : v.algorithm.end ≤ length s

envelope_found : (s tbs algorithm octets : List ℕ) → s ≡ sequence (outside tbs algorithm octets) → length (outside tbs algorithm octets) < LIMIT → EnvelopeFound s tbs algorithm octets
unfolding sequence
envelope_found s tbs algorithm octets e short =
    let n = length s in
    let f = find_last s 0 n 48 (outside tbs algorithm octets) refl short (omega arith) (omega arith) (part_whole s ∙ e) in
    let w = place_of 0 (outside tbs algorithm octets) in
    let fi = f.0.inside in
    let fo = f.0.ordered in
    let size : w.end - w.start ≡ length (outside tbs algorithm octets) = sym (part_length s w.start w.end f.0.inside) ∙ ap length f.0.content in
    let t = find_in s w.start w.end 48 tbs (sequence algorithm ++ bit_string octets) refl (omega arith) f.0.ordered f.0.inside f.0.content in
    let p = place_of w.start tbs in
    let ti = t.inside in
    let ta = t.after in
    let to = t.ordered in
    let a = find_in s p.end w.end 48 algorithm (bit_string octets) refl (omega arith) t.inside f.0.inside t.left in
    let q = place_of p.end algorithm in
    let ai = a.inside in
    let aa = a.after in
    let ao = a.ordered in
    let g = bits_found s q.end w.end octets (bits_short s q.end w.end octets (omega arith) f.0.inside a.left) f.0.inside a.left in
    record {
      v = record {
        signed = span w.start p.end;
        content = p;
        algorithm = q;
        signature = bits_of q.end octets;
      };
      found = opened_case s (f.0.found trailing_signed_data) (parts_case s w.start w.end (t.found bad_der) (a.found bad_der) g.0 g.1) f.1;
      signed = refl;
      content_at = refl;
      algorithm_at = refl;
      signature_at = refl;
      content = t.content;
      ordered = t.ordered;
      inside = omega arith;
      small = omega arith;
      algorithm_is = a.content;
      algorithm_ordered = a.ordered;
      algorithm_inside = omega arith;
    }

-- ---- the whole
tbs_is : (k : Skeleton) → tbs_content k ≡ version ++ (integer k.serial ++ (sequence k.algorithm ++ (sequence k.issuer ++ (sequence k.validity ++ (sequence k.subject ++ (sequence k.key ++ extensions k.extensions))))))
unfolding tbs_content
tbs_is k = refl

complete_at : (s : List ℕ) (strict : Bool) (k : Skeleton) → s ≡ certificate k → Readable strict k → read_certificate s strict ≡ Ok (places k)
unfolding certificate certificate_content tbs_certificate
complete_at s strict k e r =
    let o = envelope_found s (tbs_content k) k.algorithm k.signature e r.short in
    let c = o.v.content in
    let p = begun_found s c.start c.end o.v.algorithm k.serial k.algorithm _ o.ordered o.inside o.small o.algorithm_ordered o.algorithm_inside o.algorithm_is (o.content ∙ tbs_is k) in
    let b = p.0 in
    let q = fields_found s b.algorithm.end c.end k.issuer k.validity k.subject k.key (extensions k.extensions) p.5 o.inside (omega (arith, p.4, o.small)) p.6 in
    let f = q.0 in
    let x = extensions_found s f.key.end c.end strict k.extensions q.7 o.inside (omega (arith, q.6, p.4, o.small)) q.8 r.each r.once in
    read_case s strict o.found p.1 q.1 x
    ∙ ap Ok (placed k o.v b f (known_at f.key.end k.extensions) o.signed o.content_at o.algorithm_at o.signature_at p.2 p.3 q.2 q.3 q.4 q.5 refl)

pub complete : (strict : Bool) (k : Skeleton) → Readable strict k → read_certificate (certificate k) strict ≡ Ok (places k)
complete strict k r = complete_at (certificate k) strict k refl r
