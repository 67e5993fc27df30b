-- SOUND: what is read is the encoding of the skeleton that the places cut out. Assumes nothing.
use Prim.Native.Nat.{ℕ, ◌<◌}
use mathlib.Core.Path.{◌≡◌, refl, sym, ap, ◌∙◌}
use mathlib.Core.List.{List, [], ◌∷◌, ◌++◌}
use mathlib.Core.Bool.{Bool}
use lib.ListN.{length}
use native.Mathlib.Omega.{arith}
use Rattle.refusal.specs.Refusals.{bad_der, trailing_signed_data}
use Rattle.der.specs.declared.Span.{Span}
use Rattle.der.specs.Places.{Bytes, part, LIMIT}
use Rattle.der.specs.X690.{encoding}
use Rattle.der.proofs.Parts.{part_length, part_split, part_whole}
use Rattle.parts.proofs.Equal.{same_yes}
use Rattle.extensions.proofs.Sound.{ExtensionsHere, extensions_here}
use Rattle.cert.specs.declared.Certificate.{Certificate}
use Rattle.envelope.specs.declared.Envelope.{Envelope}
use Rattle.envelope.specs.declared.Beginning.{Beginning}
use Rattle.cert.specs.declared.Fields.{Fields}
use Rattle.extensions.specs.declared.Known.{Known}
use Rattle.extensions.specs.Model.{span}
use Rattle.cert.specs.Model.{read_certificate}
use Rattle.extensions.specs.Rfc5280.{sequence}
use Rattle.cert.specs.Accepted.{Readable}
use Rattle.cert.specs.Rfc5280.{Skeleton, integer, bit_string, version, tbs_content, tbs_certificate, certificate_content, certificate}
use Rattle.extensions.specs.Layout.{place_of, slots, known_at}
use Rattle.cert.specs.Layout.{bits_of, places}
use Rattle.envelope.proofs.Inversion.{OpenedAs, BegunAt}
use Rattle.cert.proofs.Inversion.{FieldsAt, read_inv}
use Rattle.extensions.proofs.Value.{here, here_split}
use Rattle.cert.proofs.Small.{bits_here, version_here}
use Rattle.extensions.proofs.Slots.{Within, KnownWithin}
use Rattle.std.specs.Prelude.{Ok}

-- ---- the outer SEQUENCE
pub record EnvelopeHere (s : List ℕ) (v : Envelope) (tbs algorithm octets : List ℕ) : Type 0 where
  pub tbs_is : tbs ≡ part s v.content.start v.content.end
  pub algorithm_is : algorithm ≡ part s v.algorithm.start v.algorithm.end
  pub bytes : s ≡ sequence (sequence tbs ++ (sequence algorithm ++ bit_string octets))
  pub short : length (sequence tbs ++ (sequence algorithm ++ bit_string octets)) < LIMIT
  pub signed : v.signed ≡ span (place_of 0 (sequence tbs ++ (sequence algorithm ++ bit_string octets))).start v.content.end
  pub content : v.content ≡ place_of (place_of 0 (sequence tbs ++ (sequence algorithm ++ bit_string octets))).start tbs
  pub algorithm_at : v.algorithm ≡ place_of v.content.end algorithm
  pub signature : v.signature ≡ bits_of v.algorithm.end octets
  pub octets_is : octets ≡ part s v.signature.start v.signature.end
  pub signed_is : sequence tbs ≡ part s v.signed.start v.signed.end
  pub signed_within : Within s v.signed.start v.signed.end
  pub algorithm_within : Within s v.algorithm.start v.algorithm.end
  pub signature_within : Within s v.signature.start v.signature.end

envelope_here : (s : List ℕ) → Bytes s → (v : Envelope) → OpenedAs s v
    → EnvelopeHere s v (part s v.content.start v.content.end) (part s v.algorithm.start v.algorithm.end) (part s v.signature.start v.signature.end)
unfolding sequence
envelope_here s b v o =
    let w = o.whole in
    let h = here s b 0 (length s) 48 trailing_signed_data w o.outer in
    let t = here s b w.start w.end 48 bad_der v.content o.inner.content in
    let a = here s b v.content.end w.end 48 bad_der v.algorithm o.inner.algorithm in
    let g = bits_here s b v.algorithm.end w.end v.signature o.inner.signature in
    let last : part s v.algorithm.end w.end ≡ bit_string (part s v.signature.start v.signature.end) = sym (ap (λ (n : ℕ). part s v.algorithm.end n) o.inner.all) ∙ g.bytes in
    let content : part s w.start w.end ≡ encoding 48 (part s v.content.start v.content.end) ++ (encoding 48 (part s v.algorithm.start v.algorithm.end) ++ bit_string (part s v.signature.start v.signature.end)) =
    here_split s w.start w.end 48 v.content t ∙ rw (here_split s v.content.end w.end 48 v.algorithm a, last) in
    let place = h.place ∙ ap (place_of 0) content in
    let i = t.inside in
    record {
      tbs_is = refl;
      algorithm_is = refl;
      bytes = sym (part_whole s) ∙ sym (ap (λ (n : ℕ). part s 0 n) o.all) ∙ h.bytes ∙ ap (encoding 48) content;
      short = rw (← content, part_length s w.start w.end (omega (arith, h.inside))) h.small;
      signed = o.inner.signed ∙ ap (λ (q : Span). span q.start v.content.end) place;
      content = t.place ∙ ap (λ (q : Span). place_of q.start (part s v.content.start v.content.end)) place;
      algorithm_at = a.place;
      signature = g.place;
      octets_is = refl;
      signed_is = sym (ap (λ (q : Span). part s q.start q.end) o.inner.signed ∙ t.bytes);
      signed_within = rw o.inner.signed (record { ordered = omega (arith, t.after, t.ordered); inside = omega (arith, h.inside) });
      algorithm_within = record { ordered = a.ordered; inside = omega (arith, a.inside, h.inside) };
      signature_within = record { ordered = g.ordered; inside = omega (arith, g.inside, h.inside) };
    }

-- ---- version, serial number, algorithm
pub record BeginningHere (s : List ℕ) (from to : ℕ) (b : Beginning) (serial algorithm : List ℕ) : Type 0 where
  pub bytes : part s from to ≡ version ++ (integer serial ++ (sequence algorithm ++ part s b.algorithm.end to))
  pub serial_at : b.serial ≡ place_of (place_of from (integer (2 ∷ []))).end serial
  pub algorithm_at : b.algorithm ≡ place_of b.serial.end algorithm
  pub serial_is : serial ≡ part s b.serial.start b.serial.end
  pub algorithm_is : algorithm ≡ part s b.algorithm.start b.algorithm.end
  pub serial_within : Within s b.serial.start b.serial.end
  pub algorithm_within : Within s b.algorithm.start b.algorithm.end

beginning_here : (s : List ℕ) → Bytes s → (from to : ℕ) (outer : Span) (b : Beginning) → BegunAt s from to outer b
    → BeginningHere s from to b (part s b.serial.start b.serial.end) (part s outer.start outer.end)
unfolding integer sequence
beginning_here s w from to outer b o =
    let v = version_here s w from to o.place o.version in
    let n = here s w o.place.end to 2 bad_der b.serial o.serial in
    let a = here s w b.serial.end to 48 bad_der b.algorithm o.algorithm in
    let e = same_yes s b.algorithm.start b.algorithm.end s outer.start outer.end o.same in
    record {
      bytes = part_split s from o.place.end to (omega (arith, v.after, v.ordered)) v.inside
          ∙ rw (v.bytes, here_split s o.place.end to 2 b.serial n, here_split s b.serial.end to 48 b.algorithm a, e.4);
      serial_at = n.place ∙ ap (λ (q : Span). place_of q.end (part s b.serial.start b.serial.end)) v.place;
      algorithm_at = a.place ∙ ap (place_of b.serial.end) e.4;
      serial_is = refl;
      algorithm_is = sym e.4;
      serial_within = record { ordered = n.ordered; inside = omega (arith, n.inside, n.within) };
      algorithm_within = record { ordered = a.ordered; inside = omega (arith, a.inside, a.within) };
    }

-- ---- issuer, validity, subject, key
pub record FieldsHere (s : List ℕ) (from to : ℕ) (f : Fields) (issuer validity subject key : List ℕ) : Type 0 where
  pub bytes : part s from to ≡ sequence issuer ++ (sequence validity ++ (sequence subject ++ (sequence key ++ part s f.key.end to)))
  pub issuer_at : f.issuer ≡ place_of from issuer
  pub validity_at : f.validity ≡ place_of f.issuer.end validity
  pub subject_at : f.subject ≡ place_of f.validity.end subject
  pub key_place : f.key ≡ place_of f.subject.end key
  pub issuer_is : issuer ≡ part s f.issuer.start f.issuer.end
  pub validity_is : validity ≡ part s f.validity.start f.validity.end
  pub subject_is : subject ≡ part s f.subject.start f.subject.end
  pub key_is : key ≡ part s f.key.start f.key.end
  pub issuer_within : Within s f.issuer.start f.issuer.end
  pub validity_within : Within s f.validity.start f.validity.end
  pub subject_within : Within s f.subject.start f.subject.end
  pub key_within : Within s f.key.start f.key.end

fields_here : (s : List ℕ) → Bytes s → (from to : ℕ) (f : Fields) → FieldsAt s from to f
    → FieldsHere s from to f (part s f.issuer.start f.issuer.end) (part s f.validity.start f.validity.end) (part s f.subject.start f.subject.end) (part s f.key.start f.key.end)
unfolding sequence
fields_here s b from to f o =
    let i = here s b from to 48 bad_der f.issuer o.issuer in
    let v = here s b f.issuer.end to 48 bad_der f.validity o.validity in
    let u = here s b f.validity.end to 48 bad_der f.subject o.subject in
    let k = here s b f.subject.end to 48 bad_der f.key o.key in
    record {
      bytes = here_split s from to 48 f.issuer i
          ∙ rw (here_split s f.issuer.end to 48 f.validity v, here_split s f.validity.end to 48 f.subject u, here_split s f.subject.end to 48 f.key k);
      issuer_at = i.place;
      validity_at = v.place;
      subject_at = u.place;
      key_place = k.place;
      issuer_is = refl;
      validity_is = refl;
      subject_is = refl;
      key_is = refl;
      issuer_within = record { ordered = i.ordered; inside = omega (arith, i.inside, i.within) };
      validity_within = record { ordered = v.ordered; inside = omega (arith, v.inside, v.within) };
      subject_within = record { ordered = u.ordered; inside = omega (arith, u.inside, u.within) };
      key_within = record { ordered = k.ordered; inside = omega (arith, k.inside, k.within) };
    }

-- ---- the whole
-- the places of a skeleton, each from the one before it
pub placed : (k : Skeleton) (v : Envelope) (b : Beginning) (f : Fields) (known : Known)
    → v.signed ≡ span (place_of 0 (certificate_content k)).start v.content.end → v.content ≡ place_of (place_of 0 (certificate_content k)).start (tbs_content k)
    → v.algorithm ≡ place_of v.content.end k.algorithm
    → v.signature ≡ bits_of v.algorithm.end k.signature
    → b.serial ≡ place_of (place_of v.content.start (integer (2 ∷ []))).end k.serial → b.algorithm ≡ place_of b.serial.end k.algorithm
    → f.issuer ≡ place_of b.algorithm.end k.issuer → f.validity ≡ place_of f.issuer.end k.validity → f.subject ≡ place_of f.validity.end k.subject
    → f.key ≡ place_of f.subject.end k.key → known ≡ known_at f.key.end k.extensions
    → ◌≡◌ {A = Certificate}
    (record {
      signed = v.signed;
      algorithm = v.algorithm;
      signature = v.signature;
      serial = b.serial;
      inner_algorithm = b.algorithm;
      issuer = f.issuer;
      validity = f.validity;
      subject = f.subject;
      key = f.key;
      known = known;
    })
    (places k)
unfolding places
placed k v b f known signed content algorithm signature serial inner issuer validity subject key slots =
    rw (slots, key, subject, validity, issuer, inner, serial, signed, signature, algorithm, content)

-- the skeleton is what the places cut out of the bytes
pub record Cut (s : List ℕ) (c : Certificate) (k : Skeleton) : Type 0 where
  pub signed : part s c.signed.start c.signed.end ≡ tbs_certificate k
  pub algorithm : part s c.algorithm.start c.algorithm.end ≡ k.algorithm
  pub signature : part s c.signature.start c.signature.end ≡ k.signature
  pub serial : part s c.serial.start c.serial.end ≡ k.serial
  pub inner_algorithm : part s c.inner_algorithm.start c.inner_algorithm.end ≡ k.algorithm
  pub issuer : part s c.issuer.start c.issuer.end ≡ k.issuer
  pub validity : part s c.validity.start c.validity.end ≡ k.validity
  pub subject : part s c.subject.start c.subject.end ≡ k.subject
  pub key : part s c.key.start c.key.end ≡ k.key

-- every place is in order and in the bytes
pub record Inside (s : List ℕ) (c : Certificate) : Type 0 where
  pub signed : Within s c.signed.start c.signed.end
  pub algorithm : Within s c.algorithm.start c.algorithm.end
  pub signature : Within s c.signature.start c.signature.end
  pub serial : Within s c.serial.start c.serial.end
  pub inner_algorithm : Within s c.inner_algorithm.start c.inner_algorithm.end
  pub issuer : Within s c.issuer.start c.issuer.end
  pub validity : Within s c.validity.start c.validity.end
  pub subject : Within s c.subject.start c.subject.end
  pub key : Within s c.key.start c.key.end
  pub known : KnownWithin s c.known

pub record Skeletal (s : List ℕ) (strict : Bool) (c : Certificate) : Type 0 where
  pub k : Skeleton
  pub bytes : s ≡ certificate k
  pub layout : c ≡ places k
  pub cut : Cut s c k
  pub inside : Inside s c
  pub rules : Readable strict k

module _ (s : List ℕ) (strict : Bool) (v : Envelope) (b : Beginning) (f : Fields) (known : Known) (tbs serial algorithm issuer validity subject key octets : List ℕ)
    (o : EnvelopeHere s v tbs algorithm octets)
    (p : BeginningHere s v.content.start v.content.end b serial algorithm)
    (q : FieldsHere s b.algorithm.end v.content.end f issuer validity subject key)
    (e : ExtensionsHere s f.key.end v.content.end strict known) where
  abbrev skeleton : Skeleton
  skeleton =
      record {
        serial = serial;
        algorithm = algorithm;
        issuer = issuer;
        validity = validity;
        subject = subject;
        key = key;
        extensions = e.es;
        signature = octets;
      }

  tbs_is : tbs ≡ tbs_content skeleton
  unfolding tbs_content
  tbs_is = o.tbs_is ∙ p.bytes ∙ rw (q.bytes, e.bytes)

  content_is : sequence tbs ++ (sequence algorithm ++ bit_string octets) ≡ certificate_content skeleton
  unfolding certificate_content tbs_certificate
  content_is = ap (λ (x : List ℕ). sequence x ++ (sequence algorithm ++ bit_string octets)) tbs_is

  skeletal : Skeletal s strict (record {
    signed = v.signed;
    algorithm = v.algorithm;
    signature = v.signature;
    serial = b.serial;
    inner_algorithm = b.algorithm;
    issuer = f.issuer;
    validity = f.validity;
    subject = f.subject;
    key = f.key;
    known = known;
  })
  unfolding certificate tbs_certificate
  skeletal =
      record {
        k = skeleton;
        bytes = o.bytes ∙ ap sequence content_is;
        layout = placed skeleton v b f known
            (o.signed ∙ ap (λ (x : List ℕ). span (place_of 0 x).start v.content.end) content_is)
            (o.content ∙ ap (λ (x : List ℕ). place_of (place_of 0 x).start tbs) content_is ∙ ap (place_of (place_of 0 (certificate_content skeleton)).start) tbs_is)
            o.algorithm_at
            o.signature
            p.serial_at
            p.algorithm_at
            q.issuer_at
            q.validity_at
            q.subject_at
            q.key_place
            e.known_is;
        cut = record {
          signed = sym o.signed_is ∙ ap sequence tbs_is;
          algorithm = sym o.algorithm_is;
          signature = sym o.octets_is;
          serial = sym p.serial_is;
          inner_algorithm = sym p.algorithm_is;
          issuer = sym q.issuer_is;
          validity = sym q.validity_is;
          subject = sym q.subject_is;
          key = sym q.key_is;
        };
        inside = record {
          signed = o.signed_within;
          algorithm = o.algorithm_within;
          signature = o.signature_within;
          serial = p.serial_within;
          inner_algorithm = p.algorithm_within;
          issuer = q.issuer_within;
          validity = q.validity_within;
          subject = q.subject_within;
          key = q.key_within;
          known = e.sits;
        };
        rules = record { short = omega (arith, o.short, ap length content_is); each = e.each; once = e.once };
      }

-- SOUND: the bytes are the encoding of a skeleton within the rules, and the places are where its fields lie
pub sound : (s : List ℕ) → Bytes s → (strict : Bool) (c : Certificate) → read_certificate s strict ≡ Ok c → Skeletal s strict c
sound s w strict c h =
    let r = read_inv s strict c h in
    rw r.is
    (skeletal s strict r.v r.b r.f r.known _ _ _ _ _ _ _ _
    (envelope_here s w r.v r.opening)
    (beginning_here s w _ _ _ r.b r.beginning)
    (fields_here s w _ _ r.f r.fields)
    (extensions_here s w _ _ strict r.known r.extensions))
