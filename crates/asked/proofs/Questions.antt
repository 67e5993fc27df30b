-- A question's places are those of the certificate's skeleton, and no answer comes to yes where the key cannot be read. Assumes nothing.
use Prim.Native.Nat.{ℕ, suc, ◌<◌}
use mathlib.Core.Path.{◌≡◌, refl, sym, ap, ◌∙◌}
use mathlib.Core.List.{List, []}
use mathlib.Core.Bool.{true, cond}
use mathlib.Core.Logic.{⊎_elim}
use lib.ListN.{length, get_or}
use lib.Dec.{lit<, ltb, eqb}
use native.Mathlib.Omega.{arith}
use borrow.Author.Tests.{ltb-true, ltb-false, lt-ltb, le-ltb, eqb-true}
use Rattle.refusal.specs.Refusals.{bad_der, unsupported_signature_algorithm}
use Rattle.der.specs.declared.Span.{Span}
use Rattle.der.specs.Places.{Bytes, part, LIMIT}
use Rattle.der.specs.Model.{expect_at}
use Rattle.bits.specs.Model.{bits_at}
use Rattle.der.proofs.Invert.{either}
use Rattle.cert.specs.Model.{read_certificate, key_parts, key_is, Reading}
use Rattle.der.proofs.Parts.{part_whole}
use Rattle.cert.proofs.Sound.{sound}
use Rattle.cert.specs.Rfc5280.{key_content}
use Rattle.extensions.specs.Layout.{place_of}
use Rattle.cert.specs.Layout.{bits_of}
use Rattle.cert.proofs.Laws.{read_inside}
use Rattle.cert.proofs.PublicKeys.{key_sound, key_complete}
use Rattle.extensions.proofs.Slots.{Within}
use Rattle.extensions.proofs.Refusals.{Fair, by_test, by_content, expect_fair}
use Rattle.cert.proofs.Refusals.{bits_fair, ReadingFair, reading_is, reading_not, read_fair}
use Rattle.rows.specs.declared.Outline.{Outline}
use Rattle.rows.specs.Model.{outline_of, outlined, on_outline}
use Rattle.lent.specs.Lent.{certificate_of}
use Rattle.checks.specs.Conditions.{Contents}
use Rattle.asked.specs.Questions.{Signed, KeyOf, of_anchor, from_certificate, Opens}
use Rattle.asked.specs.Model.{key_of, question_of, reply_for, reply_of, key_in, question_in, reply_in, question_is}
use Rattle.checks.proofs.Contents.{at, contents_of}
use Rattle.checks.proofs.Skeletons.{reads_certificate, certificate_reads}
use Rattle.rows.proofs.Laws.{on_outline_lem}
use Rattle.std.specs.Prelude.{Ok, Err, Result}
use Rattle.cert.specs.declared.key.Key.{Key}
use Rattle.asked.specs.declared.Question.{Question}

same_question : {p q r a b c : Span} {k l : Result Key ℕ} → question_is p q r k ≡ question_is a b c l → (p ≡ a) × (q ≡ b) × (r ≡ c) × (k ≡ l)
same_question {p} {q} {r} {a} {b} {c} {k} {l} e =
    let one : Question = record { signed = p; algorithm = q; signature = r; key = k } in
    let other : Question = record { signed = a; algorithm = b; signature = c; key = l } in
    let z : one ≡ other = cc in
    (ap (λ (x : Question). x.signed) z, ap (λ (x : Question). x.algorithm) z, ap (λ (x : Question). x.signature) z, ap (λ (x : Question). x.key) z)

-- ---- the question
module _ (issuers : List (List ℕ)) (end : List ℕ) (keys : List (List ℕ)) (anchors key n : ℕ) where
  pub question_sound : Bytes (certificate_of issuers end anchors n) → (signed algorithm signature : Span) (parts : Result Key ℕ) → question_of issuers end keys anchors key n ≡ question_is signed algorithm signature parts
      → Signed (certificate_of issuers end anchors n) signed algorithm signature × (parts ≡ key_of issuers end keys anchors key)
  unfolding question_in
  question_sound b signed algorithm signature parts e =
      let s = certificate_of issuers end anchors n in
      let p = on_outline_lem (read_certificate s true) Err _ e (λ x q. let z : ◌≡◌ {A = ℕ} 0 1 = cc in omega arith) in
      let c = p.0 in
      let z = sound s b true c p.1 in
      let y = same_question p.2 in (
        record {
          k = z.k;
          bytes = z.bytes;
          rules = z.rules;
          signed_is = sym (ap (at s) y.0) ∙ z.cut.signed;
          algorithm_is = sym (ap (at s) y.1) ∙ z.cut.algorithm;
          signature_is = sym (ap (at s) y.2) ∙ z.cut.signature;
        },
        sym y.3,
      )

-- ---- the reply
pub data KeyFair : Result Key ℕ → Type 0 where
  key_read : (k : Key) → KeyFair (Ok k)
  key_not : {e : ℕ} → Fair e → KeyFair (Err e)

parts_fair : (s : List ℕ) (from to : ℕ) → KeyFair (key_parts s from to)
unfolding key_parts
parts_fair s from to =
    by_content KeyFair (expect_at s from to 48 bad_der) Err _ (expect_fair s from to 48 _ (lit< tt, lit< tt)) (λ e h. key_not h) (λ a b.
    by_content KeyFair (bits_at s b to) Err _ (bits_fair s b to) (λ e h. key_not h) (λ c d.
    by_test KeyFair (eqb d to) (key_read _) (key_not (lit< tt, lit< tt))))

on_outline_fair : (g : Reading) (k : Outline → Result Key ℕ) → ReadingFair g → ((o : Outline) → KeyFair (k o)) → KeyFair (on_outline (outlined g) Err k)
unfolding on_outline outlined
on_outline_fair (Ok c) k (reading_is d) i = i (outline_of c)
on_outline_fair (Err e) k (reading_not f) i = key_not f

module _ (issuers : List (List ℕ)) (end : List ℕ) (keys : List (List ℕ)) (anchors n : ℕ) where
  pub key_fair : KeyFair (key_of issuers end keys anchors n)
  unfolding key_in
  key_fair =
      let s = certificate_of issuers end anchors n in
      by_test KeyFair (ltb n anchors)
      (by_test KeyFair (ltb n (length keys)) (parts_fair (get_or keys n []) 0 (length (get_or keys n []))) (key_not (lit< tt, lit< tt)))
      (on_outline_fair (read_certificate s true) _ (read_fair s true) (λ c. parts_fair s c.key.start c.key.end))

  -- what holds the key: an anchor's key itself, or the certificate that it is of
  abbrev pub holder : List ℕ
  holder = cond (ltb n anchors) (get_or keys n []) (certificate_of issuers end anchors n)

  pub record KeyParted (p q : Span) : Type 0 where
    pub key : List ℕ
    pub is : KeyOf issuers end keys anchors n key
    pub content : key ≡ key_content (part holder p.start p.end) (part holder q.start q.end)
    pub algorithm_short : length (part holder p.start p.end) < LIMIT
    pub bits_short : suc (length (part holder q.start q.end)) < LIMIT
    pub algorithm_within : Within holder p.start p.end
    pub bits_within : Within holder q.start q.end

  pub key_parted : Bytes (get_or keys n []) → Bytes (certificate_of issuers end anchors n) → (p q : Span) → key_of issuers end keys anchors n ≡ key_is p q → KeyParted p q
  unfolding key_in
  key_parted bk bc p q e =
      let s = certificate_of issuers end anchors n in
      let k = get_or keys n [] in
      ⊎_elim
      (λ w.
      ⊎_elim
      (λ y.
      let h = key_sound k bk 0 (length k) p q y.1 in
      record {
        key = k;
        is = of_anchor (ltb-true _ _ w.0) (ltb-true _ _ y.0) refl;
        content = rw w.0 (sym (part_whole k) ∙ h.bytes);
        algorithm_short = rw w.0 h.algorithm_short;
        bits_short = rw w.0 h.bits_short;
        algorithm_within = rw w.0 h.algorithm_within;
        bits_within = rw w.0 h.bits_within;
      })
      (λ y. absurd (let u = y.1 in let z : ◌≡◌ {A = ℕ} 0 1 = cc in omega arith))
      (either (ltb n (length keys)) w.1))
      (λ w.
      let r = on_outline_lem (read_certificate s true) Err _ w.1 (λ x u. let z : ◌≡◌ {A = ℕ} 0 1 = cc in omega arith) in
      let c = r.0 in
      let h = key_sound s bc c.key.start c.key.end p q r.2 in
      record {
        key = part s c.key.start c.key.end;
        is = from_certificate (ltb-false _ _ w.0) (contents_of s c) (reads_certificate s bc (contents_of s c) (c, r.1, refl)) refl;
        content = rw w.0 h.bytes;
        algorithm_short = rw w.0 h.algorithm_short;
        bits_short = rw w.0 h.bits_short;
        algorithm_within = rw w.0 h.algorithm_within;
        bits_within = rw w.0 h.bits_within;
      })
      (either (ltb n anchors) e)

  opened : Bytes (get_or keys n []) → Bytes (certificate_of issuers end anchors n) → (p q : Span) → key_of issuers end keys anchors n ≡ key_is p q → Opens issuers end keys anchors n
  opened bk bc p q e =
      let d = key_parted bk bc p q e in
      record { key = d.key; is = d.is; algorithm = _; bits = _; content = d.content; algorithm_short = d.algorithm_short; bits_short = d.bits_short }

  replied : (answer : ℕ) (k : Result Key ℕ) → KeyFair k → reply_for answer k ≡ 0 → (answer ≡ 0) × ((p : Span) × (q : Span) × (k ≡ key_is p q))
  unfolding reply_for
  replied answer (Ok v) f e = (e, (v.algorithm, v.bits, refl))
  replied answer (Err x) (key_not f) e = absurd (omega arith)

  pub reply_sound : Bytes (get_or keys n []) → Bytes (certificate_of issuers end anchors n) → (answer : ℕ) → reply_of issuers end keys anchors n answer ≡ 0 → (answer ≡ 0) × Opens issuers end keys anchors n
  unfolding reply_in
  reply_sound bk bc answer e =
      ⊎_elim
      (λ w. absurd (let u : answer ≡ unsupported_signature_algorithm = eqb-true _ _ w.0 in let v : answer ≡ 0 = w.1 in omega arith))
      (λ w.
      let r = replied answer (key_of issuers end keys anchors n) key_fair w.1 in
      (r.0, opened bk bc r.1.0 r.1.1 r.1.2))
      (either (eqb answer unsupported_signature_algorithm) e)

  opens_parts : Bytes (certificate_of issuers end anchors n) → Opens issuers end keys anchors n → (p : Span) × (q : Span) × (key_of issuers end keys anchors n ≡ key_is p q)
  unfolding key_in on_outline outlined
  opens_parts b o = by o.is
    where
      by : KeyOf issuers end keys anchors n o.key → (p : Span) × (q : Span) × (key_of issuers end keys anchors n ≡ key_is p q)
      by (of_anchor l m e) =
          let k = get_or keys n [] in
          let r = key_complete k 0 (length k) o.algorithm o.bits (omega arith) (omega arith) o.algorithm_short o.bits_short (part_whole k ∙ sym e ∙ o.content) in
          (place_of 0 o.algorithm, bits_of (place_of 0 o.algorithm).end o.bits, rw (lt-ltb n anchors l, lt-ltb n (length keys) m) r)
      by (from_certificate l x i e) =
          let s = certificate_of issuers end anchors n in
          let r = certificate_reads s x i in
          let c = r.0 in
          let w = read_inside s b true c r.1 in
          let is : at s c.key ≡ key_content o.algorithm o.bits = ap (λ (y : Contents). y.key) r.2 ∙ sym e ∙ o.content in
          let q = key_complete s c.key.start c.key.end o.algorithm o.bits w.key.ordered w.key.inside o.algorithm_short o.bits_short is in
          let p = place_of c.key.start o.algorithm in
          (p, bits_of p.end o.bits, rw (le-ltb n anchors l, r.1) q)

  pub reply_complete : Bytes (certificate_of issuers end anchors n) → Opens issuers end keys anchors n → reply_of issuers end keys anchors n 0 ≡ 0
  unfolding reply_in reply_for
  reply_complete b o = rw (opens_parts b o).2
