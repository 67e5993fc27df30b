-- The verdict on a candidate: it extends the path exactly if it is its next, and is an anchor to try exactly if it is above it. Assumes nothing.
use Prim.Native.Nat.{ℕ, ◌≤◌, ◌<◌}
use mathlib.Core.Path.{◌≡◌, refl, sym, ap, ◌∙◌}
use mathlib.Core.List.Memᴰ
use mathlib.Core.List.{List, [], ◌∷◌, Memᴰ}
use mathlib.Core.Bool.{Bool, true, false, cond, not}
use mathlib.Core.Logic.{⊎_elim}
use lib.ListN.{length, get_or}
use lib.Dec.{ltb, leb, eqb}
use native.Mathlib.Omega.{arith}
use borrow.Author.Tests.{ltb-true, ltb-false, leb-false, eqb-false, lt-ltb, le-ltb, lt-leb, ne_eqb}
use Rattle.der.specs.declared.Span.{Span}
use Rattle.der.specs.Places.{Bytes, part}
use Rattle.parts.specs.Model.{same_parts}
use Rattle.der.proofs.Invert.{peel}
use Rattle.parts.proofs.Equal.{same_yes, same_equal}
use Rattle.cert.specs.declared.Certificate.{Certificate}
use Rattle.cert.specs.Model.{read_certificate}
use Rattle.der.proofs.Parts.{part_whole}
use Rattle.extensions.proofs.Inversion.{chosen}
use Rattle.cert.proofs.Laws.{read_inside}
use Rattle.rows.proofs.Laws.{on_outline_lem}
use Rattle.rows.specs.Model.{outlined, on_outline}
use Rattle.candidate.specs.declared.Verdict.TheVariants.{Pass, Anchor, Extend}
use Rattle.checks.specs.Conditions.{Contents}
use Rattle.path.specs.Conditions.{Same}
use Rattle.checks.proofs.Contents.{at, contents_of, Reads}
use Rattle.candidate.specs.Candidates.{Whole, Extends, Anchors}
use Rattle.lent.specs.Lent.{certificate_of, some_of, newest}
use Rattle.lent.specs.Lent.{listed}
use Rattle.path.specs.Model.{depth_of}
use Rattle.candidate.specs.Model.{has_both, on_path, anchor_verdict, is_flagged, is_whole, anchor_at, issuer_verdict, verdict_on, has_both_as, issuer_verdict_in, on_path_in, verdict_in}
use Rattle.checks.proofs.Skeletons.{reads_certificate, certificate_reads}
use Rattle.path.proofs.Checked.{listed_trusted, trusted_listed}
use Rattle.std.specs.Prelude.{Ok}

pass_extend : {e : ℕ} → Pass e ≡ Extend → ⊥
pass_extend q = let z : ◌≡◌ {A = ℕ} 0 1 = cc in omega arith

pass_anchor : {e : ℕ} → Pass e ≡ Anchor → ⊥
pass_anchor q = let z : ◌≡◌ {A = ℕ} 0 1 = cc in omega arith

anchor_extend : Anchor ≡ Extend → ⊥
anchor_extend q = let z : ◌≡◌ {A = ℕ} 0 1 = cc in omega arith

false_true : false ≡ true → ⊥
false_true q = let z : ◌≡◌ {A = ℕ} 0 1 = cc in omega arith

-- the field of one certificate is the field of another, byte for byte
module _ (s t : List ℕ) (p q : Span) where
  pub same_fields : same_parts s p.start p.end t q.start q.end ≡ true → at s p ≡ at t q
  same_fields e = (same_yes s p.start p.end t q.start q.end e).4

-- ---- subject and key on the path
module _ (s : List ℕ) (b : Bytes s) (c : Certificate) (r : read_certificate s true ≡ Ok c) where
  both_same : (t : List ℕ) → has_both s c.subject c.key t ≡ true → (o : Contents) × Reads t o × Same (contents_of s c) o
  unfolding has_both_as
  both_same t e =
      let p = on_outline_lem (read_certificate t true) _ _ e (λ x z. false_true z) in
      let d = p.0 in
      let q = chosen (same_parts s c.subject.start c.subject.end t d.subject.start d.subject.end) p.2 false_true in
      (contents_of t d, (d, p.1, refl), (same_fields s t c.subject d.subject q.0, same_fields s t c.key d.key q.1))

  same_both : (t : List ℕ) → Bytes t → (o : Contents) → Reads t o → Same (contents_of s c) o → has_both s c.subject c.key t ≡ true
  unfolding has_both_as on_outline outlined
  same_both t bt o x m =
      let d = x.0 in
      let i = read_inside s b true c r in
      let j = read_inside t bt true d x.1 in
      let u : at s c.subject ≡ at t d.subject = m.0 ∙ sym (ap (λ (y : Contents). y.subject) x.2) in
      let v : at s c.key ≡ at t d.key = m.1 ∙ sym (ap (λ (y : Contents). y.key) x.2) in
      rw (x.1, same_equal s _ _ t _ _ i.subject.ordered i.subject.inside j.subject.ordered j.subject.inside u, same_equal s _ _ t _ _ i.key.ordered i.key.inside j.key.ordered j.key.inside v)

  module _ (issuers : List (List ℕ)) (end : List ℕ) (anchors : ℕ) (bs : (n : ℕ) → Bytes (certificate_of issuers end anchors n)) where
    -- nobody on the path has both
    abbrev Once : List ℕ → Type 0
    Once path = (n : ℕ) → Memᴰ n path → (o : Contents) → Reads (certificate_of issuers end anchors n) o → Same (contents_of s c) o → ⊥

    once_sound : (path : List ℕ) → on_path issuers end anchors s c.subject c.key path ≡ false → Once path
    unfolding on_path_in some_of
    once_sound [] e n m o x y = Memᴰ.not-nil m
    once_sound (k ∷ ks) e n m o x y =
        let p = peel (has_both s c.subject c.key (certificate_of issuers end anchors k)) e (λ z. false_true (sym z)) in
        ⊎_elim
        (λ (z : n ≡ k). false_true (sym p.0 ∙ same_both (certificate_of issuers end anchors k) (bs k) o (rw z at x) y))
        (λ z. once_sound ks p.1 n z o x y)
        (Memᴰ.cases_cons m)

    once_complete : (path : List ℕ) → Once path → on_path issuers end anchors s c.subject c.key path ≡ false
    unfolding on_path_in some_of
    once_complete [] f = refl
    once_complete (k ∷ ks) f = go (has_both s c.subject c.key (certificate_of issuers end anchors k)) refl (once_complete ks (λ n m. f n (Memᴰ.tail m)))
      where
        go : (v : Bool) → has_both s c.subject c.key (certificate_of issuers end anchors k) ≡ v → on_path issuers end anchors s c.subject c.key ks ≡ false
            → cond v true (on_path issuers end anchors s c.subject c.key ks) ≡ false
        go true e z = let w = both_same (certificate_of issuers end anchors k) e in absurd (f k (Memᴰ.head refl) w.0 w.1 w.2)
        go false e z = z

-- ---- the verdict
module _ (issuers : List (List ℕ)) (end : List ℕ) (subjects keys constraints : List (List ℕ)) (bound : List ℕ) (distrusted : List (List ℕ))
    (path : List ℕ) (i : ℕ) (bs : (n : ℕ) → Bytes (certificate_of issuers end (length subjects) n)) where
  few_places : (l : List ℕ) → depth_of l < 7 → length l ≤ 7
  unfolding depth_of
  few_places [] h = omega arith
  few_places (n ∷ ns) h = omega arith

  places_few : (l : List ℕ) → length l ≤ 7 → depth_of l < 7
  unfolding depth_of
  places_few [] h = omega arith
  places_few (n ∷ ns) h = omega arith

  whole_sound : is_whole constraints bound i ≡ true → Whole constraints bound i
  unfolding is_whole is_flagged
  whole_sound e set = ltb-true i (length constraints) (rw (ne_eqb _ _ set) at e)

  whole_complete : Whole constraints bound i → is_whole constraints bound i ≡ true
  unfolding is_whole is_flagged
  whole_complete w = by (eqb (get_or bound i 0) 0) refl
    where
      by : (b : Bool) → eqb (get_or bound i 0) 0 ≡ b → cond (not b) (ltb i (length constraints)) true ≡ true
      by true e = refl
      by false e = lt-ltb i (length constraints) (w (eqb-false _ _ e))

  not_extend : (s : List ℕ) (issuer : Span) → anchor_at subjects keys constraints bound distrusted s issuer i ≡ Extend → ⊥
  unfolding anchor_at anchor_verdict
  not_extend s issuer e =
      let p = chosen (ltb i (length keys)) e pass_extend in
      let w = chosen (is_whole constraints bound i) p.1 pass_extend in
      let q = chosen (same_parts (get_or subjects i []) 0 (length (get_or subjects i [])) s issuer.start issuer.end) w.1 pass_extend in
      let r = peel (listed distrusted (get_or keys i []) 0 (length (get_or keys i []))) q.1 pass_extend in
      anchor_extend r.1

  not_anchor : (head : List ℕ) (issuer : Span) (s : List ℕ) → issuer_verdict issuers end (length subjects) path head issuer s ≡ Anchor → ⊥
  unfolding issuer_verdict_in
  not_anchor head issuer s e =
      let p = on_outline_lem (read_certificate s true) Pass _ e (λ x. pass_anchor) in
      let c = p.0 in
      let q = chosen (same_parts s c.subject.start c.subject.end head issuer.start issuer.end) p.2 pass_anchor in
      let r = peel (on_path issuers end (length subjects) s c.subject c.key path) q.1 pass_anchor in
      anchor_extend (sym r.1)

  pub extend_sound : verdict_on issuers end subjects keys constraints bound distrusted path i ≡ Extend → Extends issuers end subjects keys distrusted path i
  unfolding verdict_in issuer_verdict_in
  extend_sound e =
      let head = certificate_of issuers end (length subjects) (newest path) in
      let s = certificate_of issuers end (length subjects) i in
      let p = peel (leb 7 (depth_of path)) e pass_extend in
      let q = on_outline_lem (read_certificate head true) Pass _ p.1 (λ x. pass_extend) in
      let h = q.0 in
      let r = peel (ltb i (length subjects)) q.2 (not_extend head h.issuer) in
      let t = on_outline_lem (read_certificate s true) Pass _ r.1 (λ x. pass_extend) in
      let c = t.0 in
      let u = chosen (same_parts s c.subject.start c.subject.end head h.issuer.start h.issuer.end) t.2 pass_extend in
      let v = peel (on_path issuers end (length subjects) s c.subject c.key path) u.1 pass_extend in
      record {
        few = few_places path (leb-false _ _ p.0);
        candidate = ltb-false _ _ r.0;
        head = contents_of head h;
        newest_is = reads_certificate head (bs (newest path)) (contents_of head h) (h, q.1, refl);
        next = contents_of s c;
        next_is = reads_certificate s (bs i) (contents_of s c) (c, t.1, refl);
        chained = same_fields s head c.subject h.issuer u.0;
        once = λ n m o z y. once_sound s (bs i) c t.1 issuers end (length subjects) bs path v.0 n m o (certificate_reads _ o z) y;
      }

  pub extend_complete : Extends issuers end subjects keys distrusted path i → verdict_on issuers end subjects keys constraints bound distrusted path i ≡ Extend
  unfolding verdict_in issuer_verdict_in on_outline outlined
  extend_complete x =
      let head = certificate_of issuers end (length subjects) (newest path) in
      let s = certificate_of issuers end (length subjects) i in
      let top = certificate_reads head x.head x.newest_is in
      let new = certificate_reads s x.next x.next_is in
      let h = top.0 in
      let c = new.0 in
      let j = read_inside head (bs (newest path)) true h top.1 in
      let k = read_inside s (bs i) true c new.1 in
      let f : at s c.subject ≡ at head h.issuer = ap (λ (y : Contents). y.subject) new.2 ∙ x.chained ∙ sym (ap (λ (y : Contents). y.issuer) top.2) in
      let g = same_equal s _ _ head _ _ k.subject.ordered k.subject.inside j.issuer.ordered j.issuer.inside f in
      let o = once_complete s (bs i) c new.1 issuers end (length subjects) bs path
      (λ n m o r y. x.once n m o (reads_certificate _ (bs n) o r) (sym (ap (λ (z : Contents). z.subject) new.2) ∙ y.0, sym (ap (λ (z : Contents). z.key) new.2) ∙ y.1)) in
      rw (lt-leb 7 (depth_of path) (places_few path x.few), top.1, le-ltb i (length subjects) x.candidate, new.1, g, o)

  pub anchor_sound : verdict_on issuers end subjects keys constraints bound distrusted path i ≡ Anchor → Anchors issuers end subjects keys distrusted path i constraints bound
  unfolding verdict_in anchor_at anchor_verdict
  anchor_sound e =
      let head = certificate_of issuers end (length subjects) (newest path) in
      let subject = get_or subjects i [] in
      let key = get_or keys i [] in
      let p = peel (leb 7 (depth_of path)) e pass_anchor in
      let q = on_outline_lem (read_certificate head true) Pass _ p.1 (λ x. pass_anchor) in
      let h = q.0 in
      let r = chosen (ltb i (length subjects)) q.2 (not_anchor head h.issuer (certificate_of issuers end (length subjects) i)) in
      let t = chosen (ltb i (length keys)) r.1 pass_anchor in
      let l = chosen (is_whole constraints bound i) t.1 pass_anchor in
      let u = chosen (same_parts subject 0 (length subject) head h.issuer.start h.issuer.end) l.1 pass_anchor in
      let v = peel (listed distrusted key 0 (length key)) u.1 pass_anchor in
      let w = listed_trusted key 0 (length key) (omega arith) (omega arith) distrusted v.0 in
      record {
        few = few_places path (leb-false _ _ p.0);
        candidate = ltb-true _ _ r.0;
        keyed = ltb-true _ _ t.0;
        whole = whole_sound l.0;
        head = contents_of head h;
        newest_is = reads_certificate head (bs (newest path)) (contents_of head h) (h, q.1, refl);
        chained = sym (part_whole subject) ∙ (same_yes subject 0 (length subject) head h.issuer.start h.issuer.end u.0).4;
        trusted = rw (part_whole key) at w;
      }

  pub anchor_complete : Anchors issuers end subjects keys distrusted path i constraints bound → verdict_on issuers end subjects keys constraints bound distrusted path i ≡ Anchor
  unfolding verdict_in anchor_at anchor_verdict on_outline outlined
  anchor_complete x =
      let head = certificate_of issuers end (length subjects) (newest path) in
      let subject = get_or subjects i [] in
      let key = get_or keys i [] in
      let top = certificate_reads head x.head x.newest_is in
      let h = top.0 in
      let j = read_inside head (bs (newest path)) true h top.1 in
      let f : part subject 0 (length subject) ≡ at head h.issuer = part_whole subject ∙ x.chained ∙ sym (ap (λ (y : Contents). y.issuer) top.2) in
      let g = same_equal subject 0 (length subject) head _ _ (omega arith) (omega arith) j.issuer.ordered j.issuer.inside f in
      let o = trusted_listed key 0 (length key) distrusted (rw (part_whole key) x.trusted) in
      rw (lt-leb 7 (depth_of path) (places_few path x.few), top.1, lt-ltb i (length subjects) x.candidate, lt-ltb i (length keys) x.keyed, whole_complete x.whole, g, o)
