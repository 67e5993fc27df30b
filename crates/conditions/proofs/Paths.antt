-- A path is acceptable to the search, and the end entity good for the name, exactly if the conditions on bytes are met. Assumes that what is lent are bytes.
use Prim.Native.Nat.{ℕ, suc, ◌≤◌, ◌<◌}
use mathlib.Core.Path.{◌≡◌, refl, sym, ◌∙◌, ap, subst}
use mathlib.Core.Logic.{◌↔◌, ⊎_elim}
use mathlib.Core.List.Memᴰ
use mathlib.Core.List.{List, [], ◌∷◌, Memᴰ}
use native.Mathlib.Omega.{arith}
use lib.ListN.{length, get_or}
use Rattle.candidate.specs.declared.Verdict.TheVariants.{Anchor, Extend}
use Rattle.lent.specs.Lent.{most_intermediates, newest}
use Rattle.checks.specs.Conditions.{Contents, Role, issuer, InValidity, InRole, ForPurpose}
use Rattle.path.specs.Conditions.{Trusted, Fit, Same}
use Rattle.checks.specs.Skeletons.{IsCertificate}
use Rattle.candidate.specs.Candidates.{Whole, Extends, Anchors}
use Rattle.candidate.specs.Paths.{InOrder}
use Rattle.asked.specs.Questions.{Opens}
use Rattle.checks.proofs.Contents.{contents_of}
use Rattle.checks.proofs.Skeletons.{certificate_reads}
use Rattle.candidate.proofs.Verdicts.{extend_sound, anchor_sound, anchor_complete}
use Rattle.candidate.proofs.Paths.{Grown, grown_in_order, in_order_grown}
use Rattle.dialogue.specs.Log.{What}
use Rattle.dialogue.specs.Model.{Path, staged}
use Rattle.dialogue.specs.Acceptable.{InOrder as Cleared, Grown as Reached, start, grow, Acceptable}
use Rattle.machine.specs.World.{world_of}
use Rattle.conditions.specs.Request.{Request, end_of}
use Rattle.conditions.specs.Model.{world_for}
use Rattle.conditions.specs.Conditions.{Lends, Each, InPlace, Chain, Apart, bytes_of, Numbers, Readable, Signed, Named}
use Rattle.conditions.specs.Exactly.{ExactlyMet, constraints_of}
use Rattle.conditions.specs.Meets.{Stands, Meets}
use Rattle.conditions.specs.Claims.{passed}
use Rattle.conditions.proofs.Lent.{bytes}
use Rattle.conditions.proofs.ExactAll.{exactly}
use Rattle.std.specs.Prelude.{Ok}

-- one string has one list of contents
one_contents : (s : List ℕ) (o p : Contents) → IsCertificate s o → IsCertificate s p → o ≡ p
one_contents s o p a b =
    let x = certificate_reads s o a in
    let y = certificate_reads s p b in
    let e : Ok x.0 ≡ Ok y.0 = sym x.1 ∙ y.1 in
    let c : x.0 ≡ y.0 = cc in
    sym x.2 ∙ ap (contents_of s) c ∙ y.2

-- the chain below the highest
abbrev Linked : List Contents → Type 0
Linked [] = Unit {0}
Linked (o ∷ os) = Chain o.subject os

module _ (R : Request) (lent : Lends R) where
  abbrev Ordered : Path → Type 0
  Ordered path = InOrder R.issuers R.end R.subjects R.keys R.distrusted R.time R.purpose R.demanded path

  abbrev Fits : Role → Contents → Type 0
  Fits role o = Fit R.distrusted R.time R.purpose R.demanded role o

  abbrev Is : ℕ → Contents → Type 0
  Is n o = IsCertificate (bytes_of R n) o

  as_long : (ns : Path) (os : List Contents) → Readable R ns os → length ns ≡ length os
  unfolding Readable
  as_long [] [] h = refl
  as_long [] (o ∷ os) h = absurd h
  as_long (n ∷ ns) [] h = absurd h
  as_long (n ∷ ns) (o ∷ os) h = ap suc (as_long ns os h.1)

  -- of each certificate of a path, and of each list of contents
  to_each : (P : Contents → Type 0) (ns : Path) (os : List Contents) → Readable R ns os → ((n : ℕ) → Memᴰ n ns → (o : Contents) → Is n o → P o) → Each P os
  unfolding Readable Each
  to_each P [] [] h f = tt
  to_each P [] (o ∷ os) h f = absurd h
  to_each P (n ∷ ns) [] h f = absurd h
  to_each P (n ∷ ns) (o ∷ os) h f = (f n (Memᴰ.head refl) o h.0, to_each P ns os h.1 (λ m i. f m (Memᴰ.tail i)))

  of_each : (P : Contents → Type 0) (ns : Path) (os : List Contents) → Readable R ns os → Each P os → (n : ℕ) → Memᴰ n ns → (o : Contents) → Is n o → P o
  unfolding Readable Each
  of_each P [] os h e n m o i = absurd (Memᴰ.not-nil m)
  of_each P (k ∷ ns) [] h e n m o i = absurd h
  of_each P (k ∷ ns) (p ∷ os) h e n m o i =
      ⊎_elim
      (λ (q : n ≡ k). subst P (one_contents (bytes_of R k) p o h.0 (subst (λ (j : ℕ). Is j o) q i)) e.0)
      (λ (t : Memᴰ n ns). of_each P ns os h.1 e.1 n t o i)
      (Memᴰ.cases_cons m)

  -- ---- certificate by certificate, and condition by condition
  record Shape (path : Path) : Type 0 where
    pub contents : List Contents
    pub readable : Readable R path contents
    pub linked : Linked contents
    pub trusted : Each (λ o. Trusted R.distrusted o.key) contents
    pub valid : Each (λ o. InValidity o.validity R.time) contents
    pub placed : InPlace contents
    pub purposed : Each (λ o. ForPurpose R.purpose R.demanded o.ext_key_usage) contents
    pub apart : Apart contents

  shape : (path : Path) → Ordered path → Shape path
  unfolding Readable Each InPlace Chain Apart newest
  shape [] h = absurd h
  shape (n ∷ []) h =
      let o = h.0 in
      let f = h.2 in
      record {
        contents = o ∷ [];
        readable = (h.1, tt);
        linked = tt;
        trusted = (f.trusted, tt);
        valid = (f.valid, tt);
        placed = f.placed;
        purposed = (f.purposed, tt);
        apart = (tt, tt);
      }
  shape (i ∷ (n ∷ ns)) h = by (shape (n ∷ ns) h.0) h.1 h.2.0 h.2.1 h.2.2
    where
      by : Shape (n ∷ ns) → Extends R.issuers R.end R.subjects R.keys R.distrusted (n ∷ ns) i → (o : Contents) → Is i o → Fits (issuer (length ns)) o → Shape (i ∷ (n ∷ ns))
      by s x o is f = go s.contents s.readable s.linked s.trusted s.valid s.placed s.purposed s.apart
        where
          same : x.next ≡ o
          same = one_contents (bytes_of R i) x.next o x.next_is is

          go : (os : List Contents) → Readable R (n ∷ ns) os → Linked os → Each (λ p. Trusted R.distrusted p.key) os → Each (λ p. InValidity p.validity R.time) os
              → InPlace os → Each (λ p. ForPurpose R.purpose R.demanded p.ext_key_usage) os → Apart os → Shape (i ∷ (n ∷ ns))
          go [] r l t v p u a = absurd r
          go (q ∷ os) r l t v p u a =
              let head : x.head ≡ q = one_contents (bytes_of R n) x.head q x.newest_is r.0 in
              let link : o.subject ≡ q.issuer = sym (ap (λ (y : Contents). y.subject) same) ∙ x.chained ∙ ap (λ (y : Contents). y.issuer) head in
              let long = as_long ns os r.1 in
              record {
                contents = o ∷ (q ∷ os);
                readable = (is, r);
                linked = (link, l);
                trusted = (f.trusted, t);
                valid = (f.valid, v);
                placed = (subst (λ (k : ℕ). InRole (issuer k) o.basic_constraints) long f.placed, p);
                purposed = (f.purposed, u);
                apart = (to_each (λ y. Same o y → ⊥) (n ∷ ns) (q ∷ os) r (λ m e y z w. x.once m e y z (subst (λ (c : Contents). Same c y) (sym same) w)), a);
              }

  ordered : (path : Path) (os : List Contents) → length path ≤ suc most_intermediates → Numbers R path → Readable R path os → Linked os → Each (λ p. Trusted R.distrusted p.key) os
      → Each (λ p. InValidity p.validity R.time) os → InPlace os → Each (λ p. ForPurpose R.purpose R.demanded p.ext_key_usage) os → Apart os → Ordered path
  unfolding Numbers Readable Each InPlace Chain Apart newest
  ordered [] os few m r l t v p u a = absurd m
  ordered (n ∷ []) [] few m r l t v p u a = absurd r
  ordered (n ∷ []) (o ∷ []) few m r l t v p u a = (o, r.0, record { trusted = t.0; valid = v.0; placed = p; purposed = u.0 })
  ordered (n ∷ []) (o ∷ (q ∷ os)) few m r l t v p u a = absurd r.1
  ordered (i ∷ (n ∷ ns)) [] few m r l t v p u a = absurd r
  ordered (i ∷ (n ∷ ns)) (o ∷ []) few m r l t v p u a = absurd r.1
  ordered (i ∷ (n ∷ ns)) (o ∷ (q ∷ os)) few m r l t v p u a =
      let long = as_long ns os r.1.1 in (
        ordered (n ∷ ns) (q ∷ os) (omega arith) m.2 r.1 l.1 t.1 v.1 p.1 u.1 a.1,
        record {
          few = omega arith;
          candidate = m.0;
          head = q;
          newest_is = r.1.0;
          next = o;
          next_is = r.0;
          chained = l.0;
          once = of_each (λ y. Same o y → ⊥) (n ∷ ns) (q ∷ os) r.1 a.0;
        },
        (o, r.0, record { trusted = t.0; valid = v.0; placed = subst (λ (k : ℕ). InRole (issuer k) o.basic_constraints) (sym long) p.0; purposed = u.0 }),
      )

  -- ---- the growth of a path, as the search and as crate `path` put it
  abbrev Rises : Path → Type 0
  Rises path = Grown R.issuers R.end R.subjects R.keys R.constraints R.bound R.distrusted R.time R.purpose R.demanded (bytes R lent) path

  rises : {path : Path} → Reached (world_for R) (end_of R) path → Rises path × Numbers R path
  unfolding world_of Numbers
  rises (start h) = (h, refl)
  rises (grow {path = path} i g l v h) = by path (rises g) v h
    where
      by : (p : Path) → Rises p × Numbers R p → (world_for R).verdict p i ≡ Extend → (world_for R).check (i ∷ p) ≡ 0 → Rises (i ∷ p) × Numbers R (i ∷ p)
      by [] r v h = absurd r.0
      by (n ∷ ns) r v h =
          ((r.0, v, h), ((extend_sound R.issuers R.end R.subjects R.keys R.constraints R.bound R.distrusted (n ∷ ns) i (bytes R lent) v).candidate, l, r.1))

  reached : (path : Path) → Rises path → Numbers R path → Reached (world_for R) (end_of R) path
  unfolding world_of Numbers
  reached [] g m = absurd g
  reached (n ∷ []) g m =
      subst (λ (x : ℕ). Reached (world_for R) (end_of R) (x ∷ [])) (sym m) (start (subst (λ (x : ℕ). (world_for R).check (x ∷ []) ≡ 0) m g))
  reached (i ∷ (n ∷ ns)) g m = grow i (reached (n ∷ ns) g.0 m.2) m.1 g.1 g.2

  -- what is grown can be read, and an anchor that is one to try is one
  pub grown_read : (path : Path) → Reached (world_for R) (end_of R) path → Numbers R path × ((os : List Contents) × Readable R path os)
  unfolding world_of
  grown_read path g =
      let r = rises g in
      let s = shape path (grown_in_order R.issuers R.end R.subjects R.keys R.constraints R.bound R.distrusted R.time R.purpose R.demanded (bytes R lent) path r.0) in
      (r.1, (s.contents, s.readable))

  pub anchor_below : (path : Path) (anchor : ℕ) → (world_for R).verdict path anchor ≡ Anchor → anchor < length R.subjects
  unfolding world_of
  anchor_below path anchor e = (anchor_sound R.issuers R.end R.subjects R.keys R.constraints R.bound R.distrusted path anchor (bytes R lent) e).candidate

  -- ---- the signatures
  module _ (Yes : ℕ → What → Type 0) where
    -- a key that can be read, and a yes
    abbrev pub Answered : ℕ → What → Type 0
    Answered key what = Opens R.issuers R.end R.keys (length R.subjects) key × Yes key what

    signed : (key : ℕ) (path : Path) → Cleared Answered (staged (world_for R) key path) → Signed R Yes key path
    unfolding staged world_of Signed
    signed key [] h = tt
    signed key (n ∷ ns) h = (h.0.0, h.0.1, signed n ns h.1)

    cleared : (key : ℕ) (path : Path) → Signed R Yes key path → Cleared Answered (staged (world_for R) key path)
    unfolding staged world_of Signed
    cleared key [] h = tt
    cleared key (n ∷ ns) h = ((h.0, h.1), cleared n ns h.2)

    module _ (Content : ℕ → Path → Type 0) (anchor : ℕ) where
      chained : (path : Path) → Anchors R.issuers R.end R.subjects R.keys R.distrusted path anchor R.constraints R.bound
          → (os : List Contents) → Readable R path os → Linked os → Chain (get_or R.subjects anchor []) os
      unfolding Readable Chain newest
      chained [] x [] r l = tt
      chained [] x (o ∷ os) r l = absurd r
      chained (n ∷ ns) x [] r l = absurd r
      chained (n ∷ ns) x (o ∷ os) r l =
          let head : x.head ≡ o = one_contents (bytes_of R n) x.head o x.newest_is r.0 in
          (x.chained ∙ ap (λ (y : Contents). y.issuer) head, l)

      -- what the constraints come to, of a path that can be read
      constrained : (path : Path) (os : List Contents) → Whole R.constraints R.bound anchor → Numbers R path → Readable R path os → passed R anchor path ↔ ExactlyMet (constraints_of R anchor) os
      unfolding Numbers
      constrained [] os w m r = absurd m
      constrained (n ∷ path) os w m r = exactly R lent anchor n w path os r

      pub stands : (path : Path) → Acceptable (world_for R) (end_of R) Answered Content anchor path → Stands R Yes anchor path
      unfolding world_of
      stands path a =
          let g = rises a.grown in
          let order = grown_in_order R.issuers R.end R.subjects R.keys R.constraints R.bound R.distrusted R.time R.purpose R.demanded (bytes R lent) path g.0 in
          let s = shape path order in
          let x = anchor_sound R.issuers R.end R.subjects R.keys R.constraints R.bound R.distrusted path anchor (bytes R lent) a.anchored in
          record {
            numbers = g.1;
            few = a.few;
            anchored = x.candidate;
            keyed = x.keyed;
            whole = x.whole;
            contents = s.contents;
            readable = s.readable;
            chained = chained path x s.contents s.readable s.linked;
            trusted = s.trusted;
            anchor_trusted = x.trusted;
            valid = s.valid;
            placed = s.placed;
            purposed = s.purposed;
            apart = s.apart;
            signed = signed anchor path a.signed;
            constrained = (constrained path s.contents x.whole g.1 s.readable).0 a.named;
          }

      linked : (subject : List ℕ) (os : List Contents) → Chain subject os → Linked os
      unfolding Chain
      linked subject [] h = tt
      linked subject (o ∷ os) h = h.1

      above : (path : Path) (os : List Contents) → length path ≤ suc most_intermediates → anchor < length R.subjects → anchor < length R.keys → Whole R.constraints R.bound anchor
          → Trusted R.distrusted (get_or R.keys anchor [])
          → Numbers R path → Readable R path os → Chain (get_or R.subjects anchor []) os
          → Anchors R.issuers R.end R.subjects R.keys R.distrusted path anchor R.constraints R.bound
      unfolding Numbers Readable Chain newest
      above [] os few c k w t m r l = absurd m
      above (n ∷ ns) [] few c k w t m r l = absurd r
      above (n ∷ ns) (o ∷ os) few c k w t m r l = record { few = few; candidate = c; keyed = k; whole = w; head = o; newest_is = r.0; chained = l.0; trusted = t }

      pub acceptable : (path : Path) → Stands R Yes anchor path → Content anchor path → Acceptable (world_for R) (end_of R) Answered Content anchor path
      unfolding world_of
      acceptable path d content =
          let order = ordered path d.contents d.few d.numbers d.readable (linked (get_or R.subjects anchor []) d.contents d.chained) d.trusted d.valid d.placed d.purposed d.apart in
          let g = in_order_grown R.issuers R.end R.subjects R.keys R.constraints R.bound R.distrusted R.time R.purpose R.demanded (bytes R lent) path order in
          let x = above path d.contents d.few d.anchored d.keyed d.whole d.anchor_trusted d.numbers d.readable d.chained in
          record {
            grown = reached path g d.numbers;
            few = d.few;
            candidate = omega (arith, d.anchored);
            anchored = anchor_complete R.issuers R.end R.subjects R.keys R.constraints R.bound R.distrusted path anchor (bytes R lent) x;
            signed = cleared anchor path d.signed;
            named = (constrained path d.contents d.whole d.numbers d.readable).1 d.constrained;
            content = content;
          }

      -- THEOREM: the conditions are just what the search goes by
      pub meets_acceptable : (path : Path) → Meets R Yes Content anchor path ↔ (Acceptable (world_for R) (end_of R) Answered Content anchor path × Named R)
      meets_acceptable path = (λ m. (acceptable path m.stands m.content, m.named), λ h. record { stands = stands path h.0; named = h.1; content = h.0.content })
