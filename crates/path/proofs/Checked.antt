-- The checks of a certificate find nothing exactly if it fits where it stands. Assumes nothing.
use Prim.Native.Nat.{ℕ, suc, ◌-◌, ◌≤◌}
use mathlib.Core.Path.{◌≡◌, refl, sym, ◌∙◌, subst}
use mathlib.Core.List.Memᴰ
use mathlib.Core.List.{List, [], ◌∷◌}
use mathlib.Core.Bool.{Bool, true, false, cond}
use mathlib.Core.Logic.{⊎_elim}
use lib.ListN.{length}
use native.Mathlib.Omega.{arith}
use borrow.Author.Tests.{ne_eqb}
use Rattle.der.specs.Places.{Bytes, part}
use Rattle.parts.specs.Model.{same_parts}
use Rattle.der.proofs.Invert.{peel}
use Rattle.parts.proofs.Equal.{same_yes, same_equal}
use Rattle.cert.specs.declared.Certificate.{Certificate}
use Rattle.cert.specs.Model.{read_certificate, Reading}
use Rattle.der.proofs.Parts.{part_whole}
use Rattle.cert.proofs.Laws.{read_inside}
use Rattle.cert.proofs.Refusals.{ReadingFair, reading_not, read_fair}
use Rattle.checks.specs.Conditions.{Contents, Role}
use Rattle.path.specs.Conditions.{Trusted, Fit, role_of}
use Rattle.checks.proofs.Contents.{contents_of}
use Rattle.checks.specs.Skeletons.{IsCertificate}
use Rattle.lent.specs.Lent.{certificate_of, newest}
use Rattle.lent.specs.Lent.{listed}
use Rattle.path.specs.Model.{depth_of, on_reading, checked, check_on, check_in, checked_as}
use Rattle.checks.proofs.Skeletons.{reads_certificate, certificate_reads}
use Rattle.checks.specs.Model.{itself}
use Rattle.checks.proofs.Roles.{is_issuer, below_of}
use Rattle.checks.proofs.Alone.{own_sound, own_complete}
use Rattle.std.specs.Prelude.{Ok, Err}

-- ---- a key that is in no list
true_false : true ≡ false → ⊥
true_false e = let z : ◌≡◌ {A = ℕ} 0 1 = cc in omega arith

module _ (s : List ℕ) (a b : ℕ) (h : a ≤ b) (l : b ≤ length s) where
  pub listed_trusted : (keys : List (List ℕ)) → listed keys s a b ≡ false → Trusted keys (part s a b)
  unfolding listed
  listed_trusted [] e k m q = Memᴰ.not-nil m
  listed_trusted (x ∷ xs) e k m q =
      let p = peel (same_parts s a b x 0 (length x)) e true_false in
      ⊎_elim
      (λ (y : k ≡ x). true_false (sym (same_equal s a b x 0 (length x) h l (omega arith) (omega arith) (q ∙ y ∙ sym (part_whole x))) ∙ p.0))
      (λ y. listed_trusted xs p.1 k y q)
      (Memᴰ.cases_cons m)

pub trusted_listed : (s : List ℕ) (a b : ℕ) (keys : List (List ℕ)) → Trusted keys (part s a b) → listed keys s a b ≡ false
unfolding listed
trusted_listed s a b [] t = refl
trusted_listed s a b (x ∷ xs) t = go (same_parts s a b x 0 (length x)) refl (trusted_listed s a b xs (λ k m q. t k (Memᴰ.tail m) q))
  where
    go : (v : Bool) → same_parts s a b x 0 (length x) ≡ v → listed xs s a b ≡ false → cond v true (listed xs s a b) ≡ false
    go true e r = absurd (t x (Memᴰ.head refl) ((same_yes s a b x 0 (length x) e).4 ∙ part_whole x))
    go false e r = r

-- ---- one certificate
reading : (g : Reading) (k : Certificate → ℕ) → ReadingFair g → on_reading g itself k ≡ 0 → (c : Certificate) × (g ≡ Ok c) × (k c ≡ 0)
unfolding on_reading
reading (Ok c) k f e = (c, refl, e)
reading (Err x) k (reading_not f) e = absurd (omega arith)

module _ (s : List ℕ) (b : Bytes s) (distrusted : List (List ℕ)) (time : ℕ) (wanted : List ℕ) (demanded : Bool) (role : Role) where
  pub check_sound : checked s distrusted time wanted demanded (is_issuer role) (below_of role) ≡ 0 → (o : Contents) × IsCertificate s o × Fit distrusted time wanted demanded role o
  unfolding checked_as
  check_sound e =
      let p = reading (read_certificate s true) _ (read_fair s true) e in
      let c = p.0 in
      let i = read_inside s b true c p.1 in
      let q = peel (listed distrusted s c.key.start c.key.end) p.2 (λ z. omega arith) in
      let m = own_sound s b c p.1 time wanted demanded role q.1 in (
        contents_of s c,
        reads_certificate s b (contents_of s c) (c, p.1, refl),
        record {
          trusted = listed_trusted s c.key.start c.key.end i.key.ordered i.key.inside distrusted q.0;
          valid = m.0;
          placed = m.1;
          purposed = m.2;
        },
      )

  fits_checked : (c : Certificate) → read_certificate s true ≡ Ok c → Fit distrusted time wanted demanded role (contents_of s c) → checked s distrusted time wanted demanded (is_issuer role) (below_of role) ≡ 0
  unfolding checked_as on_reading
  fits_checked c r f =
      let t = trusted_listed s c.key.start c.key.end distrusted f.trusted in
      rw (r, t) (own_complete s b c r time wanted demanded role (f.valid, f.placed, f.purposed))

  pub check_complete : (o : Contents) → IsCertificate s o → Fit distrusted time wanted demanded role o → checked s distrusted time wanted demanded (is_issuer role) (below_of role) ≡ 0
  check_complete o x f =
      let r = certificate_reads s o x in
      fits_checked r.0 r.1 (subst (λ (x : Contents). Fit distrusted time wanted demanded role x) (sym r.2) f)

-- ---- the newest certificate of a path
module _ (issuers : List (List ℕ)) (end : List ℕ) (anchors : ℕ) (distrusted : List (List ℕ)) (time : ℕ) (wanted : List ℕ) (demanded : Bool) where
  in_place : (path : List ℕ) → check_on issuers end anchors distrusted time wanted demanded path
      ≡ checked (certificate_of issuers end anchors (newest path)) distrusted time wanted demanded (is_issuer (role_of path)) (below_of (role_of path))
  unfolding check_in newest depth_of
  in_place [] = refl
  in_place (n ∷ []) = refl
  in_place (n ∷ (m ∷ ns)) =
      let e : suc (length ns) - 1 ≡ length ns = omega arith in
      simp (ne_eqb (suc (length ns)) 0 (λ q. omega arith), e)

  module _ (path : List ℕ) (b : Bytes (certificate_of issuers end anchors (newest path))) where
    pub path_check_sound : check_on issuers end anchors distrusted time wanted demanded path ≡ 0
        → (o : Contents) × IsCertificate (certificate_of issuers end anchors (newest path)) o × Fit distrusted time wanted demanded (role_of path) o
    path_check_sound e = check_sound _ b distrusted time wanted demanded (role_of path) (sym (in_place path) ∙ e)

    pub path_check_complete : (o : Contents) → IsCertificate (certificate_of issuers end anchors (newest path)) o → Fit distrusted time wanted demanded (role_of path) o
        → check_on issuers end anchors distrusted time wanted demanded path ≡ 0
    path_check_complete o r f = in_place path ∙ check_complete _ b distrusted time wanted demanded (role_of path) o r f
