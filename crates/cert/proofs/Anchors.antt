-- The reader of anchors: sound and complete, and what it refuses. Assumes nothing.
use Prim.Native.Nat.{ℕ}
use mathlib.Core.Path.{◌≡◌, refl, ap}
use mathlib.Core.List.{List}
use mathlib.Core.Bool.{Bool, true, false, cond}
use mathlib.Core.Logic.{⊎_elim}
use lib.Dec.{eqb}
use native.Mathlib.Omega.{arith}
use borrow.Author.Tests.{eqb-false}
use Rattle.refusal.specs.Refusals.{bad_der, unsupported_cert_version}
use Rattle.der.specs.declared.Span.{Span}
use Rattle.der.proofs.Invert.{either}
use Rattle.cert.specs.declared.Certificate.{Certificate}
use Rattle.extensions.specs.declared.Slot.{Slot}
use Rattle.cert.specs.Model.{read_certificate, anchor_of, read_anchor, anchor_is, Reading}
use Rattle.cert.specs.Accepted.{Readable}
use Rattle.cert.specs.Rfc5280.{Skeleton, certificate}
use Rattle.cert.specs.Layout.{places}
use Rattle.cert.proofs.Complete.{complete}
use Rattle.std.specs.Prelude.{Ok, Err, Result}
use Rattle.cert.specs.declared.TrustAnchor.{TrustAnchor}

-- what is taken of a certificate
abbrev pub taken : Certificate → Result TrustAnchor ℕ
taken c = anchor_is c.subject c.key c.known.name_constraints

pub record FromCertificate (s : List ℕ) (subject key : Span) (constraints : Slot) : Type 0 where
  pub c : Certificate
  pub read : read_certificate s false ≡ Ok c
  pub subject_is : c.subject ≡ subject
  pub key_is : c.key ≡ key
  pub constraints_is : c.known.name_constraints ≡ constraints

refusal_no_anchor : (e : ℕ) (p q : Span) (n : Slot) → cond (eqb e unsupported_cert_version) (Err bad_der) (Err e) ≡ anchor_is p q n → ⊥
refusal_no_anchor e p q n h = go (eqb e unsupported_cert_version) h
  where
    go : (b : Bool) → cond b (Err bad_der) (Err e) ≡ anchor_is p q n → ⊥
    go true i = let z : ◌≡◌ {A = ℕ} 0 1 = cc in omega arith
    go false i = let z : ◌≡◌ {A = ℕ} 0 1 = cc in omega arith

anchor_inv : (s : List ℕ) (p q : Span) (n : Slot) (r : Reading) → read_certificate s false ≡ r → anchor_of r ≡ anchor_is p q n → FromCertificate s p q n
unfolding anchor_of
anchor_inv s p q n (Ok c) e h =
    let z : ◌≡◌ {A = TrustAnchor} (record { subject = c.subject; key = c.key; constraints = c.known.name_constraints }) (record { subject = p; key = q; constraints = n }) = cc h in
    record {
      c = c;
      read = e;
      subject_is = ap (λ (a : TrustAnchor). a.subject) z;
      key_is = ap (λ (a : TrustAnchor). a.key) z;
      constraints_is = ap (λ (a : TrustAnchor). a.constraints) z;
    }
anchor_inv s p q n (Err x) e h = absurd (refusal_no_anchor x p q n h)

-- SOUND: an anchor is read out of a certificate, and `sound` holds of that
pub anchor_sound : (s : List ℕ) (subject key : Span) (constraints : Slot) → read_anchor s ≡ anchor_is subject key constraints → FromCertificate s subject key constraints
unfolding read_anchor
anchor_sound s p q n h = anchor_inv s p q n (read_certificate s false) refl h

-- COMPLETE: the encoding of every skeleton within the rules, unknown critical extensions allowed
pub anchor_complete : (k : Skeleton) → Readable false k → read_anchor (certificate k) ≡ taken (places k)
unfolding read_anchor anchor_of
anchor_complete k r = rw (complete false k r)

-- a certificate's refusal is the anchor's, but for that of the version, which is never given
pub anchor_refusal : (s : List ℕ) (e : ℕ) → read_certificate s false ≡ Err e → read_anchor s ≡ Err (cond (eqb e unsupported_cert_version) bad_der e)
unfolding read_anchor anchor_of
anchor_refusal s e h = rw h (go (eqb e unsupported_cert_version))
  where
    go : (b : Bool) → ◌≡◌ {A = Result TrustAnchor ℕ} (cond b (Err bad_der) (Err e)) (Err (cond b bad_der e))
    go true = refl
    go false = refl

no_version : (r : Reading) → anchor_of r ≡ Err unsupported_cert_version → ⊥
unfolding anchor_of
no_version (Ok c) h = let z : ◌≡◌ {A = ℕ} 0 1 = cc in omega arith
no_version (Err e) h =
    ⊎_elim
    (λ p. let z : bad_der ≡ unsupported_cert_version = cc p.1 in omega arith)
    (λ p. let z : e ≡ unsupported_cert_version = cc p.1 in eqb-false e unsupported_cert_version p.0 z)
    (either (eqb e unsupported_cert_version) h)

pub anchor_no_version : (s : List ℕ) → read_anchor s ≡ Err unsupported_cert_version → ⊥
unfolding read_anchor
anchor_no_version s h = no_version (read_certificate s false) h
