-- What each accepted answer of the model says, call by call. Assumes nothing.
use Prim.Native.Nat.{ℕ}
use mathlib.Core.Path.{◌≡◌, refl, sym, ap, ◌∙◌}
use mathlib.Core.List.{List}
use mathlib.Core.Bool.{Bool}
use lib.Dec.{eqb}
use native.Mathlib.Omega.{arith}
use borrow.Author.Tests.{eqb-true}
use Rattle.refusal.specs.Refusals.{bad_der}
use Rattle.der.specs.declared.Span.{Span}
use Rattle.der.specs.Model.{expect_at}
use Rattle.bits.specs.Model.{bits_at}
use Rattle.extensions.proofs.Inversion.{on_content_lem, on_kept_lem, chosen}
use Rattle.cert.specs.declared.Certificate.{Certificate}
use Rattle.envelope.specs.declared.Envelope.{Envelope}
use Rattle.envelope.specs.declared.Beginning.{Beginning}
use Rattle.cert.specs.declared.Fields.{Fields}
use Rattle.cert.specs.declared.key.Key.{Key}
use Rattle.extensions.specs.declared.Known.{Known}
use Rattle.extensions.specs.Model.{extensions_at}
use Rattle.envelope.specs.Model.{opened, begun}
use Rattle.cert.specs.Model.{fields_at, on_found, read_certificate, key_parts, key_is}
use Rattle.envelope.proofs.Inversion.{on_parts_lem, on_begun_lem, OpenedAs, opened_inv, BegunAt, begun_inv}
use Rattle.std.specs.Prelude.{Ok, Err, Result}

-- ---- an answer that was gone on from
on_found_lem : {R : Type 0} {r : R} (g : Result Fields ℕ) (other : ℕ → R) (k : Fields → R) → on_found g other k ≡ r → ((e : ℕ) → other e ≡ r → ⊥) → (p : Fields) × (g ≡ Ok p) × (k p ≡ r)
unfolding on_found
on_found_lem (Ok p) other k e n = (p, refl, e)
on_found_lem (Err x) other k e n = absurd (n x e)

-- a refusal is no acceptance
pub not_found : {v : Fields} (e : ℕ) → Err e ≡ Ok v → ⊥
not_found e h = let z : ◌≡◌ {A = ℕ} 0 1 = cc in omega arith

pub not_accepted : {c : Certificate} (e : ℕ) → Err e ≡ Ok c → ⊥
not_accepted e h = let z : ◌≡◌ {A = ℕ} 0 1 = cc in omega arith

-- what a reading holds is one thing
same_key : {p q a b : Span} → key_is p q ≡ key_is a b → (p ≡ a) × (q ≡ b)
same_key {p} {q} {a} {b} e =
    let z : ◌≡◌ {A = Key} (record { algorithm = p; bits = q }) (record { algorithm = a; bits = b }) = cc e in
    (ap (λ (k : Key). k.algorithm) z, ap (λ (k : Key). k.bits) z)

pub not_key : {p q : Span} (e : ℕ) → Err e ≡ key_is p q → ⊥
not_key e h = let z : ◌≡◌ {A = ℕ} 0 1 = cc in omega arith

-- ---- the signed content
pub record FieldsAt (s : List ℕ) (from to : ℕ) (f : Fields) : Type 0 where
  pub issuer : expect_at s from to 48 bad_der ≡ Ok f.issuer
  pub validity : expect_at s f.issuer.end to 48 bad_der ≡ Ok f.validity
  pub subject : expect_at s f.validity.end to 48 bad_der ≡ Ok f.subject
  pub key : expect_at s f.subject.end to 48 bad_der ≡ Ok f.key

pub fields_inv : (s : List ℕ) (from to : ℕ) (f : Fields) → fields_at s from to ≡ Ok f → FieldsAt s from to f
unfolding fields_at
fields_inv s from to f e =
    let p = on_content_lem (expect_at s from to 48 bad_der) Err _ e not_found in
    let q = on_content_lem (expect_at s p.0.end to 48 bad_der) Err _ p.2 not_found in
    let r = on_content_lem (expect_at s q.0.end to 48 bad_der) Err _ q.2 not_found in
    let t = on_content_lem (expect_at s r.0.end to 48 bad_der) Err _ r.2 not_found in
    let z : ◌≡◌ {A = Fields} (record { issuer = p.0; validity = q.0; subject = r.0; key = t.0 }) f = cc t.2 in
    rw (← z) (record { issuer = p.1; validity = q.1; subject = r.1; key = t.1 })

-- ---- the whole
pub record ReadAs (s : List ℕ) (strict : Bool) (c : Certificate) : Type 0 where
  pub v : Envelope
  pub b : Beginning
  pub f : Fields
  pub known : Known
  pub opening : OpenedAs s v
  pub beginning : BegunAt s v.content.start v.content.end v.algorithm b
  pub fields : FieldsAt s b.algorithm.end v.content.end f
  pub extensions : extensions_at s f.key.end v.content.end strict ≡ Ok known
  pub is : c ≡ record {
    signed = v.signed;
    algorithm = v.algorithm;
    signature = v.signature;
    serial = b.serial;
    inner_algorithm = b.algorithm;
    issuer = f.issuer;
    validity = f.validity;
    subject = f.subject;
    key = f.key;
    known = known;
  }

pub read_inv : (s : List ℕ) (strict : Bool) (c : Certificate) → read_certificate s strict ≡ Ok c → ReadAs s strict c
unfolding read_certificate
read_inv s strict c e =
    let p = on_parts_lem (opened s) Err _ e not_accepted in
    let q = on_begun_lem (begun s p.0.content.start p.0.content.end p.0.algorithm) Err _ p.2 not_accepted in
    let r = on_found_lem (fields_at s q.0.algorithm.end p.0.content.end) Err _ q.2 not_accepted in
    let t = on_kept_lem (extensions_at s r.0.key.end p.0.content.end strict) Err _ r.2 not_accepted in
    record {
      v = p.0;
      b = q.0;
      f = r.0;
      known = t.0;
      opening = opened_inv s p.0 p.1;
      beginning = begun_inv s _ _ _ q.0 q.1;
      fields = fields_inv s _ _ r.0 r.1;
      extensions = t.1;
      is = cc t.2;
    }

-- ---- a key's parts
pub record KeyAt (s : List ℕ) (from to : ℕ) (p q : Span) : Type 0 where
  pub algorithm : expect_at s from to 48 bad_der ≡ Ok p
  pub bits : bits_at s p.end to ≡ Ok q
  pub all : q.end ≡ to

pub key_inv : (s : List ℕ) (from to : ℕ) (p q : Span) → key_parts s from to ≡ key_is p q → KeyAt s from to p q
unfolding key_parts
key_inv s from to p q e =
    let a = on_content_lem (expect_at s from to 48 bad_der) Err _ e not_key in
    let b = on_content_lem (bits_at s a.0.end to) Err _ a.2 not_key in
    let t = chosen (eqb b.0.end to) b.2 (not_key _) in
    let k = same_key t.1 in
    record {
      algorithm = a.1 ∙ ap Ok k.0;
      bits = sym (ap (λ (x : Span). bits_at s x.end to) k.0) ∙ b.1 ∙ ap Ok k.1;
      all = sym (ap (λ (x : Span). x.end) k.1) ∙ eqb-true _ _ t.0;
    }
