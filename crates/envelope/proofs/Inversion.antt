-- What each accepted answer of the model says, call by call. Assumes nothing.
use Prim.Native.Nat.{ℕ}
use mathlib.Core.Path.{◌≡◌, refl, ap, ◌∙◌}
use mathlib.Core.List.{List}
use mathlib.Core.Bool.{true}
use lib.ListN.{length}
use lib.Dec.{eqb}
use native.Mathlib.Omega.{arith}
use borrow.Author.Tests.{eqb-true}
use Rattle.refusal.specs.Refusals.{bad_der, trailing_signed_data, unsupported_cert_version}
use Rattle.der.specs.declared.Span.{Span}
use Rattle.der.specs.Model.{expect_at}
use Rattle.parts.specs.Model.{same_parts}
use Rattle.bits.specs.Model.{bits_at}
use Rattle.values.specs.Model.{read_small, number_is}
use Rattle.extensions.proofs.Inversion.{on_content_lem, chosen, not_content, content_is}
use Rattle.envelope.specs.declared.Envelope.{Envelope}
use Rattle.envelope.specs.declared.Beginning.{Beginning}
use Rattle.extensions.specs.Model.{span}
use Rattle.envelope.specs.Model.{parts_in, on_parts, opened, is_version, version_at, begun, on_begun}
use Rattle.std.specs.Prelude.{Ok, Err, Result}

-- ---- an answer that was gone on from
pub on_parts_lem : {R : Type 0} {r : R} (g : Result Envelope ℕ) (other : ℕ → R) (k : Envelope → R) → on_parts g other k ≡ r → ((e : ℕ) → other e ≡ r → ⊥) → (p : Envelope) × (g ≡ Ok p) × (k p ≡ r)
unfolding on_parts
on_parts_lem (Ok p) other k e n = (p, refl, e)
on_parts_lem (Err x) other k e n = absurd (n x e)

pub on_begun_lem : {R : Type 0} {r : R} (g : Result Beginning ℕ) (other : ℕ → R) (k : Beginning → R) → on_begun g other k ≡ r → ((e : ℕ) → other e ≡ r → ⊥) → (p : Beginning) × (g ≡ Ok p) × (k p ≡ r)
unfolding on_begun
on_begun_lem (Ok p) other k e n = (p, refl, e)
on_begun_lem (Err x) other k e n = absurd (n x e)

-- a refusal is no acceptance
pub not_opened : {v : Envelope} (e : ℕ) → Err e ≡ Ok v → ⊥
not_opened e h = let z : ◌≡◌ {A = ℕ} 0 1 = cc in omega arith

pub not_begun : {v : Beginning} (e : ℕ) → Err e ≡ Ok v → ⊥
not_begun e h = let z : ◌≡◌ {A = ℕ} 0 1 = cc in omega arith

-- what an acceptance holds is one thing
parts_is : {v w : Envelope} → ◌≡◌ {A = Result Envelope ℕ} (Ok v) (Ok w) → v ≡ w
parts_is e = cc

with_is : {b c : Beginning} → ◌≡◌ {A = Result Beginning ℕ} (Ok b) (Ok c) → b ≡ c
with_is e = cc

-- ---- the outer SEQUENCE
pub record PartsAt (s : List ℕ) (from to : ℕ) (v : Envelope) : Type 0 where
  pub signed : v.signed ≡ span from v.content.end
  pub content : expect_at s from to 48 bad_der ≡ Ok v.content
  pub algorithm : expect_at s v.content.end to 48 bad_der ≡ Ok v.algorithm
  pub signature : bits_at s v.algorithm.end to ≡ Ok v.signature
  pub all : v.signature.end ≡ to

pub parts_inv : (s : List ℕ) (from to : ℕ) (v : Envelope) → parts_in s from to ≡ Ok v → PartsAt s from to v
unfolding parts_in
parts_inv s from to v e =
    let p = on_content_lem (expect_at s from to 48 bad_der) Err _ e not_opened in
    let q = on_content_lem (expect_at s p.0.end to 48 bad_der) Err _ p.2 not_opened in
    let r = on_content_lem (bits_at s q.0.end to) Err _ q.2 not_opened in
    let t = chosen (eqb r.0.end to) r.2 (not_opened _) in
    let z : ◌≡◌ {A = Envelope} (record { signed = span from p.0.end; content = p.0; algorithm = q.0; signature = r.0 }) v = parts_is t.1 in
    rw (← z)
    (record {
      signed = refl;
      content = p.1;
      algorithm = q.1;
      signature = r.1;
      all = eqb-true _ _ t.0;
    })

pub record OpenedAs (s : List ℕ) (v : Envelope) : Type 0 where
  pub whole : Span
  pub outer : expect_at s 0 (length s) 48 trailing_signed_data ≡ Ok whole
  pub inner : PartsAt s whole.start whole.end v
  pub all : whole.end ≡ length s

pub opened_inv : (s : List ℕ) (v : Envelope) → opened s ≡ Ok v → OpenedAs s v
unfolding opened
opened_inv s v e =
    let p = on_content_lem (expect_at s 0 (length s) 48 trailing_signed_data) Err _ e not_opened in
    let q = on_parts_lem (parts_in s p.0.start p.0.end) Err _ p.2 not_opened in
    let t = chosen (eqb p.0.end (length s)) q.2 (not_opened _) in
    record {
      whole = p.0;
      outer = p.1;
      inner = parts_inv s p.0.start p.0.end v (q.1 ∙ t.1);
      all = eqb-true _ _ t.0;
    }

-- ---- the signed content
pub record VersionAt (s : List ℕ) (from to : ℕ) (p : Span) : Type 0 where
  pub next : ℕ
  pub field : expect_at s from to 160 unsupported_cert_version ≡ Ok p
  pub number : read_small s p.start p.end ≡ number_is 2 next
  pub all : next ≡ p.end

is_version_lem : (s : List ℕ) (from to : ℕ) (q p : Span) → expect_at s from to 160 unsupported_cert_version ≡ Ok q → (g : Result (ℕ × ℕ) ℕ) → read_small s q.start q.end ≡ g
    → is_version q.start q.end g ≡ Ok p → VersionAt s from to p
unfolding is_version
is_version_lem s from to q p f (Ok v) h e =
    let t = chosen (eqb v.0 2) e (not_content _) in
    let u = chosen (eqb v.1 q.end) t.1 (not_content _) in
    let z : q ≡ p = content_is u.1 in
    let two : v.0 ≡ 2 = eqb-true _ _ t.0 in
    record {
      next = v.1;
      field = f ∙ ap Ok z;
      number = rw (← z) (h ∙ ap (λ (n : ℕ). number_is n v.1) two);
      all = eqb-true _ _ u.0 ∙ ap (λ (x : Span). x.end) z;
    }
is_version_lem s from to q p f (Err x) h e = absurd (not_content _ e)

pub version_inv : (s : List ℕ) (from to : ℕ) (p : Span) → version_at s from to ≡ Ok p → VersionAt s from to p
unfolding version_at
version_inv s from to p e =
    let q = on_content_lem (expect_at s from to 160 unsupported_cert_version) Err _ e not_content in
    is_version_lem s from to q.0 p q.1 (read_small s q.0.start q.0.end) refl q.2

pub record BegunAt (s : List ℕ) (from to : ℕ) (outer : Span) (b : Beginning) : Type 0 where
  pub place : Span
  pub version : version_at s from to ≡ Ok place
  pub serial : expect_at s place.end to 2 bad_der ≡ Ok b.serial
  pub algorithm : expect_at s b.serial.end to 48 bad_der ≡ Ok b.algorithm
  pub same : same_parts s b.algorithm.start b.algorithm.end s outer.start outer.end ≡ true

pub begun_inv : (s : List ℕ) (from to : ℕ) (outer : Span) (b : Beginning) → begun s from to outer ≡ Ok b → BegunAt s from to outer b
unfolding begun
begun_inv s from to outer b e =
    let p = on_content_lem (version_at s from to) Err _ e not_begun in
    let q = on_content_lem (expect_at s p.0.end to 2 bad_der) Err _ p.2 not_begun in
    let r = on_content_lem (expect_at s q.0.end to 48 bad_der) Err _ q.2 not_begun in
    let t = chosen (same_parts s r.0.start r.0.end s outer.start outer.end) r.2 (not_begun _) in
    let z : ◌≡◌ {A = Beginning} (record { serial = q.0; algorithm = r.0 }) b = with_is t.1 in
    rw (← z)
    (record {
      place = p.0;
      version = p.1;
      serial = q.1;
      algorithm = r.1;
      same = t.0;
    })
