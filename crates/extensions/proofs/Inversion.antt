-- What each accepted answer of the model says, call by call. Assumes nothing.
use Prim.Native.Nat.{ℕ}
use mathlib.Core.Path.{◌≡◌, refl, sym, ap, ◌∙◌}
use mathlib.Core.List.{List}
use mathlib.Core.Bool.{Bool, true, false, cond}
use mathlib.Core.Logic.{◌⊎◌, inl, inr, ⊎_elim}
use lib.Dec.{eqb}
use native.Mathlib.Omega.{arith}
use borrow.Author.Tests.{eqb-true, eqb-false}
use Rattle.refusal.specs.Refusals.{bad_der, trailing_certificate_extensions, trailing_extension}
use Rattle.der.specs.declared.Span.{Span}
use Rattle.der.specs.Model.{expect_at, on_content}
use Rattle.values.specs.Model.{read_bool, truth_is}
use Rattle.der.proofs.Invert.{peel, either}
use Rattle.extensions.specs.declared.Known.{Known}
use Rattle.extensions.specs.declared.Extension.{Extension}
use Rattle.extensions.specs.Model.{Next, Stop, kind_of, slot_of, set_slot, none_known, on_truth, extension_in, content_of, passed_over, remembered, on_parsed, on_kept, taken, gathered, extensions_at}
use Rattle.std.specs.Prelude.{Ok, Err, Result}

-- ---- an answer that was gone on from
pub on_content_lem : {R : Type 0} {r : R} (g : Result Span ℕ) (other : ℕ → R) (k : ℕ → ℕ → R) → on_content g other k ≡ r → ((e : ℕ) → other e ≡ r → ⊥) → (p : Span) × (g ≡ Ok p) × (k p.start p.end ≡ r)
unfolding on_content
on_content_lem (Ok p) other k e n = (p, refl, e)
on_content_lem (Err x) other k e n = absurd (n x e)

on_truth_lem : {R : Type 0} {r : R} (g : Result (Bool × ℕ) ℕ) (other : ℕ → R) (k : Bool → ℕ → R) → on_truth g other k ≡ r → ((e : ℕ) → other e ≡ r → ⊥) → (b : Bool) × (next : ℕ) × (g ≡ truth_is b next) × (k b next ≡ r)
unfolding on_truth
on_truth_lem (Ok v) other k e n = (v.0, v.1, refl, e)
on_truth_lem (Err x) other k e n = absurd (n x e)

on_parsed_lem : {R : Type 0} {r : R} (g : Result Extension ℕ) (other : ℕ → R) (k : Extension → R) → on_parsed g other k ≡ r → ((e : ℕ) → other e ≡ r → ⊥) → (p : Extension) × (g ≡ Ok p) × (k p ≡ r)
unfolding on_parsed
on_parsed_lem (Ok p) other k e n = (p, refl, e)
on_parsed_lem (Err x) other k e n = absurd (n x e)

pub on_kept_lem : {R : Type 0} {r : R} (g : Result Known ℕ) (other : ℕ → R) (k : Known → R) → on_kept g other k ≡ r → ((e : ℕ) → other e ≡ r → ⊥) → (p : Known) × (g ≡ Ok p) × (k p ≡ r)
unfolding on_kept
on_kept_lem (Ok p) other k e n = (p, refl, e)
on_kept_lem (Err x) other k e n = absurd (n x e)

-- the answer of a test that is not its second branch's
pub chosen : {A : Type 0} (b : Bool) {x y z : A} → cond b x y ≡ z → (y ≡ z → ⊥) → (b ≡ true) × (x ≡ z)
chosen true e other = (refl, e)
chosen false e other = absurd (other e)

-- a refusal is no acceptance
pub not_content : {p : Span} (e : ℕ) → Err e ≡ Ok p → ⊥
not_content e h = let z : ◌≡◌ {A = ℕ} 0 1 = cc in omega arith

pub not_parsed : {x : Extension} (e : ℕ) → Err e ≡ Ok x → ⊥
not_parsed e h = let z : ◌≡◌ {A = ℕ} 0 1 = cc in omega arith

pub not_kept : {x : Known} (e : ℕ) → Err e ≡ Ok x → ⊥
not_kept e h = let z : ◌≡◌ {A = ℕ} 0 1 = cc in omega arith

pub not_next : {a : ℕ} {x : Known} (e : ℕ) → Stop e ≡ Next a x → ⊥
not_next e h = let z : ◌≡◌ {A = ℕ} 0 1 = cc in omega arith

-- what an acceptance holds is one thing
pub content_is : {p q : Span} → ◌≡◌ {A = Result Span ℕ} (Ok p) (Ok q) → p ≡ q
content_is e = cc

parsed_is : {x y : Extension} → ◌≡◌ {A = Result Extension ℕ} (Ok x) (Ok y) → x ≡ y
parsed_is e = cc

kept_is : {k l : Known} → ◌≡◌ {A = Result Known ℕ} (Ok k) (Ok l) → k ≡ l
kept_is e = cc

next_is : {a b : ℕ} {k l : Known} → Next a k ≡ Next b l → (a ≡ b) × (k ≡ l)
next_is e = (cc, cc)

-- ---- one extension
pub record ExtensionAt (s : List ℕ) (from to : ℕ) (x : Extension) : Type 0 where
  pub next : ℕ
  pub identifier : expect_at s from to 6 bad_der ≡ Ok x.identifier
  pub critical : read_bool s x.identifier.end to ≡ truth_is x.critical next
  pub value : expect_at s next to 4 bad_der ≡ Ok x.value

pub extension_inv : (s : List ℕ) (from to : ℕ) (x : Extension) → extension_in s from to ≡ Ok x → ExtensionAt s from to x
unfolding extension_in
extension_inv s from to x e =
    let p = on_content_lem (expect_at s from to 6 bad_der) Err _ e not_parsed in
    let q = on_truth_lem (read_bool s p.0.end to) Err _ p.2 not_parsed in
    let r = on_content_lem (expect_at s q.1 to 4 bad_der) Err _ q.3 not_parsed in
    let z : ◌≡◌ {A = Extension} (record { identifier = p.0; critical = q.0; value = r.0 }) x = parsed_is r.2 in
    rw (← z) (record { next = q.1; identifier = p.1; critical = q.2; value = r.1 })

pub record TakenAs (s : List ℕ) (at to : ℕ) (known : Known) (strict : Bool) (at' : ℕ) (now : Known) : Type 0 where
  pub whole : Span
  pub x : Extension
  pub outer : expect_at s at to 48 trailing_extension ≡ Ok whole
  pub inner : ExtensionAt s whole.start whole.end x
  pub kept : remembered s x known strict ≡ Ok now
  pub all : x.value.end ≡ whole.end
  pub next : at' ≡ whole.end

pub taken_inv : (s : List ℕ) (at to : ℕ) (known : Known) (strict : Bool) (at' : ℕ) (now : Known) → taken s at to known strict ≡ Next at' now → TakenAs s at to known strict at' now
unfolding taken
taken_inv s at to known strict at' now e =
    let p = on_content_lem (expect_at s at to 48 trailing_extension) Stop _ e not_next in
    let q = on_parsed_lem (extension_in s p.0.start p.0.end) Stop _ p.2 not_next in
    let r = on_kept_lem (remembered s q.0 known strict) Stop _ q.2 not_next in
    let t = chosen (eqb q.0.value.end p.0.end) r.2 (not_next _) in
    let n = next_is t.1 in
    record {
      whole = p.0;
      x = q.0;
      outer = p.1;
      inner = extension_inv s p.0.start p.0.end q.0 q.1;
      kept = r.1 ∙ ap Ok n.1;
      all = eqb-true _ _ t.0;
      next = sym n.0;
    }

-- an extension that is not known, or one that has its slot to itself
pub record Passed (s : List ℕ) (x : Extension) (known : Known) (strict : Bool) (now : Known) : Type 0 where
  pub kind : kind_of s x.identifier.start x.identifier.end ≡ 0
  pub allowed : strict ≡ true → x.critical ≡ true → ⊥
  pub same : now ≡ known

pub record Filled (s : List ℕ) (x : Extension) (known : Known) (now : Known) : Type 0 where
  pub kind : ℕ
  pub content : Span
  pub is : kind_of s x.identifier.start x.identifier.end ≡ kind
  pub some : kind ≡ 0 → ⊥
  pub free : (slot_of known kind).known ≡ false
  pub found : content_of s kind x.value ≡ Ok content
  pub set : now ≡ set_slot known kind (record { known = true; start = content.start; end = content.end })

passed_inv : (strict critical : Bool) (known now : Known) → passed_over strict critical known ≡ Ok now → (strict ≡ true → critical ≡ true → ⊥) × (now ≡ known)
unfolding passed_over
passed_inv true true known now e = absurd (not_kept _ e)
passed_inv true false known now e = (λ _ h. let z : ◌≡◌ {A = ℕ} 0 1 = cc in omega arith, cc)
passed_inv false critical known now e = (λ h _. let z : ◌≡◌ {A = ℕ} 0 1 = cc in omega arith, cc)

pub remembered_inv : (s : List ℕ) (x : Extension) (known : Known) (strict : Bool) (now : Known) → remembered s x known strict ≡ Ok now → Passed s x known strict now ⊎ Filled s x known now
unfolding remembered
remembered_inv s x known strict now e =
    let kind = kind_of s x.identifier.start x.identifier.end in
    ⊎_elim
    (λ p.
    let q = passed_inv strict x.critical known now p.1 in
    inl (record { kind = eqb-true _ _ p.0; allowed = q.0; same = q.1 }))
    (λ p.
    let q = peel (slot_of known kind).known p.1 (not_kept _) in
    let r = on_content_lem (content_of s kind x.value) Err _ q.1 not_kept in
    inr (record {
      kind = kind;
      content = r.0;
      is = refl;
      some = eqb-false _ _ p.0;
      free = q.0;
      found = r.1;
      set = sym (kept_is r.2);
    }))
    (either (eqb kind 0) e)

pub content_inv : (s : List ℕ) (kind : ℕ) (value p : Span) → content_of s kind value ≡ Ok p
    → ((kind ≡ 15) × (p ≡ value)) ⊎ ((kind ≡ 15 → ⊥) × (expect_at s value.start value.end 48 bad_der ≡ Ok p) × (p.end ≡ value.end))
unfolding content_of
content_inv s kind value p e =
    ⊎_elim
    (λ h. inl (eqb-true _ _ h.0, sym (content_is h.1)))
    (λ h.
    let q = on_content_lem (expect_at s value.start value.end 48 bad_der) Err _ h.1 not_content in
    let t = chosen (eqb q.0.end value.end) q.2 (not_content _) in
    let z : q.0 ≡ p = content_is t.1 in
    let w : q.0.end ≡ value.end = eqb-true _ _ t.0 in
    inr (eqb-false _ _ h.0, q.1 ∙ ap Ok z, sym (ap (λ (x : Span). x.end) z) ∙ w))
    (either (eqb kind 15) e)

-- ---- all of them
pub record ListAt (s : List ℕ) (from to : ℕ) (strict : Bool) (known : Known) : Type 0 where
  pub field : Span
  pub list : Span
  pub outer : expect_at s from to 163 trailing_certificate_extensions ≡ Ok field
  pub inner : expect_at s field.start field.end 48 trailing_extension ≡ Ok list
  pub all : gathered s list.start list.end strict ≡ Ok known
  pub list_end : list.end ≡ field.end
  pub field_end : field.end ≡ to

pub extensions_inv : (s : List ℕ) (from to : ℕ) (strict : Bool) (known : Known) → extensions_at s from to strict ≡ Ok known
    → ((from ≡ to) × (known ≡ none_known)) ⊎ ListAt s from to strict known
unfolding extensions_at
extensions_inv s from to strict known e =
    ⊎_elim
    (λ h. inl (eqb-true _ _ h.0, sym (kept_is h.1)))
    (λ h.
    let p = on_content_lem (expect_at s from to 163 trailing_certificate_extensions) Err _ h.1 not_kept in
    let q = on_content_lem (expect_at s p.0.start p.0.end 48 trailing_extension) Err _ p.2 not_kept in
    let r = on_kept_lem (gathered s q.0.start q.0.end strict) Err _ q.2 not_kept in
    let t = chosen (eqb q.0.end p.0.end) r.2 (not_kept _) in
    let u = chosen (eqb p.0.end to) t.1 (not_kept _) in
    inr (record {
      field = p.0;
      list = q.0;
      outer = p.1;
      inner = q.1;
      all = r.1 ∙ u.1;
      list_end = eqb-true _ _ t.0;
      field_end = eqb-true _ _ u.0;
    }))
    (either (eqb from to) e)
