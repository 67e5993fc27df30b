-- THEOREMS: the count goes on exactly where the model does, from one function to the next and from one extension to the next. Assumes nothing.
use Prim.Native.Nat.{ℕ, ◌+◌}
use mathlib.Core.Path.{◌≡◌, refl, sym, ap, ◌∙◌, fun_ext}
use mathlib.Core.List.{List}
use mathlib.Core.Bool.{Bool, true, false, cond}
use lib.ListN.{length}
use lib.Dec.{eqb}
use native.Mathlib.Omega.{arith}
use Rattle.der.specs.declared.Span.{Span}
use Rattle.der.specs.Model.{on_content}
use Rattle.parts.specs.Model.{same_parts}
use Rattle.der.specs.Loop.{walk}
use Rattle.extensions.specs.declared.Known.{Known}
use Rattle.extensions.specs.Model.{Move, Next, Stop, kind_of, slot_of, none_known, on_truth, extension_in, passed_over, remembered, on_parsed, on_kept, taken}
use Rattle.envelope.specs.Model.{parts_in, on_parts, opened, begun, on_begun}
use Rattle.cert.specs.Model.{fields_at, on_found}
use Rattle.looks.specs.Der.{nothing}
use Rattle.looks.specs.Extensions.{extension_looks, remembered_looks, taken_looks, gathered_looks, extensions_looks}
use Rattle.looks.specs.Certificates.{parts_looks, opened_looks, begun_looks, fields_looks, read_looks}
use Rattle.std.specs.Prelude.{Ok, Err, Result}

-- ---- answers
-- h counts what is looked at after an answer: nothing after a refusal
content_follows : {R : Type 0} (h : R → ℕ) (v : ℕ) (g : Result Span ℕ) (other : ℕ → R) (f : ℕ → ℕ → R) (k l : ℕ → ℕ → ℕ) → ((e : ℕ) → h (other e) ≡ 0)
    → ((a b : ℕ) → k a b ≡ l a b + h (f a b)) → v + on_content g nothing k ≡ (v + on_content g nothing l) + h (on_content g other f)
unfolding on_content
content_follows h v (Ok p) other f k l z e = omega (arith, e p.start p.end)
content_follows h v (Err n) other f k l z e = omega (arith, z n)

test_follows : {R : Type 0} (h : R → ℕ) (b : Bool) (x y : R) (k l : ℕ) → h y ≡ 0 → k ≡ l + h x → cond b k 0 ≡ cond b l 0 + h (cond b x y)
test_follows h true x y k l z e = e
test_follows h false x y k l z e = omega (arith, z)

truth_follows : {R : Type 0} (h : R → ℕ) (v : ℕ) (g : Result (Bool × ℕ) ℕ) (other : ℕ → R) (f : Bool → ℕ → R) (k l : Bool → ℕ → ℕ) → ((e : ℕ) → h (other e) ≡ 0)
    → ((b : Bool) (n : ℕ) → k b n ≡ l b n + h (f b n)) → v + on_truth g nothing k ≡ (v + on_truth g nothing l) + h (on_truth g other f)
unfolding on_truth
truth_follows h v (Ok t) other f k l z e = omega (arith, e t.0 t.1)
truth_follows h v (Err n) other f k l z e = omega (arith, z n)

kept_follows : {R : Type 0} (h : R → ℕ) (g : Result Known ℕ) (other : ℕ → R) (f : Known → R) (k l : Known → ℕ) → ((e : ℕ) → h (other e) ≡ 0)
    → ((now : Known) → k now ≡ l now + h (f now)) → on_kept g nothing k ≡ on_kept g nothing l + h (on_kept g other f)
unfolding on_kept
kept_follows h (Ok now) other f k l z e = e now
kept_follows h (Err n) other f k l z e = omega (arith, z n)

choice_follows : {R : Type 0} (h : R → ℕ) (b : Bool) (x y : R) (k l m n : ℕ) → k ≡ m + h x → l ≡ n + h y → cond b k l ≡ cond b m n + h (cond b x y)
choice_follows h true x y k l m n d e = d
choice_follows h false x y k l m n d e = e

-- sums in the order that is wanted
beside : (v x y z : ℕ) → x ≡ y + z → v + x ≡ (v + y) + z
beside v x y z e = omega (arith, e)

turned : (x y z : ℕ) → z + y ≡ x → x ≡ y + z
turned x y z e = omega (arith, e)

back : (x y z : ℕ) → x ≡ y + z → z + y ≡ x
back x y z e = omega (arith, e)

-- ---- the outer SEQUENCE, the signed content
parts_follows : {R : Type 0} (h : R → ℕ) (s : List ℕ) (from to : ℕ) (other : ℕ → R) (f : _ → R) (r : R) (k l : Span → Span → ℕ) → on_parts (parts_in s from to) other f ≡ r → ((e : ℕ) → h (other e) ≡ 0)
    → ((p : _) → h (f p) + l p.content p.algorithm ≡ k p.content p.algorithm) → parts_looks s from to k ≡ parts_looks s from to l + h r
unfolding parts_looks parts_in on_parts
parts_follows h s from to other f r k l q z e =
    rw (sym q) (
    content_follows (λ x. h (on_parts x other f)) _ _ _ _ _ _ z (λ a b.
    content_follows (λ x. h (on_parts x other f)) _ _ _ _ _ _ z (λ c d.
    content_follows (λ x. h (on_parts x other f)) _ _ _ _ _ _ z (λ i j.
    test_follows (λ x. h (on_parts x other f)) (eqb j to) _ _ _ _ (z _) (turned _ _ _ (e _))))))

opened_follows : (s : List ℕ) (k : Span → Span → ℕ) → opened_looks s k ≡ opened_looks s (λ content algorithm. 0) + on_parts (opened s) nothing (λ p. k p.content p.algorithm)
unfolding opened_looks opened on_parts
opened_follows s k =
    content_follows (λ x. on_parts x nothing (λ p. k p.content p.algorithm)) _ _ _ _ _ _ (λ e. refl) (λ a b.
    parts_follows (λ x. on_parts x nothing (λ p. k p.content p.algorithm)) s a b _ _ _ _ _ refl (λ e. refl) (λ p.
    back _ _ _ (test_follows (λ x. on_parts x nothing (λ p. k p.content p.algorithm)) (eqb b (length s)) _ _ _ _ refl (omega arith))))

begun_follows : (s : List ℕ) (from to : ℕ) (outer : Span) (k : ℕ → ℕ)
    → begun_looks s from to outer k ≡ begun_looks s from to outer (λ at. 0) + on_begun (begun s from to outer) nothing (λ q. k q.algorithm.end)
unfolding begun_looks begun on_begun
begun_follows s from to outer k =
    content_follows (λ x. on_begun x nothing (λ q. k q.algorithm.end)) _ _ _ _ _ _ (λ e. refl) (λ v w.
    content_follows (λ x. on_begun x nothing (λ q. k q.algorithm.end)) _ _ _ _ _ _ (λ e. refl) (λ a b.
    content_follows (λ x. on_begun x nothing (λ q. k q.algorithm.end)) _ _ _ _ _ _ (λ e. refl) (λ c d.
    beside _ _ _ _ (test_follows (λ x. on_begun x nothing (λ q. k q.algorithm.end)) (same_parts s c d s outer.start outer.end) _ _ _ _ refl (omega arith)))))

fields_follows : (s : List ℕ) (from to : ℕ) (k : ℕ → ℕ) → fields_looks s from to k ≡ fields_looks s from to (λ at. 0) + on_found (fields_at s from to) nothing (λ f. k f.key.end)
unfolding fields_looks fields_at on_found
fields_follows s from to k =
    content_follows (λ x. on_found x nothing (λ f. k f.key.end)) _ _ _ _ _ _ (λ e. refl) (λ a b.
    content_follows (λ x. on_found x nothing (λ f. k f.key.end)) _ _ _ _ _ _ (λ e. refl) (λ c d.
    content_follows (λ x. on_found x nothing (λ f. k f.key.end)) _ _ _ _ _ _ (λ e. refl) (λ g h.
    content_follows (λ x. on_found x nothing (λ f. k f.key.end)) _ _ _ _ _ _ (λ e. refl) (λ i j. omega arith))))

-- ---- extensions
-- what comes after an extension that was taken
abbrev pub afterwards : Move → (ℕ → Known → ℕ) → ℕ
afterwards (Next at now) k = k at now
afterwards (Stop e) k = 0

extension_follows : {R : Type 0} (h : R → ℕ) (s : List ℕ) (from to : ℕ) (other : ℕ → R) (f : _ → R) (r : R) (k l : Span → Bool → Span → ℕ) → on_parsed (extension_in s from to) other f ≡ r
    → ((e : ℕ) → h (other e) ≡ 0) → ((x : _) → h (f x) + l x.identifier x.critical x.value ≡ k x.identifier x.critical x.value)
    → extension_looks s from to k ≡ extension_looks s from to l + h r
unfolding extension_looks extension_in on_parsed
extension_follows h s from to other f r k l q z e =
    rw (sym q) (
    content_follows (λ x. h (on_parsed x other f)) _ _ _ _ _ _ z (λ a b.
    truth_follows (λ x. h (on_parsed x other f)) _ _ _ _ _ _ z (λ critical next.
    content_follows (λ x. h (on_parsed x other f)) _ _ _ _ _ _ z (λ c d. turned _ _ _ (e _)))))

remembered_follows : {R : Type 0} (h : R → ℕ) (s : List ℕ) (x : _) (known : Known) (strict : Bool) (q : Result Known ℕ) (other : ℕ → R) (f : Known → R) (k l : Known → ℕ) → remembered s x known strict ≡ q
    → ((e : ℕ) → h (other e) ≡ 0) → ((now : Known) → k now ≡ l now + h (f now))
    → remembered_looks s x.identifier x.critical x.value known strict k ≡ remembered_looks s x.identifier x.critical x.value known strict l + h (on_kept q other f)
unfolding remembered_looks remembered on_kept
remembered_follows h s x known strict q other f k l p z e =
    rw (sym p) (
    beside _ _ _ _ (
    choice_follows (λ g. h (on_kept g other f)) (eqb (kind_of s x.identifier.start x.identifier.end) 0) _ _ _ _ _ _
    (kept_follows h (passed_over strict x.critical known) other f k l z e)
    (choice_follows (λ g. h (on_kept g other f)) (slot_of known (kind_of s x.identifier.start x.identifier.end)).known _ _ _ _ _ _ (none _ (z _))
    (content_follows (λ g. h (on_kept g other f)) _ _ _ _ _ _ z (λ a b. e _)))))
  where
    none : (n : ℕ) → n ≡ 0 → 0 ≡ 0 + n
    none n e = omega (arith, e)

pub taken_follows : (s : List ℕ) (at to : ℕ) (known : Known) (strict : Bool) (k : ℕ → Known → ℕ)
    → taken_looks s at to known strict k ≡ taken_looks s at to known strict (λ a now. 0) + afterwards (taken s at to known strict) k
unfolding taken_looks taken
taken_follows s at to known strict k =
    content_follows (λ m. afterwards m k) _ _ _ _ _ _ (λ e. refl) (λ a b.
    extension_follows (λ m. afterwards m k) s a b _ _ _ _ _ refl (λ e. refl) (λ x.
    back _ _ _ (remembered_follows (λ m. afterwards m k) s x known strict _ _ _ _ _ refl (λ e. refl) (λ now.
    test_follows (λ m. afterwards m k) (eqb x.value.end b) _ _ _ _ refl (omega arith)))))

pub gathered_follows : (s : List ℕ) (from to : ℕ) (strict : Bool)
    → gathered_looks s from to strict ≡ walk to (λ at known. 0) (λ at known k. taken_looks s at to known strict (λ a now. 0) + afterwards (taken s at to known strict) k) from none_known
unfolding gathered_looks
gathered_follows s from to strict =
    ap (λ (f : ℕ → Known → (ℕ → Known → ℕ) → ℕ). walk to (λ at known. 0) f from none_known) (fun_ext (λ at. fun_ext (λ known. fun_ext (λ k. taken_follows s at to known strict k))))

-- ---- the whole
pub read_follows : (s : List ℕ) (strict : Bool)
    → read_looks s strict ≡ opened_looks s (λ content algorithm. 0) + on_parts (opened s) nothing (λ p.
    begun_looks s p.content.start p.content.end p.algorithm (λ at. 0) + on_begun (begun s p.content.start p.content.end p.algorithm) nothing (λ q.
    fields_looks s q.algorithm.end p.content.end (λ at. 0) + on_found (fields_at s q.algorithm.end p.content.end) nothing (λ f.
    extensions_looks s f.key.end p.content.end strict)))
unfolding read_looks
read_follows s strict =
    opened_follows s _ ∙ ap (λ k. opened_looks s (λ content algorithm. 0) + on_parts (opened s) nothing k) (fun_ext (λ p.
    begun_follows s p.content.start p.content.end p.algorithm _ ∙ ap (λ k. begun_looks s p.content.start p.content.end p.algorithm (λ at. 0) + on_begun (begun s p.content.start p.content.end p.algorithm) nothing k) (fun_ext (λ q.
    fields_follows s q.algorithm.end p.content.end _))))
