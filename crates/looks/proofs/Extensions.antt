-- What extensions cost to read: each its bytes and one look more, and so no more than seven looks for six bytes. Assumes nothing.
use Prim.Native.Nat.{ℕ, ◌+◌, ◌-◌, ◌*◌, ◌≤◌}
use mathlib.Core.Path.{◌≡◌, refl}
use mathlib.Core.List.{List}
use mathlib.Core.Bool.{Bool, true, false, cond}
use lib.ListN.{length, get_or}
use lib.Dec.{ltb, eqb}
use native.Mathlib.Omega.{arith}
use borrow.Author.Tests.{eqb-true}
use Rattle.refusal.specs.Refusals.{bad_der, trailing_certificate_extensions, trailing_extension}
use Rattle.der.specs.declared.Span.{Span}
use Rattle.der.specs.Model.{expect_at, on_content}
use Rattle.values.specs.Model.{read_bool, truth_is}
use Rattle.extensions.specs.declared.Known.{Known}
use Rattle.extensions.specs.Model.{span, there, kind_of, slot_of, set_slot, none_known, on_truth, content_of, passed_over, on_kept}
use Rattle.looks.specs.Der.{nothing, value_looks}
use Rattle.looks.specs.Values.{bool_looks}
use Rattle.looks.specs.Extensions.{kind_looks, extension_looks, content_looks, remembered_looks, taken_looks, gathered_looks, extensions_looks}
use Rattle.looks.proofs.Der.{at_most, value_few, content_then, expect_then, walk_keeps}
use Rattle.looks.proofs.Values.{bool_few, bool_cost}
use Rattle.std.specs.Prelude.{Err, Ok, Result}

kind_few : (s : List ℕ) (a b : ℕ) → kind_looks s a b ≤ b - a
unfolding kind_looks
kind_few s a b =
    at_most (ltb (length s) b) (λ e. omega arith) (λ e.
    at_most (ltb b a) (λ f. omega arith) (λ f.
    at_most (eqb (b - a) 3)
    (λ g.
    let m : cond (eqb (get_or s (a + 1) 0) 29) 1 0 ≤ 1 = at_most (eqb (get_or s (a + 1) 0) 29) (λ h. omega arith) (λ h. omega arith) in
    let n : cond (eqb (get_or s a 0) 85) (1 + cond (eqb (get_or s (a + 1) 0) 29) 1 0) 0 ≤ 2 = at_most (eqb (get_or s a 0) 85) (λ h. omega arith) (λ h. omega arith) in
    omega (arith, eqb-true (b - a) 3 g))
    (λ g. omega arith)))

-- what is looked at after a BOOLEAN, and after an extension that is kept or passed over
truth_then : (g : Result (Bool × ℕ) ℕ) (k : Bool → ℕ → ℕ) (P : ℕ → Type 0) → P 0 → ((v : Bool) (next : ℕ) → g ≡ truth_is v next → P (k v next)) → P (on_truth g nothing k)
unfolding on_truth
truth_then (Ok v) k P z h = h v.0 v.1 refl
truth_then (Err e) k P z h = z

kept_then : (g : Result Known ℕ) (k : Known → ℕ) (P : ℕ → Type 0) → P 0 → ((now : Known) → P (k now)) → P (on_kept g nothing k)
unfolding on_kept
kept_then (Ok now) k P z h = h now
kept_then (Err e) k P z h = z

-- ---- one extension
-- beside what is looked at afterwards: each byte of the identifier and of the value once
remembered_few : (s : List ℕ) (identifier : Span) (critical : Bool) (value : Span) (known : Known) (strict : Bool) (k : Known → ℕ) (m : ℕ) → ((now : Known) → 6 * k now ≤ m)
    → 6 * remembered_looks s identifier critical value known strict k ≤ 6 * (identifier.end - identifier.start) + 6 * (value.end - value.start) + m
unfolding remembered_looks content_looks
remembered_few s identifier critical value known strict k m h =
    let kind = kind_of s identifier.start identifier.end in
    let most = 6 * (value.end - value.start) + m in
    let v = value_few s value.start value.end in
    let c : content_looks s kind value ≤ value.end - value.start = at_most (eqb kind 15) (λ e. omega arith) (λ e. v) in
    let p : 6 * on_kept (passed_over strict critical known) nothing k ≤ most = kept_then (passed_over strict critical known) k (λ n. 6 * n ≤ most) (omega arith) (λ now. omega (arith, h now)) in
    let q : 6 * (content_looks s kind value + on_content (content_of s kind value) nothing (λ a b. k (set_slot known kind (there a b)))) ≤ most =
    content_then (content_of s kind value) _ (λ n. 6 * (content_looks s kind value + n) ≤ most) (omega arith) (λ x e. omega (arith, h (set_slot known kind (there x.start x.end)))) in
    omega (arith, kind_few s identifier.start identifier.end, by kind most p q)
  where
    by : (kind most : ℕ) → 6 * on_kept (passed_over strict critical known) nothing k ≤ most
        → 6 * (content_looks s kind value + on_content (content_of s kind value) nothing (λ a b. k (set_slot known kind (there a b)))) ≤ most
        → 6 * cond (eqb kind 0) (on_kept (passed_over strict critical known) nothing k) (cond (slot_of known kind).known 0 (content_looks s kind value + on_content (content_of s kind value) nothing (λ a b. k (set_slot known kind (there a b))))) ≤ most
    by kind most p q = go (eqb kind 0) (slot_of known kind).known
      where
        go : (t u : Bool) → 6 * cond t (on_kept (passed_over strict critical known) nothing k) (cond u 0 (content_looks s kind value + on_content (content_of s kind value) nothing (λ a b. k (set_slot known kind (there a b))))) ≤ most
        go true u = p
        go false true = omega arith
        go false false = q

-- an extension that is passed has six bytes or more: seven looks for six bytes, if that holds of what comes after it
taken_few : (s : List ℕ) (at to : ℕ) (known : Known) (strict : Bool) (k : ℕ → Known → ℕ) → ((a : ℕ) (now : Known) → 6 * k a now ≤ 7 * (to - a) + 6)
    → 6 * taken_looks s at to known strict k ≤ 7 * (to - at) + 6
unfolding taken_looks extension_looks
taken_few s at to known strict k after =
    let most = 7 * (to - at) + 6 in
    let n = value_few s at to in
    expect_then s at to 48 trailing_extension _ (λ n. 6 * (value_looks s at to + n) ≤ most) (omega arith) (λ a b h.
    let m = value_few s a b in
    expect_then s a b 6 bad_der _ (λ n. 6 * (value_looks s at to + (value_looks s a b + n)) ≤ most) (omega (arith, h.cost, h.inside)) (λ c d i.
    truth_then (read_bool s d b) _ (λ n. 6 * (value_looks s at to + (value_looks s a b + (bool_looks s d b + n))) ≤ most)
    (omega (arith, bool_few s d b, h.cost, h.inside, i.cost, i.ordered, i.inside)) (λ critical next e.
    let t = bool_cost s d b next critical e in
    let u = t.inside i.inside in
    expect_then s next b 4 bad_der _ (λ n. 6 * (value_looks s at to + (value_looks s a b + (bool_looks s d b + (value_looks s next b + n)))) ≤ most)
    (omega (arith, value_few s next b, h.cost, h.inside, i.cost, i.ordered, t.cost, t.ordered)) (λ v w j.
    let l : ℕ = cond (eqb w b) (7 * (to - b) + 6) 0 in
    omega (arith, remembered_few s (span c d) critical (span v w) known strict (λ now. cond (eqb w b) (k b now) 0) l (λ now. rest (eqb w b) b now), reach (eqb w b) (λ f. eqb-true w b f), h.cost, h.after, h.inside, i.cost, i.after, i.ordered, t.cost, t.ordered, j.cost, j.after, j.ordered, j.inside)))))
  where
    rest : (t : Bool) (b : ℕ) (now : Known) → 6 * cond t (k b now) 0 ≤ cond t (7 * (to - b) + 6) 0
    rest true b now = after b now
    rest false b now = omega arith

    reach : (t : Bool) {w b : ℕ} → (t ≡ true → w ≡ b) → cond t (7 * (to - b) + 6) 0 ≤ 7 * (to - w) + 6
    reach true e = let f = e refl in omega arith
    reach false e = omega arith

-- ---- all of them
gathered_few : (s : List ℕ) (from to : ℕ) (strict : Bool) → 6 * gathered_looks s from to strict ≤ 7 * (to - from) + 6
unfolding gathered_looks
gathered_few s from to strict =
    walk_keeps to (λ at known. 0) (λ at known. taken_looks s at to known strict) (λ at n. 6 * n ≤ 7 * (to - at) + 6)
    (λ at known. omega arith) (λ at known k l after. taken_few s at to known strict k after) from none_known

pub extensions_few : (s : List ℕ) (from to : ℕ) (strict : Bool) → 6 * extensions_looks s from to strict ≤ 7 * (to - from) + 6
unfolding extensions_looks
extensions_few s from to strict = by (eqb from to)
  where
    by : (b : Bool)
        → 6 * cond b 0 (value_looks s from to + on_content (expect_at s from to 163 trailing_certificate_extensions) nothing (λ a b. value_looks s a b + on_content (expect_at s a b 48 trailing_extension) nothing (λ c d. gathered_looks s c d strict))) ≤ 7 * (to - from) + 6
    by true = omega arith
    by false =
        let v = value_few s from to in
        expect_then s from to 163 trailing_certificate_extensions _ (λ n. 6 * (value_looks s from to + n) ≤ 7 * (to - from) + 6) (omega arith) (λ a b h.
        let w = value_few s a b in
        expect_then s a b 48 trailing_extension _ (λ n. 6 * (value_looks s from to + (value_looks s a b + n)) ≤ 7 * (to - from) + 6) (omega arith) (λ c d i.
        omega (arith, gathered_few s c d strict)))
