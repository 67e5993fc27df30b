-- The encoding of every list of extensions within the rules is read, with the slots of its layout. Assumes nothing.
use Prim.Native.Nat.{ℕ, ◌+◌, ◌-◌, ◌≤◌, ◌<◌}
use mathlib.Core.Path.{◌≡◌, refl, sym, ap, ◌∙◌}
use mathlib.Core.List.{List, [], ◌∷◌, ◌++◌}
use mathlib.Core.Bool.{Bool, true, false, cond}
use lib.ListN.{length}
use native.Mathlib.Omega.{arith}
use Rattle.refusal.specs.Refusals.{bad_der, trailing_extension, trailing_certificate_extensions}
use Rattle.der.specs.declared.Span.{Span}
use Rattle.der.specs.Places.{part, LIMIT}
use Rattle.der.specs.X690.{encoding}
use Rattle.der.specs.Model.{expect_at}
use Rattle.parts.specs.Lists.{same_list}
use Rattle.parts.proofs.Equal.{same_refl}
use Rattle.der.proofs.Parts.{part_length}
use Rattle.der.proofs.Loop.{Going, turn, finish, start}
use Rattle.extensions.specs.declared.Known.{Known}
use Rattle.extensions.specs.declared.Extension.{Extension as Read}
use Rattle.extensions.specs.Model.{Next, extension_in, content_of, slot_of, set_slot, remembered, taken, go_on, all_kept, none_known, gathered, extensions_at}
use Rattle.extensions.specs.Accepted.{Taken, usage, known, other, Each, more, KnownNumber, key_usage, occurs}
use Rattle.extensions.specs.Rfc5280.{Extension, id_ce, is_number, is_critical, sequence, object_identifier, octet_string, criticality, extension_content, extension, extension_list, Extensions, missing, present, listed, explicit, extensions}
use Rattle.extensions.specs.Layout.{place_of, value_of, kept_of, there, slot_for, slots, known_at}
use Rattle.extensions.proofs.Cases.{extension_case, remembered_case, passed_case, usage_case, content_case, taken_case, extensions_case}
use Rattle.extensions.proofs.Steps.{go_next}
use Rattle.extensions.proofs.Value.{place_end, find_in, find_last_in}
use Rattle.extensions.proofs.Small.{critical_found}
use Rattle.extensions.proofs.Numbers.{number_some, kind_is, none_kind}
use Rattle.extensions.proofs.Slots.{Holds, alone, kept_usage, kept_sequence, filled, after_all, used, one, set_filled, none_filled, after_more, after_none, used_filled, used_none, after_first}
use borrow.Author.Tests.{eq-eqb}
use Rattle.std.specs.Prelude.{Ok, Result}

-- ---- one extension
-- the three values of an extension that is encoded at `at`
abbrev placed : ℕ → Extension → Read
placed at x =
    record {
      identifier = place_of (place_of at (extension_content x)).start x.identifier;
      critical = is_critical x.critical;
      value = value_of at x;
    }

record Parts (s : List ℕ) (at to : ℕ) (x : Extension) (rest : List ℕ) : Type 0 where
  pub outer : expect_at s at to 48 trailing_extension ≡ Ok (place_of at (extension_content x))
  pub inner : extension_in s (place_of at (extension_content x)).start (place_of at (extension_content x)).end ≡ Ok (placed at x)
  pub identifier : part s (placed at x).identifier.start (placed at x).identifier.end ≡ x.identifier
  pub identifier_ordered : (placed at x).identifier.start ≤ (placed at x).identifier.end
  pub identifier_inside : (placed at x).identifier.end ≤ to
  pub value : part s (value_of at x).start (value_of at x).end ≡ x.value
  pub value_after : at < (value_of at x).start
  pub ahead : at < (place_of at (extension_content x)).end
  pub value_ordered : (value_of at x).start ≤ (value_of at x).end
  pub all : (value_of at x).end ≡ (place_of at (extension_content x)).end
  pub next : (place_of at (extension_content x)).end ≡ at + length (extension x)
  pub inside : (place_of at (extension_content x)).end ≤ to
  pub left : part s (place_of at (extension_content x)).end to ≡ rest

octets_are : (xs : List ℕ) → octet_string xs ≡ encoding 4 xs
unfolding octet_string
octets_are xs = refl

content_is : (x : Extension) → extension_content x ≡ encoding 6 x.identifier ++ (criticality x.critical ++ octet_string x.value)
unfolding extension_content object_identifier
content_is x = refl

parts_of : (s : List ℕ) (at to : ℕ) (x : Extension) (rest : List ℕ) → at ≤ to → to ≤ length s → to - at < LIMIT → part s at to ≡ extension x ++ rest → Parts s at to x rest
unfolding extension sequence value_of
parts_of s at to x rest h l small e =
    let w = place_of at (extension_content x) in
    let f = find_in s at to 48 (extension_content x) rest refl small h l e in
    let fi = f.inside in
    let fa = f.after in
    let content : part s w.start w.end ≡ encoding 6 x.identifier ++ (criticality x.critical ++ octet_string x.value) = f.content ∙ content_is x in
    let i = find_in s w.start w.end 6 x.identifier (criticality x.critical ++ octet_string x.value) refl (omega arith) f.ordered (omega arith) content in
    let ii = i.inside in
    let ia = i.after in
    let io = i.ordered in
    let p = place_of w.start x.identifier in
    let c = critical_found s p.end w.end x.critical x.value i.inside (omega arith) i.left in
    let at₂ = p.end + length (criticality x.critical) in
    let ci : at₂ ≤ w.end = c.1 in
    let v = find_last_in s at₂ w.end 4 x.value refl (omega arith) c.1 (omega arith) (c.2 ∙ octets_are x.value) in
    record {
      outer = f.found trailing_extension;
      inner = extension_case s w.start w.end (i.found bad_der) c.0 (v.0.found bad_der);
      identifier = i.content;
      identifier_ordered = i.ordered;
      identifier_inside = omega arith;
      value = v.0.content;
      value_after = omega (arith, v.0.after);
      ahead = omega (arith, f.ordered);
      value_ordered = v.0.ordered;
      all = v.1;
      next = place_end at 48 (extension_content x);
      inside = f.inside;
      left = f.left;
    }

sequence_is : (xs : List ℕ) → sequence xs ≡ encoding 48 xs
unfolding sequence
sequence_is xs = refl

never_is : (n : ℕ) (x : Extension) → is_number n x ≡ false → same_list x.identifier (id_ce n) ≡ false
unfolding is_number
never_is n x e = e

-- an extension that has number n, and a slot that is still free
pub number_is : (n : ℕ) (x : Extension) → x.identifier ≡ id_ce n → is_number n x ≡ true
unfolding is_number
number_is n x e = rw e (same_refl (id_ce n))

slot_free : (k : Known) (n : ℕ) (x : Extension) → x.identifier ≡ id_ce n → used k n + one n x ≤ 1 → (slot_of k n).known ≡ false
unfolding used one
slot_free k n x e h = go (slot_of k n).known (rw (number_is n x e) at h)
  where
    go : (b : Bool) → cond b 1 0 + 1 ≤ 1 → b ≡ false
    go true i = absurd (omega arith)
    go false i = refl

-- an extension that is taken leaves slots of which `filled` says what they hold
record Remembered (s : List ℕ) (at : ℕ) (x : Extension) (k : Known) (strict : Bool) : Type 0 where
  pub now : Known
  pub found : remembered s (placed at x) k strict ≡ Ok now
  pub set : Holds now (filled k at x)

kept_known : (s : List ℕ) (at to : ℕ) (x : Extension) (rest : List ℕ) (k : Known) (strict : Bool) (n : ℕ) (p : Span) → to ≤ length s → Parts s at to x rest → KnownNumber n → x.identifier ≡ id_ce n
    → used k n + one n x ≤ 1 → content_of s n (value_of at x) ≡ Ok p → there p.start p.end ≡ kept_of n at x → Remembered s at x k strict
kept_known s at to x rest k strict n p l parts number is room found slot =
    let i = (placed at x).identifier in
    let inside = parts.identifier_inside in
    record {
      now = set_slot k n (there p.start p.end);
      found = remembered_case s (placed at x) k strict
          (kind_is s i.start i.end number parts.identifier_ordered (omega arith) (parts.identifier ∙ is))
          (number_some n number)
          (slot_free k n x is room)
          found;
      set = set_filled n (there p.start p.end) k at x is slot;
    }

remembers : (s : List ℕ) (at to : ℕ) (x : Extension) (rest : List ℕ) (k : Known) (strict : Bool) → to ≤ length s → to - at < LIMIT → Parts s at to x rest → Taken strict x
    → ((n : ℕ) → KnownNumber n → used k n + one n x ≤ 1) → Remembered s at x k strict
remembers s at to x rest k strict l small p (usage is) room =
    kept_known s at to x rest k strict 15 (value_of at x) l p key_usage is (room 15 key_usage) (usage_case s (value_of at x)) (kept_usage at x (value_of at x) refl)
remembers s at to x rest k strict l small p (known n number not is content value) room =
    let v = value_of at x in
    let i = p.inside in
    let a = p.all in
    let o = p.value_ordered in
    let b = p.value_after in
    let f = find_last_in s v.start v.end 48 content refl (omega arith) p.value_ordered (omega arith) (p.value ∙ value ∙ sequence_is content) in
    kept_known s at to x rest k strict n (place_of v.start content) l p number is (room n number)
    (content_case s n v not (f.0.found bad_der) f.1)
    (kept_sequence n at x v (place_of v.start content) content not refl (value ∙ sequence_is content) refl f.1)
remembers s at to x rest k strict l small p (other never allowed) room =
    record {
      now = k;
      found = passed_case s (placed at x) k strict
          (none_kind s (placed at x).identifier.start (placed at x).identifier.end (λ n m. rw p.identifier (never_is n x (never n m))))
          allowed;
      set = none_filled k at x never;
    }

pub record StepFound (s : List ℕ) (at to : ℕ) (x : Extension) (rest : List ℕ) (k : Known) (strict : Bool) : Type 0 where
  pub now : Known
  pub found : taken s at to k strict ≡ Next (at + length (extension x)) now
  pub set : Holds now (filled k at x)
  pub ahead : at < at + length (extension x)
  pub inside : at + length (extension x) ≤ to
  pub left : part s (at + length (extension x)) to ≡ rest

-- one extension is taken, and its slot filled
pub step_found : (s : List ℕ) (at to : ℕ) (x : Extension) (rest : List ℕ) (k : Known) (strict : Bool) → at ≤ to → to ≤ length s → to - at < LIMIT → part s at to ≡ extension x ++ rest
    → Taken strict x → ((n : ℕ) → KnownNumber n → used k n + one n x ≤ 1) → StepFound s at to x rest k strict
step_found s at to x rest k strict h l small e allowed room =
    let p = parts_of s at to x rest h l small e in
    let r = remembers s at to x rest k strict l small p allowed room in
    let n = p.next in
    let i = p.inside in
    let a = p.ahead in
    record {
      now = r.now;
      found = taken_case s at to k strict p.outer p.inner r.found p.all ∙ ap (λ (m : ℕ). Next m r.now) n;
      set = r.set;
      ahead = omega arith;
      inside = omega arith;
      left = rw (← n) p.left;
    }

-- ---- a list
pub record ListFound (k : Known) (at : ℕ) (xs : List Extension) (r : Result Known ℕ) : Type 0 where
  pub now : Known
  pub found : r ≡ Ok now
  pub set : Holds now (after_all k at xs)

module _ (s : List ℕ) (to : ℕ) (strict : Bool) (l : to ≤ length s) where
  abbrev steps : ℕ → Known → (ℕ → Known → Result Known ℕ) → Result Known ℕ
  steps at k = go_on (taken s at to k strict)

  pub list_found : (xs : List Extension) (at : ℕ) (k : Known) {r : Result Known ℕ} → at ≤ to → to - at < LIMIT → part s at to ≡ extension_list xs → Each strict xs
      → ((n : ℕ) → KnownNumber n → used k n + occurs n xs ≤ 1) → Going to all_kept steps r at k → ListFound k at xs r
  unfolding all_kept extension_list occurs one
  list_found [] at k h small e each room g =
      let n : to - at ≡ 0 = sym (part_length s at to l) ∙ ap length e in
      record { now = k; found = sym (finish to all_kept steps at k g (omega arith)); set = after_none k at }
  list_found (x ∷ xs) at k h small e (more allowed each) room g =
      let t = step_found s at to x (extension_list xs) k strict h l small e allowed (λ n m. omega (arith, room n m)) in
      let at' = at + length (extension x) in
      let b : at < at' = t.ahead in
      let c : at' ≤ to = t.inside in
      let r = list_found xs at' t.now c (omega arith) t.left each
      (λ n m. omega (arith, used_filled k t.now at x n m t.set (omega (arith, room n m)), room n m))
      (turn to all_kept steps at at' k t.now g (omega arith) b (go_next t.found)) in
      record {
        now = r.now;
        found = r.found;
        set = after_more k t.now r.now at x xs (λ n m i. alone (used k n) (occurs n xs) (is_number n x) i (room n m)) t.set r.set;
      }

-- ---- all of them
extensions_missing : (s : List ℕ) (from to : ℕ) (strict : Bool) → from ≡ to → extensions_at s from to strict ≡ Ok (slots 0 [])
unfolding extensions_at none_known slots slot_for
extensions_missing s from to strict h = rw (eq-eqb from to h)

list_whole : (s : List ℕ) (from to : ℕ) (strict : Bool) (xs : List Extension) → from ≤ to → to ≤ length s → to - from < LIMIT → part s from to ≡ extension_list xs → Each strict xs
    → ((n : ℕ) → KnownNumber n → occurs n xs ≤ 1) → gathered s from to strict ≡ Ok (slots from xs)
unfolding gathered
list_whole s from to strict xs h l small e each once =
    let r = list_found s to strict l xs from none_known h small e each (λ n m. omega (arith, once n m, used_none n m)) (start to all_kept (λ at x. go_on (taken s at to x strict)) from none_known) in
    r.found ∙ ap Ok (after_first r.now from xs r.set)

pub extensions_found : (s : List ℕ) (from to : ℕ) (strict : Bool) (es : Extensions) → from ≤ to → to ≤ length s → to - from < LIMIT → part s from to ≡ extensions es → Each strict (listed es)
    → ((n : ℕ) → KnownNumber n → occurs n (listed es) ≤ 1) → extensions_at s from to strict ≡ Ok (known_at from es)
unfolding extensions listed known_at explicit sequence
extensions_found s from to strict missing h l small e each once =
    let n : to - from ≡ 0 = sym (part_length s from to l) ∙ ap length e in
    extensions_missing s from to strict (omega arith)
extensions_found s from to strict (present xs) h l small e each once =
    let f = find_last_in s from to 163 (encoding 48 (extension_list xs)) refl small h l e in
    let p = place_of from (encoding 48 (extension_list xs)) in
    let i = f.0.inside in
    let a = f.0.after in
    let o = f.0.ordered in
    let g = find_last_in s p.start p.end 48 (extension_list xs) refl (omega arith) f.0.ordered (omega arith) f.0.content in
    let q = place_of p.start (extension_list xs) in
    let j = g.0.inside in
    let b = g.0.after in
    let r = list_whole s q.start q.end strict xs g.0.ordered (omega arith) (omega arith) g.0.content each once in
    extensions_case s from to strict (λ n. omega arith) (f.0.found trailing_certificate_extensions) (g.0.found trailing_extension) r g.1 f.1
