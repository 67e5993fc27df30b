-- What is read as a list of extensions is the encoding of such a list. Assumes nothing.
use Prim.Native.Nat.{ℕ, zero, suc, ◌+◌, ◌-◌, ◌≤◌, ◌<◌}
use mathlib.Core.Path.{◌≡◌, refl, sym, ap, ◌∙◌}
use mathlib.Core.List.{List, [], ◌∷◌, ◌++◌}
use mathlib.Core.Bool.{Bool, true, false, cond}
use mathlib.Core.Logic.{◌⊎◌, ⊎_elim}
use lib.ListN.{length}
use native.Mathlib.Omega.{arith}
use Rattle.refusal.specs.Refusals.{bad_der, trailing_extension, trailing_certificate_extensions}
use Rattle.der.specs.declared.Span.{Span}
use Rattle.der.specs.Places.{Bytes, part}
use Rattle.der.specs.X690.{encoding}
use Rattle.der.specs.Model.{expect_at}
use Rattle.parts.specs.Lists.{same_list}
use Rattle.der.proofs.Laws.{lt_or_le}
use Rattle.parts.proofs.Equal.{same_true}
use Rattle.der.proofs.Parts.{part_length, part_split, part_none}
use Rattle.der.proofs.Loop.{Going, turn, stop, finish, start}
use Rattle.extensions.specs.declared.Known.{Known}
use Rattle.extensions.specs.declared.Extension.{Extension as Read}
use Rattle.extensions.specs.Model.{Move, Next, Stop, taken, go_on, all_kept, slot_of, none_known, gathered, extensions_at}
use Rattle.extensions.specs.Accepted.{Taken, usage, known, other, Each, none, more, KnownNumber, occurs}
use Rattle.extensions.specs.Rfc5280.{Criticality, Extension, id_ce, is_number, is_critical, sequence, object_identifier, octet_string, criticality, extension_content, extension, extension_list, Extensions, missing, present, listed, explicit, extensions}
use Rattle.extensions.specs.Layout.{place_of, value_of, kept_of, there, slot_for, slots, known_at}
use Rattle.extensions.proofs.Inversion.{ExtensionAt, taken_inv, Passed, Filled, remembered_inv, content_inv, not_kept, ListAt, extensions_inv}
use Rattle.extensions.proofs.Steps.{go_next, go_stop}
use Rattle.extensions.proofs.Value.{Here, here, here_split}
use Rattle.extensions.proofs.Small.{critical_here}
use Rattle.extensions.proofs.Numbers.{kind_inv, kind_none}
use Rattle.extensions.proofs.Slots.{Holds, Within, AllWithin, set_within, alone, kept_usage, kept_sequence, filled, after_all, used, one, set_filled, none_filled, after_more, after_none, used_few, used_filled, KnownWithin, known_within, none_within, after_first, used_none}
use Rattle.std.specs.Prelude.{Ok, Err, Result}

-- ---- one extension
-- the extension that the places cut out
abbrev cut : List ℕ → Criticality → Read → Extension
cut s form x =
    record {
      identifier = part s x.identifier.start x.identifier.end;
      critical = form;
      value = part s x.value.start x.value.end;
    }

record Cut (s : List ℕ) (at : ℕ) (whole : Span) (x : Read) : Type 0 where
  pub form : Criticality
  pub critical : x.critical ≡ is_critical form
  pub content : part s whole.start whole.end ≡ extension_content (cut s form x)
  pub value : value_of at (cut s form x) ≡ x.value
  pub within : Within s x.value.start x.value.end

cut_at : (s : List ℕ) → Bytes s → (at to : ℕ) (whole : Span) (x : Read) → Here s at to 48 whole → ExtensionAt s whole.start whole.end x → x.value.end ≡ whole.end → Cut s at whole x
unfolding extension_content object_identifier octet_string value_of
cut_at s b at to whole x w e all =
    let i = here s b whole.start whole.end 6 bad_der x.identifier e.identifier in
    let c = critical_here s b x.identifier.end whole.end x.critical e.next e.critical in
    let v = here s b e.next whole.end 4 bad_der x.value e.value in
    let o = v.inside in
    let split : part s x.identifier.end whole.end ≡ part s x.identifier.end e.next ++ part s e.next whole.end = part_split s x.identifier.end e.next whole.end c.ordered (omega (arith, v.after, v.ordered)) in
    let last : part s e.next whole.end ≡ encoding 4 (part s x.value.start x.value.end) = sym (ap (λ (n : ℕ). part s e.next n) all) ∙ v.bytes in
    let content : part s whole.start whole.end ≡ encoding 6 (part s x.identifier.start x.identifier.end) ++ (criticality c.form ++ encoding 4 (part s x.value.start x.value.end)) =
    here_split s whole.start whole.end 6 x.identifier i ∙ rw (split, c.bytes, last) in
    let place : whole ≡ place_of at (extension_content (cut s c.form x)) = w.place ∙ ap (place_of at) content in
    record {
      form = c.form;
      critical = c.is;
      content = content;
      value = rw (← place, ← i.place, ← c.length_is) (sym v.place);
      within = record { ordered = v.ordered; inside = omega (arith, v.within) };
    }

pub record StepHere (s : List ℕ) (at to : ℕ) (k : Known) (strict : Bool) (at' : ℕ) (now : Known) : Type 0 where
  pub x : Extension
  pub bytes : part s at at' ≡ extension x
  pub ahead : at < at'
  pub inside : at' ≤ to
  pub within : to ≤ length s
  pub allowed : Taken strict x
  pub set : Holds now (filled k at x)
  pub room : (n : ℕ) → KnownNumber n → used k n + one n x ≤ 1
  pub sits : AllWithin s k → AllWithin s now

-- of an extension that is not known
step_passed : (s : List ℕ) (at to : ℕ) (whole : Span) (x : Read) (k : Known) (strict : Bool) (now : Known) → Here s at to 48 whole → Here s whole.start whole.end 6 x.identifier → Cut s at whole x
    → Passed s x k strict now → StepHere s at to k strict whole.end now
unfolding extension sequence is_number one
step_passed s at to whole x k strict now w i c p =
    let never : (n : ℕ) → KnownNumber n → same_list (part s x.identifier.start x.identifier.end) (id_ce n) ≡ false =
    kind_none s x.identifier.start x.identifier.end p.kind i.ordered (omega (arith, i.within, i.inside)) in
    record {
      x = cut s c.form x;
      bytes = w.bytes ∙ ap (encoding 48) c.content;
      ahead = omega (arith, w.after, w.ordered);
      inside = w.inside;
      within = w.within;
      allowed = other never (λ t u. p.allowed t (c.critical ∙ u));
      set = rw p.same (none_filled k at (cut s c.form x) never);
      room = λ n m. rw (never n m) (omega (arith, used_few k n));
      sits = λ h. rw p.same h;
    }

-- of a known extension
record Keeps (s : List ℕ) (strict : Bool) (n at : ℕ) (x : Extension) (p : Span) : Type 0 where
  pub allowed : Taken strict x
  pub slot : there p.start p.end ≡ kept_of n at x
  pub within : Within s p.start p.end

keeps : (s : List ℕ) → Bytes s → (strict : Bool) (n at : ℕ) (x : Extension) (v p : Span) → KnownNumber n → x.identifier ≡ id_ce n → x.value ≡ part s v.start v.end → value_of at x ≡ v → Within s v.start v.end
    → ((n ≡ 15) × (p ≡ v)) ⊎ ((n ≡ 15 → ⊥) × (expect_at s v.start v.end 48 bad_der ≡ Ok p) × (p.end ≡ v.end)) → Keeps s strict n at x p
unfolding sequence
keeps s b strict n at x v p number is value place inside found =
    ⊎_elim
    (λ h. record {
      allowed = usage (is ∙ ap id_ce h.0);
      slot = rw (h.0, h.1) (kept_usage at x v place);
      within = rw h.1 inside;
    })
    (λ h.
    let w = here s b v.start v.end 48 bad_der p h.1 in
    let c : x.value ≡ encoding 48 (part s p.start p.end) = value ∙ sym (ap (λ (m : ℕ). part s v.start m) h.2) ∙ w.bytes in
    record {
      allowed = known n number h.0 is (part s p.start p.end) c;
      slot = kept_sequence n at x v p (part s p.start p.end) h.0 place c w.place h.2;
      within = record { ordered = w.ordered; inside = omega (arith, h.2, inside.inside) };
    })
    found

-- a slot that is free has room for one of its number, and for none of another
room_for : (k : Known) (m n : ℕ) (x : Extension) → x.identifier ≡ id_ce m → (slot_of k m).known ≡ false → used k n + one n x ≤ 1
unfolding one is_number used
room_for k m n x is free = go (same_list x.identifier (id_ce n)) refl
  where
    go : (b : Bool) → same_list x.identifier (id_ce n) ≡ b → cond (slot_of k n).known 1 0 + cond b 1 0 ≤ 1
    go true t =
        let e : id_ce m ≡ id_ce n = sym is ∙ same_true x.identifier (id_ce n) t in
        let i : m ≡ n = cc in
        let f : (slot_of k n).known ≡ false = rw i at free in
        rw f (omega arith)
    go false t = few (slot_of k n).known
      where
        few : (b : Bool) → cond b 1 0 + 0 ≤ 1
        few true = omega arith
        few false = omega arith

step_filled : (s : List ℕ) → Bytes s → (at to : ℕ) (whole : Span) (x : Read) (k : Known) (strict : Bool) (now : Known) → Here s at to 48 whole → Cut s at whole x
    → Filled s x k now → StepHere s at to k strict whole.end now
unfolding extension sequence
step_filled s b at to whole x k strict now w c f =
    let i = kind_inv s x.identifier.start x.identifier.end f.is f.some in
    let e = cut s c.form x in
    let h = keeps s b strict f.kind at e x.value f.content i.0 i.1 refl c.value c.within (content_inv s f.kind x.value f.content f.found) in
    record {
      x = e;
      bytes = w.bytes ∙ ap (encoding 48) c.content;
      ahead = omega (arith, w.after, w.ordered);
      inside = w.inside;
      within = w.within;
      allowed = h.allowed;
      set = rw f.set (set_filled f.kind (there f.content.start f.content.end) k at e i.1 h.slot);
      room = λ n m. room_for k f.kind n e i.1 f.free;
      sits = λ y. rw f.set (set_within s k f.kind (there f.content.start f.content.end) h.within y);
    }

pub step_here : (s : List ℕ) → Bytes s → (at to : ℕ) (k : Known) (strict : Bool) (at' : ℕ) (now : Known) → taken s at to k strict ≡ Next at' now → StepHere s at to k strict at' now
step_here s b at to k strict at' now e =
    let t = taken_inv s at to k strict at' now e in
    let w = here s b at to 48 trailing_extension t.whole t.outer in
    let i = here s b t.whole.start t.whole.end 6 bad_der t.x.identifier t.inner.identifier in
    let c = cut_at s b at to t.whole t.x w t.inner t.all in
    rw t.next
    (⊎_elim
    (λ p. step_passed s at to t.whole t.x k strict now w i c p)
    (λ f. step_filled s b at to t.whole t.x k strict now w c f)
    (remembered_inv s t.x k strict now t.kept))

-- ---- a list
pub record ListHere (s : List ℕ) (at to : ℕ) (k : Known) (strict : Bool) (now : Known) : Type 0 where
  pub xs : List Extension
  pub bytes : part s at to ≡ extension_list xs
  pub each : Each strict xs
  pub set : Holds now (after_all k at xs)
  pub room : (n : ℕ) → KnownNumber n → used k n + occurs n xs ≤ 1
  pub sits : AllWithin s k → AllWithin s now

list_none : (s : List ℕ) (at : ℕ) (k : Known) (strict : Bool) → ListHere s at at k strict k
unfolding extension_list occurs
list_none s at k strict =
    record {
      xs = [];
      bytes = part_none s at;
      each = none;
      set = after_none k at;
      room = λ n m. omega (arith, used_few k n);
      sits = λ h. h;
    }

list_more : (s : List ℕ) (at at' to : ℕ) (k k' : Known) (strict : Bool) (now : Known) → StepHere s at to k strict at' k' → ListHere s at' to k' strict now → ListHere s at to k strict now
unfolding extension_list occurs one
list_more s at at' to k k' strict now t l =
    let x = t.x in
    let xs = l.xs in
    let o = t.inside in
    let a = t.ahead in
    let n : at' ≡ at + length (extension x) = omega (arith, sym (ap length t.bytes) ∙ part_length s at at' (omega (arith, t.within))) in
    let count : (n : ℕ) → KnownNumber n → used k n + (cond (is_number n x) 1 0 + occurs n xs) ≤ 1 =
    λ n m. omega (arith, used_filled k k' at x n m t.set (t.room n m), l.room n m) in
    record {
      xs = x ∷ xs;
      bytes = part_split s at at' to (omega arith) o ∙ rw (t.bytes, l.bytes);
      each = more t.allowed l.each;
      set = after_more k k' now at x xs (λ m h i. alone (used k m) (occurs m xs) (is_number m x) i (count m h)) t.set (rw n at l.set);
      room = count;
      sits = λ h. l.sits (t.sits h);
    }

module _ (s : List ℕ) (b : Bytes s) (to : ℕ) (strict : Bool) where
  abbrev steps : ℕ → Known → (ℕ → Known → Result Known ℕ) → Result Known ℕ
  steps at k = go_on (taken s at to k strict)

  one_step : (fuel at : ℕ) (k now : Known) {r : Result Known ℕ} → r ≡ Ok now → Going to all_kept steps r at k → at < to
      → ((at' : ℕ) (k' : Known) → at < at' → at' ≤ to → Going to all_kept steps r at' k' → ListHere s at' to k' strict now)
      → (x : Move) → taken s at to k strict ≡ x → ListHere s at to k strict now
  one_step fuel at k now e g h again (Next at' k') t =
      let y = step_here s b at to k strict at' k' t in
      list_more s at at' to k k' strict now y (again at' k' y.ahead y.inside (turn to all_kept steps at at' k k' g h y.ahead (go_next t)))
  one_step fuel at k now e g h again (Stop n) t = absurd (not_kept n (stop to all_kept steps at k (Err n) g h (go_stop t) ∙ e))

  pub list_here : (fuel at : ℕ) (k now : Known) {r : Result Known ℕ} → to - at ≤ fuel → at ≤ to → r ≡ Ok now → Going to all_kept steps r at k → ListHere s at to k strict now
  unfolding all_kept
  list_here zero at k now l h e g =
      let n : at ≡ to = omega arith in
      let f : Ok k ≡ Ok now = finish to all_kept steps at k g (omega arith) ∙ e in
      let z : k ≡ now = cc in
      rw (← n, ← z) (list_none s at k strict)
  list_here (suc fuel) at k now l h e g =
      ⊎_elim
      (λ m. one_step fuel at k now e g m (λ at' k' a i g'. list_here fuel at' k' now (omega arith) i e g') (taken s at to k strict) refl)
      (λ m.
      let n : at ≡ to = omega arith in
      let f : Ok k ≡ Ok now = finish to all_kept steps at k g m ∙ e in
      let z : k ≡ now = cc in
      rw (← n, ← z) (list_none s at k strict))
      (lt_or_le at to)

-- ---- all of them
pub record ExtensionsHere (s : List ℕ) (from to : ℕ) (strict : Bool) (k : Known) : Type 0 where
  pub es : Extensions
  pub bytes : part s from to ≡ extensions es
  pub known_is : k ≡ known_at from es
  pub each : Each strict (listed es)
  pub once : (n : ℕ) → KnownNumber n → occurs n (listed es) ≤ 1
  pub sits : KnownWithin s k

no_extensions : (s : List ℕ) (from : ℕ) (strict : Bool) → ExtensionsHere s from from strict none_known
unfolding extensions known_at listed occurs none_known slots slot_for
no_extensions s from strict =
    record {
      es = missing;
      bytes = part_none s from;
      known_is = refl;
      each = none;
      once = λ n m. omega arith;
      sits = known_within s none_known (none_within s);
    }

some_extensions : (s : List ℕ) → Bytes s → (from to : ℕ) (strict : Bool) (k : Known) → ListAt s from to strict k → ExtensionsHere s from to strict k
unfolding extensions known_at listed explicit sequence gathered
some_extensions s b from to strict k l =
    let f = here s b from to 163 trailing_certificate_extensions l.field l.outer in
    let g = here s b l.field.start l.field.end 48 trailing_extension l.list l.inner in
    let h = list_here s b l.list.end strict (l.list.end - l.list.start) l.list.start none_known k (omega arith) g.ordered l.all (start l.list.end all_kept (λ at x. go_on (taken s at l.list.end x strict)) l.list.start none_known) in
    let inner : part s l.field.start l.field.end ≡ encoding 48 (extension_list h.xs) = sym (ap (λ (n : ℕ). part s l.field.start n) l.list_end) ∙ g.bytes ∙ ap (encoding 48) h.bytes in
    let field : l.field ≡ place_of from (encoding 48 (extension_list h.xs)) = f.place ∙ ap (place_of from) inner in
    let list : l.list ≡ place_of l.field.start (extension_list h.xs) = g.place ∙ ap (place_of l.field.start) h.bytes in
    record {
      es = present h.xs;
      bytes = sym (ap (λ (n : ℕ). part s from n) l.field_end) ∙ f.bytes ∙ ap (encoding 163) inner;
      known_is = after_first k l.list.start h.xs h.set ∙ ap (λ (p : Span). slots p.start h.xs) list ∙ ap (λ (p : Span). slots (place_of p.start (extension_list h.xs)).start h.xs) field;
      each = h.each;
      once = λ n m. omega (arith, h.room n m, used_none n m);
      sits = known_within s k (h.sits (none_within s));
    }

pub extensions_here : (s : List ℕ) → Bytes s → (from to : ℕ) (strict : Bool) (k : Known) → extensions_at s from to strict ≡ Ok k → ExtensionsHere s from to strict k
extensions_here s b from to strict k e =
    ⊎_elim
    (λ h. rw (← h.0, h.1) (no_extensions s from strict))
    (λ l. some_extensions s b from to strict k l)
    (extensions_inv s from to strict k e)
