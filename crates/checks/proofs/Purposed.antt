-- The walk over the purposes of a certificate finds the wanted one exactly if it is listed. Assumes nothing.
-- A step over one purpose goes on to a later place, or ends the walk.
use Prim.Native.Nat.{ℕ, zero, suc, ◌+◌, ◌-◌, ◌≤◌, ◌<◌}
use mathlib.Core.Path.{◌≡◌, refl, sym, ap, ◌∙◌}
use mathlib.Core.List.{List, ◌++◌}
use mathlib.Core.Bool.{Bool, true, false}
use mathlib.Core.Logic.{⊎_elim}
use lib.ListN.{length}
use lib.Dec.{lit<, ltb, eqb}
use native.Mathlib.Omega.{arith}
use borrow.Author.Tests.{lt-ltb, ne_eqb}
use Rattle.refusal.specs.Refusals.{bad_der}
use Rattle.der.specs.declared.Span.{Span}
use Rattle.der.specs.Places.{Bytes, part, LIMIT}
use Rattle.der.specs.X690.{encoding}
use Rattle.der.specs.Model.{high_tag, expect_at, on_content}
use Rattle.parts.specs.Model.{same_parts}
use Rattle.der.specs.Loop.{run, walk}
use Rattle.der.proofs.Laws.{expect_value, value_expect}
use Rattle.der.proofs.Invert.{peel, either}
use Rattle.der.proofs.Parts.{part_length, part_split, part_front, part_whole}
use Rattle.parts.proofs.Equal.{same_yes, same_equal}
use Rattle.der.proofs.Laid.{expect_laid, laid_read}
use Rattle.der.proofs.Theorems.{value_places}
use Rattle.checks.specs.Conditions.{Lists, here, later, ForPurpose}
use Rattle.checks.specs.Model.{itself, purpose_step, no_purpose, purpose_in, purposes_of}
use Rattle.checks.proofs.Contents.{found}
use Rattle.extensions.proofs.Refusals.{GotFair, got_is, got_not, expect_fair}
use Rattle.std.specs.Prelude.{Ok, Err, Result}

module _ (s : List ℕ) (to at : ℕ) where
  pub step_later : (p : Span) → expect_at s at to 6 bad_der ≡ Ok p → (at < p.end) × (p.end ≤ to)
  step_later p e = let v = value_places s at to 6 p.start p.end (expect_value s at to 6 bad_der p e) in omega arith

  module _ (wanted : List ℕ) where
    pub step_next : {p : Span} → expect_at s at to 6 bad_der ≡ Ok p → same_parts s p.start p.end wanted 0 (length wanted) ≡ false → (k : ℕ → Unit {0} → ℕ) → purpose_step s to wanted at k ≡ k p.end tt
    unfolding purpose_step on_content
    step_next e f k = rw (e, f)

    pub step_found : {p : Span} → expect_at s at to 6 bad_der ≡ Ok p → same_parts s p.start p.end wanted 0 (length wanted) ≡ true → (k : ℕ → Unit {0} → ℕ) → purpose_step s to wanted at k ≡ 0
    unfolding purpose_step on_content
    step_found e f k = rw (e, f)

    pub step_refused : {x : ℕ} → expect_at s at to 6 bad_der ≡ Err x → (k : ℕ → Unit {0} → ℕ) → purpose_step s to wanted at k ≡ x
    unfolding purpose_step on_content
    step_refused e k = rw e

-- ---- the walk finds the purpose exactly if it is listed
gone_on : (g : Result Span ℕ) (k : ℕ → ℕ → ℕ) → GotFair g → on_content g itself k ≡ 0 → (p : Span) × (g ≡ Ok p) × (k p.start p.end ≡ 0)
unfolding on_content
gone_on (Ok p) k (got_is q) e = (p, refl, e)
gone_on (Err x) k (got_not f) e = absurd (omega arith)

module _ (s : List ℕ) (b : Bytes s) (to : ℕ) (wanted : List ℕ) where
  abbrev walked : ℕ → ℕ → ℕ
  walked fuel at = run to no_purpose (λ a u. purpose_step s to wanted a) fuel at tt

  lists_step : (at : ℕ) (p : Span) → expect_at s at to 6 bad_der ≡ Ok p → (part s at to ≡ encoding 6 (part s p.start p.end) ++ part s p.end to) × (length (part s p.start p.end) < LIMIT)
  lists_step at p e =
      let l = expect_laid s b at to 6 bad_der p e in
      let n = part_length s p.start p.end (omega (arith, l.inside, l.within)) in
      let m : p.end - p.start < LIMIT = l.small in
      (part_split s at p.end to (omega (arith, l.after, l.ordered)) l.inside ∙ ap (λ (x : List ℕ). x ++ part s p.end to) l.bytes, omega arith)

  run_sound : (fuel at : ℕ) → walked fuel at ≡ 0 → Lists wanted (part s at to)
  unfolding run no_purpose purpose_step
  run_sound zero at e = absurd (omega arith)
  run_sound (suc fuel) at e =
      ⊎_elim
      (λ w.
      let g = gone_on (expect_at s at to 6 bad_der) _ (expect_fair s at to 6 bad_der (lit< tt, lit< tt)) w.1 in
      let p = g.0 in
      let l = lists_step at p g.1 in
      ⊎_elim
      (λ y.
      let same = same_yes s p.start p.end wanted 0 (length wanted) y.0 in
      let is : part s p.start p.end ≡ wanted = same.4 ∙ part_whole wanted in
      here (part s p.end to) (rw is at l.1) (l.0 ∙ ap (λ (x : List ℕ). encoding 6 x ++ part s p.end to) is))
      (λ y. later (part s p.start p.end) (part s p.end to) l.1 l.0 (run_sound fuel p.end y.1))
      (either (same_parts s p.start p.end wanted 0 (length wanted)) g.2))
      (λ w. absurd (let z = w.1 in omega arith))
      (either (ltb at to) e)

  pub purpose_sound : (from : ℕ) → purpose_in s from to wanted ≡ 0 → Lists wanted (part s from to)
  unfolding purpose_in walk
  purpose_sound from e = run_sound (to - from) from e

  -- an encoding at a place before `to` is read there
  record Read (at : ℕ) (content rest : List ℕ) : Type 0 where
    pub p : Span
    pub found : expect_at s at to 6 bad_der ≡ Ok p
    pub is : part s p.start p.end ≡ content
    pub after : at < p.end
    pub inside : p.end ≤ to
    pub ordered : p.start ≤ p.end
    pub rest_is : part s p.end to ≡ rest

  read_again : (at : ℕ) (content rest : List ℕ) → length content < LIMIT → at ≤ to → to ≤ length s → part s at to ≡ encoding 6 content ++ rest → Read at content rest
  unfolding high_tag
  read_again at content rest small h l e =
      let f = part_front s at to (encoding 6 content) rest h l e in
      let end = at + length (encoding 6 content) in
      let r = laid_read s at to 6 content end refl small l f.0 f.1 in
      record {
        p = record { start = r.start; end = end };
        found = value_expect s at to 6 bad_der r.start end r.read;
        is = r.is;
        after = omega (arith, r.place, r.ordered);
        inside = f.0;
        ordered = r.ordered;
        rest_is = f.2;
      }

  run_complete : {content : List ℕ} → Lists wanted content → (fuel at : ℕ) → to - at ≤ fuel → at ≤ to → to ≤ length s → part s at to ≡ content → walked fuel at ≡ 0
  unfolding run
  run_complete (here rest small e) zero at n h l q = absurd (let r = read_again at wanted rest small h l (q ∙ e) in omega (arith, r.after, r.inside))
  run_complete (later other rest small e i) zero at n h l q = absurd (let r = read_again at other rest small h l (q ∙ e) in omega (arith, r.after, r.inside))
  run_complete (here rest small e) (suc fuel) at n h l q =
      let r = read_again at wanted rest small h l (q ∙ e) in
      let before : at < to = omega (arith, r.after, r.inside) in
      let same = same_equal s r.p.start r.p.end wanted 0 (length wanted) r.ordered (omega (arith, r.inside)) (omega arith) (omega arith) (r.is ∙ sym (part_whole wanted)) in
      simp (lt-ltb at to before) (step_found s to at wanted r.found same _)
  run_complete (later other rest small e i) (suc fuel) at n h l q =
      let r = read_again at other rest small h l (q ∙ e) in
      let before : at < to = omega (arith, r.after, r.inside) in
      let next = run_complete i fuel r.p.end (omega (arith, r.after)) r.inside l r.rest_is in
      simp (lt-ltb at to before) (go (same_parts s r.p.start r.p.end wanted 0 (length wanted)) r refl next)
    where
      go : (x : Bool) (r : Read at other rest) → same_parts s r.p.start r.p.end wanted 0 (length wanted) ≡ x → walked fuel r.p.end ≡ 0
          → purpose_step s to wanted at (run to no_purpose (λ a u. purpose_step s to wanted a) fuel) ≡ 0
      go true r f z = step_found s to at wanted r.found f _
      go false r f z = step_next s to at wanted r.found f _ ∙ z

  pub purpose_complete : (from : ℕ) → from ≤ to → to ≤ length s → Lists wanted (part s from to) → purpose_in s from to wanted ≡ 0
  unfolding purpose_in walk
  purpose_complete from h l i = run_complete i (to - from) from (omega arith) h l refl

-- ---- with and without the extension
module _ (s : List ℕ) (b : Bytes s) (from to : ℕ) (wanted : List ℕ) where
  none_there : to ≤ from → purpose_in s from to wanted ≡ 0 → ⊥
  unfolding purpose_in walk run no_purpose
  none_there h e = let z : to - from ≡ 0 = omega arith in let y = rw z at e in omega arith

  pub purposes_sound : (there demanded : Bool) → purposes_of s there from to wanted demanded ≡ 0 → ForPurpose wanted demanded (found there (part s from to))
  unfolding purposes_of
  purposes_sound true demanded e =
      let p = peel (eqb from to) e (λ q. omega arith) in
      purpose_sound s b to wanted from p.1
  purposes_sound false true e = absurd (omega arith)
  purposes_sound false false e = refl

  pub purposes_complete : from ≤ to → to ≤ length s → (there demanded : Bool) → ForPurpose wanted demanded (found there (part s from to)) → purposes_of s there from to wanted demanded ≡ 0
  unfolding purposes_of
  purposes_complete h l true demanded p =
      let e = purpose_complete s b to wanted from h l p in
      simp (ne_eqb from to (λ q. none_there (omega arith) e)) e
  purposes_complete h l false true p = absurd (let z : ◌≡◌ {A = ℕ} 0 1 = cc in omega arith)
  purposes_complete h l false false p = refl
