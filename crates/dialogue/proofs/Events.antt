-- Which events the search has: an anchor is tried at a path exactly where the path is grown, is not too long, and the anchor fits. Assumes nothing.
use Prim.Native.Nat.{ℕ, zero, suc, ◌+◌, ◌-◌, ◌≤◌, ◌<◌}
use mathlib.Core.Path.{◌≡◌, refl, sym, ◌∙◌, ap, subst}
use mathlib.Core.Logic.{⊎_elim}
use mathlib.Core.List.{List, [], ◌∷◌, ◌++◌, append_assoc, append-nil, Memᴰ}
use native.Mathlib.Omega.{arith}
use native.Mathlib.Nat.{eq-or-lt_of_le}
use lib.ListN.{length}
use Rattle.refusal.specs.Refusals.{maximum_path_depth_exceeded}
use Rattle.lent.specs.Lent.{most_intermediates}
use Rattle.candidate.specs.declared.Verdict.{Verdict}
use Rattle.candidate.specs.declared.Verdict.TheVariants.{Pass, Anchor, Extend}
use Rattle.dialogue.specs.Model.{Path, World, Event, note, extension, try, leave, one, each, node, enter, events}
use Rattle.dialogue.specs.Acceptable.{Grown, start, grow}

-- ---- events that stand together in a list
pub record PartOf (part whole : List Event) : Type 0 where
  pub before : List Event
  pub after : List Event
  pub split : whole ≡ before ++ (part ++ after)

all_of : (l : List Event) → PartOf l l
all_of l = record { before = []; after = []; split = sym (append-nil l) }

in_left : {part l : List Event} (m : List Event) → PartOf part l → PartOf part (l ++ m)
in_left {part} m h = record {
  before = h.before;
  after = h.after ++ m;
  split = ap (λ (z : List Event). z ++ m) h.split ∙ append_assoc h.before (part ++ h.after) m ∙ ap (λ (z : List Event). h.before ++ z) (append_assoc part h.after m);
}

in_right : {part m : List Event} (l : List Event) → PartOf part m → PartOf part (l ++ m)
in_right {part} l h = record {
  before = l ++ h.before;
  after = h.after;
  split = ap (λ (z : List Event). l ++ z) h.split ∙ sym (append_assoc l h.before (part ++ h.after));
}

part_in : {part l m : List Event} → PartOf part l → PartOf l m → PartOf part m
part_in {part} h k = subst (λ (z : List Event). PartOf part z) (sym k.split) (in_right k.before (in_left k.after h))

pub part_has : {ev : Event} {part whole : List Event} → PartOf part whole → Memᴰ ev part → Memᴰ ev whole
part_has {ev} h m = subst (λ (z : List Event). Memᴰ ev z) (sym h.split) (mathlib.Core.List.Memᴰ.append_right h.before (mathlib.Core.List.Memᴰ.append_left h.after m))

-- ---- the candidates of a node
module _ (W : World) (deeper : Path → List Event) (q : Path) where
  part_each : (count j i : ℕ) → j ≤ i → i < j + count → PartOf (one deeper q i (W.verdict q i)) (each W deeper q count j)
  unfolding each
  part_each zero j i l h = absurd (omega arith)
  part_each (suc count) j i l h =
      ⊎_elim (λ (e : j ≡ i). in_left (each W deeper q count (suc j)) (subst (λ (n : ℕ). PartOf (one deeper q i (W.verdict q i)) (one deeper q n (W.verdict q n))) (sym e) (all_of (one deeper q i (W.verdict q i)))))
      (λ (e : j < i). in_right (one deeper q j (W.verdict q j)) (part_each count (suc j) i e (omega arith))) (eq-or-lt_of_le l)

  of_each : (ev : Event) (count j : ℕ) → Memᴰ ev (each W deeper q count j) → (i : ℕ) × (i < j + count) × Memᴰ ev (one deeper q i (W.verdict q i))
  unfolding each
  of_each ev zero j a = absurd (mathlib.Core.List.Memᴰ.not-nil a)
  of_each ev (suc count) j a =
      ⊎_elim (λ (h : Memᴰ ev (one deeper q j (W.verdict q j))). (j, omega arith, h))
      (λ (h : Memᴰ ev (each W deeper q count (suc j))). let r = of_each ev count (suc j) h in (r.0, omega arith, r.2))
      (mathlib.Core.List.Memᴰ.append_cases (one deeper q j (W.verdict q j)) a)

module _ (W : World) (end : ℕ) where
  checked : {p : Path} → Grown W end p → W.check p ≡ 0
  checked (start h) = h
  checked (grow i g l v h) = h

  -- a grown path is entered, and each of its candidates is looked at
  part_node : {p : Path} → Grown W end p → (room i : ℕ) → i < W.candidates → PartOf (one (enter W room) p i (W.verdict p i)) (enter W (suc room) p)
  unfolding enter node
  part_node {p} g room i l =
      subst (λ (x : ℕ). PartOf (one (enter W room) p i (W.verdict p i)) (node W (enter W room) p x)) (sym (checked g))
      (in_left (leave ∷ []) (part_each W (enter W room) p W.candidates 0 i (omega arith) (omega arith)))

  entered : {p : Path} → Grown W end p → (room all : ℕ) → room + length p ≡ all + 1 → PartOf (enter W room p) (enter W all (end ∷ []))
  unfolding one
  entered (start h) room all e =
      let same : room ≡ all = omega arith in
      subst (λ (n : ℕ). PartOf (enter W room (end ∷ [])) (enter W n (end ∷ []))) same (all_of (enter W room (end ∷ [])))
  entered (grow {path = p} i g l v h) room all e =
      part_in
      (part_in (in_right (extension ∷ []) (all_of (enter W room (i ∷ p))))
      (subst (λ (w : Verdict). PartOf (one (enter W room) p i w) (enter W (suc room) p)) v (part_node g room i l)))
      (entered g (suc room) all (omega arith))

  pub grown_events : {p : Path} → Grown W end p → length p ≤ suc most_intermediates → (i : ℕ) → i < W.candidates → (v : Verdict) → W.verdict p i ≡ v
      → PartOf (one (enter W (suc most_intermediates - length p)) p i v) (events W end)
  unfolding events
  grown_events {p} g h i l v e =
      part_in
      (subst (λ (w : Verdict). PartOf (one (enter W (suc most_intermediates - length p)) p i w) (enter W (suc (suc most_intermediates - length p)) p)) e
      (part_node g (suc most_intermediates - length p) i l))
      (entered g (suc (suc most_intermediates - length p)) (suc most_intermediates) (omega arith))

  -- one intermediate more than a path may have costs an extension, and is refused for it
  pub one_too_many : {p : Path} → Grown W end p → length p ≡ suc most_intermediates → (i : ℕ) → i < W.candidates → W.verdict p i ≡ Extend
      → PartOf (extension ∷ note maximum_path_depth_exceeded ∷ []) (events W end)
  unfolding one enter
  one_too_many {p} g h i l e =
      let none : suc most_intermediates - length p ≡ 0 = omega arith in
      subst (λ (n : ℕ). PartOf (one (enter W n) p i Extend) (events W end)) none (grown_events g (omega arith) i l Extend e)

  -- what is grown and fits is tried
  pub grown_tried : {p : Path} → Grown W end p → length p ≤ suc most_intermediates → (anchor : ℕ) → anchor < W.candidates → W.verdict p anchor ≡ Anchor
      → Memᴰ (try anchor p) (events W end)
  unfolding one
  grown_tried g h anchor l e = part_has (grown_events g h anchor l Anchor e) (mathlib.Core.List.Memᴰ.head refl)

  -- what is tried is grown and fits
  pub record Tried (room anchor : ℕ) (q p : Path) : Type 0 where
    pub grown : Grown W end p
    pub few : length p < length q + room
    pub candidate : anchor < W.candidates
    pub anchored : W.verdict p anchor ≡ Anchor

  tried : (room k : ℕ) (q p : Path) → (W.check q ≡ 0 → Grown W end q) → Memᴰ (try k p) (enter W room q) → Tried room k q p
  unfolding enter node one
  tried zero k q p g m =
      let z : ◌≡◌ {A = ℕ} 0 1 = cc (mathlib.Core.List.Memᴰ.eq_of_singleton m) in absurd (omega arith)
  tried (suc room) k q p g m = at_node (λ i g' m'. tried room k (i ∷ q) p g' m') (W.check q) refl m
    where
      at_one : ((i : ℕ) → (W.check (i ∷ q) ≡ 0 → Grown W end (i ∷ q)) → Memᴰ (try k p) (enter W room (i ∷ q)) → Tried room k (i ∷ q) p) → W.check q ≡ 0 → (i : ℕ) → i < W.candidates → (v : Verdict) → W.verdict q i ≡ v → Memᴰ (try k p) (one (enter W room) q i v) → Tried (suc room) k q p
      at_one rec h i l (Pass x) e a = let z : ◌≡◌ {A = ℕ} 0 1 = cc (mathlib.Core.List.Memᴰ.eq_of_singleton a) in absurd (omega arith)
      at_one rec h i l Anchor e a =
          let s : try k p ≡ try i q = mathlib.Core.List.Memᴰ.eq_of_singleton a in
          let ek : i ≡ k = cc in
          let ep : q ≡ p = cc in
          subst (λ (t : Path). Tried (suc room) k q t) ep
          (record { grown = g h; few = omega arith; candidate = omega arith; anchored = subst (λ (n : ℕ). W.verdict q n ≡ Anchor) ek e })
      at_one rec h i l Extend e a =
          ⊎_elim (λ (w : try k p ≡ extension). let z : ◌≡◌ {A = ℕ} 0 1 = cc in absurd (omega arith))
          (λ w. let r = rec i (λ h'. grow i (g h) l e h') w in
          record { grown = r.grown; few = omega (arith, r.few); candidate = r.candidate; anchored = r.anchored })
          (mathlib.Core.List.Memᴰ.cases_cons a)

      at_node : ((i : ℕ) → (W.check (i ∷ q) ≡ 0 → Grown W end (i ∷ q)) → Memᴰ (try k p) (enter W room (i ∷ q)) → Tried room k (i ∷ q) p) → (x : ℕ) → W.check q ≡ x → Memᴰ (try k p) (node W (enter W room) q x) → Tried (suc room) k q p
      at_node rec zero h a =
          ⊎_elim
          (λ (w : Memᴰ (try k p) (each W (enter W room) q W.candidates 0)).
          let r = of_each W (enter W room) q (try k p) W.candidates 0 w in
          at_one rec h r.0 (omega (arith, r.1)) (W.verdict q r.0) refl r.2)
          (λ (w : Memᴰ (try k p) (leave ∷ [])). let z : ◌≡◌ {A = ℕ} 0 1 = cc (mathlib.Core.List.Memᴰ.eq_of_singleton w) in absurd (omega arith))
          (mathlib.Core.List.Memᴰ.append_cases (each W (enter W room) q W.candidates 0) a)
      at_node rec (suc x) h a = let z : ◌≡◌ {A = ℕ} 0 1 = cc (mathlib.Core.List.Memᴰ.eq_of_singleton a) in absurd (omega arith)

  pub tried_grown : (anchor : ℕ) (p : Path) → Memᴰ (try anchor p) (events W end) → Tried (suc most_intermediates) anchor (end ∷ []) p
  unfolding events
  tried_grown anchor p m = tried (suc most_intermediates) anchor (end ∷ []) p start m
