-- What a change of the two lists leaves of the events, each law under the test that leads there. Assumes nothing.
use Prim.Native.Nat.{ℕ, zero, suc, ◌+◌, ◌-◌, ◌≤◌, ◌<◌}
use mathlib.Core.Path.{◌≡◌, refl, sym, ◌∙◌, ap}
use mathlib.Core.List.{List, [], ◌∷◌, ◌++◌, append_assoc}
use native.Mathlib.Omega.{arith}
use native.Mathlib.Numerals.{add-one}
use lib.ListN.{length, get_or, set}
use lib.Seq.{get_or-set_same, get_or-set_other}
use Rattle.refusal.specs.Refusals.{maximum_path_depth_exceeded}
use Rattle.candidate.specs.declared.Verdict.{Verdict}
use Rattle.dialogue.specs.Model.{Path, World, Event, note, leave, one, each, node, enter, events}
use Rattle.lent.specs.Lent.{most_intermediates, lower, pre}
use Rattle.machine.specs.Levels.{under, remaining}

-- ---- a store at a level or above it changes nothing below
pub lower_set : (path : List ℕ) (j v d : ℕ) → d ≤ j → lower (set path j v) d ≡ lower path d
unfolding lower
lower_set path j v zero h = refl
lower_set path j v (suc d) h =
    let e : get_or (set path j v) d 0 ≡ get_or path d 0 = get_or-set_other path j d v 0 (omega arith) in
    let t : lower (set path j v) d ≡ lower path d = lower_set path j v d (omega arith) in
    cc

pub lower_step : (path : List ℕ) (d : ℕ) → (d ≡ 0 → ⊥) → lower path d ≡ pre path (d - 1)
unfolding lower
lower_step path zero h = absurd (h refl)
lower_step path (suc d) h = let e : suc d - 1 ≡ d = omega arith in ap (λ (n : ℕ). pre path n) (sym e)

-- a path with one more certificate
pub pre_push : (path : List ℕ) (d i : ℕ) → d + 1 < length path → pre (set path (d + 1) i) (d + 1) ≡ i ∷ pre path d
unfolding lower
pre_push path d i h =
    let t : get_or (set path (d + 1) i) (d + 1) 0 ≡ i = get_or-set_same path (d + 1) i 0 h in
    let l : lower (set path (d + 1) i) (d + 1) ≡ pre path d = ap (lower (set path (d + 1) i)) (add-one d) ∙ lower_set path (d + 1) i (suc d) (omega arith) in
    cc

module _ (W : World) where
  under_next : (path next : List ℕ) (k w d : ℕ) → d ≤ k → under W path (set next k w) d ≡ under W path next d
  unfolding under
  under_next path next k w zero g = refl
  under_next path next k w (suc d) g =
      let f : get_or (set next k w) d 0 ≡ get_or next d 0 = get_or-set_other next k d w 0 (omega arith) in
      let u : under W path (set next k w) d ≡ under W path next d = under_next path next k w d (omega arith) in
      cc

  under_path : (path next : List ℕ) (j v d : ℕ) → d ≤ j → under W (set path j v) next d ≡ under W path next d
  unfolding under
  under_path path next j v zero h = refl
  under_path path next j v (suc d) h =
      let e : get_or (set path j v) d 0 ≡ get_or path d 0 = get_or-set_other path j d v 0 (omega arith) in
      let t : lower (set path j v) d ≡ lower path d = lower_set path j v d (omega arith) in
      let u : under W (set path j v) next d ≡ under W path next d = under_path path next j v d (omega arith) in
      cc

  -- ---- a new path
  pub enter_deep : (room : ℕ) (q : Path) → room ≡ 0 → enter W room q ≡ note maximum_path_depth_exceeded ∷ []
  unfolding enter
  enter_deep room q h = ap (λ (n : ℕ). enter W n q) h

  pub enter_refused : (room : ℕ) (q : Path) (x : ℕ) → 0 < room → W.check q ≡ x → (x ≡ 0 → ⊥) → enter W room q ≡ note x ∷ []
  unfolding enter node
  enter_refused zero q x h e z = absurd (omega arith)
  enter_refused (suc room) q zero h e z = absurd (z refl)
  enter_refused (suc room) q (suc x) h e z = ap (λ (n : ℕ). node W (enter W room) q n) e

  enter_goes : (room less : ℕ) (q : Path) → room ≡ suc less → W.check q ≡ 0 → enter W room q ≡ each W (enter W less) q W.candidates 0 ++ (leave ∷ [])
  unfolding enter node
  enter_goes room less q h e = ap (λ (n : ℕ). enter W n q) h ∙ ap (λ (n : ℕ). node W (enter W less) q n) e

  -- ---- the start
  pub events_refused : (end x : ℕ) → W.check (end ∷ []) ≡ x → (x ≡ 0 → ⊥) → events W end ≡ note x ∷ []
  unfolding events
  events_refused end x e z = enter_refused (suc most_intermediates) (end ∷ []) x (omega arith) e z

  pub events_start : (end : ℕ) (path next : List ℕ) → W.check (end ∷ []) ≡ 0 → get_or path 0 0 ≡ end → get_or next 0 0 ≡ 0 → events W end ≡ remaining W path next 0
  unfolding events under lower
  events_start end path next e p q =
      let n : W.candidates - get_or next 0 0 ≡ W.candidates = omega arith in
      enter_goes (suc most_intermediates) most_intermediates (end ∷ []) refl e
      ∙ ap (λ (i : ℕ). each W (enter W most_intermediates) (end ∷ []) W.candidates i ++ (leave ∷ [])) (sym q)
      ∙ ap (λ (m : ℕ). each W (enter W most_intermediates) (end ∷ []) m (get_or next 0 0) ++ (leave ∷ [])) (sym n)
      ∙ ap (λ (x : ℕ). each W (enter W most_intermediates) (x ∷ []) (W.candidates - get_or next 0 0) (get_or next 0 0) ++ (leave ∷ [])) (sym p)

  -- ---- a level that is done
  module _ (path next : List ℕ) (d : ℕ) where
    each_none : (deeper : Path → List Event) (p : Path) (m i : ℕ) → m ≡ 0 → each W deeper p m i ≡ []
    unfolding each
    each_none deeper p m i h = ap (λ (n : ℕ). each W deeper p n i) h

    pub level_done : W.candidates ≤ get_or next d 0 → remaining W path next d ≡ leave ∷ under W path next d
    level_done h =
        ap (λ (l : List Event). l ++ (leave ∷ under W path next d))
        (each_none (enter W (most_intermediates - d)) (pre path d) (W.candidates - get_or next d 0) (get_or next d 0) (omega arith))

    pub under_bottom : d ≡ 0 → under W path next d ≡ []
    unfolding under
    under_bottom h = ap (λ (n : ℕ). under W path next n) h

    -- ---- the next candidate at a level
    each_next : (deeper : Path → List Event) (p : Path) (m i : ℕ) → i < m → each W deeper p (m - i) i ≡ one deeper p i (W.verdict p i) ++ each W deeper p (m - suc i) (suc i)
    unfolding each
    each_next deeper p m i h = let e : m - i ≡ suc (m - suc i) = omega arith in ap (λ (n : ℕ). each W deeper p n i) e

    pub level_next : (v : Verdict) → get_or next d 0 < W.candidates → d < length next → W.verdict (pre path d) (get_or next d 0) ≡ v
        → remaining W path next d ≡ one (enter W (most_intermediates - d)) (pre path d) (get_or next d 0) v ++ remaining W path (set next d (get_or next d 0 + 1)) d
    level_next v some l w =
        let i = get_or next d 0 in
        let p = pre path d in
        let deeper = enter W (most_intermediates - d) in
        let stepped = set next d (get_or next d 0 + 1) in
        let u = under W path next d in
        let eu : under W path stepped d ≡ u = under_next path next d (i + 1) d (omega arith) in
        let en : get_or stepped d 0 ≡ suc i = get_or-set_same next d (i + 1) 0 l ∙ add-one i in
        ap (λ (x : List Event). x ++ (leave ∷ u)) (each_next deeper p W.candidates i some)
        ∙ append_assoc (one deeper p i (W.verdict p i)) (each W deeper p (W.candidates - suc i) (suc i)) (leave ∷ u)
        ∙ ap (λ (x : List Event). one deeper p i (W.verdict p i) ++ (each W deeper p (W.candidates - suc i) (suc i) ++ (leave ∷ x))) (sym eu)
        ∙ ap (λ (n : ℕ). one deeper p i (W.verdict p i) ++ (each W deeper p (W.candidates - n) n ++ (leave ∷ under W path stepped d))) (sym en)
        ∙ ap (λ (x : Verdict). one deeper p i x ++ remaining W path stepped d) w

    -- ---- a path that is extended
    pub level_push : (i : ℕ) → d < most_intermediates → d + 1 < length path → d + 1 < length next → W.check (i ∷ pre path d) ≡ 0
        → enter W (most_intermediates - d) (i ∷ pre path d) ++ remaining W path next d ≡ remaining W (set path (d + 1) i) (set next (d + 1) 0) (d + 1)
    unfolding under lower
    level_push i room lp ln e =
        let longer = set path (d + 1) i in
        let fresh = set next (d + 1) 0 in
        let tp : get_or longer (d + 1) 0 ≡ i = get_or-set_same path (d + 1) i 0 lp in
        let np : get_or fresh (d + 1) 0 ≡ 0 = get_or-set_same next (d + 1) 0 0 ln in
        let m : W.candidates - get_or fresh (d + 1) 0 ≡ W.candidates = omega arith in
        let l : lower longer (d + 1) ≡ pre path d = ap (lower longer) (add-one d) ∙ lower_set path (d + 1) i (suc d) (omega arith) in
        let u : under W longer fresh (d + 1) ≡ remaining W path next d =
        ap (under W longer fresh) (add-one d) ∙ under_path path fresh (d + 1) i (suc d) (omega arith) ∙ under_next path next (d + 1) 0 (suc d) (omega arith) in
        let all : remaining W longer fresh (d + 1) ≡ each W (enter W (most_intermediates - (d + 1))) (i ∷ pre path d) W.candidates 0 ++ (leave ∷ remaining W path next d) = cc in
        ap (λ (x : List Event). x ++ remaining W path next d) (enter_goes (most_intermediates - d) (most_intermediates - (d + 1)) (i ∷ pre path d) (omega arith) e)
        ∙ append_assoc (each W (enter W (most_intermediates - (d + 1))) (i ∷ pre path d) W.candidates 0) (leave ∷ []) (remaining W path next d)
        ∙ sym all

  pub under_step : (path next : List ℕ) (d : ℕ) → (d ≡ 0 → ⊥) → under W path next d ≡ remaining W path next (d - 1)
  unfolding under
  under_step path next zero h = absurd (h refl)
  under_step path next (suc d) h = let e : suc d - 1 ≡ d = omega arith in ap (λ (n : ℕ). remaining W path next n) (sym e)
