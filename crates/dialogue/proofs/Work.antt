-- How much a run goes through: with b extensions allowed there are at most b + 1 paths, each looks at each candidate once, and the path that is entered as
-- number k has no more than k + 1 certificates. Assumes nothing.
use Prim.Native.Nat.{ℕ, zero, suc, ◌+◌, ◌*◌, ◌≤◌, ◌<◌}
use mathlib.Core.Path.{◌≡◌, refl, sym, ap, ◌∙◌, subst}
use mathlib.Core.Bool.{Bool, true, false, cond}
use mathlib.Core.List.{List, [], ◌∷◌, ◌++◌, map, map-append, append_assoc, append-nil}
use native.Mathlib.Omega.{arith}
use native.Mathlib.Nat.{mul-suc, mul-le-mul_left, mul-le-mul_right}
use lib.ListN.{length, take, length-append, length-map, length-take}
use lib.Seq.{take_at}
use lib.Dec.{ltb}
use borrow.Author.Tests.{ltb-true, ltb-false, lt-ltb, le-ltb}
use Rattle.refusal.specs.Refusals.{maximum_path_depth_exceeded}
use Rattle.lent.specs.Lent.{most_intermediates}
use Rattle.candidate.specs.declared.Verdict.{Verdict}
use Rattle.candidate.specs.declared.Verdict.TheVariants.{Pass, Anchor, Extend}
use Rattle.dialogue.specs.Model.{Path, World, Event, note, extension, try, leave, Outcome, one, each, node, enter, events, search}
use Rattle.dialogue.specs.Log.{Turn}
use Rattle.dialogue.specs.Dialogue.{Leads}
use Rattle.dialogue.specs.Work.{paid, Placed, at, event_of, one_at, each_at, node_at, enter_at, placed, weight, a_try, pairs, kind_of, try_lookups, issuer_lookups, lookups, anchor_looks, try_looks, issuer_looks, looks, check_looks, Sorted, longest, entered, level_lookups, level_looks}
use Rattle.dialogue.proofs.Budgets.{accounted}
use Rattle.dialogue.proofs.Room.{worth, gone_worth}

-- ---- the events in their places are the events
module _ (W : World) where
  module _ (deeper : Path → List Event) (deeperAt : Path → List Placed) (same : (q : Path) → map event_of (deeperAt q) ≡ deeper q) where
    one_events : (q : Path) (i : ℕ) (v : Verdict) → map event_of (one_at deeperAt q i v) ≡ one deeper q i v
    unfolding one_at one event_of
    one_events q i (Pass x) = refl
    one_events q i Anchor = refl
    one_events q i Extend = ap (λ (es : List Event). extension ∷ es) (same (i ∷ q))

    each_events : (q : Path) (count i : ℕ) → map event_of (each_at W deeperAt q count i) ≡ each W deeper q count i
    unfolding each_at each
    each_events q zero i = refl
    each_events q (suc count) i =
        map-append event_of (one_at deeperAt q i (W.verdict q i)) (each_at W deeperAt q count (suc i))
        ∙ ap (λ (es : List Event). es ++ map event_of (each_at W deeperAt q count (suc i))) (one_events q i (W.verdict q i))
        ∙ ap (λ (es : List Event). one deeper q i (W.verdict q i) ++ es) (each_events q count (suc i))

    node_events : (q : Path) (x : ℕ) → map event_of (node_at W deeperAt q x) ≡ node W deeper q x
    unfolding node_at node event_of
    node_events q zero =
        map-append event_of (each_at W deeperAt q W.candidates 0) (at q W.candidates leave ∷ [])
        ∙ ap (λ (es : List Event). es ++ (leave ∷ [])) (each_events q W.candidates 0)
    node_events q (suc x) = refl

  enter_events : (room : ℕ) (q : Path) → map event_of (enter_at W room q) ≡ enter W room q
  unfolding enter_at enter event_of
  enter_events zero q = refl
  enter_events (suc room) q = node_events (enter W room) (enter_at W room) (enter_events room) q (W.check q)

  pub placed_events : (end : ℕ) → map event_of (placed W end) ≡ events W end
  unfolding placed events
  placed_events end = enter_events (suc most_intermediates) (end ∷ [])

-- ---- up to the extension that is one too many

unfoldable paid_at : (Placed → ℕ) → List Placed → ℕ → ℕ
paid_at w [] b = 0
paid_at w (at q i (note x) ∷ ps) b = w (at q i (note x)) + paid_at w ps b
paid_at w (at q i (try k p) ∷ ps) b = w (at q i (try k p)) + paid_at w ps b
paid_at w (at q i leave ∷ ps) b = w (at q i leave) + paid_at w ps b
paid_at w (at q i extension ∷ ps) zero = w (at q i extension)
paid_at w (at q i extension ∷ ps) (suc b) = w (at q i extension) + paid_at w ps b

-- where each event weighs 1 the place is nothing to it
paid_placed : (ps : List Placed) (b : ℕ) → paid (map event_of ps) b ≡ paid_at (λ p. 1) ps b
unfolding paid paid_at event_of
paid_placed [] b = refl
paid_placed (at q i (note x) ∷ ps) b = omega (arith, paid_placed ps b)
paid_placed (at q i (try k p) ∷ ps) b = omega (arith, paid_placed ps b)
paid_placed (at q i leave ∷ ps) b = omega (arith, paid_placed ps b)
paid_placed (at q i extension ∷ ps) zero = refl
paid_placed (at q i extension ∷ ps) (suc b) = omega (arith, paid_placed ps b)

-- the first k events, with no more extensions than are allowed, and the one after them
first_paid : (w : Placed → ℕ) (ps : List Placed) (k b : ℕ) → worth (λ k p. 0) 1 (take k (map event_of ps)) ≤ b → weight w (take (suc k) ps) ≤ paid_at w ps b
unfolding weight paid_at worth event_of
first_paid w [] k b h = omega arith
first_paid w (at q i (note x) ∷ ps) zero b h = omega arith
first_paid w (at q i (try a p) ∷ ps) zero b h = omega arith
first_paid w (at q i leave ∷ ps) zero b h = omega arith
first_paid w (at q i extension ∷ ps) zero zero h = omega arith
first_paid w (at q i extension ∷ ps) zero (suc b) h = omega arith
first_paid w (at q i (note x) ∷ ps) (suc k) b h = omega (arith, first_paid w ps k b h)
first_paid w (at q i (try a p) ∷ ps) (suc k) b h = omega (arith, first_paid w ps k b (omega (arith, h)))
first_paid w (at q i leave ∷ ps) (suc k) b h = omega (arith, first_paid w ps k b h)
first_paid w (at q i extension ∷ ps) (suc k) zero h = absurd (omega (arith, h))
first_paid w (at q i extension ∷ ps) (suc k) (suc b) h = omega (arith, first_paid w ps k b (omega (arith, h)))

-- ---- the bound, for any weight

-- the shares of `count` candidates from i on
unfoldable pub total : (ℕ → ℕ) → ℕ → ℕ → ℕ
total share zero i = 0
total share (suc count) i = share i + total share count (suc i)

-- at a path of d certificates each event of candidate i weighs at most `share d i`; the shares, and leaving the path, come to at most m d, and so does a
-- refusal that is noted of no candidate; longer paths come to no less
pub record Weighed (W : World) (w : Placed → ℕ) (share : ℕ → ℕ → ℕ) (m : ℕ → ℕ) : Type 0 where
  pub passes : (p : Path) (i x : ℕ) → 0 < length p → w (at p i (note x)) ≤ share (length p) i
  pub tries : (p : Path) (i : ℕ) → W.verdict p i ≡ Anchor → w (at p i (try i p)) ≤ share (length p) i
  pub extends : (p : Path) (i : ℕ) → W.verdict p i ≡ Extend → w (at p i extension) ≤ share (length p) i
  pub noted : (p : Path) (x d : ℕ) → w (at p W.candidates (note x)) ≤ m d
  pub whole : (p : Path) → total (share (length p)) W.candidates 0 + w (at p W.candidates leave) ≤ m (length p)
  pub grows : (d e : ℕ) → d ≤ e → m d ≤ m e

module _ (W : World) (w : Placed → ℕ) (share : ℕ → ℕ → ℕ) (m : ℕ → ℕ) (g : Weighed W w share m) where
  -- where k paths were entered, at least d: whatever the budget, at most n, and what the paths from number k on come to, one for each extension
  abbrev Within : ℕ → List Placed → ℕ → Type 0
  Within d ps n = (k b : ℕ) → d ≤ k → paid_at w ps b ≤ n + entered m k b

  -- one more path is entered
  abbrev Entering : ℕ → List Placed → ℕ → Type 0
  Entering d ps n = (k b : ℕ) → d ≤ k → paid_at w ps b ≤ m (longest k) + n + entered m (suc k) b

  module _ (room : ℕ) (deeper : (q : Path) (d : ℕ) (ps : List Placed) (n : ℕ) → length q ≡ suc d → d + room ≡ suc most_intermediates → Within d ps n → Entering d (enter_at W room q ++ ps) n) where
    each_within : (q : Path) (ps : List Placed) (n count i : ℕ) → 0 < length q → length q + room ≡ suc most_intermediates
        → Within (length q) ps n → Within (length q) (each_at W (enter_at W room) q count i ++ ps) (total (share (length q)) count i + n)
    unfolding each_at one_at paid_at total entered
    each_within q ps n zero i o r h k b l = omega (arith, h k b l)
    each_within q ps n (suc count) i o r h k b l = by (W.verdict q i) refl b (each_within q ps n count (suc i) o r h)
      where
        by : (v : Verdict) → W.verdict q i ≡ v → (b : ℕ) → Within (length q) (each_at W (enter_at W room) q count (suc i) ++ ps) (total (share (length q)) count (suc i) + n)
            → paid_at w ((one_at (enter_at W room) q i v ++ each_at W (enter_at W room) q count (suc i)) ++ ps) b ≤ share (length q) i + total (share (length q)) count (suc i) + n + entered m k b
        by (Pass x) e b t = omega (arith, t k b l, g.passes q i x o)
        by Anchor e b t = omega (arith, t k b l, g.tries q i e)
        by Extend e zero t = omega (arith, g.extends q i e)
        by Extend e (suc b) t =
            subst (λ (z : List Placed). w (at q i extension) + paid_at w z b ≤ share (length q) i + total (share (length q)) count (suc i) + n + entered m k (suc b)) (sym (append_assoc (enter_at W room (i ∷ q)) (each_at W (enter_at W room) q count (suc i)) ps))
            (omega (arith, g.extends q i e, deeper (i ∷ q) (length q) (each_at W (enter_at W room) q count (suc i) ++ ps) (total (share (length q)) count (suc i) + n) refl r t k b l))

  not_longer : (d k : ℕ) → d ≤ k → d ≤ most_intermediates → m (suc d) ≤ m (longest k)
  unfolding longest
  not_longer d k l s = by (ltb k most_intermediates) refl
    where
      by : (t : Bool) → ltb k most_intermediates ≡ t → m (suc d) ≤ m (suc (cond t k most_intermediates))
      by true e = g.grows (suc d) (suc k) (omega (arith, l))
      by false e = g.grows (suc d) (suc most_intermediates) (omega (arith, s))

  enter_within : (room : ℕ) (q : Path) (d : ℕ) (ps : List Placed) (n : ℕ) → length q ≡ suc d → d + room ≡ suc most_intermediates → Within d ps n → Entering d (enter_at W room q ++ ps) n
  unfolding enter_at node_at paid_at
  enter_within zero q d ps n e r h k b l = omega (arith, h (suc k) b (omega (arith, l)), g.noted q maximum_path_depth_exceeded (longest k))
  enter_within (suc room) q d ps n e r h k b l =
      by (W.check q)
      (each_within room (enter_within room) q (at q W.candidates leave ∷ ps) (w (at q W.candidates leave) + n) W.candidates 0
      (omega (arith, e)) (omega (arith, e, r)) (λ k' b' l'. omega (arith, h k' b' (omega (arith, l', e)))) (suc k) b (omega (arith, e, l)))
    where
      by : (x : ℕ)
          → paid_at w (each_at W (enter_at W room) q W.candidates 0 ++ (at q W.candidates leave ∷ ps)) b ≤ total (share (length q)) W.candidates 0 + (w (at q W.candidates leave) + n) + entered m (suc k) b
          → paid_at w (node_at W (enter_at W room) q x ++ ps) b ≤ m (longest k) + n + entered m (suc k) b
      by zero inside =
          subst (λ (z : List Placed). paid_at w z b ≤ m (longest k) + n + entered m (suc k) b) (sym (append_assoc (each_at W (enter_at W room) q W.candidates 0) (at q W.candidates leave ∷ []) ps))
          (omega (arith, inside, g.whole q, ap m e, not_longer d k l (omega (arith, r))))
      by (suc x) inside = omega (arith, h (suc k) b (omega (arith, l)), g.noted q (suc x) (longest k))

  events_within : (end b : ℕ) → paid_at w (placed W end) b ≤ entered m 0 (suc b)
  unfolding placed paid_at entered
  events_within end b =
      subst (λ (z : List Placed). paid_at w z b ≤ entered m 0 (suc b)) (append-nil (enter_at W (suc most_intermediates) (end ∷ [])))
      (omega (arith, enter_within (suc most_intermediates) (end ∷ []) 0 [] 0 refl refl (λ k b' l. omega arith) 0 b (omega arith)))

-- each event counts one
entered_alike : (n k count : ℕ) → entered (λ d. n) k count ≡ n * count
unfolding entered
entered_alike n k zero = omega arith
entered_alike n k (suc count) = omega (arith, entered_alike n (suc k) count, mul-suc n count)

total_one : (count i : ℕ) → total (λ j. 1) count i ≡ count
unfolding total
total_one zero i = refl
total_one (suc count) i = omega (arith, total_one count (suc i))

weight_one : (ps : List Placed) → weight (λ p. 1) ps ≡ length ps
unfolding weight
weight_one [] = refl
weight_one (p ∷ ps) = omega (arith, weight_one ps)

counted : (W : World) → Weighed W (λ p. 1) (λ d i. 1) (λ d. suc W.candidates)
counted W = record {
  passes = λ p i x o. omega arith;
  tries = λ p i e. omega arith;
  extends = λ p i e. omega arith;
  noted = λ p x d. omega arith;
  whole = λ p. omega (arith, total_one W.candidates 0);
  grows = λ d e l. omega arith;
}

-- the events up to the extension that is one too many, whatever is answered: what a machine that takes one of them a move can use as its measure
pub all_events : (W : World) (end b : ℕ) → paid (events W end) b ≤ suc W.candidates * suc b
all_events W end b =
    omega (arith, ap (λ (es : List Event). paid es b) (placed_events W end), paid_placed (placed W end) b, events_within W (λ p. 1) (λ d i. 1) (λ d. suc W.candidates) (counted W) end b, entered_alike (suc W.candidates) 0 (suc b))

-- ---- one share for each anchor and one for each intermediate
abbrev share_of : ℕ → ℕ → ℕ → ℕ → ℕ
share_of anchors x y i = cond (ltb i anchors) x y

total_issuers : (anchors x y count i : ℕ) → anchors ≤ i → total (share_of anchors x y) count i ≡ y * count
unfolding total
total_issuers anchors x y zero i h = omega arith
total_issuers anchors x y (suc count) i h = rw (le-ltb i anchors h) (omega (arith, total_issuers anchors x y count (suc i) (omega (arith, h)), mul-suc y count))

total_shares : (anchors issuers x y some i : ℕ) → i + some ≡ anchors → total (share_of anchors x y) (some + issuers) i ≡ x * some + y * issuers
unfolding total
total_shares anchors issuers x y zero i h =
    let q : 0 + issuers ≡ issuers = omega arith in
    rw q (omega (arith, total_issuers anchors x y issuers i (omega (arith, h))))
total_shares anchors issuers x y (suc some) i h =
    let q : suc some + issuers ≡ suc (some + issuers) = omega arith in
    rw q (rw (lt-ltb i anchors (omega (arith, h))) (omega (arith, total_shares anchors issuers x y some (suc i) (omega (arith, h)), mul-suc x some)))

-- an anchor weighs at most x d, whatever becomes of it, an intermediate y d, and nothing else weighs anything
pub record Split (W : World) (anchors : ℕ) (w : Placed → ℕ) (x y : ℕ → ℕ) : Type 0 where
  pub passed : (p : Path) (i e : ℕ) → 0 < length p → i < anchors → w (at p i (note e)) ≤ x (length p)
  pub tried : (p : Path) (i : ℕ) → w (at p i (try i p)) ≤ x (length p)
  pub looked : (p : Path) (i e : ℕ) → anchors ≤ i → w (at p i (note e)) ≤ y (length p)
  pub extended : (p : Path) (i : ℕ) → w (at p i extension) ≤ y (length p)
  pub ended : (p : Path) (e : ℕ) → w (at p W.candidates (note e)) ≡ 0
  pub left : (p : Path) → w (at p W.candidates leave) ≡ 0
  pub more : (d e : ℕ) → d ≤ e → (x d ≤ x e) × (y d ≤ y e)

split_weighed : (W : World) (anchors issuers : ℕ) (w : Placed → ℕ) (x y : ℕ → ℕ) → Sorted W anchors issuers → Split W anchors w x y
    → Weighed W w (λ d. share_of anchors (x d) (y d)) (λ d. x d * anchors + y d * issuers)
split_weighed W anchors issuers w x y sorted split = record {
  passes = λ p i e o. by p i e o (ltb i anchors) refl;
  tries = λ p i e. rw (lt-ltb i anchors (sorted.tried p i e)) (split.tried p i);
  extends = λ p i e. rw (le-ltb i anchors (sorted.extended p i e)) (split.extended p i);
  noted = λ p e d. omega (arith, split.ended p e);
  whole = λ p. omega (arith, ap (λ (n : ℕ). total (share_of anchors (x (length p)) (y (length p))) n 0) sorted.all, total_shares anchors issuers (x (length p)) (y (length p)) anchors 0 (omega arith), split.left p);
  grows = λ d e l. omega (arith, mul-le-mul_right {m = x d} {n = x e} anchors (split.more d e l).0, mul-le-mul_right {m = y d} {n = y e} issuers (split.more d e l).1);
}
  where
    by : (p : Path) (i e : ℕ) → 0 < length p → (t : Bool) → ltb i anchors ≡ t → w (at p i (note e)) ≤ cond t (x (length p)) (y (length p))
    by p i e o true q = split.passed p i e o (ltb-true i anchors q)
    by p i e o false q = split.looked p i e (ltb-false i anchors q)

pairs_grow : (d e : ℕ) → d ≤ e → pairs d ≤ pairs e
unfolding pairs
pairs_grow zero e l = omega arith
pairs_grow (suc d) zero l = absurd (omega (arith, l))
pairs_grow (suc d) (suc e) l = omega (arith, l, pairs_grow d e (omega (arith, l)))

-- the bound in closed form, where six extensions are allowed or more: one path of each length, and then the longest
entered_deep : (u : ℕ → ℕ) (k count : ℕ) → most_intermediates ≤ k → entered u k count ≡ u (suc most_intermediates) * count
unfolding entered longest
entered_deep u k zero h = omega arith
entered_deep u k (suc count) h =
    rw (le-ltb k most_intermediates h) (omega (arith, entered_deep u (suc k) count (omega (arith, h)), mul-suc (u (suc most_intermediates)) count))

pub entered_all : (u : ℕ → ℕ) (c : ℕ) → entered u 0 (7 + c) ≡ u 1 + u 2 + u 3 + u 4 + u 5 + u 6 + u 7 + u 7 * c
unfolding entered longest
entered_all u c =
    let q : 7 + c ≡ suc (suc (suc (suc (suc (suc (suc c)))))) = omega arith in
    rw q (omega (arith, entered_deep u 7 c (omega arith)))

pub lookups_in_all : (anchors issuers c : ℕ) → entered (level_lookups anchors issuers) 0 (7 + c) ≡ 112 * anchors + 42 * issuers + (35 * anchors + 9 * issuers) * c
unfolding level_lookups try_lookups issuer_lookups pairs
lookups_in_all anchors issuers c = omega (arith, entered_all (level_lookups anchors issuers) c)

pub looks_in_all : (distrusted anchors issuers c : ℕ) → entered (level_looks distrusted anchors issuers) 0 (7 + c) ≡ (126 + 14 * distrusted) * anchors + 126 * issuers + ((37 + 2 * distrusted) * anchors + 30 * issuers) * c
unfolding level_looks anchor_looks try_looks issuer_looks pairs
looks_in_all distrusted anchors issuers c = omega (arith, entered_all (level_looks distrusted anchors issuers) c)

module _ (W : World) (end s b n : ℕ) (turns : List Turn) (r : Outcome) (h : Leads (search W end s b n) turns r) where
  -- the events that the run came to: those gone past, and the one at which it ended, if there was one
  abbrev reached : List Placed
  reached = take (suc (length (accounted W end s b n turns r h).before)) (placed W end)

  reached_weight : (w : Placed → ℕ) (share : ℕ → ℕ → ℕ) (m : ℕ → ℕ) → Weighed W w share m → weight w reached ≤ entered m 0 (suc b)
  reached_weight w share m g =
      let a = accounted W end s b n turns r h in
      let gone : take (length a.before) (map event_of (placed W end)) ≡ a.before =
      ap (λ (es : List Event). take (length a.before) es) (placed_events W end ∙ a.split) ∙ take_at a.before a.after (length a.before) refl in
      let few : worth (λ k p. 0) 1 (take (length a.before) (map event_of (placed W end))) ≤ b =
      omega (arith, ap (worth (λ k p. 0) 1) gone, (gone_worth W a.gone).0, a.extensions_used) in
      omega (arith, first_paid w (placed W end) (length a.before) b few, events_within W w share m g end b)

  pub few_events : length (accounted W end s b n turns r h).before + length (take 1 (accounted W end s b n turns r h).after) ≤ suc W.candidates * suc b
  few_events =
      let a = accounted W end s b n turns r h in
      let all : length (placed W end) ≡ length a.before + length a.after =
      sym (length-map (placed W end) event_of) ∙ ap length (placed_events W end ∙ a.split) ∙ length-append a.before a.after in
      omega (
        arith,
        all,
        length-take 1 a.after,
        length-take (suc (length a.before)) (placed W end),
        weight_one reached,
        reached_weight (λ p. 1) (λ d i. 1) (λ d. suc W.candidates) (counted W),
        entered_alike (suc W.candidates) 0 (suc b),
      )

  module _ (anchors issuers : ℕ) (sorted : Sorted W anchors issuers) where
    few : (w : Placed → ℕ) (x y : ℕ → ℕ) → Split W anchors w x y → weight w reached ≤ entered (λ d. x d * anchors + y d * issuers) 0 (suc b)
    few w x y split = reached_weight w (λ d. share_of anchors (x d) (y d)) (λ d. x d * anchors + y d * issuers) (split_weighed W anchors issuers w x y sorted split)

    chosen : (t : Bool) (y : ℕ) → cond t y 0 ≤ y
    chosen true y = omega arith
    chosen false y = omega arith

    nobody : (x y : ℕ) → kind_of anchors W.candidates W.candidates x y ≡ 0
    nobody x y = rw (le-ltb W.candidates anchors (omega (arith, sorted.all))) (rw (le-ltb W.candidates W.candidates (omega arith)) refl)

    -- anchors tried: each of the anchors at most once at each path
    pub few_tries : weight a_try reached ≤ anchors * suc b
    unfolding a_try
    few_tries =
        omega (
          arith,
          few a_try (λ d. 1) (λ d. 0) (record {
            passed = λ p i e o l. omega arith;
            tried = λ p i. omega arith;
            looked = λ p i e l. omega arith;
            extended = λ p i. omega arith;
            ended = λ p e. refl;
            left = λ p. refl;
            more = λ d e l. (omega arith, omega arith);
          }),
          entered_alike (1 * anchors + 0 * issuers) 0 (suc b),
          mul-suc anchors b,
        )

    -- certificates looked up
    pub few_lookups : weight (lookups anchors W.candidates) reached + (accounted W end s b n turns r h).extensions ≤ entered (level_lookups anchors issuers) 0 (suc b) + b
    unfolding lookups try_lookups issuer_lookups level_lookups pairs
    few_lookups =
        let a = accounted W end s b n turns r h in
        omega (
          arith,
          a.extensions_used,
          few (lookups anchors W.candidates) try_lookups issuer_lookups (record {
            passed = λ p i e o l. rw (lt-ltb i anchors l) (omega (arith, o));
            tried = λ p i. omega arith;
            looked = λ p i e l. rw (le-ltb i anchors l) (chosen (ltb i W.candidates) (length p + 2));
            extended = λ p i. omega arith;
            ended = λ p e. nobody 1 (length p + 2);
            left = λ p. refl;
            more = λ d e l. (omega (arith, l, pairs_grow d e l), omega (arith, l));
          }),
        )

    -- bytes looked at
    pub few_looks : (distrusted : ℕ) → weight (looks distrusted anchors W.candidates) reached + check_looks distrusted * suc (accounted W end s b n turns r h).extensions
        ≤ entered (level_looks distrusted anchors issuers) 0 (suc b) + check_looks distrusted * suc b
    unfolding looks anchor_looks try_looks issuer_looks level_looks pairs
    few_looks distrusted =
        let a = accounted W end s b n turns r h in
        omega (
          arith,
          mul-le-mul_left {m = suc a.extensions} {n = suc b} (check_looks distrusted) (omega (arith, a.extensions_used)),
          few (looks distrusted anchors W.candidates) (try_looks distrusted) issuer_looks (record {
            passed = λ p i e o l. rw (lt-ltb i anchors l) (omega arith);
            tried = λ p i. omega arith;
            looked = λ p i e l. rw (le-ltb i anchors l) (chosen (ltb i W.candidates) (2 + 4 * length p));
            extended = λ p i. omega arith;
            ended = λ p e. nobody (2 + 2 * distrusted) (2 + 4 * length p);
            left = λ p. refl;
            more = λ d e l. (omega (arith, l, pairs_grow (suc d) (suc e) (omega (arith, l))), omega (arith, l));
          }),
        )
