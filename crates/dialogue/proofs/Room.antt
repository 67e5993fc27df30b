-- ROOM: how many extensions, comparisons and questions a search can want, whatever is answered. Assumes that no intermediate stands on a path twice.
use Prim.Native.Nat.{ℕ, zero, suc, ◌+◌, ◌*◌, ◌-◌, ◌≤◌, ◌<◌}
use mathlib.Core.Path.{◌≡◌, refl, ap}
use mathlib.Core.Bool.{Bool, true, false, cond}
use mathlib.Core.Logic.{⊎_elim}
use mathlib.Core.List.{List, [], ◌∷◌, ◌++◌}
use native.Mathlib.Omega.{arith}
use native.Mathlib.Nat.{mul-suc, mul_comm, mul-add, add-mul, mul_left_comm, mul-le-mul_right, eq-or-lt_of_le}
use lib.ListN.{length}
use lib.Dec.{eqb}
use borrow.Author.Tests.{eq-eqb}
use Rattle.lent.specs.Lent.{most_intermediates, some_of}
use Rattle.candidate.specs.declared.Verdict.{Verdict}
use Rattle.candidate.specs.declared.Verdict.TheVariants.{Pass, Anchor, Extend}
use Rattle.dialogue.specs.Model.{staged, Path, Stage, question, finding, World, Event, note, extension, try, leave, one, each, node, enter, events}
use Rattle.dialogue.specs.Log.{What, Turn, answer, word, asked}
use Rattle.dialogue.specs.Account.{Cleared, here, by_check, by_answer, Declined, at_check, at_answer, at_names, at_offer, noted, extended, left, declined, Gone, nothing, more, Reached}
use Rattle.dialogue.specs.Work.{Sorted}
use Rattle.dialogue.specs.Room.{over_paths}
use Rattle.dialogue.proofs.Runs.{asked_append}

-- ---- what events come to, where an anchor that is tried at a path comes to u, and an extension to y
unfoldable pub worth : (ℕ → Path → ℕ) → ℕ → List Event → ℕ
worth u y [] = 0
worth u y (note x ∷ es) = worth u y es
worth u y (leave ∷ es) = worth u y es
worth u y (extension ∷ es) = y + worth u y es
worth u y (try k p ∷ es) = u k p + worth u y es

worth_append : (u : ℕ → Path → ℕ) (y : ℕ) (es fs : List Event) → worth u y (es ++ fs) ≡ worth u y es + worth u y fs
unfolding worth
worth_append u y [] fs = omega arith
worth_append u y (note x ∷ es) fs = worth_append u y es fs
worth_append u y (leave ∷ es) fs = worth_append u y es fs
worth_append u y (extension ∷ es) fs = omega (arith, worth_append u y es fs)
worth_append u y (try k p ∷ es) fs = omega (arith, worth_append u y es fs)

-- at a path of d certificates, and at all that grow out of it: x d for each anchor, y and what follows for each intermediate that is not on the path, of which
-- there are n
unfoldable whole : ℕ → (ℕ → ℕ) → ℕ → ℕ → ℕ → ℕ → ℕ
whole anchors x y n d zero = 0
whole anchors x y n d (suc room) = x d * anchors + n * (y + whole anchors x y (n - 1) (suc d) room)

whole_extensions : (anchors n d room : ℕ) → suc (whole anchors (λ d. 0) 1 n d room) ≡ over_paths (λ d. 1) n d (suc room)
unfolding whole over_paths
whole_extensions anchors n d zero = omega arith
whole_extensions anchors n d (suc room) = omega (arith, ap (λ (z : ℕ). n * z) (whole_extensions anchors (n - 1) (suc d) room))

whole_tries : (anchors : ℕ) (x : ℕ → ℕ) (n d room : ℕ) → whole anchors x 0 n d room ≡ anchors * over_paths x n d room
unfolding whole over_paths
whole_tries anchors x n d zero = omega arith
whole_tries anchors x n d (suc room) =
    let rest = over_paths x (n - 1) (suc d) room in
    omega (
      arith,
      ap (λ (z : ℕ). n * z) (whole_tries anchors x (n - 1) (suc d) room),
      mul_left_comm n anchors rest,
      mul-add anchors (x d) (n * rest),
      mul_comm (x d) anchors,
    )

-- ---- how many of `count` candidates from j on are not on a path
abbrev is_on : Path → ℕ → Bool
is_on q i = some_of (λ n. eqb n i) q

unfoldable free : Path → ℕ → ℕ → ℕ
free q zero j = 0
free q (suc count) j = cond (is_on q j) 0 1 + free q count (suc j)

free_most : (q : Path) (count j : ℕ) → free q count j ≤ count
unfolding free
free_most q zero j = omega arith
free_most q (suc count) j = by (is_on q j) (free_most q count (suc j))
  where
    by : (t : Bool) → free q count (suc j) ≤ count → cond t 0 1 + free q count (suc j) ≤ suc count
    by true h = omega (arith, h)
    by false h = omega (arith, h)

-- with one more on the path there are no more, and one fewer where it was not on it
module _ (i : ℕ) (q : Path) where
  one_fewer : (t s : Bool) → cond (cond t true s) 0 1 ≤ cond s 0 1
  one_fewer true true = omega arith
  one_fewer true false = omega arith
  one_fewer false s = omega arith

  no_more : (count j : ℕ) → free (i ∷ q) count j ≤ free q count j
  unfolding free some_of
  no_more zero j = omega arith
  no_more (suc count) j = omega (arith, one_fewer (eqb i j) (is_on q j), no_more count (suc j))

  fewer : is_on q i ≡ false → (count j : ℕ) → j ≤ i → i < j + count → suc (free (i ∷ q) count j) ≤ free q count j
  unfolding free some_of
  fewer new zero j l h = absurd (omega (arith, l, h))
  fewer new (suc count) j l h =
      ⊎_elim
      (λ (e : j ≡ i). rw e (rw (eq-eqb i i refl, new) (omega (arith, no_more count (suc i)))))
      (λ (e : j < i). omega (arith, one_fewer (eqb i j) (is_on q j), fewer new count (suc j) e (omega (arith, h))))
      (eq-or-lt_of_le l)

module _ (W : World) (anchors issuers : ℕ) (sorted : Sorted W anchors issuers) (fresh : (path : Path) (i : ℕ) → W.verdict path i ≡ Extend → is_on path i ≡ false) where
  module _ (u : ℕ → Path → ℕ) (x : ℕ → ℕ) (y : ℕ) (most : (k : ℕ) (p : Path) → length p ≤ suc most_intermediates → u k p ≤ x (length p)) where
    -- of one path: the intermediates, and before them the anchors
    module _ (room n : ℕ) (q : Path) (long : length q + suc room ≡ suc (suc most_intermediates)) (few : free q issuers anchors ≤ n)
        (deeper : (i : ℕ) → free (i ∷ q) issuers anchors ≤ n - 1 → worth u y (enter W room (i ∷ q)) ≤ whole anchors x y (n - 1) (suc (length q)) room) where
      abbrev further : ℕ
      further = y + whole anchors x y (n - 1) (suc (length q)) room

      issuers_worth : (count i : ℕ) → anchors ≤ i → i + count ≡ anchors + issuers → worth u y (each W (enter W room) q count i) ≤ free q count i * further
      unfolding each one worth free
      issuers_worth zero i l e = omega arith
      issuers_worth (suc count) i l e =
          omega (
            arith,
            worth_append u y (one (enter W room) q i (W.verdict q i)) (each W (enter W room) q count (suc i)),
            by (W.verdict q i) refl,
            issuers_worth count (suc i) (omega (arith, l)) (omega (arith, e)),
            add-mul (cond (is_on q i) 0 1) (free q count (suc i)) further,
          )
        where
          by : (v : Verdict) → W.verdict q i ≡ v → worth u y (one (enter W room) q i v) ≤ cond (is_on q i) 0 1 * further
          by (Pass z) h = omega arith
          by Anchor h = absurd (omega (arith, l, sorted.tried q i h))
          by Extend h =
              let f = fewer i q (fresh q i h) issuers anchors l (omega (arith, e)) in
              rw (fresh q i h) (omega (arith, deeper i (omega (arith, f, few))))

      each_worth : (some i : ℕ) → i + some ≡ anchors → worth u y (each W (enter W room) q (some + issuers) i) ≤ x (length q) * some + free q issuers anchors * further
      unfolding each one worth
      each_worth zero i e =
          let a : 0 + issuers ≡ issuers = omega arith in
          let b : i ≡ anchors = omega (arith, e) in
          rw (a, b) (omega (arith, issuers_worth issuers anchors (omega arith) refl))
      each_worth (suc some) i e =
          let a : suc some + issuers ≡ suc (some + issuers) = omega arith in
          rw a
          (omega (
            arith,
            worth_append u y (one (enter W room) q i (W.verdict q i)) (each W (enter W room) q (some + issuers) (suc i)),
            by (W.verdict q i) refl,
            each_worth some (suc i) (omega (arith, e)),
            mul-suc (x (length q)) some,
          ))
        where
          by : (v : Verdict) → W.verdict q i ≡ v → worth u y (one (enter W room) q i v) ≤ x (length q)
          by (Pass z) h = omega arith
          by Anchor h = omega (arith, most i q (omega (arith, long)))
          by Extend h = absurd (omega (arith, e, sorted.extended q i h))

    enter_worth : (room n : ℕ) (q : Path) → length q + room ≡ suc (suc most_intermediates) → free q issuers anchors ≤ n → worth u y (enter W room q) ≤ whole anchors x y n (length q) room
    unfolding enter node worth whole
    enter_worth zero n q r few = omega arith
    enter_worth (suc room) n q r few =
        by (W.check q)
        (each_worth room n q r few (λ i h. enter_worth room (n - 1) (i ∷ q) (omega (arith, r)) h) anchors 0 (omega arith))
      where
        by : (e : ℕ) → worth u y (each W (enter W room) q (anchors + issuers) 0) ≤ x (length q) * anchors + free q issuers anchors * (y + whole anchors x y (n - 1) (suc (length q)) room)
            → worth u y (node W (enter W room) q e) ≤ whole anchors x y n (length q) (suc room)
        by zero h =
            omega (
              arith,
              h,
              ap (λ (c : ℕ). worth u y (each W (enter W room) q c 0)) sorted.all,
              worth_append u y (each W (enter W room) q W.candidates 0) (leave ∷ []),
              mul-le-mul_right {m = free q issuers anchors} {n = n} (y + whole anchors x y (n - 1) (suc (length q)) room) few,
            )
        by (suc e) h = omega arith

    -- a part of the events, and the one after it
    reached_worth : (end : ℕ) (before later : List Event) (at : Event) → events W end ≡ before ++ (at ∷ later)
        → worth u y before + worth u y (at ∷ []) ≤ whole anchors x y issuers 1 (suc most_intermediates)
    unfolding events
    reached_worth end before later at e =
        omega (
          arith,
          enter_worth (suc most_intermediates) issuers (end ∷ []) refl (free_most (end ∷ []) issuers anchors),
          ap (worth u y) e,
          worth_append u y before (at ∷ later),
          worth_append u y (at ∷ []) later,
        )

-- ---- what a run used

-- how many of the stages are questions
unfoldable pub inquiries : List Stage → ℕ
inquiries [] = 0
inquiries (finding e ∷ stages) = inquiries stages
inquiries (question key what ∷ stages) = suc (inquiries stages)

module _ (W : World) where
  abbrev questions_of : ℕ → Path → ℕ
  questions_of k p = inquiries (staged W k p)

  cleared_asked : {stages rest : List Stage} {turns : List Turn} → Cleared W stages turns rest → asked turns + inquiries rest ≡ inquiries stages
  unfolding asked inquiries
  cleared_asked here = omega arith
  cleared_asked (by_check c) = cleared_asked c
  cleared_asked (by_answer key what a y c) = omega (arith, cleared_asked c)

  declined_few : (k : ℕ) (p : Path) (turns : List Turn) (x m : ℕ) → Declined W k p turns x m → (m ≤ W.cost k p) × (asked turns ≤ questions_of k p)
  unfolding asked inquiries
  declined_few k p turns x m (at_check e rest c h i) = (omega (arith, i), omega (arith, cleared_asked c))
  declined_few k p turns x m (at_answer e key what a rest first c y t h i) = (omega (arith, i), omega (arith, cleared_asked c, ap asked t, asked_append first (answer key what a ∷ [])))
  declined_few k p turns x m (at_names e c y h i) = (omega (arith, i), omega (arith, cleared_asked c))
  declined_few k p turns x m (at_offer e first c y t h i) = (omega (arith, i), omega (arith, cleared_asked c, ap asked t, asked_append first (word k p (suc e) ∷ [])))

  pub gone_worth : {es : List Event} {t : List Turn} {xs : List ℕ} {d m : ℕ} → Gone W es t xs d m
      → (d ≡ worth (λ k p. 0) 1 es) × (m ≤ worth W.cost 0 es) × (asked t ≤ worth questions_of 0 es)
  unfolding worth asked
  gone_worth nothing = (omega arith, omega arith, omega arith)
  gone_worth (more (noted x) g) = let h = gone_worth g in (omega (arith, h.0), omega (arith, h.1), h.2)
  gone_worth (more left g) = let h = gone_worth g in (omega (arith, h.0), omega (arith, h.1), h.2)
  gone_worth (more extended g) = let h = gone_worth g in (omega (arith, h.0), omega (arith, h.1), omega (arith, h.2))
  gone_worth (more {u = u} (declined k p t x m e) g) =
      let h = gone_worth g in
      let f = declined_few k p t x m e in
      (omega (arith, h.0), omega (arith, h.1, f.0), omega (arith, h.2, f.1, asked_append t u))

-- ---- THEOREM: what is wanted beyond a budget
module _ (W : World) (anchors issuers : ℕ) (sorted : Sorted W anchors issuers) (fresh : (path : Path) (i : ℕ) → W.verdict path i ≡ Extend → is_on path i ≡ false) (end : ℕ) where
  pub extensions_wanted : (turns : List Turn) (b m : ℕ) → Reached W end extension turns b m → suc b < over_paths (λ d. 1) issuers 1 (suc (suc most_intermediates))
  unfolding worth
  extensions_wanted turns b m r =
      omega (
        arith,
        (gone_worth W r.gone).0,
        reached_worth W anchors issuers sorted fresh (λ k p. 0) (λ d. 0) 1 (λ k p l. omega arith) end r.before r.later extension r.split,
        whole_extensions anchors issuers 1 (suc most_intermediates),
      )

  module _ (x : ℕ → ℕ) (turns : List Turn) (d m anchor : ℕ) (path : Path) (r : Reached W end (try anchor path) turns d m) where
    pub comparisons_wanted : ((k : ℕ) (p : Path) → length p ≤ suc most_intermediates → W.cost k p ≤ x (length p))
        → m + W.cost anchor path ≤ anchors * over_paths x issuers 1 (suc most_intermediates)
    unfolding worth
    comparisons_wanted most =
        omega (
          arith,
          (gone_worth W r.gone).1,
          reached_worth W anchors issuers sorted fresh W.cost x 0 most end r.before r.later (try anchor path) r.split,
          whole_tries anchors x issuers 1 (suc most_intermediates),
        )

    pub questions_wanted : ((k : ℕ) (p : Path) → length p ≤ suc most_intermediates → inquiries (staged W k p) ≤ x (length p))
        → (last : List Turn) (key : ℕ) (what : What) (rest : List Stage) → Cleared W (staged W anchor path) last (question key what ∷ rest)
        → asked (turns ++ last) < anchors * over_paths x issuers 1 (suc most_intermediates)
    unfolding worth inquiries
    questions_wanted most last key what rest c =
        omega (
          arith,
          asked_append turns last,
          cleared_asked W c,
          (gone_worth W r.gone).2,
          reached_worth W anchors issuers sorted fresh (questions_of W) x 0 most end r.before r.later (try anchor path) r.split,
          whole_tries anchors x issuers 1 (suc most_intermediates),
        )
