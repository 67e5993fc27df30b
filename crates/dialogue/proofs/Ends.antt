-- ENDS: a tree of questions has room for so many questions, and for no offer that no question came before. Assumes nothing.
use Prim.Native.Nat.{ℕ, zero, suc, ◌+◌, ◌-◌, ◌≤◌, ◌<◌}
use mathlib.Core.Path.{◌≡◌, refl}
use mathlib.Core.Bool.{Bool, true, false, cond}
use mathlib.Core.List.{List, [], ◌∷◌, ◌++◌}
use lib.ListN.{length}
use lib.Dec.{ltb}
use native.Mathlib.Omega.{arith}
use Rattle.lent.specs.Lent.{most_intermediates}
use Rattle.candidate.specs.declared.Verdict.{Verdict}
use Rattle.candidate.specs.declared.Verdict.TheVariants.{Pass, Anchor, Extend}
use Rattle.refusal.specs.Refusals.{maximum_name_constraint_comparisons_exceeded}
use Rattle.refusal.specs.Model.{worse_of}
use Rattle.dialogue.specs.Model.{Path, World, Stage, question, finding, staged, Event, note, extension, try, leave, one, each, node, enter, events, accepted, spent, Tree, done, ask, offer, unless, through, conclude, run, search}
use Rattle.dialogue.specs.Log.{asked, offered}
use Rattle.dialogue.specs.Dialogue.{give, turn, follow, talk}
use Rattle.dialogue.proofs.Room.{inquiries}

-- s questions more at most; c is how many more questions than offers there were
unfoldable pub Room : ℕ → ℕ → Tree → Type 0
Room s c (done r) = Unit {0}
Room s c (ask key what t) = (s' : ℕ) × (s ≡ suc s') × ((a : ℕ) → Room s' (suc c) (t a))
Room s c (offer anchor path t) = (c' : ℕ) × (c ≡ suc c') × (t 0 ≡ done (accepted anchor path)) × ((a : ℕ) → Room s c' (t a))

-- ---- events: no anchor is tried at an empty path
unfoldable Tries : List Event → Type 0
Tries [] = Unit {0}
Tries (note x ∷ es) = Tries es
Tries (extension ∷ es) = Tries es
Tries (leave ∷ es) = Tries es
Tries (try anchor path ∷ es) = (0 < length path) × Tries es

tries_join : (es fs : List Event) → Tries es → Tries fs → Tries (es ++ fs)
unfolding Tries
tries_join [] fs a b = b
tries_join (note x ∷ es) fs a b = tries_join es fs a b
tries_join (extension ∷ es) fs a b = tries_join es fs a b
tries_join (leave ∷ es) fs a b = tries_join es fs a b
tries_join (try k p ∷ es) fs a b = (a.0, tries_join es fs a.1 b)

abbrev Deep : (Path → List Event) → Type 0
Deep deeper = (path : Path) → 0 < length path → Tries (deeper path)

tries_one : (deeper : Path → List Event) → Deep deeper → (path : Path) (i : ℕ) (v : Verdict) → 0 < length path → Tries (one deeper path i v)
unfolding Tries one
tries_one deeper d path i (Pass e) h = tt
tries_one deeper d path i Anchor h = (h, tt)
tries_one deeper d path i Extend h = d (i ∷ path) (omega arith)

tries_each : (W : World) (deeper : Path → List Event) → Deep deeper → (path : Path) (count i : ℕ) → 0 < length path → Tries (each W deeper path count i)
unfolding each Tries
tries_each W deeper d path zero i h = tt
tries_each W deeper d path (suc count) i h = tries_join (one deeper path i (W.verdict path i)) (each W deeper path count (suc i)) (tries_one deeper d path i (W.verdict path i) h) (tries_each W deeper d path count (suc i) h)

tries_node : (W : World) (deeper : Path → List Event) → Deep deeper → (path : Path) (e : ℕ) → 0 < length path → Tries (node W deeper path e)
unfolding node Tries
tries_node W deeper d path zero h = tries_join (each W deeper path W.candidates 0) (leave ∷ []) (tries_each W deeper d path W.candidates 0 h) tt
tries_node W deeper d path (suc e) h = tt

tries_enter : (W : World) (room : ℕ) (path : Path) → 0 < length path → Tries (enter W room path)
unfolding enter Tries
tries_enter W zero path h = tt
tries_enter W (suc room) path h = tries_node W (enter W room) (λ p l. tries_enter W room p l) path (W.check path) h

-- ---- a run
-- a certificate is asked about
one_asked : (W : World) (key : ℕ) (path : Path) → 0 < length path → 0 < inquiries (staged W key path)
unfolding inquiries staged
one_asked W key [] h = absurd (omega arith)
one_asked W key (n ∷ ns) h = omega arith

module _ (W : World) where
  through_room : (go : ℕ → Tree) (stop : ℕ → ℕ → Tree) → ((x s c : ℕ) → Room s c (stop x s)) → (stages : List Stage) (s c : ℕ) → ((s' c' : ℕ) → c + inquiries stages ≤ c' → Room s' c' (go s'))
      → Room s c (through W go stop stages s)
  unfolding through inquiries Room
  through_room go stop st [] s c g = g s c (omega arith)
  through_room go stop st (finding zero ∷ stages) s c g = through_room go stop st stages s c g
  through_room go stop st (finding (suc e) ∷ stages) s c g = st (suc e) s c
  through_room go stop st (question key what ∷ stages) zero c g = tt
  through_room go stop st (question key what ∷ stages) (suc s) c g =
      (s, refl, λ a. by (W.reply key what a) (through_room go stop st stages s (suc c) (λ s' c' l. g s' c' (omega arith))))
    where
      by : (e : ℕ) → Room s (suc c) (through W go stop stages s) → Room s (suc c) (unless e (through W go stop stages s) (λ x. stop x s))
      by zero r = r
      by (suc e) r = st (suc e) s (suc c)

  conclude_room : (stop : ℕ → ℕ → Tree) (s : ℕ) → ((x n c : ℕ) → Room s c (stop x n)) → (anchor : ℕ) (path : Path) (n c : ℕ) → Room s (suc c) (conclude W stop anchor path n)
  unfolding conclude Room
  conclude_room stop s st anchor path n c = by (ltb n (W.cost anchor path)) (W.named anchor path)
    where
      answers : (a : ℕ) → Room s c (unless a (done (accepted anchor path)) (λ x. stop x (n - W.cost anchor path)))
      answers zero = tt
      answers (suc a) = st (suc a) (n - W.cost anchor path) c

      by : (b : Bool) (e : ℕ) → Room s (suc c) (cond b (done (spent maximum_name_constraint_comparisons_exceeded)) (unless e (offer anchor path (λ w. unless w (done (accepted anchor path)) (λ x. stop x (n - W.cost anchor path)))) (λ x. stop x (n - W.cost anchor path))))
      by true e = tt
      by false zero = (c, refl, refl, answers)
      by false (suc e) = st (suc e) (n - W.cost anchor path) (suc c)

  run_room : (es : List Event) → Tries es → (s b n e c : ℕ) → Room s c (run W es s b n e)
  unfolding run Tries Room
  run_room [] t s b n e c = tt
  run_room (leave ∷ es) t s b n e c = run_room es t s b n e c
  run_room (note x ∷ es) t s b n e c = run_room es t s b n (worse_of e x) c
  run_room (extension ∷ es) t s zero n e c = tt
  run_room (extension ∷ es) t s (suc b) n e c = run_room es t s b n e c
  run_room (try anchor path ∷ es) t s b n e c =
      through_room _ _ (λ x s' c'. run_room es t.1 s' b n (worse_of e x) c') (staged W anchor path) s c
      (λ s' c' l. positive s' c' (omega (arith, one_asked W anchor path t.0, l)) (λ x n' c''. run_room es t.1 s' b n' (worse_of e x) c''))
    where
      positive : (s' c' : ℕ) → 0 < c' → ((x n' c'' : ℕ) → Room s' c'' (run W es s' b n' (worse_of e x))) → Room s' c' (conclude W (λ x n'. run W es s' b n' (worse_of e x)) anchor path n)
      positive s' zero h st = absurd (omega arith)
      positive s' (suc c') h st = conclude_room (λ x n'. run W es s' b n' (worse_of e x)) s' st anchor path n c'

  pub search_room : (end s b n : ℕ) → Room s 0 (search W end s b n)
  unfolding search events
  search_room end s b n = run_room (events W end) (tries_enter W (suc most_intermediates) (end ∷ []) (omega arith)) s b n _ 0

-- ---- along answers
pub record Along (t : Tree) (said : List ℕ) (s c : ℕ) : Type 0 where
  pub left : ℕ
  pub more : ℕ
  pub room : Room left more (follow t said)
  pub questions : asked (talk t said) + left ≤ s
  pub offers : offered (talk t said) + more ≤ c + asked (talk t said)

pub along : (t : Tree) (said : List ℕ) (s c : ℕ) → Room s c t → Along t said s c
unfolding follow talk give turn Room asked offered
along t [] s c r = record { left = s; more = c; room = r; questions = omega arith; offers = omega arith }
along (done q) (a ∷ said) s c r =
    let x = along (done q) said s c r in
    record { left = x.left; more = x.more; room = x.room; questions = x.questions; offers = x.offers }
along (ask k w t) (a ∷ said) s c r =
    let x = along (t a) said r.0 (suc c) (r.2 a) in
    record { left = x.left; more = x.more; room = x.room; questions = omega (arith, x.questions, r.1); offers = omega (arith, x.offers) }
along (offer k p t) (a ∷ said) s c r =
    let x = along (t a) said s r.0 (r.3 a) in
    record { left = x.left; more = x.more; room = x.room; questions = x.questions; offers = omega (arith, x.offers, r.1) }
