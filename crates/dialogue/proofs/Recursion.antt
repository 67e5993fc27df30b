-- The list of events with its one refusal so far is the recursion with a refusal in each step: the same tree of questions. Assumes nothing.
use Prim.Native.Nat.{ℕ, zero, suc, ◌-◌}
use mathlib.Core.Path.{◌≡◌, refl, sym, ◌∙◌, ap, fun_ext}
use mathlib.Core.Bool.{cond}
use mathlib.Core.List.{List, [], ◌∷◌, ◌++◌, append_assoc, append-nil}
use lib.Dec.{ltb}
use Rattle.refusal.specs.Refusals.{unknown_issuer, maximum_path_depth_exceeded, maximum_name_constraint_comparisons_exceeded}
use Rattle.refusal.specs.Model.{worse_of}
use Rattle.refusal.proofs.Laws.{worse_assoc, worse_keeps}
use Rattle.lent.specs.Lent.{most_intermediates}
use Rattle.candidate.specs.declared.Verdict.{Verdict}
use Rattle.candidate.specs.declared.Verdict.TheVariants.{Pass, Anchor, Extend}
use Rattle.dialogue.specs.Model.{staged, Path, Stage, question, finding, World, Event, try, leave, refused, spent, Tree, done, ask, offer, unless, through, conclude, run, one, each, node, enter, events, search}
use Rattle.dialogue.specs.Recursion.{Back, attempt, candidate, candidates, step, told}

unless_same : (e : ℕ) {t u : Tree} {f g : ℕ → Tree} → t ≡ u → ((x : ℕ) → f x ≡ g x) → unless e t f ≡ unless e u g
unless_same zero h k = h
unless_same (suc e) h k = k (suc e)

module _ (W : World) where
  through_same : {f g : ℕ → Tree} {p q : ℕ → ℕ → Tree} → ((s : ℕ) → f s ≡ g s) → ((x s : ℕ) → p x s ≡ q x s) → (stages : List Stage) (s : ℕ) → through W f p stages s ≡ through W g q stages s
  unfolding through
  through_same h k [] s = h s
  through_same h k (finding e ∷ stages) s = unless_same e (through_same h k stages s) (λ x. k x s)
  through_same h k (question key what ∷ stages) zero = refl
  through_same h k (question key what ∷ stages) (suc s) =
      let rest = through_same h k stages s in
      ap (λ (t : ℕ → Tree). ask key what t) (fun_ext (λ a. unless_same (W.reply key what a) rest (λ x. k x s)))

  conclude_same : {p q : ℕ → ℕ → Tree} → ((x n : ℕ) → p x n ≡ q x n) → (k : ℕ) (path : Path) (n : ℕ) → conclude W p k path n ≡ conclude W q k path n
  unfolding conclude
  conclude_same {p} {q} h k path n =
      ap (λ (t : Tree). cond (ltb n (W.cost k path)) (done (spent maximum_name_constraint_comparisons_exceeded)) t)
      (unless_same (W.named k path)
      (ap (λ (t : ℕ → Tree). offer k path t) (fun_ext (λ a. unless_same a refl (λ x. h x (n - W.cost k path)))))
      (λ x. h x (n - W.cost k path)))

  -- what stands behind: the events es after the refusal e is `back` of what the step came to
  abbrev Behind : List Event → ℕ → Back → Type 0
  Behind es e back = (x s b n : ℕ) → run W es s b n (worse_of e x) ≡ back x s b n

  attempted : (k : ℕ) (path : Path) (es : List Event) (e : ℕ) (back : Back) → Behind es e back → (s b n : ℕ) → run W (try k path ∷ es) s b n e ≡ attempt W k path s b n back
  unfolding run attempt
  attempted k path es e back h s b n =
      through_same (λ s'. conclude_same (λ x n'. h x s' b n') k path n) (λ x s'. h x s' b n) (staged W k path) s

  module _ (room : ℕ) (deeper : (path : Path) (es : List Event) (e : ℕ) (back : Back) → Behind es e back → (s b n : ℕ) → run W (enter W room path ++ es) s b n e ≡ step W room path s b n back) where
    of_one : (path : Path) (i : ℕ) (v : Verdict) (es : List Event) (e : ℕ) (back : Back) → Behind es e back → (s b n : ℕ) → run W (one (enter W room) path i v ++ es) s b n e ≡ candidate W (step W room) path i v s b n back
    unfolding one run candidate
    of_one path i (Pass x) es e back h s b n = h x s b n
    of_one path i Anchor es e back h s b n = attempted i path es e back h s b n
    of_one path i Extend es e back h s zero n = refl
    of_one path i Extend es e back h s (suc b) n = deeper (i ∷ path) es e back h s b n

    of_each : (path : Path) (count i : ℕ) (es : List Event) (e d : ℕ) (back : Back) → Behind es e back → (s b n : ℕ) → run W (each W (enter W room) path count i ++ es) s b n (worse_of e d) ≡ candidates W (step W room) path count i d s b n back
    unfolding each candidates
    of_each path zero i es e d back h s b n = h d s b n
    of_each path (suc count) i es e d back h s b n =
        ap (λ (l : List Event). run W l s b n (worse_of e d)) (append_assoc (one (enter W room) path i (W.verdict path i)) (each W (enter W room) path count (suc i)) es)
        ∙ of_one path i (W.verdict path i) (each W (enter W room) path count (suc i) ++ es) (worse_of e d)
        (λ x s' b' n'. candidates W (step W room) path count (suc i) (worse_of d x) s' b' n' back)
        (λ x s' b' n'. ap (λ (y : ℕ). run W (each W (enter W room) path count (suc i) ++ es) s' b' n' y) (worse_assoc e d x) ∙ of_each path count (suc i) es e (worse_of d x) back h s' b' n')
        s b n

  stepped : (room : ℕ) (path : Path) (es : List Event) (e : ℕ) (back : Back) → Behind es e back → (s b n : ℕ) → run W (enter W room path ++ es) s b n e ≡ step W room path s b n back
  unfolding enter node run step
  stepped zero path es e back h s b n = h maximum_path_depth_exceeded s b n
  stepped (suc room) path es e back h s b n = by (W.check path) (of_each room (stepped room) path W.candidates 0 (leave ∷ es) e unknown_issuer back h s b n)
    where
      by : (x : ℕ) → run W (each W (enter W room) path W.candidates 0 ++ (leave ∷ es)) s b n (worse_of e unknown_issuer) ≡ candidates W (step W room) path W.candidates 0 unknown_issuer s b n back
          → run W (node W (enter W room) path x ++ es) s b n e ≡ unless x (candidates W (step W room) path W.candidates 0 unknown_issuer s b n back) (λ y. back y s b n)
      by zero r =
          ap (λ (l : List Event). run W l s b n e) (append_assoc (each W (enter W room) path W.candidates 0) (leave ∷ []) es)
          ∙ ap (λ (y : ℕ). run W (each W (enter W room) path W.candidates 0 ++ (leave ∷ es)) s b n y) (sym (worse_keeps e))
          ∙ r
      by (suc x) r = h (suc x) s b n

  pub as_told : (end s b n : ℕ) → search W end s b n ≡ told W end s b n
  unfolding search told events run
  as_told end s b n =
      ap (λ (l : List Event). run W l s b n unknown_issuer) (sym (append-nil (enter W (suc most_intermediates) (end ∷ []))))
      ∙ stepped (suc most_intermediates) (end ∷ []) [] unknown_issuer (λ x s' b' n'. done (refused (worse_of unknown_issuer x))) (λ x s' b' n'. refl) s b n
