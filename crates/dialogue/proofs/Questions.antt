-- QUESTIONS: what holds of every question of a search. Assumes nothing.
use Prim.Native.Nat.{ℕ, zero, suc, ◌-◌}
use mathlib.Core.Path.{refl}
use mathlib.Core.Bool.{Bool, true, false, cond}
use mathlib.Core.List.{List, [], ◌∷◌, Memᴰ}
use lib.Dec.{ltb}
use Rattle.refusal.specs.Refusals.{maximum_name_constraint_comparisons_exceeded}
use Rattle.refusal.specs.Model.{worse_of}
use Rattle.dialogue.specs.Log.{What}
use Rattle.dialogue.specs.Model.{Path, Stage, question, finding, World, staged, Event, note, extension, try, leave, accepted, spent, Tree, done, ask, offer, unless, through, conclude, run}
use Rattle.dialogue.specs.Dialogue.{give, follow}

-- ---- every question of a tree
module _ (Q : ℕ → What → Type 0) where
  unfoldable pub Questions : Tree → Type 0
  Questions (done r) = Unit {0}
  Questions (ask key what t) = Q key what × ((a : ℕ) → Questions (t a))
  Questions (offer anchor path t) = (a : ℕ) → Questions (t a)

  unfoldable pub Each : List Stage → Type 0
  Each [] = Unit {0}
  Each (finding e ∷ stages) = Each stages
  Each (question key what ∷ stages) = Q key what × Each stages

  module _ (W : World) where
    through_questions : (go : ℕ → Tree) (stop : ℕ → ℕ → Tree) → ((s : ℕ) → Questions (go s)) → ((x s : ℕ) → Questions (stop x s)) → (stages : List Stage) (s : ℕ) → Each stages → Questions (through W go stop stages s)
    unfolding through Questions Each
    through_questions go stop g st [] s d = g s
    through_questions go stop g st (finding zero ∷ stages) s d = through_questions go stop g st stages s d
    through_questions go stop g st (finding (suc e) ∷ stages) s d = st (suc e) s
    through_questions go stop g st (question key what ∷ stages) zero d = tt
    through_questions go stop g st (question key what ∷ stages) (suc s) d = (d.0, λ a. by (W.reply key what a) (through_questions go stop g st stages s d.1))
      where
        by : (e : ℕ) → Questions (through W go stop stages s) → Questions (unless e (through W go stop stages s) (λ x. stop x s))
        by zero r = r
        by (suc e) r = st (suc e) s

    conclude_questions : (stop : ℕ → ℕ → Tree) → ((x n : ℕ) → Questions (stop x n)) → (anchor : ℕ) (path : Path) (n : ℕ) → Questions (conclude W stop anchor path n)
    unfolding conclude Questions
    conclude_questions stop st anchor path n = by (ltb n (W.cost anchor path)) (W.named anchor path)
      where
        answers : (a : ℕ) → Questions (unless a (done (accepted anchor path)) (λ x. stop x (n - W.cost anchor path)))
        answers zero = tt
        answers (suc a) = st (suc a) (n - W.cost anchor path)

        by : (b : Bool) (e : ℕ) → Questions (cond b (done (spent maximum_name_constraint_comparisons_exceeded)) (unless e (offer anchor path (λ w. unless w (done (accepted anchor path)) (λ x. stop x (n - W.cost anchor path)))) (λ x. stop x (n - W.cost anchor path))))
        by true e = tt
        by false zero = answers
        by false (suc e) = st (suc e) (n - W.cost anchor path)

    pub run_questions : (es : List Event) → ((k : ℕ) (p : Path) → Memᴰ (try k p) es → Each (staged W k p)) → (s b n e : ℕ) → Questions (run W es s b n e)
    unfolding run Questions
    run_questions [] t s b n e = tt
    run_questions (leave ∷ es) t s b n e = run_questions es (λ k p m. t k p (Memᴰ.tail m)) s b n e
    run_questions (note x ∷ es) t s b n e = run_questions es (λ k p m. t k p (Memᴰ.tail m)) s b n (worse_of e x)
    run_questions (extension ∷ es) t s zero n e = tt
    run_questions (extension ∷ es) t s (suc b) n e = run_questions es (λ k p m. t k p (Memᴰ.tail m)) s b n e
    run_questions (try anchor path ∷ es) t s b n e =
        through_questions _ _
        (λ s'. conclude_questions (λ x n'. run W es s' b n' (worse_of e x)) (λ x n'. run_questions es (λ k p m. t k p (Memᴰ.tail m)) s' b n' (worse_of e x)) anchor path n)
        (λ x s'. run_questions es (λ k p m. t k p (Memᴰ.tail m)) s' b n (worse_of e x)) (staged W anchor path) s (t anchor path (Memᴰ.head refl))

  pub along_questions : (t : Tree) (said : List ℕ) → Questions t → Questions (follow t said)
  unfolding follow give Questions
  along_questions t [] q = q
  along_questions (done r) (a ∷ said) q = along_questions (done r) said q
  along_questions (ask k w t) (a ∷ said) q = along_questions (t a) said (q.1 a)
  along_questions (offer k p t) (a ∷ said) q = along_questions (t a) said (q a)
