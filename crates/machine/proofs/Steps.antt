-- The clauses of the run, each under the test that leads to it. Assumes nothing.
use Prim.Native.Nat.{ℕ, zero, suc, ◌+◌, ◌-◌, ◌≤◌, ◌<◌}
use mathlib.Core.Path.{◌≡◌, refl, sym, ap, ◌∙◌}
use mathlib.Core.List.{List, ◌∷◌}
use native.Mathlib.Omega.{arith}
use borrow.Author.Tests.{lt-ltb, le-ltb}
use Rattle.refusal.specs.Refusals.{maximum_signature_checks_exceeded, maximum_path_build_calls_exceeded, maximum_name_constraint_comparisons_exceeded}
use Rattle.dialogue.specs.Log.{What}
use Rattle.dialogue.specs.Model.{Path, Stage, question, finding, World, Event, extension, accepted, spent, Tree, done, ask, offer, unless, through, conclude, run}
use Rattle.dialogue.specs.Work.{paid}

pub unless_refused : (t : Tree) (f : ℕ → Tree) (e : ℕ) → (e ≡ 0 → ⊥) → unless e t f ≡ f e
unless_refused t f zero h = absurd (h refl)
unless_refused t f (suc e) h = refl

pub paid_extension : (es : List Event) (b : ℕ) → (b ≡ 0 → ⊥) → paid (extension ∷ es) b ≡ 1 + paid es (b - 1)
unfolding paid
paid_extension es zero h = absurd (h refl)
paid_extension es (suc b) h = let e : suc b - 1 ≡ b = omega arith in ap (λ (n : ℕ). 1 + paid es n) (sym e)

-- the first of the stages come to nothing against the path
pub data Skips : List Stage → List Stage → Type 0 where
  now : {l : List Stage} → Skips l l
  by_check : {l k : List Stage} (e : ℕ) → e ≡ 0 → Skips l k → Skips (finding e ∷ l) k

module _ (W : World) where
  pub through_skips : (go : ℕ → Tree) (stop : ℕ → ℕ → Tree) (s : ℕ) {l k : List Stage} → Skips l k → through W go stop l s ≡ through W go stop k s
  unfolding through
  through_skips go stop s now = refl
  through_skips go stop s (by_check {l = l} e z h) = ap (λ (n : ℕ). through W go stop (finding n ∷ l) s) z ∙ through_skips go stop s h

  pub through_found : (go : ℕ → Tree) (stop : ℕ → ℕ → Tree) (s e : ℕ) (l : List Stage) → (e ≡ 0 → ⊥) → through W go stop (finding e ∷ l) s ≡ stop e s
  unfolding through
  through_found go stop s zero l z = absurd (z refl)
  through_found go stop s (suc e) l z = refl

  pub run_extension : (es : List Event) (s b n e : ℕ) → (b ≡ 0 → ⊥) → run W es s (b - 1) n e ≡ run W (extension ∷ es) s b n e
  unfolding run
  run_extension es s zero n e h = absurd (h refl)
  run_extension es s (suc b) n e h = let q : suc b - 1 ≡ b = omega arith in ap (λ (i : ℕ). run W es s i n e) q

  pub run_no_extension : (es : List Event) (s b n e : ℕ) → b ≡ 0 → run W (extension ∷ es) s b n e ≡ done (spent maximum_path_build_calls_exceeded)
  unfolding run
  run_no_extension es s b n e h = ap (λ (i : ℕ). run W (extension ∷ es) s i n e) h

  module _ (go : ℕ → Tree) (stop : ℕ → ℕ → Tree) (key : ℕ) (what : What) (stages : List Stage) (s : ℕ) where
    pub through_asks : (s ≡ 0 → ⊥) → ask key what (λ a. unless (W.reply key what a) (through W go stop stages (s - 1)) (λ x. stop x (s - 1))) ≡ through W go stop (question key what ∷ stages) s
    unfolding through
    through_asks h = by s h
      where
        by : (s : ℕ) → (s ≡ 0 → ⊥) → ask key what (λ a. unless (W.reply key what a) (through W go stop stages (s - 1)) (λ x. stop x (s - 1))) ≡ through W go stop (question key what ∷ stages) s
        by zero h = absurd (h refl)
        by (suc s) h =
            let e : suc s - 1 ≡ s = omega arith in
            ap (λ (n : ℕ). ask key what (λ a. unless (W.reply key what a) (through W go stop stages n) (λ x. stop x n))) e

    pub through_no_signature : s ≡ 0 → through W go stop (question key what ∷ stages) s ≡ done (spent maximum_signature_checks_exceeded)
    unfolding through
    through_no_signature h = ap (λ (n : ℕ). through W go stop (question key what ∷ stages) n) h

  module _ (stop : ℕ → ℕ → Tree) (anchor : ℕ) (path : Path) (n : ℕ) where
    pub conclude_no_comparison : n < W.cost anchor path → conclude W stop anchor path n ≡ done (spent maximum_name_constraint_comparisons_exceeded)
    unfolding conclude
    conclude_no_comparison h = simp (lt-ltb n (W.cost anchor path) h)

    pub conclude_refused : (x : ℕ) → W.cost anchor path ≤ n → W.named anchor path ≡ x → (x ≡ 0 → ⊥) → conclude W stop anchor path n ≡ stop x (n - W.cost anchor path)
    unfolding conclude
    conclude_refused zero h e z = absurd (z refl)
    conclude_refused (suc x) h e z = simp (le-ltb n (W.cost anchor path) h, e)

    pub conclude_offers : W.cost anchor path ≤ n → W.named anchor path ≡ 0
        → conclude W stop anchor path n ≡ offer anchor path (λ word. unless word (done (accepted anchor path)) (λ x. stop x (n - W.cost anchor path)))
    unfolding conclude
    conclude_offers h e = simp (le-ltb n (W.cost anchor path) h, e)
