-- The search as it is told: a recursion. Each step begins with the first refusal, keeps the highest of what its candidates come to, and hands the one that it
-- kept to the step below, where it competes as one refusal. Each function is given `back`: what follows where nothing was accepted, from a refusal and
-- what is left of the budgets.
use Rattle.std.specs.Prelude.{ℕ, zero, suc, [], ◌∷◌}
use Rattle.refusal.specs.Refusals.{unknown_issuer, maximum_path_depth_exceeded, maximum_path_build_calls_exceeded}
use Rattle.refusal.specs.Model.{worse_of}
use Rattle.lent.specs.Lent.{most_intermediates}
use Rattle.candidate.specs.declared.Verdict.{Verdict}
use Rattle.candidate.specs.declared.Verdict.TheVariants.{Pass, Anchor, Extend}
use Rattle.dialogue.specs.Model.{staged, Path, World, refused, spent, Tree, done, unless, through, conclude}

abbrev pub Back : Type 0
Back = ℕ → ℕ → ℕ → ℕ → Tree

-- an anchor at a path: the stages, the name constraints, the offer
unfoldable pub attempt : World → ℕ → Path → ℕ → ℕ → ℕ → Back → Tree
attempt W anchor path s b n back =
    through W (λ s'. conclude W (λ x n'. back x s' b n') anchor path n) (λ x s'. back x s' b n) (staged W anchor path) s

-- one candidate; `deeper` is the step at an extended path
unfoldable pub candidate : World → (Path → ℕ → ℕ → ℕ → Back → Tree) → Path → ℕ → Verdict → ℕ → ℕ → ℕ → Back → Tree
candidate W deeper path i (Pass e) s b n back = back e s b n
candidate W deeper path i Anchor s b n back = attempt W i path s b n back
candidate W deeper path i Extend s zero n back = done (spent maximum_path_build_calls_exceeded)
candidate W deeper path i Extend s (suc b) n back = deeper (i ∷ path) s b n back

-- the candidates i, i + 1, .., `count` of them, with the refusal kept so far
unfoldable pub candidates : World → (Path → ℕ → ℕ → ℕ → Back → Tree) → Path → ℕ → ℕ → ℕ → ℕ → ℕ → ℕ → Back → Tree
candidates W deeper path zero i e s b n back = back e s b n
candidates W deeper path (suc count) i e s b n back =
    candidate W deeper path i (W.verdict path i) s b n (λ x s' b' n'. candidates W deeper path count (suc i) (worse_of e x) s' b' n' back)

unfoldable pub step : World → ℕ → Path → ℕ → ℕ → ℕ → Back → Tree
step W zero path s b n back = back maximum_path_depth_exceeded s b n
step W (suc room) path s b n back =
    unless (W.check path) (candidates W (step W room) path W.candidates 0 unknown_issuer s b n back) (λ e. back e s b n)

-- at the end the last step's refusal is kept against the first: it is that refusal, unless it has no rank
unfoldable pub told : World → ℕ → ℕ → ℕ → ℕ → Tree
told W end s b n = step W (suc most_intermediates) (end ∷ []) s b n (λ x s' b' n'. done (refused (worse_of unknown_issuer x)))
