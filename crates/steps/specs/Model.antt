-- What a step is: the state of the search that it holds, and the step that a state is shown as.
use Rattle.std.specs.Prelude.{ℕ, Bool, true, false, cond, [], ◌∷◌, ltb, eqb}
use Rattle.refusal.specs.Refusals.{maximum_path_depth_exceeded}
use Rattle.machine.specs.declared.State.{State}
use Rattle.machine.specs.declared.Phase.{Phase}
use Rattle.machine.specs.declared.Phase.TheVariants.{Walk, Ask, Offer, Found, Refused, Spent}
use Rattle.steps.specs.declared.Step.{Step}

-- the phases by their numbers; every other number is an end
unfoldable pub phase_of : ℕ → ℕ → Phase
phase_of phase e = cond (eqb phase 1) Ask (cond (eqb phase 2) Offer (cond (eqb phase 3) Found (cond (eqb phase 5) (Spent e) (Refused e))))

unfoldable pub number_of : Phase → ℕ
number_of Walk = 4
number_of Ask = 1
number_of Offer = 2
number_of Found = 3
number_of (Refused e) = 4
number_of (Spent e) = 5

unfoldable pub refusal_of : Phase → ℕ
refusal_of Walk = 0
refusal_of Ask = 0
refusal_of Offer = 0
refusal_of Found = 0
refusal_of (Refused e) = e
refusal_of (Spent e) = e

-- a step with a path that is too long is no search's: it is an end
unfoldable pub state_of : Step → State
state_of t = record {
  path = t.path;
  next = t.next;
  depth = cond (ltb 6 t.depth) 0 t.depth;
  at = t.at;
  list = t.list;
  anchor = t.anchor;
  signatures = t.signatures;
  extensions = t.extensions;
  comparisons = t.comparisons;
  best = t.best;
  phase = cond (ltb 6 t.depth) (Refused maximum_path_depth_exceeded) (phase_of t.phase t.refusal);
}

abbrev pub step_of : State → ℕ → ℕ → Step
step_of s phase e = record {
  path = s.path;
  next = s.next;
  depth = s.depth;
  at = s.at;
  list = s.list;
  anchor = s.anchor;
  signatures = s.signatures;
  extensions = s.extensions;
  comparisons = s.comparisons;
  best = s.best;
  phase = phase;
  refusal = e;
}

unfoldable pub is_found : Phase → Bool
is_found Walk = false
is_found Ask = false
is_found Offer = false
is_found Found = true
is_found (Refused e) = false
is_found (Spent e) = false

-- the step that a state is, where `e` is the refusal of the name, or none
unfoldable pub shown_as : ℕ → State → Phase → Step
shown_as e s p = cond (is_found p) (cond (eqb e 0) (step_of s 3 0) (step_of s 4 e)) (step_of s (number_of p) (refusal_of p))

abbrev pub ended_step : ℕ → ℕ → ℕ → ℕ → Step
ended_step e signatures extensions comparisons =
    record {
      path = 0 ∷ 0 ∷ 0 ∷ 0 ∷ 0 ∷ 0 ∷ 0 ∷ [];
      next = 0 ∷ 0 ∷ 0 ∷ 0 ∷ 0 ∷ 0 ∷ 0 ∷ [];
      depth = 0;
      at = 0;
      list = 0;
      anchor = 0;
      signatures = signatures;
      extensions = extensions;
      comparisons = comparisons;
      best = e;
      phase = 4;
      refusal = e;
    }
