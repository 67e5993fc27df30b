-- The search as a definition. Without the answers it is a fixed list of events; a run goes through that list with the budgets, and is a tree of
-- questions: which question comes next depends on the world and on the answers so far, and on nothing else.
-- Candidates have one numbering: the anchors, then the intermediates; the end entity has the next number. Key i is candidate i's.
-- A path is a list of such numbers, the last added first, the end entity last. Where a number is a refusal or none, 0 is none.
use Rattle.std.specs.Prelude.{ℕ, zero, suc, ◌-◌, cond, List, [], ◌∷◌, ◌++◌, ltb}
use Rattle.refusal.specs.Refusals.{unknown_issuer, maximum_path_depth_exceeded, maximum_signature_checks_exceeded, maximum_path_build_calls_exceeded, maximum_name_constraint_comparisons_exceeded}
use Rattle.refusal.specs.Model.{worse_of}
use Rattle.lent.specs.Lent.{most_intermediates}
use Rattle.candidate.specs.declared.Verdict.{Verdict}
use Rattle.candidate.specs.declared.Verdict.TheVariants.{Pass, Anchor, Extend}
use Rattle.dialogue.specs.Log.{What, of_certificate}

abbrev pub Path : Type 0
Path = List ℕ

-- ---- the world that is searched

-- what has to be in order for a path at an anchor, one after the other: a question (key, what it is to have signed), or the refusal, or none, of a
-- check that asks nothing
pub data Stage : Type 0 where
  question : ℕ → What → Stage
  finding : ℕ → Stage

pub record World : Type 0 where
  -- how many anchors and intermediates there are
  pub candidates : ℕ
  -- what becomes of a candidate at a path
  pub verdict : Path → ℕ → Verdict
  -- the checks of a path's newest certificate by itself: a refusal or none
  pub check : Path → ℕ
  -- what has to be in order besides, of a certificate with this key above it and this path below it, once its question number k was answered: 0 is the
  -- question about the certificate itself
  pub after : ℕ → ℕ → Path → ℕ → List Stage
  -- what the answer to a question (key, what) comes to: a refusal or none
  pub reply : ℕ → What → ℕ → ℕ
  -- the comparisons that the name constraints of a path at an anchor take up to their first refusal, and that refusal or none
  pub cost : ℕ → Path → ℕ
  pub named : ℕ → Path → ℕ

-- the stages of a path, from the anchor's key down
unfoldable pub staged : World → ℕ → Path → List Stage
staged W key [] = []
staged W key (certificate ∷ path) = question key (of_certificate certificate) ∷ (W.after key certificate path 0 ++ staged W certificate path)

-- ---- the events, in the order of the search

-- a refusal noted, an extension of the path to be paid for, an anchor tried at a path, a path left because all candidates were looked at
pub data Event : Type 0 where
  note : ℕ → Event
  extension : Event
  try : ℕ → Path → Event
  leave : Event

-- the events of one candidate; `deeper` gives those of an extended path
unfoldable pub one : (Path → List Event) → Path → ℕ → Verdict → List Event
one deeper path i (Pass e) = note e ∷ []
one deeper path i Anchor = try i path ∷ []
one deeper path i Extend = extension ∷ deeper (i ∷ path)

-- the events of the candidates i, i + 1, .., `count` of them
unfoldable pub each : World → (Path → List Event) → Path → ℕ → ℕ → List Event
each W deeper path zero i = []
each W deeper path (suc count) i = one deeper path i (W.verdict path i) ++ each W deeper path count (suc i)

-- the events at a path whose newest certificate's checks came to a refusal or none
unfoldable pub node : World → (Path → List Event) → Path → ℕ → List Event
node W deeper path zero = each W deeper path W.candidates 0 ++ (leave ∷ [])
node W deeper path (suc e) = note (suc e) ∷ []

-- the events from a new path on, where its newest certificate is the first of `room` that there is room for
unfoldable pub enter : World → ℕ → Path → List Event
enter W zero path = note maximum_path_depth_exceeded ∷ []
enter W (suc room) path = node W (enter W room) path (W.check path)

unfoldable pub events : World → ℕ → List Event
events W end = enter W (suc most_intermediates) (end ∷ [])

-- ---- the run: a tree of questions

pub data Outcome : Type 0 where
  accepted : ℕ → Path → Outcome
  refused : ℕ → Outcome
  -- a budget is used up: the refusal that says which
  spent : ℕ → Outcome

-- an outcome; or a question, or a finished path for the caller to be content with (0) or not (a refusal), and what follows each answer
pub data Tree : Type 0 where
  done : Outcome → Tree
  ask : ℕ → What → (ℕ → Tree) → Tree
  offer : ℕ → Path → (ℕ → Tree) → Tree

-- by whether a number is none or a refusal
abbrev pub unless {ℓ} : {A : Type ℓ} → ℕ → A → (ℕ → A) → A
unless zero go stop = go
unless (suc e) go stop = stop (suc e)

-- the stages in order, with what is left of the signature budget
unfoldable pub through : World → (ℕ → Tree) → (ℕ → ℕ → Tree) → List Stage → ℕ → Tree
through W go stop [] s = go s
through W go stop (finding e ∷ stages) s = unless e (through W go stop stages s) (λ x. stop x s)
through W go stop (question key what ∷ stages) zero = done (spent maximum_signature_checks_exceeded)
through W go stop (question key what ∷ stages) (suc s) =
    ask key what (λ answer. unless (W.reply key what answer) (through W go stop stages s) (λ x. stop x s))

-- the name constraints of a path whose stages are behind it, and the offer, with what is left of the comparison budget
unfoldable pub conclude : World → (ℕ → ℕ → Tree) → ℕ → Path → ℕ → Tree
conclude W stop anchor path n =
    cond (ltb n (W.cost anchor path))
    (done (spent maximum_name_constraint_comparisons_exceeded))
    (unless (W.named anchor path)
    (offer anchor path (λ word. unless word (done (accepted anchor path)) (λ x. stop x (n - W.cost anchor path))))
    (λ x. stop x (n - W.cost anchor path)))

-- the events in order, with what is left of the budgets (signatures, extensions, comparisons) and the refusal so far; only a budget that is used up
-- ends it: a refusal, the caller's too, is kept or not by its rank
unfoldable pub run : World → List Event → ℕ → ℕ → ℕ → ℕ → Tree
run W [] s b n e = done (refused e)
run W (leave ∷ es) s b n e = run W es s b n e
run W (note x ∷ es) s b n e = run W es s b n (worse_of e x)
run W (extension ∷ es) s zero n e = done (spent maximum_path_build_calls_exceeded)
run W (extension ∷ es) s (suc b) n e = run W es s b n e
run W (try anchor path ∷ es) s b n e =
    through W
    (λ s'. conclude W (λ x n'. run W es s' b n' (worse_of e x)) anchor path n)
    (λ x s'. run W es s' b n (worse_of e x))
    (staged W anchor path) s

-- the search for a path to the certificate `end`
unfoldable pub search : World → ℕ → ℕ → ℕ → ℕ → Tree
search W end s b n = run W (events W end) s b n unknown_issuer
