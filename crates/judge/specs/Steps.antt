-- What a step is: the state of the search that it holds, the dialogue that is left from it, and what a caller sees in it. Then the contracts of the calls.
use Rattle.std.specs.Prelude.{ℕ, suc, ◌+◌, ◌*◌, ◌≤◌, ◌≡◌, Bool, true, not, List, [], ◌∷◌, eqb, Ok, Err}
use Rattle.cert.specs.Model.{read_certificate, Reading}
use Rattle.lent.specs.Lent.{pre}
use Rattle.dialogue.specs.Model.{accepted, refused, spent, Tree, done, ask, offer}
use Rattle.machine.specs.declared.State.{State}
use Rattle.dialogue.specs.Dialogue.{give, follow}
use Rattle.machine.specs.Machine.{tree_of, key_at, what_at, effort, Ran, begun}
use Rattle.conditions.specs.Request.{Request, Budgets, end_of}
use Rattle.conditions.specs.Model.{name_of, closed, world_for, decision}
use Rattle.steps.specs.declared.Step.{Step}
use Rattle.steps.specs.Model.{state_of, shown_as}

-- ---- what is lent, as a request
abbrev pub is_set : ℕ → Bool
is_set n = not (eqb n 0)

abbrev pub request_of : List (List ℕ) → List ℕ → List (List ℕ) → List (List ℕ) → List (List ℕ) → List ℕ → List (List ℕ) → ℕ → List ℕ → ℕ → ℕ → List ℕ → Request
request_of issuers end subjects keys constraints bound distrusted time purpose demanded kind name =
    record {
      issuers = issuers;
      end = end;
      subjects = subjects;
      keys = keys;
      constraints = constraints;
      bound = bound;
      distrusted = distrusted;
      time = time;
      purpose = purpose;
      demanded = is_set demanded;
      kind = kind;
      name = name;
    }

abbrev pub budgets_of : ℕ → ℕ → ℕ → Budgets
budgets_of signatures extensions comparisons = record { signatures = signatures; extensions = extensions; comparisons = comparisons }

-- ---- what is left, and what is seen
-- what the answers from a step on lead to
unfoldable pub tree_from : Request → Step → Tree
tree_from R t = closed (name_of R.end R.kind R.name) (tree_of (world_for R) (state_of t))

-- the step shows a tree's first question, offer or outcome: by the number of its phase, and its numbers
abbrev pub Sees : Step → Tree → Type 0
Sees r (ask key what t) = (r.phase ≡ 1) × (key_at (state_of r) ≡ key) × (what_at (state_of r) ≡ what)
Sees r (offer anchor path t) = (r.phase ≡ 2) × (r.anchor ≡ anchor) × (pre r.path r.depth ≡ path)
Sees r (done (accepted anchor path)) = (r.phase ≡ 3) × (r.anchor ≡ anchor) × (pre r.path r.depth ≡ path)
Sees r (done (refused e)) = (r.phase ≡ 4) × (r.refusal ≡ e)
Sees r (done (spent e)) = (r.phase ≡ 5) × (r.refusal ≡ e)

-- the step is where the dialogue is: it shows what is next, and stands for what follows
pub record At (R : Request) (t : Tree) (r : Step) : Type 0 where
  pub sees : Sees r t
  pub stands : tree_from R r ≡ t

-- ---- the moves that a call makes
-- from the state s, with these answers on the way, the machine made so many moves, one after the other, to a state that is shown as r
pub data Made (R : Request) (s : State) (answers : List ℕ) : Step → ℕ → Type 0 where
  ran : {u : State} {moves : ℕ} → Ran (world_for R) s u answers moves → Made R s answers (shown_as (name_of R.end R.kind R.name) u u.phase) moves

-- the same from the start; no move is made where the end entity cannot be read
pub data FromStart (R : Request) (B : Budgets) (answers : List ℕ) (r : Step) : ℕ → Type 0 where
  unread : (e : ℕ) → read_certificate R.end true ≡ Err e → FromStart R B answers r 0
  read : {moves : ℕ} → Made R (begun (world_for R) (end_of R) B.signatures B.extensions B.comparisons) answers r moves → FromStart R B answers r moves

-- how many moves can still follow a step, at most
abbrev pub moves_left : Request → Step → ℕ
moves_left R r = effort (world_for R) (state_of r)

-- ---- the contracts
-- a whole run: where these answers lead to, and the moves. They and those that can follow are at most (A + I + 1)(C + 1)
pub record Run (R : Request) (B : Budgets) (answers : List ℕ) (r : Step) : Type 0 where
  pub at : At R (follow (decision R B) answers) r
  pub moves : ℕ
  pub made : FromStart R B answers r moves
  pub few : moves + moves_left R r ≤ suc (end_of R) * suc B.extensions

-- the first step of a search: a run without an answer
abbrev pub Begun : Request → Budgets → Step → Type 0
Begun R B r = Run R B [] r

-- the step after an answer: the moves of this call and those that can follow are at most those that could follow the step before
pub record Answered (R : Request) (s : Step) (a : ℕ) (r : Step) : Type 0 where
  pub at : At R (give (tree_from R s) a) r
  pub moves : ℕ
  pub made : Made R (state_of s) (a ∷ []) r moves
  pub few : moves + moves_left R r ≤ moves_left R s

-- ---- one certificate by itself
unfoldable pub fault_of : Reading → ℕ
fault_of (Ok c) = 0
fault_of (Err e) = e
