-- What a state of the machine stands for: the tree of questions that is left.
use Rattle.std.specs.Prelude.{ℕ, zero, suc, ◌+◌, ◌-◌, ◌≤◌, ◌<◌, ◌≡◌, cond, List, [], ◌∷◌, ◌++◌, ◌⊎◌, ltb, eqb, get_or, set}
use Rattle.refusal.specs.Refusals.{unknown_issuer}
use Rattle.refusal.specs.Model.{worse_of}
use Rattle.lent.specs.Lent.{most_intermediates, lower, pre}
use Rattle.machine.specs.declared.State.{State}
use Rattle.machine.specs.declared.Phase.{Phase}
use Rattle.machine.specs.declared.Phase.TheVariants.{Walk, Ask, Offer, Found, Refused, Spent}
use Rattle.dialogue.specs.Log.{What, of_certificate, of_list}
use Rattle.dialogue.specs.Model.{Path, Stage, World, staged, Event, extension, try, accepted, refused, spent, Tree, done, ask, offer, unless, enter, through, conclude, run, search}
use Rattle.dialogue.specs.Dialogue.{give, follow}
use Rattle.dialogue.specs.Work.{paid}
use Rattle.machine.specs.Levels.{remaining}

abbrev pub left : World → State → List Event
left W s = remaining W s.path s.next s.depth

abbrev pub here : State → Path
here s = pre s.path s.depth

-- the walk from a state on, with what is left of the budgets of signatures and of comparisons, and the refusal so far
abbrev pub onward : World → State → ℕ → ℕ → ℕ → Tree
onward W s g n e = run W (left W s) g s.extensions n e

abbrev pub clear_tree : World → State → ℕ → Tree
clear_tree W s g = conclude W (λ x n. onward W s g n (worse_of s.best x)) s.anchor (here s) s.comparisons

abbrev pub wrong_tree : World → State → ℕ → ℕ → Tree
wrong_tree W s x g = onward W s g s.comparisons (worse_of s.best x)

-- the place in the path of the certificate that a question is about: at most the highest; its key is the anchor's at the highest place, else the
-- key of the certificate above it
abbrev pub place_of : State → ℕ
place_of s = cond (ltb s.at s.depth) s.at s.depth

abbrev pub key_at : State → ℕ
key_at s = cond (ltb s.at s.depth) (get_or s.path (s.at + 1) 0) s.anchor

-- the certificate that a question is about, or whose list it is about
abbrev pub cert_at : State → ℕ
cert_at s = get_or s.path (place_of s) 0

abbrev pub what_at : State → What
what_at s = cond (eqb s.list 0) (of_certificate (cert_at s)) (of_list (s.list - 1))

-- the stages that are left after the question number `list` about the certificate at a place, under a key
abbrev pub rest_at : World → State → ℕ → ℕ → ℕ → List Stage
rest_at W s key place list = W.after key (get_or s.path place 0) (lower s.path place) list ++ staged W (get_or s.path place 0) (lower s.path place)

abbrev pub more_tree : World → State → ℕ → ℕ → Tree
more_tree W s key place = through W (clear_tree W s) (wrong_tree W s) (rest_at W s key place s.list) s.signatures

abbrev pub ask_tree : World → State → ℕ → ℕ → What → Tree
ask_tree W s key place what =
    ask key what (λ a. unless (W.reply key what a) (more_tree W s key place) (λ x. wrong_tree W s x s.signatures))

unfoldable pub phase_tree : World → State → Phase → Tree
phase_tree W s Walk = onward W s s.signatures s.comparisons s.best
phase_tree W s Ask = ask_tree W s (key_at s) (place_of s) (what_at s)
phase_tree W s Offer = offer s.anchor (here s) (λ a. unless a (done (accepted s.anchor (here s))) (λ x. wrong_tree W s x s.signatures))
phase_tree W s Found = done (accepted s.anchor (here s))
phase_tree W s (Refused e) = done (refused e)
phase_tree W s (Spent e) = done (spent e)

abbrev pub tree_of : World → State → Tree
tree_of W s = phase_tree W s s.phase

-- the events that are left, at most
abbrev pub still : World → State → ℕ
still W s = paid (left W s) s.extensions

unfoldable pub phase_effort : World → State → Phase → ℕ
phase_effort W s Walk = still W s
phase_effort W s Ask = still W s
phase_effort W s Offer = still W s
phase_effort W s Found = 0
phase_effort W s (Refused e) = 0
phase_effort W s (Spent e) = 0

abbrev pub effort : World → State → ℕ
effort W s = phase_effort W s s.phase

-- r stands for the tree t, and has at most n events left to go through
pub record Stands (W : World) (r : State) (t : Tree) (n : ℕ) : Type 0 where
  pub same : tree_of W r ≡ t
  pub deep : r.depth < 7
  pub most : effort W r ≤ n

-- r is where s is: the same path, and at each level the same next candidate
pub record Kept (s r : State) : Type 0 where
  pub path : r.path ≡ s.path
  pub next : r.next ≡ s.next
  pub depth : r.depth ≡ s.depth

-- r is at the path of s with i on top, where no candidate was looked at yet
pub record Pushed (s r : State) (i : ℕ) : Type 0 where
  pub path : r.path ≡ set s.path (s.depth + 1) i
  pub next : r.next ≡ set s.next (s.depth + 1) 0
  pub depth : r.depth ≡ s.depth + 1

-- the same, where r is where s is
pub record Heard (W : World) (s r : State) (t : Tree) (n : ℕ) : Type 0 where
  pub same : tree_of W r ≡ t
  pub deep : r.depth < 7
  pub most : effort W r ≤ n
  pub kept : Kept s r

-- the same, where r is where s is, or has i on top
pub record Grew (W : World) (s r : State) (i : ℕ) (t : Tree) (n : ℕ) : Type 0 where
  pub same : tree_of W r ≡ t
  pub deep : r.depth < 7
  pub most : effort W r ≤ n
  pub grew : Kept s r ⊎ Pushed s r i

-- the next candidate of a state, and where the state is when it was looked at
abbrev pub following : State → ℕ
following s = get_or s.next s.depth 0

abbrev pub passed : State → List ℕ
passed s = set s.next s.depth (following s + 1)

abbrev pub stepped : State → State
stepped s = record { path = s.path; next = passed s; depth = s.depth; at = s.at; list = s.list; anchor = s.anchor; signatures = s.signatures; extensions = s.extensions; comparisons = s.comparisons; best = s.best; phase = s.phase }

-- a state with one more refusal noted
abbrev pub noting : State → ℕ → State
noting s x = record { path = s.path; next = s.next; depth = s.depth; at = s.at; list = s.list; anchor = s.anchor; signatures = s.signatures; extensions = s.extensions; comparisons = s.comparisons; best = worse_of s.best x; phase = s.phase }

-- one move. Every candidate of the level was looked at: the search is over at the lowest level, and any other is left. Or the next one is looked at, and
-- stays below or comes on top
pub data One (W : World) (s r : State) : Type 0 where
  ends : W.candidates ≤ following s → Kept s r → s.depth ≡ 0 → r.phase ≡ Refused s.best → One W s r
  leaves : W.candidates ≤ following s → r.path ≡ s.path → r.next ≡ s.next → s.depth ≡ r.depth + 1 → One W s r
  looks : following s < W.candidates → r.path ≡ s.path → r.next ≡ passed s → r.depth ≡ s.depth → One W s r
  pushes : following s < W.candidates → r.path ≡ set s.path (s.depth + 1) (following s) → r.next ≡ set (passed s) (s.depth + 1) 0 → r.depth ≡ s.depth + 1 → One W s r

-- a move: r stands for what s stands for, with fewer events left. So a walk ends, and all moves of a run are at most the events of the search
pub record Moved (W : World) (s r : State) : Type 0 where
  pub walks : s.phase ≡ Walk
  pub one : One W s r
  pub same : tree_of W r ≡ tree_of W s
  pub deep : r.depth < 7
  pub less : effort W r < effort W s

-- what trying the anchor i, and extending the path with i, at a state's path come to
abbrev pub try_tree : World → State → ℕ → Tree
try_tree W s i = run W (try i (here s) ∷ left W s) s.signatures s.extensions s.comparisons s.best

abbrev pub extended : World → State → ℕ → List Event
extended W s i = extension ∷ (enter W (most_intermediates - s.depth) (i ∷ here s) ++ left W s)

abbrev pub extend_tree : World → State → ℕ → Tree
extend_tree W s i = run W (extended W s i) s.signatures s.extensions s.comparisons s.best

-- what is left of the events after the extension itself
abbrev pub extend_still : World → State → ℕ → ℕ
extend_still W s i = paid (extended W s i) s.extensions - 1

-- a whole run from s on, all calls together: the state now, the answers given on the way in order, the moves made. An answer makes no move
pub data Ran (W : World) (s : State) : State → List ℕ → ℕ → Type 0 where
  begin : Ran W s s [] 0
  move : {r t : State} {said : List ℕ} {moves : ℕ} → Ran W s r said moves → Moved W r t → Ran W s t said (suc moves)
  reply : {r t : State} {said : List ℕ} {moves : ℕ} (a : ℕ) → Ran W s r said moves → Heard W r t (give (tree_of W r) a) (effort W r)
      → Ran W s t (said ++ (a ∷ [])) moves

-- the machine walked from s to r: every run that came to s comes to r
pub record Walked (W : World) (s r : State) : Type 0 where
  pub same : tree_of W r ≡ tree_of W s
  pub most : effort W r ≤ effort W s
  pub ran : (s₀ : State) (said : List ℕ) (moves : ℕ) → Ran W s₀ s said moves → (more : ℕ) × Ran W s₀ r said more

-- r asks or has ended, and stands for what the answers `said` lead to from s, with no more events left than s has. Every run that came to s, with those
-- answers given after that, goes on to r
pub record Halted (W : World) (s r : State) (said : List ℕ) : Type 0 where
  pub same : tree_of W r ≡ follow (tree_of W s) said
  pub deep : r.depth < 7
  pub most : effort W r ≤ effort W s
  pub halts : r.phase ≡ Walk → ⊥
  pub ran : (s₀ : State) (before : List ℕ) (moves : ℕ) → Ran W s₀ s before moves → (more : ℕ) × Ran W s₀ r (before ++ said) more

-- the same after one answer, where s was due one
abbrev pub Answered : World → State → ℕ → State → Type 0
Answered W s a r = s.depth < 7 → (s.phase ≡ Walk → ⊥) → Halted W s r (a ∷ [])

-- the phase at the start: Walk, or Refused where the end entity's own checks refuse it
unfoldable pub first_phase : ℕ → Phase
first_phase zero = Walk
first_phase (suc e) = Refused (worse_of unknown_issuer (suc e))

-- the state at the start, in a phase; and in the phase that it has
abbrev pub begun_in : ℕ → ℕ → ℕ → ℕ → Phase → State
begun_in end s b n phase = record {
  path = end ∷ 0 ∷ 0 ∷ 0 ∷ 0 ∷ 0 ∷ 0 ∷ [];
  next = 0 ∷ 0 ∷ 0 ∷ 0 ∷ 0 ∷ 0 ∷ 0 ∷ [];
  depth = 0;
  at = 0;
  list = 0;
  anchor = 0;
  signatures = s;
  extensions = b;
  comparisons = n;
  best = unknown_issuer;
  phase = phase;
}

abbrev pub begun : World → ℕ → ℕ → ℕ → ℕ → State
begun W end s b n = begun_in end s b n (first_phase (W.check (end ∷ [])))

-- the search for a path to `end` is at r after these answers: it asks or has ended, stands for what follows them, and went there by single moves from
-- the start
pub record Came (W : World) (end s b n : ℕ) (said : List ℕ) (r : State) : Type 0 where
  pub same : tree_of W r ≡ follow (search W end s b n) said
  pub deep : r.depth < 7
  pub halts : r.phase ≡ Walk → ⊥
  pub moves : ℕ
  pub ran : Ran W (begun W end s b n) r said moves
