-- What a step means, by the log that led to it: yes, no, an offer, and that there is an end. No model and no search is named here.
use Rattle.std.specs.Prelude.{ℕ, ◌*◌, ◌≤◌, ◌<◌, ◌≡◌, List, [], ◌∷◌, ◌++◌, length}
use Rattle.lent.specs.Lent.{pre}
use Rattle.dialogue.specs.Log.{Turn, word, asked, offered, SaidYes, SaidContent, NotDenied, NotDeclined, yeses, EndsWith}
use Rattle.conditions.specs.Request.{Request, Budgets}
use Rattle.conditions.specs.Room.{TooSmall}
use Rattle.conditions.specs.Meets.{Stands, Meets}
use Rattle.steps.specs.declared.Step.{Step}

-- the path that a step names, the highest certificate first, the end entity last
abbrev pub path_of : Step → List ℕ
path_of r = pre r.path r.depth

pub record Decides (R : Request) (B : Budgets) (log : List Turn) (r : Step) : Type 0 where
  -- 3: yes means yes. The path meets every condition, by answers in the log, the last of which were given for this very path
  pub yes : r.phase ≡ 3 → Meets R (SaidYes log) (SaidContent log) r.anchor (path_of r)
  pub yes_closes : r.phase ≡ 3 → EndsWith log (yeses r.anchor (path_of r) ++ (word r.anchor (path_of r) 0 ∷ []))
  -- 4: no means no. No anchor and no path meet the conditions: each that meets the others was denied in the log, or declined
  pub no : r.phase ≡ 4 → (anchor : ℕ) (path : List ℕ) → Meets R (NotDenied log) (NotDeclined log) anchor path → ⊥
  -- 2: an offer meets every condition but the wanted name, which is looked at when the caller is content
  pub offer : r.phase ≡ 2 → Stands R (SaidYes log) r.anchor (path_of r)
  pub offer_closes : r.phase ≡ 2 → EndsWith log (yeses r.anchor (path_of r))
  -- 5: a budget is used up only where it is small. The refusal says which one, and a search for this request can need more
  pub used_up : r.phase ≡ 5 → TooSmall R B log r.refusal
  -- 1 question, 2 offer, 3 found, 4 refused, 5 a budget is used up
  pub phases : (1 ≤ r.phase) × (r.phase ≤ 5)
  -- the end: at most as many questions as allowed, the one that is asked among them, and no more offers than questions; so at most twice as many answers
  pub questions : asked log ≤ B.signatures
  pub offers : offered log ≤ asked log
  pub question_left : r.phase ≡ 1 → asked log < B.signatures
  pub offer_left : r.phase ≡ 2 → offered log < asked log
  pub ends : 2 * B.signatures ≤ length log → 3 ≤ r.phase
