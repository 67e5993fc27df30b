-- The moves of all calls of a dialogue together, as the contracts of the calls have them.
use Rattle.std.specs.Prelude.{ℕ, suc, ◌+◌, ◌*◌, ◌≤◌, List}
use Rattle.conditions.specs.Request.{Request, Budgets, end_of}
use Rattle.steps.specs.declared.Step.{Step}
use Rattle.judge.specs.Steps.{moves_left}
use Rattle.judge.specs.Calls.{TableHeld, Calls, begin, reply, content, over}
use Rattle.dialogue.specs.Log.{Turn}

module _ (R : Request) (B : Budgets) (table : List (List ℕ)) where
  -- the first call left the table so
  unfoldable pub held_in : {log : List Turn} {r : Step} → Calls R B table log r → TableHeld R B table
  held_in (begin h) = h.0
  held_in (reply q a c p t g) = held_in c
  held_in (content a c p g) = held_in c
  held_in (over a c p g) = held_in c

  -- the sum of the moves of each call
  unfoldable pub moves_in : {log : List Turn} {r : Step} → Calls R B table log r → ℕ
  moves_in (begin h) = h.1.moves
  moves_in (reply q a c p t g) = moves_in c + (g (held_in c)).moves
  moves_in (content a c p g) = moves_in c + (g (held_in c)).moves
  moves_in (over a c p g) = moves_in c + (g (held_in c)).moves

-- ---- THEOREM
-- they and those that can still follow are at most (A + I + 1)(C + 1): `end_of R` is A + I
abbrev pub CallsFewMovesType : Type 0
CallsFewMovesType =
    (R : Request) (B : Budgets) (table : List (List ℕ)) (log : List Turn) (r : Step) (c : Calls R B table log r)
    → moves_in R B table c + moves_left R r ≤ suc (end_of R) * suc B.extensions
