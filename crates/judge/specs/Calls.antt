-- Calls of the exported functions, one after the other, as their contracts have them, and the log that the caller sees. The request and the table stay.
use Rattle.std.specs.Prelude.{ℕ, ◌≤◌, ◌≡◌, ◌⊎◌, List, [], ◌∷◌, ◌++◌, length}
use Rattle.table.specs.Model.{Held}
use Rattle.asked.specs.Model.{question_of}
use Rattle.told.specs.declared.Asked.{Asked}
use Rattle.told.specs.Model.{asked_of}
use Rattle.machine.specs.Machine.{key_at, cert_at}
use Rattle.dialogue.specs.Log.{of_certificate, Turn, answer, word, SaidYes}
use Rattle.conditions.specs.Request.{Request, Budgets}
use Rattle.conditions.specs.Conditions.{Lends}
use Rattle.conditions.specs.Rfc5280Path.{World}
use Rattle.conditions.specs.RfcAccepts.{True, Accepts}
use Rattle.steps.specs.declared.Step.{Step}
use Rattle.steps.specs.Model.{state_of}
use Rattle.judge.specs.Steps.{Begun, Answered, Run}
use Rattle.judge.specs.Decides.{path_of, Decides}
use Rattle.judge.specs.Accounts.{Accounts}

module _ (R : Request) (B : Budgets) (table : List (List ℕ)) where
  abbrev pub TableHeld : Type 0
  TableHeld = Held table R.issuers R.end

  -- ---- the contracts, word for word, where the request is `request_of` of what is lent
  -- `pathjudge_begin`, which leaves the table so
  abbrev pub Begins : Step → Type 0
  Begins r = TableHeld × Begun R B r

  -- `pathjudge_question`, with as many anchors as the request has
  abbrev pub Tells : Step → Asked → Type 0
  Tells s q =
      TableHeld → q ≡ asked_of (key_at (state_of s)) (cert_at (state_of s)) (question_of R.issuers R.end R.keys (length R.subjects) (key_at (state_of s)) (cert_at (state_of s)))

  -- `pathjudge_answer`
  abbrev pub Gives : Step → ℕ → Step → Type 0
  Gives s a r = TableHeld → Answered R s a r

  -- ---- the calls, and the log: at a question the numbers of key and certificate that are told (no list is asked about), at an offer the anchor and the path that the
  -- step names
  pub data Calls : List Turn → Step → Type 0 where
    begin : {r : Step} → Begins r → Calls [] r
    reply : {log : List Turn} {s r : Step} (q : Asked) (a : ℕ) → Calls log s → s.phase ≡ 1 → Tells s q → Gives s a r
        → Calls (log ++ (answer q.key (of_certificate q.certificate) a ∷ [])) r
    content : {log : List Turn} {s r : Step} (a : ℕ) → Calls log s → s.phase ≡ 2 → Gives s a r → Calls (log ++ (word s.anchor (path_of s) a ∷ [])) r
    -- an answer that nobody asked for
    over : {log : List Turn} {s r : Step} (a : ℕ) → Calls log s → 3 ≤ s.phase → Gives s a r → Calls log r

-- ---- THEOREMS
abbrev pub CallsDecideType : Type 0
CallsDecideType =
    (R : Request) → Lends R → (B : Budgets) (table : List (List ℕ)) (log : List Turn) (r : Step) → Calls R B table log r → Decides R B log r × Accounts R B log r

-- a path that is found or offered is one that RFC 5280, 6.1, accepts, but for the exceptions that `Accepts` names: in any world in which the answers are true
abbrev pub calls_accept_type : Type 1
calls_accept_type =
    (R : Request) → Lends R → (B : Budgets) (table : List (List ℕ)) (log : List Turn) (r : Step) → Calls R B table log r → (r.phase ≡ 2) ⊎ (r.phase ≡ 3)
    → (W : World) → True R W (SaidYes log) → Accepts R W r.anchor (path_of r)

-- an end stays what it is, whatever is answered to it
pub record SameEnd (s r : Step) : Type 0 where
  pub phase_is : r.phase ≡ s.phase
  pub found : s.phase ≡ 3 → (r.anchor ≡ s.anchor) × (path_of r ≡ path_of s)
  pub refused : 4 ≤ s.phase → r.refusal ≡ s.refusal

abbrev pub EndStaysType : Type 0
EndStaysType =
    (R : Request) (B : Budgets) (table : List (List ℕ)) (log : List Turn) (s r : Step) (a : ℕ) → Calls R B table log s → 3 ≤ s.phase → Gives R B table s a r → SameEnd s r

-- of `pathjudge_judge`, which has all answers beforehand and tells no log: there is one, with the answers as they were given
unfoldable pub answers_in : List Turn → List ℕ
answers_in [] = []
answers_in (answer key what a ∷ log) = a ∷ answers_in log
answers_in (word anchor path a ∷ log) = a ∷ answers_in log

abbrev pub JudgeDecidesType : Type 0
JudgeDecidesType =
    (R : Request) → Lends R → (B : Budgets) (answers : List ℕ) (r : Step) → Run R B answers r
    → (log : List Turn) × ((rest : List ℕ) × (answers ≡ answers_in log ++ rest)) × Decides R B log r × Accounts R B log r
