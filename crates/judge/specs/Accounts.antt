-- Which refusal a step has, and what the search used up and did: by the log, and in the words of the search, whose model is named here.
use Rattle.std.specs.Prelude.{◌≤◌, ◌≡◌, true, false, List}
use Rattle.refusal.specs.Refusals.{is_fatal}
use Rattle.dialogue.specs.Log.{Turn}
use Rattle.dialogue.specs.Account.{UsedUp}
use Rattle.conditions.specs.Request.{Request, Budgets, end_of}
use Rattle.conditions.specs.Model.{world_for}
use Rattle.conditions.specs.Decided.{Which, Work}
use Rattle.steps.specs.declared.Step.{Step}

pub record Accounts (R : Request) (B : Budgets) (log : List Turn) (r : Step) : Type 0 where
  -- 4: the refusal is the first of the highest rank among those met, and says of no budget that it is used up
  pub which : r.phase ≡ 4 → Which R B log r.refusal
  pub no_budget : r.phase ≡ 4 → is_fatal r.refusal ≡ false
  -- 5: one more use of a budget was wanted than is allowed, and the refusal says of which
  pub used_up : r.phase ≡ 5 → UsedUp (world_for R) (end_of R) B.signatures B.extensions B.comparisons log r.refusal
  pub budget : r.phase ≡ 5 → is_fatal r.refusal ≡ true
  -- every end: what was gone through, used, noted and looked at
  pub work : 3 ≤ r.phase → Work R B log
