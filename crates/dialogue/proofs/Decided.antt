-- Every dialogue with the search decides. Assumes nothing.
use Prim.Native.Nat.{ℕ, ◌<◌}
use mathlib.Core.Path.{◌≡◌, subst}
use mathlib.Core.Logic.{◌⊎◌}
use mathlib.Core.List.{List}
use Rattle.refusal.specs.Refusals.{rank_of, unknown_issuer}
use Rattle.dialogue.specs.Model.{World, Outcome, accepted, refused, spent, search}
use Rattle.dialogue.specs.Log.{Turn}
use Rattle.dialogue.specs.Dialogue.{Leads}
use Rattle.dialogue.specs.Decided.{Decided}
use Rattle.dialogue.proofs.Rank.{start_or_ranked, not_fatal}
use Rattle.dialogue.proofs.Sound.{sound, closing}
use Rattle.dialogue.proofs.Complete.{all_gone, complete}
use Rattle.dialogue.proofs.Budgets.{few_questions, few_extensions, few_comparisons, used_up, spent_fatal, accounted}
use Rattle.dialogue.proofs.Work.{few_events, few_tries, few_lookups, few_looks}

module _ (W : World) (end s b n : ℕ) (turns : List Turn) (r : Outcome) (h : Leads (search W end s b n) turns r) where
  ends : (q : Outcome) → r ≡ q → Leads (search W end s b n) turns q
  ends q e = subst (λ (z : Outcome). Leads (search W end s b n) turns z) e h

  ranked : (x : ℕ) → r ≡ refused x → (x ≡ unknown_issuer) ⊎ (0 < rank_of x)
  ranked x e = let g = all_gone W end s b n turns x (ends (refused x) e) in start_or_ranked g.noted x g.first

  pub decided : Decided W end s b n turns r
  decided = record {
    yes = λ k p e. sound W end s b n turns k p (ends (accepted k p) e);
    closing = λ k p e. closing W end s b n turns k p (ends (accepted k p) e);
    no = λ x e. complete W end s b n turns x (ends (refused x) e);
    which = λ x e. all_gone W end s b n turns x (ends (refused x) e);
    ranked = ranked;
    not_fatal = λ x e. not_fatal x (ranked x e);
    used_up = λ x e. used_up W end s b n turns x (ends (spent x) e);
    fatal = λ x e. spent_fatal W end s b n turns x (ends (spent x) e);
    questions = few_questions W end s b n turns r h;
    account = accounted W end s b n turns r h;
    extensions = few_extensions W end s b n turns r h;
    comparisons = few_comparisons W end s b n turns r h;
    moves = few_events W end s b n turns r h;
    tries = few_tries W end s b n turns r h;
    lookups = few_lookups W end s b n turns r h;
    looks = λ distrusted anchors issuers sorted. few_looks W end s b n turns r h anchors issuers sorted distrusted;
  }
