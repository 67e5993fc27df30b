-- What a dialogue with the search decides, whatever the caller answers.
use Rattle.std.specs.Prelude.{ℕ, suc, ◌+◌, ◌*◌, ◌≤◌, ◌<◌, ◌≡◌, true, false, ◌⊎◌, List, length, take}
use Rattle.refusal.specs.Refusals.{rank_of, is_fatal, unknown_issuer}
use Rattle.dialogue.specs.Model.{Path, World, Outcome, accepted, refused, spent, events}
use Rattle.dialogue.specs.Log.{Turn, asked, SaidContent, NotDeclined}
use Rattle.dialogue.specs.Account.{Account, own_cost, Closing, Exhausted, UsedUp}
use Rattle.dialogue.specs.Work.{placed, weight, a_try, lookups as lookupsAt, looks as looksAt, check_looks, entered, level_lookups, level_looks, Sorted}
use Rattle.dialogue.specs.Acceptable.{Acceptable, Given, Unopposed}

pub record Decided (W : World) (end s b n : ℕ) (turns : List Turn) (r : Outcome) : Type 0 where
  -- an accepted path is acceptable, by answers of this dialogue, the last of which were given for this very path
  pub yes : (anchor : ℕ) (path : Path) → r ≡ accepted anchor path → Acceptable W end (Given W turns) (SaidContent turns) anchor path
  pub closing : (anchor : ℕ) (path : Path) → r ≡ accepted anchor path → Closing W turns anchor path
  -- after a refusal no path is: some answer is against each, or the caller declined it
  pub no : (x : ℕ) → r ≡ refused x → (anchor : ℕ) (path : Path) → Acceptable W end (Unopposed W turns) (NotDeclined turns) anchor path → ⊥
  -- it is the first of the highest rank among all that were noted, unknown issuer if none has a rank, and says of no budget that it is used up
  pub which : (x : ℕ) → r ≡ refused x → Exhausted W end turns x
  pub ranked : (x : ℕ) → r ≡ refused x → (x ≡ unknown_issuer) ⊎ (0 < rank_of x)
  pub not_fatal : (x : ℕ) → r ≡ refused x → is_fatal x ≡ false
  -- the other end is a budget that is used up, which is what the refusal says
  pub used_up : (x : ℕ) → r ≡ spent x → UsedUp W end s b n turns x
  pub fatal : (x : ℕ) → r ≡ spent x → is_fatal x ≡ true
  pub questions : asked turns ≤ s
  -- what the run went through, used and noted; the event at which it ended, if any, is the first of those after
  pub account : Account W (events W end) s b n unknown_issuer turns r
  pub extensions : account.extensions ≤ b
  pub comparisons : account.comparisons + own_cost W r ≤ n
  pub moves : length account.before + length (take 1 account.after) ≤ suc W.candidates * suc b
  -- the events that the run came to weigh no more than this, where the first candidates are anchors and the others intermediates: anchors tried;
  -- certificates looked up, once more for each extension, whose own checks need it; bytes looked at, in lengths of the longest slice that is lent
  pub tries : (anchors issuers : ℕ) → Sorted W anchors issuers → weight a_try (take (suc (length account.before)) (placed W end)) ≤ anchors * suc b
  pub lookups : (anchors issuers : ℕ) → Sorted W anchors issuers
      → weight (lookupsAt anchors W.candidates) (take (suc (length account.before)) (placed W end)) + account.extensions ≤ entered (level_lookups anchors issuers) 0 (suc b) + b
  pub looks : (distrusted anchors issuers : ℕ) → Sorted W anchors issuers
      → weight (looksAt distrusted anchors W.candidates) (take (suc (length account.before)) (placed W end)) + check_looks distrusted * suc account.extensions
      ≤ entered (level_looks distrusted anchors issuers) 0 (suc b) + check_looks distrusted * suc b
