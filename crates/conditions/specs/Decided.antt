-- What every dialogue with a request decides, whatever the caller answers.
use Rattle.std.specs.Prelude.{ℕ, suc, ◌+◌, ◌*◌, ◌≤◌, ◌≡◌, true, false, List, [], ◌∷◌, ◌++◌, length, take, Err}
use Rattle.refusal.specs.Refusals.{is_fatal, unknown_issuer}
use Rattle.cert.specs.Model.{read_certificate}
use Rattle.dialogue.specs.Log.{Turn, word, SaidYes, SaidContent, NotDenied, NotDeclined, yeses, EndsWith}
use Rattle.dialogue.specs.Model.{Path, Outcome, accepted, refused, spent, events}
use Rattle.dialogue.specs.Dialogue.{Leads}
use Rattle.dialogue.specs.Account.{Account, own_cost, Exhausted, UsedUp}
use Rattle.dialogue.specs.Work.{placed, weight, a_try, lookups, looks, check_looks, entered, level_lookups, level_looks}
use Rattle.conditions.specs.Request.{Request, Budgets, end_of}
use Rattle.conditions.specs.Model.{name_of, world_for, search_of}
use Rattle.conditions.specs.Conditions.{Named}
use Rattle.conditions.specs.Meets.{Meets}

module _ (R : Request) (B : Budgets) (turns : List Turn) where
  -- which no
  pub data Which (x : ℕ) : Type 0 where
    -- the end entity cannot be read: why, before anything is asked
    unread : read_certificate R.end true ≡ Err x → turns ≡ [] → Which x
    -- there is no path: of all that was noted, in the order of the search, the first of the highest rank
    no_path : Exhausted (world_for R) (end_of R) turns x → Which x
    -- there is one, and the end entity is not good for the wanted name: why
    other_name : (anchor : ℕ) (path : Path) → Leads (search_of R B) turns (accepted anchor path) → name_of R.end R.kind R.name ≡ x → (Named R → ⊥) → Which x

  -- what was done: nothing where the end entity cannot be read, else a search, with its account. A, I: anchors and intermediates; S, C, N: the budgets
  pub data Work : Type 0 where
    nothing : (x : ℕ) → read_certificate R.end true ≡ Err x → turns ≡ [] → Work
    searched : (found : Outcome) → Leads (search_of R B) turns found
        → (account : Account (world_for R) (events (world_for R) (end_of R)) B.signatures B.extensions B.comparisons unknown_issuer turns found)
        -- at most C extensions, and N comparisons, those of an accepted path among them
        → account.extensions ≤ B.extensions
        → account.comparisons + own_cost (world_for R) found ≤ B.comparisons
        -- at most (A + I + 1)(C + 1) events were gone through
        → length account.before + length (take 1 account.after) ≤ suc (end_of R) * suc B.extensions
        -- at most A (C + 1) of those that it came to were anchors that were tried
        → weight a_try (take (suc (length account.before)) (placed (world_for R) (end_of R))) ≤ length R.subjects * suc B.extensions
        -- certificates looked up on the way, beside questions and answers: at most as many as where C + 1 paths are gone through whole, each as long as it can be
        → weight (lookups (length R.subjects) (end_of R)) (take (suc (length account.before)) (placed (world_for R) (end_of R))) + account.extensions
        ≤ entered (level_lookups (length R.subjects) (length R.issuers)) 0 (suc B.extensions) + B.extensions
        -- and bytes looked at in comparing and checking, in lengths of the longest slice of bytes that is lent
        → weight (looks (length R.distrusted) (length R.subjects) (end_of R)) (take (suc (length account.before)) (placed (world_for R) (end_of R))) + check_looks (length R.distrusted) * suc account.extensions
        ≤ entered (level_looks (length R.distrusted) (length R.subjects) (length R.issuers)) 0 (suc B.extensions) + check_looks (length R.distrusted) * suc B.extensions
        → Work

  pub record Decided (r : Outcome) : Type 0 where
    -- yes means yes: an accepted path meets the conditions, by answers of this dialogue, the last of which were asked for, and given, for this very path
    pub yes : (anchor : ℕ) (path : Path) → r ≡ accepted anchor path → Meets R (SaidYes turns) (SaidContent turns) anchor path
    pub closing : (anchor : ℕ) (path : Path) → r ≡ accepted anchor path → EndsWith turns (yeses anchor path ++ (word anchor path 0 ∷ []))
    -- no means no: after a refusal no anchor and path meet them; each that meets the others was denied, or declined
    pub no : (x : ℕ) → r ≡ refused x → (anchor : ℕ) (path : Path) → Meets R (NotDenied turns) (NotDeclined turns) anchor path → ⊥
    pub which : (x : ℕ) → r ≡ refused x → Which x
    -- and it says of no budget that it is used up
    pub not_fatal : (x : ℕ) → r ≡ refused x → is_fatal x ≡ false
    -- the third end is a budget, used up: one more was wanted than is allowed
    pub used_up : (x : ℕ) → r ≡ spent x → UsedUp (world_for R) (end_of R) B.signatures B.extensions B.comparisons turns x
    pub fatal : (x : ℕ) → r ≡ spent x → is_fatal x ≡ true
    pub work : Work
