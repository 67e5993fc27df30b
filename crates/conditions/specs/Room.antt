-- How much of each budget a search for a request can need, whatever the certificates hold and whatever is answered: numbers of the request alone. A budget that
-- is used up is smaller. No model and no search is named here.
use Rattle.std.specs.Prelude.{ℕ, suc, ◌+◌, ◌*◌, ◌/◌, ◌≤◌, ◌<◌, ◌≡◌, List, [], length, get_or}
use Rattle.refusal.specs.Refusals.{maximum_signature_checks_exceeded, maximum_path_build_calls_exceeded, maximum_name_constraint_comparisons_exceeded}
use Rattle.lent.specs.Lent.{most_intermediates}
use Rattle.checks.specs.Conditions.{Contents}
use Rattle.checks.specs.Skeletons.{IsCertificate}
use Rattle.dialogue.specs.Log.{Turn, asked}
use Rattle.dialogue.specs.Room.{over_paths}
use Rattle.conditions.specs.Request.{Request, Budgets}
use Rattle.conditions.specs.Conditions.{content_in, bytes_of}

-- bytes at most: `names` for the alternative names of a certificate that can be read, `lists` for its name constraints and for an anchor's
pub record Sizes (R : Request) (names lists : ℕ) : Type 0 where
  pub presented : (n : ℕ) (o : Contents) → IsCertificate (bytes_of R n) o → length (content_in o.subject_alt_name) ≤ names
  pub own : (n : ℕ) (o : Contents) → IsCertificate (bytes_of R n) o → length (content_in o.name_constraints) ≤ lists
  pub anchors : (i : ℕ) → length (get_or R.constraints i []) ≤ lists

module _ (R : Request) where
  -- the end entity by itself, and with one to seven intermediates: a path with a seventh is paid for, and then refused
  abbrev pub most_paths : ℕ
  most_paths = over_paths (λ d. 1) (length R.issuers) 1 (2 + most_intermediates)

  -- each anchor is tried at each path of one to seven certificates
  abbrev pub over_tries : (ℕ → ℕ) → ℕ
  over_tries u = length R.subjects * over_paths u (length R.issuers) 1 (1 + most_intermediates)

  -- a question for each certificate
  abbrev pub most_questions : ℕ
  most_questions = over_tries (λ d. d)

  -- the anchor's lists are held against each of d certificates, and each issuer's against those below it: d + (d - 1) + .. + 1 times. A name has two bytes or
  -- more, and the subject is one more name. An entry has four bytes or more, but for the last of a list, which may be broken off; a list has a header of two or more
  abbrev pub most_comparisons : ℕ → ℕ → ℕ
  most_comparisons names lists = over_tries (λ d. d * suc d / 2 * (suc (names / 2) * ((lists + 2) / 4)))

-- a budget that is used up: the refusal says which one, and a search can need more. Of questions, as many were asked as are allowed; with C extensions there are
-- C + 1 paths
pub data TooSmall (R : Request) (B : Budgets) (log : List Turn) (refusal : ℕ) : Type 0 where
  signatures : refusal ≡ maximum_signature_checks_exceeded → asked log ≡ B.signatures → B.signatures < most_questions R → TooSmall R B log refusal
  extensions : refusal ≡ maximum_path_build_calls_exceeded → suc B.extensions < most_paths R → TooSmall R B log refusal
  comparisons : refusal ≡ maximum_name_constraint_comparisons_exceeded → ((names lists : ℕ) → Sizes R names lists → B.comparisons < most_comparisons R names lists)
      → TooSmall R B log refusal
