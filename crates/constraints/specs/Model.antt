-- What the code answers with no budget in mind, as functions of the bytes and of what is known of each certificate: the same tests in the same
-- order. Each has an abbreviation for the case that what is known is what is read of the bytes.
use Rattle.std.specs.Prelude.{ℕ, List, [], ◌∷◌, map, Bool, cond, length, eqb, Ok, Err, Result}
use Rattle.refusal.specs.Refusals.{bad_der}
use Rattle.entries.specs.Tally.{Tally, tally, clean, after}
use Rattle.subtrees.specs.declared.Subtrees.{Subtrees}
use Rattle.subtrees.specs.Model.{subtrees_at, on_read, unread, certificate_as}
use Rattle.subtrees.specs.Noted.{Noted, lent}

-- ---- one issuer's constraints and the certificates below, the highest first
unfoldable pub below_in : List ℕ → Subtrees → List Noted → Tally
below_in s lists [] = clean
below_in s lists (c ∷ cs) = after (certificate_as s lists c) (below_in s lists cs)

abbrev pub below : List ℕ → Subtrees → List (List ℕ) → Tally
below s lists cs = below_in s lists (map lent cs)

unfoldable pub on_lists : {R : Type 0} → Result Subtrees ℕ → (ℕ → R) → (Subtrees → R) → R
on_lists (Ok lists) other k = k lists
on_lists (Err e) other k = other e

-- nothing may be left over after the lists
abbrev pub left_over : ℕ → ℕ → Tally
left_over end to = cond (eqb end to) clean (tally 0 bad_der)

unfoldable pub constraints_in : List ℕ → ℕ → ℕ → List Noted → Tally
constraints_in s from to cs =
    on_lists (subtrees_at s from to) (tally 0) (λ lists.
    after (below_in s lists cs) (left_over lists.excluded.end to))

abbrev pub constraints : List ℕ → ℕ → ℕ → List (List ℕ) → Tally
constraints s from to cs = constraints_in s from to (map lent cs)

unfoldable pub own_in : Noted → List Noted → Tally
own_in t cs =
    on_read t.reading unread (λ c.
    cond c.known.name_constraints.known
    (constraints_in t.bytes c.known.name_constraints.start c.known.name_constraints.end cs)
    clean)

abbrev pub own : List ℕ → List (List ℕ) → Tally
own t cs = own_in (lent t) (map lent cs)

unfoldable pub anchored_in : List ℕ → Bool → List Noted → Tally
anchored_in anchor bound cs = cond bound (constraints_in anchor 0 (length anchor) cs) clean

abbrev pub anchored : List ℕ → Bool → List (List ℕ) → Tally
anchored anchor bound cs = anchored_in anchor bound (map lent cs)

-- ---- a path, the highest certificate first: each has those below it to answer for; the last, the end entity, has none
unfoldable pub issuers_in : List Noted → Tally
issuers_in [] = clean
issuers_in (c ∷ []) = clean
issuers_in (c ∷ (d ∷ ds)) = after (own_in c (d ∷ ds)) (issuers_in (d ∷ ds))

abbrev pub issuers : List (List ℕ) → Tally
issuers cs = issuers_in (map lent cs)

unfoldable pub path_constraints_in : List ℕ → Bool → List Noted → Tally
path_constraints_in anchor bound cs = after (anchored_in anchor bound cs) (issuers_in cs)

abbrev pub path_constraints : List ℕ → Bool → List (List ℕ) → Tally
path_constraints anchor bound cs = path_constraints_in anchor bound (map lent cs)

-- the comparisons up to the first refusal, and that refusal
abbrev pub cost : List ℕ → Bool → List (List ℕ) → ℕ
cost anchor bound cs = (path_constraints anchor bound cs).taken

abbrev pub named : List ℕ → Bool → List (List ℕ) → ℕ
named anchor bound cs = (path_constraints anchor bound cs).refusal
