-- What the search says in small worlds of certificates in a row. Assumes nothing.
use Prim.Native.Nat.{ℕ, suc, ◌+◌, ◌*◌}
use mathlib.Core.Path.{◌≡◌, refl}
use mathlib.Core.Bool.{cond}
use mathlib.Core.List.{[], ◌∷◌}
use lib.Dec.{eqb, ltb}
use lib.ListN.{length, replicate}
use Rattle.refusal.specs.Refusals.{rank_of, unknown_issuer, cert_expired, invalid_signature_for_public_key, maximum_path_depth_exceeded, maximum_signature_checks_exceeded, maximum_path_build_calls_exceeded, maximum_name_constraint_comparisons_exceeded}
use Rattle.refusal.specs.Model.{worse_of}
use Rattle.lent.specs.Lent.{some_of}
use Rattle.candidate.specs.declared.Verdict.{Verdict}
use Rattle.candidate.specs.declared.Verdict.TheVariants.{Pass, Anchor, Extend}
use Rattle.dialogue.specs.Log.{of_certificate, answer, word}
use Rattle.dialogue.specs.Model.{Path, World, staged, done, accepted, refused, spent, one, each, node, enter, events, through, conclude, run, search}
use Rattle.dialogue.specs.Dialogue.{give, turn, follow, talk}
use Rattle.dialogue.specs.Room.{over_paths}
use Rattle.dialogue.specs.Work.{one_at, each_at, node_at, enter_at, placed, weight, a_try, pairs, try_lookups, issuer_lookups, lookups, anchor_looks, try_looks, issuer_looks, looks, longest, entered, level_lookups, level_looks}

-- candidate i issued i + 1; the first ones are anchors
abbrev chosen : ℕ → Path → ℕ → Verdict
chosen anchors [] i = Pass unknown_issuer
chosen anchors (newest ∷ path) i = cond (eqb newest (i + 1)) (cond (ltb i anchors) Anchor Extend) (Pass unknown_issuer)

-- nothing is against a certificate, an answer is its own meaning, and the names of a path take three comparisons
abbrev world : ℕ → ℕ → World
world anchors last = record {
  candidates = last;
  verdict = chosen anchors;
  check = λ p. 0;
  after = λ key what path k. [];
  reply = λ k w a. a;
  cost = λ k p. 3;
  named = λ k p. 0;
}

-- anchor 0, intermediate 1, end entity 2
abbrev two : World
two = world 1 2

-- no anchors, and ten intermediates above the end entity 10
abbrev ten : World
ten = world 0 10

said :
    (follow (search two 2 2 1 3) (0 ∷ 0 ∷ 0 ∷ []) ≡ done (accepted 0 (1 ∷ 2 ∷ [])))
    × (talk (search two 2 2 1 3) (0 ∷ 0 ∷ 0 ∷ []) ≡ answer 0 (of_certificate 1) 0 ∷ answer 1 (of_certificate 2) 0 ∷ word 0 (1 ∷ 2 ∷ []) 0 ∷ [])
    -- one less of each budget
    × (follow (search two 2 1 1 3) (0 ∷ []) ≡ done (spent maximum_signature_checks_exceeded))
    × (follow (search two 2 2 0 3) [] ≡ done (spent maximum_path_build_calls_exceeded))
    × (follow (search two 2 2 1 2) (0 ∷ 0 ∷ []) ≡ done (spent maximum_name_constraint_comparisons_exceeded))
    -- a signature that is wrong; a caller who is not content, and one who says what only a budget may, or nothing known
    × (follow (search two 2 2 1 3) (invalid_signature_for_public_key ∷ []) ≡ done (refused invalid_signature_for_public_key))
    × (follow (search two 2 2 1 3) (0 ∷ 0 ∷ cert_expired ∷ []) ≡ done (refused cert_expired))
    × (follow (search two 2 2 1 3) (0 ∷ 0 ∷ maximum_path_build_calls_exceeded ∷ []) ≡ done (refused unknown_issuer))
    × (follow (search two 2 2 1 3) (0 ∷ 0 ∷ 1000 ∷ []) ≡ done (refused unknown_issuer))
    -- a seventh intermediate is paid for and refused
    × (follow (search ten 10 0 7 0) [] ≡ done (refused maximum_path_depth_exceeded))
    × (follow (search ten 10 0 6 0) [] ≡ done (spent maximum_path_build_calls_exceeded))
unfolding search events enter node each one run through conclude staged follow talk give turn worse_of rank_of
said = (refl, refl, refl, refl, refl, refl, refl, refl, refl, refl, refl)

-- two intermediates in a row above the end entity 2: each of the three paths goes through both candidates and is left, so that the bound on events,
-- (candidates + 1) times (extensions + 1), is reached
pub all_moves : length (events (world 0 2) 2) ≡ suc 2 * suc 2
unfolding events enter node each one
all_moves = refl

-- ---- the bounds by the length of the path are reached: one path of each length up to six, and as many of seven as there are intermediates
-- the anchors are tried at every path; the first intermediate extends those below six certificates, each one those of six, and none longer ones
abbrev tried : ℕ → Path → ℕ → Verdict
tried anchors path i =
    cond (ltb i anchors) Anchor
    (cond (ltb (length path) 6) (cond (eqb i anchors) Extend (Pass unknown_issuer))
    (cond (eqb (length path) 6) Extend (Pass unknown_issuer)))

abbrev wide : ℕ → ℕ → World
wide anchors last = record {
  candidates = last;
  verdict = tried anchors;
  check = λ p. 0;
  after = λ key what path k. [];
  reply = λ k w a. a;
  cost = λ k p. 0;
  named = λ k p. 0;
}

-- two anchors, two intermediates and the end entity 4; seven extensions, with which all is gone through; with one fewer it is not
pub all_work :
    (follow (search (wide 2 4) 4 16 7 0) (replicate 16 invalid_signature_for_public_key) ≡ done (refused invalid_signature_for_public_key))
    × (follow (search (wide 2 4) 4 16 6 0) (replicate 16 invalid_signature_for_public_key) ≡ done (spent maximum_path_build_calls_exceeded))
    × (weight a_try (placed (wide 2 4) 4) ≡ 2 * suc 7)
    × (weight (lookups 2 4) (placed (wide 2 4) 4) ≡ entered (level_lookups 2 2) 0 (suc 7))
    × (weight (looks 3 2 4) (placed (wide 2 4) 4) ≡ entered (level_looks 3 2 2) 0 (suc 7))
unfolding search events enter node each one run through conclude staged follow give worse_of rank_of placed enter_at node_at each_at one_at weight a_try lookups looks pairs try_lookups issuer_lookups anchor_looks try_looks issuer_looks level_lookups level_looks entered longest
all_work = (refl, refl, refl, refl, refl)

-- ---- the bounds on what a search can need are reached where all fits: each anchor is tried at each path, and each intermediate that is not on a path extends it
abbrev fitting : ℕ → ℕ → World
fitting anchors last = record {
  candidates = last;
  verdict = λ path i. cond (ltb i anchors) Anchor (cond (some_of (λ n. eqb n i) path) (Pass unknown_issuer) Extend);
  check = λ p. 0;
  after = λ key what path k. [];
  reply = λ k w a. a;
  cost = λ k p. 3;
  named = λ k p. cert_expired;
}

-- one anchor, two intermediates and the end entity 3: paths of 1, 2, 2, 3 and 3 certificates. All is gone through with what they come to, and with one less it
-- is not
pub all_needed :
    (over_paths (λ d. d) 2 1 7 ≡ 11)
    × (over_paths (λ d. 1) 2 1 8 ≡ suc 4)
    × (over_paths (λ d. 3) 2 1 7 ≡ 15)
    × (follow (search (fitting 1 3) 3 11 4 15) (replicate 11 0) ≡ done (refused cert_expired))
    × (follow (search (fitting 1 3) 3 10 4 15) (replicate 11 0) ≡ done (spent maximum_signature_checks_exceeded))
    × (follow (search (fitting 1 3) 3 11 3 15) (replicate 11 0) ≡ done (spent maximum_path_build_calls_exceeded))
    × (follow (search (fitting 1 3) 3 11 4 14) (replicate 11 0) ≡ done (spent maximum_name_constraint_comparisons_exceeded))
unfolding search events enter node each one run through conclude staged follow give worse_of rank_of some_of over_paths
all_needed = (refl, refl, refl, refl, refl, refl, refl)

-- the Rust's 200,000 extensions are enough for eight intermediates, and its 100 questions for two anchors and three intermediates
pub defaults : (over_paths (λ d. 1) 8 1 8 ≡ suc 69280) × (2 * over_paths (λ d. d) 3 1 7 ≡ 98)
unfolding over_paths
defaults = (refl, refl)
