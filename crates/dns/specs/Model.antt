-- What the code answers, as functions of the bytes: the same tests in the same order.
use Rattle.std.specs.Prelude.{ℕ, ◌-◌, List, [], ◌∷◌, Bool, true, false, cond, length, get_or, drop, leb, eqb, Ok, Err, Result}
use Rattle.texts.specs.Model.{begins, relative_text, from_dot}
use Rattle.labels.specs.Model.{valid_presented, valid_wanted, valid_entry}
use Rattle.refusal.specs.Refusals.{malformed_dns_identifier, malformed_name_constraint}
use Rattle.texts.specs.Bytes.{dot}
use Rattle.labels.specs.Names.{star}
use Rattle.dns.specs.Names.{small}

-- the same but for the case of ASCII letters
unfoldable pub same_text : List ℕ → List ℕ → Bool
same_text [] [] = true
same_text [] (y ∷ ys) = false
same_text (x ∷ xs) [] = false
same_text (x ∷ xs) (y ∷ ys) = cond (eqb (small x) (small y)) (same_text xs ys) false

-- ---- comparisons
unfoldable pub stands_for : List ℕ → List ℕ → Bool
stands_for p q = cond (begins p star) (same_text (drop 1 p) (from_dot q)) (same_text p q)

-- the end of p, as long as q
abbrev pub tail : List ℕ → List ℕ → List ℕ
tail p q = drop (length p - length q) p

unfoldable pub in_subtree : List ℕ → List ℕ → Bool
in_subtree p q =
    cond (eqb (length q) 0)
    true
    (cond (leb (length p) (length q))
    (same_text p q)
    (cond (begins q dot)
    (same_text (tail p q) q)
    (cond (eqb (get_or p (length p - length q - 1) 0) dot) (same_text (tail p q) q) false)))

unfoldable pub meets_subtree : List ℕ → List ℕ → Bool
meets_subtree p q =
    cond (in_subtree p q)
    true
    (cond (begins p star) (same_text (drop 1 p) (from_dot (drop 1 q))) false)

unfoldable pub match_wanted : List ℕ → List ℕ → Result Bool ℕ
match_wanted p q =
    cond (valid_presented p)
    (cond (valid_wanted q) (Ok (stands_for p (relative_text q))) (Err malformed_dns_identifier))
    (Err malformed_dns_identifier)

unfoldable pub match_permitted : List ℕ → List ℕ → Result Bool ℕ
match_permitted p q =
    cond (valid_presented p)
    (cond (valid_entry q) (Ok (in_subtree p q)) (Err malformed_name_constraint))
    (Err malformed_dns_identifier)

unfoldable pub match_excluded : List ℕ → List ℕ → Result Bool ℕ
match_excluded p q =
    cond (valid_presented p)
    (cond (valid_entry q) (Ok (meets_subtree p q)) (Err malformed_name_constraint))
    (Err malformed_dns_identifier)
