-- How many elements of a slice are read for DNS names: the tests of `Model.antt` in `crates/texts/specs`, `crates/labels/specs` and `crates/dns/specs` in the same order, and 1 for each element that the code beside it reads.
use Rattle.std.specs.Prelude.{ℕ, ◌+◌, ◌-◌, List, [], ◌∷◌, ◌++◌, Bool, true, cond, length, get_or, drop, ltb, leb, eqb}
use Rattle.texts.specs.Bytes.{dot}
use Rattle.labels.specs.Names.{star, longest_name}
use Rattle.dns.specs.Names.{small}
use Rattle.texts.specs.Model.{begins, relative_text, from_dot}
use Rattle.labels.specs.Model.{fresh, take_byte, on_taken, valid_presented, valid_wanted, valid_entry}
use Rattle.dns.specs.Model.{tail, in_subtree}

-- `begins`
unfoldable pub begins_looks : List ℕ → ℕ
begins_looks [] = 0
begins_looks (x ∷ xs) = 1

-- the loop of `same_text`, in the library: 2 for each pair, up to the first that differs
unfoldable pub text_looks : List ℕ → List ℕ → ℕ
text_looks [] ys = 0
text_looks (x ∷ xs) [] = 0
text_looks (x ∷ xs) (y ∷ ys) = 2 + cond (eqb (small x) (small y)) (text_looks xs ys) 0

-- `same_text`
unfoldable pub same_text_looks : List ℕ → List ℕ → ℕ
same_text_looks x y = cond (eqb (length x) (length y)) (text_looks x y) 0

-- `relative`
unfoldable pub relative_looks : List ℕ → ℕ
relative_looks h = cond (eqb (length h) 0) 0 1

-- `from_dot`
unfoldable pub from_dot_looks : List ℕ → ℕ
from_dot_looks [] = 0
from_dot_looks (x ∷ xs) = 1 + cond (eqb x dot) 0 (from_dot_looks xs)

-- whether the steps go through a text from a label on
unfoldable pub through : {L : Type 0} → (ℕ → L → (L → Bool) → Bool) → List ℕ → L → Bool
through step [] l = true
through step (b ∷ bs) l = step b l (through step bs)

-- whether the loop of `host` takes all these bytes
unfoldable pub all_taken : List ℕ → Bool
all_taken h = through (λ b l. on_taken (take_byte l b)) h fresh

-- the loop of `host`, the bytes before having been taken
unfoldable pub label_looks : List ℕ → List ℕ → ℕ
label_looks before [] = 0
label_looks before (b ∷ bs) = 1 + cond (all_taken (before ++ (b ∷ []))) (label_looks (before ++ (b ∷ [])) bs) 0

-- `host`
unfoldable pub host_looks : List ℕ → ℕ
host_looks h = label_looks [] h

-- ---- the three roles
-- `valid_presented`, after the star and a dot
unfoldable pub starred_looks : List ℕ → ℕ
starred_looks name = from_dot_looks name + cond (eqb (length (from_dot name)) 0) 0 (host_looks name)

-- `valid_presented`
unfoldable pub presented_looks : List ℕ → ℕ
presented_looks h =
    cond (ltb longest_name (length h))
    0
    (begins_looks h
    + cond (begins h star)
    (begins_looks (drop 1 h) + cond (begins (drop 1 h) dot) (starred_looks (drop 1 (drop 1 h))) 0)
    (host_looks h))

-- `valid_wanted`
unfoldable pub wanted_looks : List ℕ → ℕ
wanted_looks h = cond (ltb longest_name (length h)) 0 (relative_looks h + host_looks (relative_text h))

-- `valid_entry`
unfoldable pub entry_looks : List ℕ → ℕ
entry_looks h =
    cond (ltb longest_name (length h))
    0
    (cond (eqb (length h) 0) 0 (begins_looks h + cond (begins h dot) (host_looks (drop 1 h)) (host_looks h)))

-- ---- comparisons
-- `stands_for`
unfoldable pub stands_looks : List ℕ → List ℕ → ℕ
stands_looks p q =
    begins_looks p
    + cond (begins p star) (from_dot_looks q + same_text_looks (drop 1 p) (from_dot q)) (same_text_looks p q)

-- `in_subtree`
unfoldable pub in_looks : List ℕ → List ℕ → ℕ
in_looks p q =
    cond (eqb (length q) 0)
    0
    (cond (leb (length p) (length q))
    (same_text_looks p q)
    (begins_looks q
    + cond (begins q dot)
    (same_text_looks (tail p q) q)
    (1 + cond (eqb (get_or p (length p - length q - 1) 0) dot) (same_text_looks (tail p q) q) 0)))

-- `meets_subtree`
unfoldable pub meets_looks : List ℕ → List ℕ → ℕ
meets_looks p q =
    in_looks p q
    + cond (in_subtree p q)
    0
    (begins_looks p
    + cond (begins p star) (from_dot_looks (drop 1 q) + same_text_looks (drop 1 p) (from_dot (drop 1 q))) 0)

-- `match_wanted`
unfoldable pub match_wanted_looks : List ℕ → List ℕ → ℕ
match_wanted_looks p q =
    presented_looks p
    + cond (valid_presented p)
    (wanted_looks q + cond (valid_wanted q) (relative_looks q + stands_looks p (relative_text q)) 0)
    0

-- `match_permitted`
unfoldable pub permitted_looks : List ℕ → List ℕ → ℕ
permitted_looks p q =
    presented_looks p + cond (valid_presented p) (entry_looks q + cond (valid_entry q) (in_looks p q) 0) 0

-- `match_excluded`
unfoldable pub excluded_looks : List ℕ → List ℕ → ℕ
excluded_looks p q =
    presented_looks p + cond (valid_presented p) (entry_looks q + cond (valid_entry q) (meets_looks p q) 0) 0
