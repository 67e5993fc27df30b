-- How many elements of a slice the reader reads: the tests of `Model.antt` in `crates/der/specs` and `crates/parts/specs` in the same order, and 1 for each `s[i]` that the code beside it comes to.
use Rattle.std.specs.Prelude.{ℕ, ◌+◌, ◌-◌, List, [], ◌∷◌, cond, length, get_or, ltb, leb, eqb}
use Rattle.der.specs.Places.{part}
use Rattle.der.specs.Model.{high_tag}

-- after a refusal nothing is looked at
abbrev pub nothing : ℕ → ℕ
nothing e = 0

-- `long_1` to `long_4`: k bytes
unfoldable pub long_looks : ℕ → ℕ → ℕ → ℕ
long_looks at to k = cond (leb (to - at) k) 0 k

-- `read_length`, after its first byte, b
unfoldable pub first_looks : ℕ → ℕ → ℕ → ℕ
first_looks at to b = cond (ltb b 128) 0 (cond (ltb b 129) 0 (cond (ltb 132 b) 0 (long_looks at to (b - 128))))

-- `read_length`
unfoldable pub length_looks : List ℕ → ℕ → ℕ → ℕ
length_looks s at to =
    cond (ltb (length s) to) 0 (cond (leb to at) 0 (1 + first_looks at to (get_or s at 0)))

-- `read_limited`, `read_value` and `expect`: the header, whatever the limit and the tag
unfoldable pub value_looks : List ℕ → ℕ → ℕ → ℕ
value_looks s from to =
    cond (ltb (length s) to)
    0
    (cond (leb to from) 0 (1 + cond (high_tag (get_or s from 0)) 0 (length_looks s (from + 1) to)))

-- the loop of `same`: 2 for each pair, up to the first that differs
unfoldable pub pair_looks : List ℕ → List ℕ → ℕ
pair_looks [] ys = 0
pair_looks (x ∷ xs) [] = 0
pair_looks (x ∷ xs) (y ∷ ys) = 2 + cond (eqb x y) (pair_looks xs ys) 0

-- `same`
unfoldable pub same_looks : List ℕ → ℕ → ℕ → List ℕ → ℕ → ℕ → ℕ
same_looks s a b t c d =
    cond (ltb b a)
    0
    (cond (ltb (length s) b)
    0
    (cond (ltb d c)
    0
    (cond (ltb (length t) d)
    0
    (cond (eqb (b - a) (d - c)) (pair_looks (part s a b) (part t c d)) 0))))
