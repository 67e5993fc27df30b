-- How many elements of a slice are read for a value: the tests of `Model.antt` in `crates/values/specs` and `crates/bits/specs` in the same order, and 1 for each `s[i]` that the code beside it comes to.
use Rattle.std.specs.Prelude.{ℕ, ◌+◌, ◌-◌, List, cond, length, get_or, ltb, leb, eqb}
use Rattle.refusal.specs.Refusals.{bad_der, trailing_bool, trailing_bit_string}
use Rattle.der.specs.Model.{expect_at, on_content}
use Rattle.looks.specs.Der.{nothing, value_looks}
use Rattle.values.specs.Model.{nonnegative}

-- `truth_in` and `whole_octets`: the first byte
unfoldable pub byte_looks : List ℕ → ℕ → ℕ → ℕ
byte_looks s from to = cond (ltb (length s) to) 0 (cond (leb to from) 0 1)

-- `read_bool`: the tag, and the value if the tag is BOOLEAN's
unfoldable pub bool_looks : List ℕ → ℕ → ℕ → ℕ
bool_looks s from to =
    cond (ltb (length s) to)
    0
    (cond (leb to from)
    0
    (1 + cond (eqb (get_or s from 0) 1) (value_looks s from to + on_content (expect_at s from to 1 trailing_bool) nothing (byte_looks s)) 0))

-- `positive_in`: the first byte twice, if the first test lets it pass
unfoldable pub positive_looks : List ℕ → ℕ → ℕ → ℕ
positive_looks s from to =
    cond (ltb (length s) to)
    0
    (cond (leb to from)
    0
    (1 + cond (leb 128 (get_or s from 0)) 0 (1 + cond (ltb 0 (get_or s from 0)) 0 (cond (eqb (to - from) 1) 0 1))))

-- `nonnegative_at`
unfoldable pub nonnegative_looks : List ℕ → ℕ → ℕ → ℕ
nonnegative_looks s from to = value_looks s from to + on_content (expect_at s from to 2 bad_der) nothing (positive_looks s)

-- `small_in`
unfoldable pub digit_looks : List ℕ → ℕ → ℕ → ℕ
digit_looks s from to = cond (ltb (length s) to) 0 (cond (leb to from) 0 (cond (eqb (to - from) 1) 1 0))

-- `read_small`
unfoldable pub small_looks : List ℕ → ℕ → ℕ → ℕ
small_looks s from to = nonnegative_looks s from to + on_content (nonnegative s from to) nothing (digit_looks s)

-- `bits_at`
unfoldable pub bits_looks : List ℕ → ℕ → ℕ → ℕ
bits_looks s from to = value_looks s from to + on_content (expect_at s from to 3 trailing_bit_string) nothing (byte_looks s)
