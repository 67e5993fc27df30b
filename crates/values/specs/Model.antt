-- What the code answers, as functions of the bytes: the same tests in the same order.
use Rattle.std.specs.Prelude.{ℕ, ◌+◌, ◌-◌, List, Bool, true, false, cond, length, get_or, ltb, leb, eqb, Ok, Err, Result}
use Rattle.refusal.specs.Refusals.{bad_der, trailing_bool}
use Rattle.der.specs.Model.{expect_at, on_content}
use Rattle.der.specs.declared.Span.{Span}

-- what was read, and the place after it
abbrev pub truth_is : Bool → ℕ → Result (Bool × ℕ) ℕ
truth_is value next = Ok (value, next)

abbrev pub number_is : ℕ → ℕ → Result (ℕ × ℕ) ℕ
number_is value next = Ok (value, next)

-- ---- BOOLEAN
-- a value of which nothing may be left over
unfoldable pub only_byte : ℕ → ℕ → Bool → Result (Bool × ℕ) ℕ
only_byte from to value = cond (eqb (to - from) 1) (truth_is value to) (Err trailing_bool)

unfoldable pub truth_in : List ℕ → ℕ → ℕ → Result (Bool × ℕ) ℕ
truth_in s from to =
    cond (ltb (length s) to)
    (Err bad_der)
    (cond (leb to from)
    (Err bad_der)
    (cond (eqb (get_or s from 0) 255)
    (only_byte from to true)
    (cond (eqb (get_or s from 0) 0) (only_byte from to false) (Err bad_der))))

unfoldable pub read_bool : List ℕ → ℕ → ℕ → Result (Bool × ℕ) ℕ
read_bool s from to =
    cond (ltb (length s) to)
    (Err bad_der)
    (cond (leb to from)
    (truth_is false from)
    (cond (eqb (get_or s from 0) 1)
    (on_content (expect_at s from to 1 trailing_bool) Err (truth_in s))
    (truth_is false from)))

-- ---- INTEGER
unfoldable pub positive_in : List ℕ → ℕ → ℕ → Result Span ℕ
positive_in s from to =
    cond (ltb (length s) to)
    (Err bad_der)
    (cond (leb to from)
    (Err bad_der)
    (cond (leb 128 (get_or s from 0))
    (Err bad_der)
    (cond (ltb 0 (get_or s from 0))
    (Ok (record { start = from; end = to }))
    (cond (eqb (to - from) 1)
    (Ok (record { start = from; end = to }))
    (cond (ltb (get_or s (from + 1) 0) 128)
    (Err bad_der)
    (Ok (record { start = from + 1; end = to })))))))

unfoldable pub nonnegative : List ℕ → ℕ → ℕ → Result Span ℕ
nonnegative s from to = on_content (expect_at s from to 2 bad_der) Err (positive_in s)

unfoldable pub small_in : List ℕ → ℕ → ℕ → Result (ℕ × ℕ) ℕ
small_in s from to =
    cond (ltb (length s) to)
    (Err bad_der)
    (cond (leb to from)
    (Err bad_der)
    (cond (eqb (to - from) 1) (number_is (get_or s from 0) to) (Err bad_der)))

unfoldable pub read_small : List ℕ → ℕ → ℕ → Result (ℕ × ℕ) ℕ
read_small s from to = on_content (nonnegative s from to) Err (small_in s)
