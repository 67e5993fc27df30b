-- What the code answers, as functions of the bytes: the same tests in the same order.
use Rattle.std.specs.Prelude.{ℕ, ◌+◌, ◌-◌, ◌/◌, ◌%◌, ◌^◌, List, Bool, false, cond, length, get_or, ltb, leb, eqb, Ok, Err, Result}
use Rattle.refusal.specs.Refusals.{bad_der, trailing_bit_string}
use Rattle.der.specs.Model.{expect_at, on_content}
use Rattle.der.specs.declared.Span.{Span}

unfoldable pub whole_octets : List ℕ → ℕ → ℕ → Result Span ℕ
whole_octets s from to =
    cond (ltb (length s) to)
    (Err bad_der)
    (cond (leb to from)
    (Err bad_der)
    (cond (eqb (get_or s from 0) 0) (Ok (record { start = from + 1; end = to })) (Err bad_der)))

unfoldable pub bits_at : List ℕ → ℕ → ℕ → Result Span ℕ
bits_at s from to = on_content (expect_at s from to 3 trailing_bit_string) Err (whole_octets s)

unfoldable pub flags_in : List ℕ → ℕ → ℕ → Result Span ℕ
flags_in s from to =
    cond (ltb (length s) to)
    (Err bad_der)
    (cond (leb to from)
    (Err bad_der)
    (cond (ltb 7 (get_or s from 0))
    (Err bad_der)
    (cond (eqb (to - from) 1)
    (cond (ltb 0 (get_or s from 0)) (Err bad_der) (Ok (record { start = from + 1; end = to })))
    (cond (eqb (get_or s (to - 1) 0 % (2 ^ get_or s from 0)) 0)
    (Ok (record { start = from + 1; end = to }))
    (Err bad_der)))))

unfoldable pub flag_at : List ℕ → ℕ → ℕ → ℕ → Bool
flag_at s from to k =
    cond (ltb (length s) to)
    false
    (cond (leb to from)
    false
    (cond (leb (to - from) (k / 8))
    false
    (eqb ((get_or s (from + k / 8) 0 / (2 ^ (7 - k % 8))) % 2) 1)))
