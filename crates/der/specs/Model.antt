-- What the code answers, as functions of the bytes: the same tests in the same order.
use Rattle.std.specs.Prelude.{ℕ, zero, suc, ◌+◌, ◌-◌, ◌*◌, ◌%◌, ◌<◌, ◌≡◌, List, Bool, cond, length, get_or, ltb, leb, eqb, None, Ok, Err, Some, Option, Result}
use Rattle.der.specs.Places.{LIMIT}
use Rattle.der.specs.declared.Length.{Length}
use Rattle.der.specs.declared.Value.{Value}
use Rattle.der.specs.declared.Span.{Span}

-- a length and the place after it; a value: its tag, and the places of its content
abbrev pub length_is : ℕ → ℕ → Option Length
length_is len next = Some (record { len = len; next = next })

abbrev pub value_is : ℕ → ℕ → ℕ → Option Value
value_is tag start end = Some (record { tag = tag; start = start; end = end })

-- a byte, as a number to count with
pub record ByteAt (s : List ℕ) (at r : ℕ) : Type 0 where
  pub is : r ≡ get_or s at 0
  pub small : r < 256

-- the low five bits are all ones
unfoldable pub high_tag : ℕ → Bool
high_tag t = eqb (t % 32) 31

-- the k bytes at a place as one number, highest byte first
unfoldable pub number_at : List ℕ → ℕ → ℕ → ℕ
number_at s at zero = 0
number_at s at (suc k) = number_at s at k * 256 + get_or s (at + k) 0

-- the least length that takes k bytes after the first
unfoldable pub least : ℕ → ℕ
least k = cond (eqb k 1) 128 (cond (eqb k 2) 256 (cond (eqb k 3) 65536 16777216))

-- a length of k bytes after its first, k from 1 to 4
unfoldable pub long_form : List ℕ → ℕ → ℕ → ℕ → Option Length
long_form s at to k =
    cond (leb (to - at) k)
    None
    (cond (ltb (number_at s (at + 1) k) (least k)) None (length_is (number_at s (at + 1) k) (at + 1 + k)))

-- a length, by its first byte
unfoldable pub by_first : List ℕ → ℕ → ℕ → ℕ → Option Length
by_first s at to b =
    cond (ltb b 128)
    (length_is b (at + 1))
    (cond (ltb b 129) None (cond (ltb 132 b) None (long_form s at to (b - 128))))

unfoldable pub read_length : List ℕ → ℕ → ℕ → Option Length
read_length s at to =
    cond (ltb (length s) to) None (cond (leb to at) None (by_first s at to (get_or s at 0)))

-- the value of a tag and a length
unfoldable pub with_length : ℕ → ℕ → ℕ → Option Length → Option Value
with_length tag to limit (Some v) =
    cond (leb limit v.len) None (cond (ltb (to - v.next) v.len) None (value_is tag v.next (v.next + v.len)))
with_length tag to limit None = None

unfoldable pub read_limited : List ℕ → ℕ → ℕ → ℕ → Option Value
read_limited s from to limit =
    cond (ltb (length s) to)
    None
    (cond (leb to from)
    None
    (cond (high_tag (get_or s from 0)) None (with_length (get_or s from 0) to limit (read_length s (from + 1) to))))

unfoldable pub read_value : List ℕ → ℕ → ℕ → Option Value
read_value s from to = read_limited s from to LIMIT

unfoldable pub of_tag : ℕ → ℕ → Option Value → Result Span ℕ
of_tag tag refusal (Some v) =
    cond (eqb v.tag tag) (Ok (record { start = v.start; end = v.end })) (Err refusal)
of_tag tag refusal None = Err refusal

unfoldable pub expect_at : List ℕ → ℕ → ℕ → ℕ → ℕ → Result Span ℕ
expect_at s from to tag refusal = of_tag tag refusal (read_value s from to)

-- go on with a content, or with the refusal
unfoldable pub on_content : {R : Type 0} → Result Span ℕ → (ℕ → R) → (ℕ → ℕ → R) → R
on_content (Ok p) other k = k p.start p.end
on_content (Err e) other k = other e
