-- The answer is that of the content of the value at the place, of the kind that its tag says. Assumes nothing.
use Prim.Native.Nat.{ℕ, ◌<◌, ◌≤◌}
use mathlib.Core.Path.{◌≡◌, refl, ap, ◌∙◌}
use mathlib.Core.List.{List}
use mathlib.Core.Bool.{Bool, true, false, cond}
use mathlib.Core.Logic.{◌⊎◌, inl, inr, ⊎_elim}
use lib.ListN.{length, get_or}
use lib.Dec.{eqb}
use native.Mathlib.Omega.{arith}
use Rattle.refusal.specs.Refusals.{trailing_time}
use Rattle.der.specs.Places.{LIMIT}
use Rattle.der.specs.Model.{read_value, of_tag, expect_at, on_content, value_is}
use Rattle.der.proofs.Laws.{tests, expect_value, value_expect}
use Rattle.der.proofs.Invert.{either, value_inv}
use Rattle.moment.specs.Calendar.{Kind, utc, generalized, tag_of}
use Rattle.moment.specs.Model.{is_utc, utc_at, generalized_at, time_at}
use Rattle.moment.proofs.Fronts.{content_in}
use Rattle.std.specs.Prelude.{Ok, Err, None, Some, Result, Option}
use Rattle.der.specs.declared.Span.{Span}
use Rattle.der.specs.declared.Value.{Value}

-- the first byte of a value is its tag
first_byte : (s : List ℕ) (from to tag start end : ℕ) → read_value s from to ≡ value_is tag start end → (from < to) × (to ≤ length s) × (get_or s from 0 ≡ tag)
unfolding read_value
first_byte s from to tag start end e =
    let v = value_inv s from to LIMIT tag start end e in
    (v.before, v.within, v.tag_is)

-- a value of a kind answers by its content
pub value_answers : (kind : Kind) (s : List ℕ) (from to start end : ℕ) → read_value s from to ≡ value_is (tag_of kind) start end → time_at s from to ≡ content_in kind s start end
unfolding time_at is_utc utc_at generalized_at on_content tag_of content_in
value_answers utc s from to start end e =
    let f = first_byte s from to 23 start end e in
    let before = f.0 in
    let some : from < length s = omega (arith, f.1) in
    search (tests, f.2, value_expect s from to 23 trailing_time start end e)
value_answers generalized s from to start end e =
    let f = first_byte s from to 24 start end e in
    let before = f.0 in
    let some : from < length s = omega (arith, f.1) in
    search (tests, f.2, value_expect s from to 24 trailing_time start end e)

-- a content that is not there is refused as the caller says
refusal_is : (tag refusal x : ℕ) (r : Option Value) → of_tag tag refusal r ≡ Err x → refusal ≡ x
unfolding of_tag
refusal_is tag refusal x (Some v) e = go (eqb v.tag tag) e
  where
    go : (y : Bool) → cond {A = Result Span ℕ} y (Ok (record { start = v.start; end = v.end })) (Err refusal) ≡ Err x → refusal ≡ x
    go true h = absurd (let z : ◌≡◌ {A = ℕ} 0 1 = cc in omega arith)
    go false h = cc
refusal_is tag refusal x None e = cc

expected : (s : List ℕ) (from to tag : ℕ) → of_tag tag trailing_time (read_value s from to) ≡ expect_at s from to tag trailing_time
unfolding expect_at
expected s from to tag = refl

-- the value that an answer comes from
pub record From (kind : Kind) (s : List ℕ) (from to : ℕ) (z : Result (ℕ × ℕ) ℕ) : Type 0 where
  pub start : ℕ
  pub end : ℕ
  pub found : read_value s from to ≡ value_is (tag_of kind) start end
  pub answer : content_in kind s start end ≡ z

-- an answer other than left-over content comes from a value of one of the kinds
module _ (z : Result (ℕ × ℕ) ℕ) (other : Err trailing_time ≡ z → ⊥) (s : List ℕ) (from to : ℕ) where
  from_content : (kind : Kind) (g : Result Span ℕ) → expect_at s from to (tag_of kind) trailing_time ≡ g → on_content g Err (content_in kind s) ≡ z → From kind s from to z
  unfolding on_content
  from_content kind (Ok p) h e =
      record { start = p.start; end = p.end; found = expect_value s from to (tag_of kind) trailing_time p h; answer = e }
  from_content kind (Err x) h e =
      absurd (other (ap Err (refusal_is (tag_of kind) trailing_time x (read_value s from to) (expected s from to (tag_of kind) ∙ h)) ∙ e))

  pub from_value : time_at s from to ≡ z → From utc s from to z ⊎ From generalized s from to z
  unfolding time_at utc_at generalized_at tag_of content_in
  from_value e =
      ⊎_elim
      (λ w. inl (from_content utc (expect_at s from to 23 trailing_time) refl w.1))
      (λ w. inr (from_content generalized (expect_at s from to 24 trailing_time) refl w.1))
      (either (is_utc s from to) e)
