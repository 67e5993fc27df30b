-- Which refusal: no value of either kind, or content left over after a good text; a bad text comes before both. Assumes nothing.
use Prim.Native.Nat.{ℕ, ◌+◌, ◌<◌}
use mathlib.Core.Path.{◌≡◌, refl, ap, ◌∙◌}
use mathlib.Core.List.{List}
use mathlib.Core.Bool.{Bool, true, false}
use mathlib.Core.Logic.{◌⊎◌, inl, inr, ⊎_elim}
use lib.Dec.{eqb}
use native.Mathlib.Omega.{arith}
use borrow.Author.Tests.{lt-ltb, eqb-true, eqb-false}
use Rattle.refusal.specs.Refusals.{bad_der_time, trailing_time}
use Rattle.der.specs.Model.{read_value, value_is}
use Rattle.der.proofs.Theorems.{value_places}
use Rattle.moment.specs.Calendar.{Date, Kind, utc, generalized, tag_of}
use Rattle.moment.specs.Model.{time_at}
use Rattle.moment.proofs.Fronts.{size, content_in, Front, fate, fronted, goes_on}
use Rattle.moment.proofs.Values.{From, value_answers, from_value}
use Rattle.std.specs.Prelude.{Err, Ok, Result}

-- an answer is a refusal, or not
is_refusal : (x : ℕ) (z : Result (ℕ × ℕ) ℕ) → (z ≡ Err x) ⊎ (Err x ≡ z → ⊥)
is_refusal x (Ok v) = inr (λ e. let q : ◌≡◌ {A = ℕ} 0 1 = cc in omega arith)
is_refusal x (Err y) = go (eqb y x) refl
  where
    go : (b : Bool) → eqb y x ≡ b → (◌≡◌ {A = Result (ℕ × ℕ) ℕ} (Err y) (Err x)) ⊎ (◌≡◌ {A = Result (ℕ × ℕ) ℕ} (Err x) (Err y) → ⊥)
    go true e = inl (ap Err (eqb-true y x e))
    go false e = inr (λ q. let r : y ≡ x = cc in eqb-false y x e r)

something_after : (d : Date) (at end : ℕ) → at < end → fate d at end ≡ Err trailing_time
unfolding fate
something_after d at end h = rw (lt-ltb at end h)

-- no value of either kind
pub no_value : (s : List ℕ) (from to : ℕ) → ((kind : Kind) (start end : ℕ) → read_value s from to ≡ value_is (tag_of kind) start end → ⊥) → time_at s from to ≡ Err trailing_time
no_value s from to none =
    ⊎_elim
    (λ e. e)
    (λ n.
    absurd
    (⊎_elim
    (λ (v : From utc s from to (time_at s from to)). none utc v.start v.end v.found)
    (λ (v : From generalized s from to (time_at s from to)). none generalized v.start v.end v.found)
    (from_value (time_at s from to) n s from to refl)))
    (is_refusal trailing_time (time_at s from to))

-- a value whose content does not begin with the text of a date that has a moment, whatever follows
pub bad_text : (kind : Kind) (s : List ℕ) (from to start end : ℕ) → read_value s from to ≡ value_is (tag_of kind) start end → (Front kind s start end → ⊥) → time_at s from to ≡ Err bad_der_time
bad_text kind s from to start end v none =
    let p = value_places s from to (tag_of kind) start end v in
    value_answers kind s from to start end v
    ∙ ⊎_elim
    (λ e. e)
    (λ n. absurd (none (fronted (content_in kind s start end) n kind s start end (omega arith) refl).front))
    (is_refusal bad_der_time (content_in kind s start end))

-- a value whose content goes on after such a text
pub left_over : (kind : Kind) (s : List ℕ) (from to start end : ℕ) → read_value s from to ≡ value_is (tag_of kind) start end → Front kind s start end → start + size kind < end → time_at s from to ≡ Err trailing_time
left_over kind s from to start end v f h =
    let p = value_places s from to (tag_of kind) start end v in
    value_answers kind s from to start end v ∙ goes_on kind s start end (omega arith) f ∙ something_after f.date (start + size kind) end h
