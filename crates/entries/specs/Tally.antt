-- What a check of names comes to with no budget in mind, and what is left of a budget after it.
use Rattle.std.specs.Prelude.{ℕ, ◌+◌, ◌-◌, ◌≡◌, cond, leb, eqb, Result}
use Rattle.refusal.specs.Refusals.{maximum_name_constraint_comparisons_exceeded}
use Rattle.refusal.specs.Model.{outcome}

-- how many comparisons are taken up to the first refusal, and that refusal; 0: none
pub record Tally : Type 0 where
  pub taken : ℕ
  pub refusal : ℕ

abbrev pub tally : ℕ → ℕ → Tally
tally n e = record { taken = n; refusal = e }

-- nothing taken, nothing refused
abbrev pub clean : Tally
clean = tally 0 0

-- one check, and if it refuses nothing the next
unfoldable pub after : Tally → Tally → Tally
after a b = cond (eqb a.refusal 0) (tally (a.taken + b.taken) b.refusal) a

-- what is left of the comparisons allowed, and the first refusal; 0: none
pub record Spent : Type 0 where
  pub left : ℕ
  pub refusal : ℕ

-- with so many comparisons allowed: what is left, and the refusal; wanting one more is a refusal of its own
unfoldable pub spend : ℕ → Tally → Spent
spend left t =
    cond (leb t.taken left)
    (record { left = left - t.taken; refusal = t.refusal })
    (record { left = 0; refusal = maximum_name_constraint_comparisons_exceeded })

-- what a function that checks names answers, and what it leaves of the comparisons that it is lent
pub record Leaves (left new : ℕ) (result : Result (Unit {0}) ℕ) (t : Tally) : Type 0 where
  pub answer : result ≡ outcome (spend left t).refusal
  pub rest : new ≡ (spend left t).left
