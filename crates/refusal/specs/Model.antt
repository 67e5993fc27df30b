-- Which of two refusals is kept, as a function of their numbers; a number as what a function returns.
use Rattle.std.specs.Prelude.{ℕ, zero, suc, cond, ltb, Result, Ok, Err}
use Rattle.refusal.specs.Refusals.{rank_of}

-- the one of higher rank, the first where the ranks are equal
unfoldable pub worse_of : ℕ → ℕ → ℕ
worse_of a b = cond (ltb (rank_of a) (rank_of b)) b a

-- 0 is no refusal
unfoldable pub outcome : ℕ → Result (Unit {0}) ℕ
outcome zero = Ok tt
outcome (suc e) = Err (suc e)
