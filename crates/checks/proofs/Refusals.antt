-- A refusal of a time is never the number 0, which stands for none, and never one that says that a budget is used up. Assumes nothing.
use Prim.Native.Nat.{ℕ, ◌+◌, ◌-◌}
use mathlib.Core.List.{List}
use lib.ListN.{get_or}
use lib.Dec.{lit<, ltb, eqb}
use Rattle.refusal.specs.Refusals.{trailing_time}
use Rattle.der.specs.Model.{expect_at}
use Rattle.moment.specs.Model.{two_at, date_at, unreal, moment_of, after_year_at, utc_in, generalized_in, is_utc, utc_at, generalized_at, time_at, time_is}
use Rattle.extensions.proofs.Refusals.{Fair, by_test, by_content, expect_fair}
use Rattle.std.specs.Prelude.{Err, Result}

-- a time whose refusal, if it is one, is fair
pub data TimeFair : Result (ℕ × ℕ) ℕ → Type 0 where
  time_said : (n next : ℕ) → TimeFair (time_is n next)
  time_not : {e : ℕ} → Fair e → TimeFair (Err e)

module _ (s : List ℕ) where
  after_year_fair : (at end year : ℕ) → TimeFair (after_year_at s at end year)
  unfolding after_year_at moment_of
  after_year_fair at end year =
      by_test TimeFair (ltb year 1970) (time_not (lit< tt, lit< tt))
      (by_test TimeFair (eqb (get_or s (at + 10) 0) 90)
      (by_test TimeFair (unreal (date_at s at year)) (time_not (lit< tt, lit< tt)) (by_test TimeFair (ltb (at + 11) end) (time_not (lit< tt, lit< tt)) (time_said _ _)))
      (time_not (lit< tt, lit< tt)))

  utc_fair : (start end : ℕ) → TimeFair (utc_in s start end)
  unfolding utc_in
  utc_fair start end =
      by_test TimeFair (ltb (end - start) 13) (time_not (lit< tt, lit< tt))
      (by_test TimeFair (ltb 99 (two_at s start)) (time_not (lit< tt, lit< tt)) (after_year_fair _ _ _))

  generalized_fair : (start end : ℕ) → TimeFair (generalized_in s start end)
  unfolding generalized_in
  generalized_fair start end =
      by_test TimeFair (ltb (end - start) 15) (time_not (lit< tt, lit< tt))
      (by_test TimeFair (ltb 99 (two_at s start)) (time_not (lit< tt, lit< tt))
      (by_test TimeFair (ltb 99 (two_at s (start + 2))) (time_not (lit< tt, lit< tt)) (after_year_fair _ _ _)))

  pub time_fair : (from to : ℕ) → TimeFair (time_at s from to)
  unfolding time_at utc_at generalized_at
  time_fair from to =
      by_test TimeFair (is_utc s from to)
      (by_content TimeFair (expect_at s from to 23 trailing_time) Err (utc_in s) (expect_fair s from to 23 _ (lit< tt, lit< tt)) (λ e h. time_not h) utc_fair)
      (by_content TimeFair (expect_at s from to 24 trailing_time) Err (generalized_in s) (expect_fair s from to 24 _ (lit< tt, lit< tt)) (λ e h. time_not h) generalized_fair)
