-- The tests that refuse a date leave exactly the calendar's dates. Assumes nothing.
use Prim.Native.Nat.{ℕ, ◌+◌, ◌-◌, ◌≤◌, ◌<◌}
use mathlib.Core.Path.{◌≡◌}
use mathlib.Core.Bool.{true, false}
use lib.Dec.{ltb}
use native.Mathlib.Omega.{arith}
use borrow.Author.Tests.{ltb-false}
use Rattle.der.proofs.Laws.{tests}
use Rattle.der.proofs.Invert.{peel}
use Rattle.moment.specs.Calendar.{days_of_months, days_of_years, Date, Real}
use Rattle.moment.specs.Model.{no_such_day, no_such_time, unreal}
use Rattle.moment.proofs.Counts.{years_fit, year_length, day_in_year}

true_false : true ≡ false → ⊥
true_false e = let z : ◌≡◌ {A = ℕ} 0 1 = cc in omega arith

pub left_is_real : (d : Date) → unreal d ≡ false → Real d
unfolding unreal no_such_day no_such_time
left_is_real d e =
    let both = peel (no_such_day d.year d.month d.day) e true_false in
    let a = peel (ltb d.month 1) both.0 true_false in
    let b = peel (ltb 12 d.month) a.1 true_false in
    let f = peel (ltb d.day 1) b.1 true_false in
    let h = peel (ltb 23 d.hour) both.1 true_false in
    let i = peel (ltb 59 d.minute) h.1 true_false in
    record {
      month_first = ltb-false _ _ a.0;
      month_last = ltb-false _ _ b.0;
      day_first = ltb-false _ _ f.0;
      day_last = ltb-false _ _ f.1;
      hour_last = ltb-false _ _ h.0;
      minute_last = ltb-false _ _ i.0;
      second_last = ltb-false _ _ i.1;
    }

pub real_is_left : (d : Date) → Real d → unreal d ≡ false
unfolding unreal no_such_day no_such_time
real_is_left d r = search tests

-- the days to a date through 9999 are few enough to count in
pub days_fit : (d : Date) → Real d → d.year ≤ 9999 → (days_of_years (d.year - 1970) < 3652060) × (days_of_months d.year (d.month - 1) + (d.day - 1) < 366)
days_fit d r h = (
  years_fit (d.year - 1970) (omega arith),
  omega (arith, day_in_year d.year d.month d.day r.month_first r.month_last r.day_first r.day_last, year_length d.year),
)
