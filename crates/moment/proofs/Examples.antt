-- Three times and their moments, by computation. Assumes nothing.
use Prim.Native.Nat.{ℕ}
use mathlib.Core.Path.{◌≡◌, refl}
use mathlib.Core.List.{List, [], ◌∷◌}
use Rattle.der.specs.Model.{high_tag, by_first, read_length, with_length, read_limited, read_value, of_tag, expect_at, on_content}
use Rattle.moment.specs.Calendar.{leap_year, days_of_year, month_lengths, days_of_month, days_of_years, days_of_months, days_to, seconds_to, full_year}
use Rattle.moment.specs.Model.{of_digits, two_at, date_at, no_such_day, no_such_time, unreal, moment_of, after_year_at, utc_in, generalized_in, is_utc, utc_at, generalized_at, time_at, time_is}

-- UTCTime 000229000000Z: the leap day of 2000
abbrev pub leap_day2000 : List ℕ
leap_day2000 = 23 ∷ 13 ∷ 48 ∷ 48 ∷ 48 ∷ 50 ∷ 50 ∷ 57 ∷ 48 ∷ 48 ∷ 48 ∷ 48 ∷ 48 ∷ 48 ∷ 90 ∷ []

-- GeneralizedTime 20500101000000Z: the first year that UTCTime does not write
abbrev pub first2050 : List ℕ
first2050 = 24 ∷ 15 ∷ 50 ∷ 48 ∷ 53 ∷ 48 ∷ 48 ∷ 49 ∷ 48 ∷ 49 ∷ 48 ∷ 48 ∷ 48 ∷ 48 ∷ 48 ∷ 48 ∷ 90 ∷ []

-- GeneralizedTime 21000301000000Z: the day after 28 February, since 2100 is no leap year
abbrev pub march2100 : List ℕ
march2100 = 24 ∷ 15 ∷ 50 ∷ 49 ∷ 48 ∷ 48 ∷ 48 ∷ 51 ∷ 48 ∷ 49 ∷ 48 ∷ 48 ∷ 48 ∷ 48 ∷ 48 ∷ 48 ∷ 90 ∷ []

pub three_times : (time_at leap_day2000 0 15 ≡ time_is 951782400 15) × (time_at first2050 0 17 ≡ time_is 2524608000 17) × (time_at march2100 0 17 ≡ time_is 4107542400 17)
unfolding time_at is_utc utc_at utc_in generalized_at generalized_in after_year_at moment_of date_at two_at of_digits unreal no_such_day no_such_time leap_year days_of_year month_lengths days_of_month days_of_years days_of_months days_to seconds_to full_year high_tag by_first read_length with_length read_limited read_value of_tag expect_at on_content
three_times = (refl, refl, refl)
