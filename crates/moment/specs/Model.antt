-- What reading a time at a place finds, as a function of the bytes.
use Rattle.std.specs.Prelude.{ℕ, ◌+◌, ◌-◌, ◌*◌, List, Bool, true, false, cond, length, get_or, ltb, leb, eqb, Ok, Err, Result}
use Rattle.der.specs.Model.{expect_at, on_content}
use Rattle.refusal.specs.Refusals.{bad_der_time, trailing_time}
use Rattle.moment.specs.declared.Date as declared
use Rattle.moment.specs.Calendar.{Date, days_of_month, seconds_to, full_year}

-- a moment and the place after it
abbrev pub time_is : ℕ → ℕ → Result (ℕ × ℕ) ℕ
time_is seconds next = Ok (seconds, next)

-- the calendar's date of six numbers
abbrev pub date_of : declared.Date → Date
date_of d =
    record {
      year = d.year;
      month = d.month;
      day = d.day;
      hour = d.hour;
      minute = d.minute;
      second = d.second;
    }

-- the number that two digits write; 100 where one of them is no digit
unfoldable pub of_digits : ℕ → ℕ → ℕ
of_digits a b =
    cond (ltb a 48)
    100
    (cond (ltb 57 a) 100 (cond (ltb b 48) 100 (cond (ltb 57 b) 100 ((a - 48) * 10 + (b - 48)))))

unfoldable pub two_at : List ℕ → ℕ → ℕ
two_at s at = of_digits (get_or s at 0) (get_or s (at + 1) 0)

-- the month, day, hour, minute and second at a place, after the year
unfoldable pub date_at : List ℕ → ℕ → ℕ → Date
date_at s at year =
    record {
      year = year;
      month = two_at s at;
      day = two_at s (at + 2);
      hour = two_at s (at + 4);
      minute = two_at s (at + 6);
      second = two_at s (at + 8);
    }

unfoldable pub no_such_day : ℕ → ℕ → ℕ → Bool
no_such_day year month day =
    cond (ltb month 1)
    true
    (cond (ltb 12 month) true (cond (ltb day 1) true (ltb (days_of_month year month) day)))

unfoldable pub no_such_time : ℕ → ℕ → ℕ → Bool
no_such_time hour minute second =
    cond (ltb 23 hour) true (cond (ltb 59 minute) true (ltb 59 second))

unfoldable pub unreal : Date → Bool
unreal d =
    cond (no_such_day d.year d.month d.day) true (no_such_time d.hour d.minute d.second)

-- the moment of a date; its text ends at `at`, and its content at `end`
unfoldable pub moment_of : Date → ℕ → ℕ → Result (ℕ × ℕ) ℕ
moment_of d at end = cond (unreal d) (Err bad_der_time) (cond (ltb at end) (Err trailing_time) (time_is (seconds_to d) end))

-- what follows the year
unfoldable pub after_year_at : List ℕ → ℕ → ℕ → ℕ → Result (ℕ × ℕ) ℕ
after_year_at s at end year =
    cond (ltb year 1970)
    (Err bad_der_time)
    (cond (eqb (get_or s (at + 10) 0) 90) (moment_of (date_at s at year) (at + 11) end) (Err bad_der_time))

-- a content of the kind UTCTime
unfoldable pub utc_in : List ℕ → ℕ → ℕ → Result (ℕ × ℕ) ℕ
utc_in s start end =
    cond (ltb (end - start) 13)
    (Err bad_der_time)
    (cond (ltb 99 (two_at s start)) (Err bad_der_time) (after_year_at s (start + 2) end (full_year (two_at s start))))

-- a content of the kind GeneralizedTime
unfoldable pub generalized_in : List ℕ → ℕ → ℕ → Result (ℕ × ℕ) ℕ
generalized_in s start end =
    cond (ltb (end - start) 15)
    (Err bad_der_time)
    (cond (ltb 99 (two_at s start))
    (Err bad_der_time)
    (cond (ltb 99 (two_at s (start + 2)))
    (Err bad_der_time)
    (after_year_at s (start + 4) end (two_at s start * 100 + two_at s (start + 2)))))

-- whether the next byte is the tag of UTCTime
unfoldable pub is_utc : List ℕ → ℕ → ℕ → Bool
is_utc s from to = cond (leb to from) false (cond (leb (length s) from) false (eqb (get_or s from 0) 23))

unfoldable pub utc_at : List ℕ → ℕ → ℕ → Result (ℕ × ℕ) ℕ
utc_at s from to = on_content (expect_at s from to 23 trailing_time) Err (utc_in s)

unfoldable pub generalized_at : List ℕ → ℕ → ℕ → Result (ℕ × ℕ) ℕ
generalized_at s from to = on_content (expect_at s from to 24 trailing_time) Err (generalized_in s)

unfoldable pub time_at : List ℕ → ℕ → ℕ → Result (ℕ × ℕ) ℕ
time_at s from to = cond (is_utc s from to) (utc_at s from to) (generalized_at s from to)
