-- Dates of the Gregorian calendar, the seconds from 1970 to them, and how UTCTime and GeneralizedTime write them: X.680, 8.4, 46 and 47; X.690, 11.7 and 11.8; RFC 5280, 4.1.2.5.
use Rattle.std.specs.Prelude.{ℕ, zero, suc, ◌+◌, ◌-◌, ◌*◌, ◌/◌, ◌%◌, ◌≤◌, ◌<◌, ◌≡◌, List, [], ◌∷◌, ◌++◌, Bool, cond, ◌⊎◌, get_or, ltb, eqb}
use Rattle.der.specs.X690.{encoding}

-- ---- the calendar

-- the Gregorian rule: every fourth year is a leap year, but of the hundreds only every fourth
unfoldable pub leap_year : ℕ → Bool
leap_year y = cond (eqb (y % 100) 0) (eqb (y % 400) 0) (eqb (y % 4) 0)

unfoldable pub days_of_year : ℕ → ℕ
days_of_year y = cond (leap_year y) 366 365

-- the lengths of the twelve months, January to December, with February's given
unfoldable pub month_lengths : ℕ → List ℕ
month_lengths february = 31 ∷ february ∷ 31 ∷ 30 ∷ 31 ∷ 30 ∷ 31 ∷ 31 ∷ 30 ∷ 31 ∷ 30 ∷ 31 ∷ []

-- the days of month m, 1 to 12, of the year y
unfoldable pub days_of_month : ℕ → ℕ → ℕ
days_of_month y m = get_or (month_lengths (cond (leap_year y) 29 28)) (m - 1) 0

-- the days of the first k years from 1970 on
unfoldable pub days_of_years : ℕ → ℕ
days_of_years zero = 0
days_of_years (suc k) = days_of_years k + days_of_year (1970 + k)

-- the days of the first k months of the year y
unfoldable pub days_of_months : ℕ → ℕ → ℕ
days_of_months y zero = 0
days_of_months y (suc k) = days_of_months y k + days_of_month y (suc k)

pub record Date : Type 0 where
  pub year : ℕ
  pub month : ℕ
  pub day : ℕ
  pub hour : ℕ
  pub minute : ℕ
  pub second : ℕ

-- a date that the calendar has, at a time that the clock shows; a leap second has no number in the count of seconds (stricter, D52)
pub record Real (d : Date) : Type 0 where
  pub month_first : 1 ≤ d.month
  pub month_last : d.month ≤ 12
  pub day_first : 1 ≤ d.day
  pub day_last : d.day ≤ days_of_month d.year d.month
  pub hour_last : d.hour ≤ 23
  pub minute_last : d.minute ≤ 59
  pub second_last : d.second ≤ 59

-- the days from 1970-01-01 to a date of 1970 or later
unfoldable pub days_to : Date → ℕ
days_to d = days_of_years (d.year - 1970) + days_of_months d.year (d.month - 1) + (d.day - 1)

-- the seconds from 1970-01-01 00:00:00 to a date of 1970 or later
unfoldable pub seconds_to : Date → ℕ
seconds_to d = ((days_to d * 24 + d.hour) * 60 + d.minute) * 60 + d.second

-- d comes before e: by the year; in one year by the month; and so on
unfoldable pub Earlier : Date → Date → Type 0
Earlier d e =
    (d.year < e.year)
    ⊎ ((d.year ≡ e.year)
    × ((d.month < e.month)
    ⊎ ((d.month ≡ e.month)
    × ((d.day < e.day)
    ⊎ ((d.day ≡ e.day)
    × ((d.hour < e.hour)
    ⊎ ((d.hour ≡ e.hour)
    × ((d.minute < e.minute)
    ⊎ ((d.minute ≡ e.minute) × (d.second < e.second))))))))))

-- ---- how a date is written

-- UTCTime and GeneralizedTime
pub data Kind : Type 0 where
  utc : Kind
  generalized : Kind

-- X.680, 8.4: universal class, 23 and 24
unfoldable pub tag_of : Kind → ℕ
tag_of utc = 23
tag_of generalized = 24

-- a number below 100 in two decimal digits
unfoldable pub two_digits : ℕ → List ℕ
two_digits n = (48 + n / 10) ∷ (48 + n % 10) ∷ []

-- MMDDHHMMSSZ: seconds always there, no fraction, the time of Greenwich (RFC 5280, 4.1.2.5.1 and 4.1.2.5.2; X.690, 11.7 and 11.8)
unfoldable pub after_year : Date → List ℕ
after_year d =
    two_digits d.month ++ (two_digits d.day ++ (two_digits d.hour ++ (two_digits d.minute ++ (two_digits d.second ++ (90 ∷ [])))))

-- YYMMDDHHMMSSZ and YYYYMMDDHHMMSSZ
unfoldable pub text : Kind → Date → List ℕ
text utc d = two_digits (d.year % 100) ++ after_year d
text generalized d = two_digits (d.year / 100) ++ (two_digits (d.year % 100) ++ after_year d)

-- RFC 5280, 4.1.2.5.1: where YY is 50 or more, the year is 19YY; where it is less, 20YY
unfoldable pub full_year : ℕ → ℕ
full_year yy = cond (ltb yy 50) (2000 + yy) (1900 + yy)

-- the years that a kind can write
unfoldable pub Writes : Kind → ℕ → Type 0
Writes utc y = full_year (y % 100) ≡ y
Writes generalized y = y ≤ 9999

-- ---- a time in DER

-- the bytes are the encoding of a time of a kind, whose moment is that many seconds after 1970-01-01 00:00:00; an earlier date has none
pub record IsTime (kind : Kind) (bytes : List ℕ) (seconds : ℕ) : Type 0 where
  pub date : Date
  pub real : Real date
  pub since : 1970 ≤ date.year
  pub writes : Writes kind date.year
  pub encoded : bytes ≡ encoding (tag_of kind) (text kind date)
  pub count : seconds_to date ≡ seconds
