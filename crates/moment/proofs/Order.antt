-- The order of moments is the order of dates, and no two dates have one moment. Assumes nothing.
use Prim.Native.Nat.{ℕ, zero, suc, ◌+◌, ◌-◌, ◌*◌, ◌≤◌, ◌<◌}
use mathlib.Core.Path.{◌≡◌, sym, ap}
use mathlib.Core.Logic.{◌⊎◌, inl, inr, ⊎_elim}
use native.Mathlib.Omega.{arith}
use Rattle.der.proofs.Laws.{lt_or_le}
use Rattle.moment.specs.Calendar.{days_of_year, days_of_years, days_of_months, Date, Real, days_to, seconds_to, Earlier}
use Rattle.moment.proofs.Counts.{since_one, years_count, months_later, day_in_month, day_in_year}

-- ---- days

-- the next year begins where a year ends, and later years begin later
years_later : (k n : ℕ) → k < n → days_of_years k + days_of_year (1970 + k) ≤ days_of_years n
unfolding days_of_years
years_later k zero h = absurd (omega arith)
years_later k (suc n) h =
    ⊎_elim
    (λ l. omega (arith, years_later k n l))
    (λ (l : n ≤ k). let e : k ≡ n = omega arith in rw e (omega arith))
    (lt_or_le k n)

year_before : (d e : Date) → Real d → 1970 ≤ d.year → d.year < e.year → days_to d < days_to e
unfolding days_to
year_before d e r h l =
    let y : 1970 + (d.year - 1970) ≡ d.year = omega arith in
    let a = rw y at (years_later (d.year - 1970) (e.year - 1970) (omega arith)) in
    let b = day_in_year d.year d.month d.day r.month_first r.month_last r.day_first r.day_last in
    omega arith

month_before : (d e : Date) → Real d → d.year ≡ e.year → d.month < e.month → days_to d < days_to e
unfolding days_to
month_before d e r q l =
    let a = day_in_month d.year d.month d.day r.month_first r.day_first r.day_last in
    let b = months_later d.year d.month (e.month - 1) (omega arith) in
    let f = ap days_of_years (ap (λ y. y - 1970) q) in
    let g = ap (λ y. days_of_months y (e.month - 1)) q in
    omega arith

day_before : (d e : Date) → Real d → d.year ≡ e.year → d.month ≡ e.month → d.day < e.day → days_to d < days_to e
unfolding days_to
day_before d e r q p l =
    let a = r.day_first in
    let f = ap days_of_years (ap (λ y. y - 1970) q) in
    let g = ap (λ y. days_of_months y (d.month - 1)) q in
    let h = ap (λ m. days_of_months e.year (m - 1)) p in
    omega arith

same_day : (d e : Date) → d.year ≡ e.year → d.month ≡ e.month → d.day ≡ e.day → days_to d ≡ days_to e
unfolding days_to
same_day d e q p o = rw (q, p, o)

-- ---- seconds

-- a clock that shows less on an earlier day or at an earlier time, unit by unit
by_day : (a b h i m n s t : ℕ) → h ≤ 23 → m ≤ 59 → s ≤ 59 → a < b → ((a * 24 + h) * 60 + m) * 60 + s < ((b * 24 + i) * 60 + n) * 60 + t
by_day a b h i m n s t f g k l = omega arith

by_hour : (a b h i m n s t : ℕ) → m ≤ 59 → s ≤ 59 → a ≡ b → h < i → ((a * 24 + h) * 60 + m) * 60 + s < ((b * 24 + i) * 60 + n) * 60 + t
by_hour a b h i m n s t g k e l = omega arith

by_minute : (a b h i m n s t : ℕ) → s ≤ 59 → a ≡ b → h ≡ i → m < n → ((a * 24 + h) * 60 + m) * 60 + s < ((b * 24 + i) * 60 + n) * 60 + t
by_minute a b h i m n s t k e f l = omega arith

by_second : (a b h i m n s t : ℕ) → a ≡ b → h ≡ i → m ≡ n → s < t → ((a * 24 + h) * 60 + m) * 60 + s < ((b * 24 + i) * 60 + n) * 60 + t
by_second a b h i m n s t e f g l = omega arith

earlier_day : (d e : Date) → Real d → days_to d < days_to e → seconds_to d < seconds_to e
unfolding seconds_to
earlier_day d e r l =
    by_day (days_to d) (days_to e) d.hour e.hour d.minute e.minute d.second e.second r.hour_last r.minute_last r.second_last l

-- THE ORDER: an earlier date is an earlier moment
pub earlier_is_less : (d e : Date) → Real d → 1970 ≤ d.year → Earlier d e → seconds_to d < seconds_to e
unfolding Earlier seconds_to
earlier_is_less d e r h (inl y) = earlier_day d e r (year_before d e r h y)
earlier_is_less d e r h (inr (y, inl m)) = earlier_day d e r (month_before d e r y m)
earlier_is_less d e r h (inr (y, inr (m, inl a))) = earlier_day d e r (day_before d e r y m a)
earlier_is_less d e r h (inr (y, inr (m, inr (a, inl o)))) =
    by_hour (days_to d) (days_to e) d.hour e.hour d.minute e.minute d.second e.second r.minute_last r.second_last (same_day d e y m a) o
earlier_is_less d e r h (inr (y, inr (m, inr (a, inr (o, inl i))))) =
    by_minute (days_to d) (days_to e) d.hour e.hour d.minute e.minute d.second e.second r.second_last (same_day d e y m a) o i
earlier_is_less d e r h (inr (y, inr (m, inr (a, inr (o, inr (i, s)))))) =
    by_second (days_to d) (days_to e) d.hour e.hour d.minute e.minute d.second e.second (same_day d e y m a) o i s

-- ---- any two dates

trichotomy : (a b : ℕ) → (a < b) ⊎ ((a ≡ b) ⊎ (b < a))
trichotomy a b = ⊎_elim inl (λ h. ⊎_elim (λ l. inr (inr l)) (λ l. inr (inl (omega arith))) (lt_or_le b a)) (lt_or_le a b)

same_date : (d e : Date) → d.year ≡ e.year → d.month ≡ e.month → d.day ≡ e.day → d.hour ≡ e.hour → d.minute ≡ e.minute → d.second ≡ e.second → d ≡ e
same_date d e y m a o i s = go
  where
    of : ℕ → ℕ → ℕ → ℕ → ℕ → ℕ → Date
    of y' m' a' o' i' s' = record { year = y'; month = m'; day = a'; hour = o'; minute = i'; second = s' }

    go : of d.year d.month d.day d.hour d.minute d.second ≡ of e.year e.month e.day e.hour e.minute e.second
    go = cc

-- one of two dates is earlier, or they are the same
pub compare : (d e : Date) → Earlier d e ⊎ ((d ≡ e) ⊎ Earlier e d)
unfolding Earlier
compare d e = by_year (trichotomy d.year e.year)
  where
    Answer : Type 0
    Answer = Earlier d e ⊎ ((d ≡ e) ⊎ Earlier e d)

    at_second : d.year ≡ e.year → d.month ≡ e.month → d.day ≡ e.day → d.hour ≡ e.hour → d.minute ≡ e.minute → (d.second < e.second) ⊎ ((d.second ≡ e.second) ⊎ (e.second < d.second)) → Answer
    at_second y m a o i (inl s) = inl (inr (y, inr (m, inr (a, inr (o, inr (i, s))))))
    at_second y m a o i (inr (inl s)) = inr (inl (same_date d e y m a o i s))
    at_second y m a o i (inr (inr s)) = inr (inr (inr (sym y, inr (sym m, inr (sym a, inr (sym o, inr (sym i, s)))))))

    at_minute : d.year ≡ e.year → d.month ≡ e.month → d.day ≡ e.day → d.hour ≡ e.hour → (d.minute < e.minute) ⊎ ((d.minute ≡ e.minute) ⊎ (e.minute < d.minute)) → Answer
    at_minute y m a o (inl i) = inl (inr (y, inr (m, inr (a, inr (o, inl i)))))
    at_minute y m a o (inr (inl i)) = at_second y m a o i (trichotomy d.second e.second)
    at_minute y m a o (inr (inr i)) = inr (inr (inr (sym y, inr (sym m, inr (sym a, inr (sym o, inl i))))))

    at_hour : d.year ≡ e.year → d.month ≡ e.month → d.day ≡ e.day → (d.hour < e.hour) ⊎ ((d.hour ≡ e.hour) ⊎ (e.hour < d.hour)) → Answer
    at_hour y m a (inl o) = inl (inr (y, inr (m, inr (a, inl o))))
    at_hour y m a (inr (inl o)) = at_minute y m a o (trichotomy d.minute e.minute)
    at_hour y m a (inr (inr o)) = inr (inr (inr (sym y, inr (sym m, inr (sym a, inl o)))))

    at_day : d.year ≡ e.year → d.month ≡ e.month → (d.day < e.day) ⊎ ((d.day ≡ e.day) ⊎ (e.day < d.day)) → Answer
    at_day y m (inl a) = inl (inr (y, inr (m, inl a)))
    at_day y m (inr (inl a)) = at_hour y m a (trichotomy d.hour e.hour)
    at_day y m (inr (inr a)) = inr (inr (inr (sym y, inr (sym m, inl a))))

    at_month : d.year ≡ e.year → (d.month < e.month) ⊎ ((d.month ≡ e.month) ⊎ (e.month < d.month)) → Answer
    at_month y (inl m) = inl (inr (y, inl m))
    at_month y (inr (inl m)) = at_day y m (trichotomy d.day e.day)
    at_month y (inr (inr m)) = inr (inr (inr (sym y, inl m)))

    by_year : (d.year < e.year) ⊎ ((d.year ≡ e.year) ⊎ (e.year < d.year)) → Answer
    by_year (inl y) = inl (inl y)
    by_year (inr (inl y)) = at_month y (trichotomy d.month e.month)
    by_year (inr (inr y)) = inr (inr (inl y))

-- and an earlier moment is an earlier date
pub less_is_earlier : (d e : Date) → Real d → Real e → 1970 ≤ d.year → 1970 ≤ e.year → seconds_to d < seconds_to e → Earlier d e
less_is_earlier d e r q h k l = go (compare d e)
  where
    go : Earlier d e ⊎ ((d ≡ e) ⊎ Earlier e d) → Earlier d e
    go (inl b) = b
    go (inr (inl b)) = absurd (omega (arith, ap seconds_to b))
    go (inr (inr b)) = absurd (omega (arith, earlier_is_less e d q k b))

-- one moment, one date
pub one_date : (d e : Date) → Real d → Real e → 1970 ≤ d.year → 1970 ≤ e.year → seconds_to d ≡ seconds_to e → d ≡ e
one_date d e r q h k l = go (compare d e)
  where
    go : Earlier d e ⊎ ((d ≡ e) ⊎ Earlier e d) → d ≡ e
    go (inl b) = absurd (omega (arith, earlier_is_less d e r h b))
    go (inr (inl b)) = b
    go (inr (inr b)) = absurd (omega (arith, earlier_is_less e d q k b))

-- the moment of every date through 9999 is at most that of 9999-12-31 23:59:59
pub last_moment : (d : Date) → Real d → 1970 ≤ d.year → d.year ≤ 9999 → seconds_to d ≤ 253402300799
unfolding Earlier seconds_to days_to days_of_months since_one
last_moment d r h l =
    let e : Date = record { year = 10000; month = 1; day = 1; hour = 0; minute = 0; second = 0 } in
    omega (arith, earlier_is_less d e r h (inl (omega arith)), years_count 8030)
