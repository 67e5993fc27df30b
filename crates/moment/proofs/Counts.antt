-- The closed forms of the code are the counts of the calendar, by year and by month. Assumes nothing.
use Prim.Native.Nat.{ℕ, zero, suc, ◌+◌, ◌-◌, ◌*◌, ◌/◌, ◌%◌, ◌≤◌, ◌<◌}
use mathlib.Core.Path.{◌≡◌, refl, sym, ap, ◌∙◌}
use mathlib.Core.List.{List, [], ◌∷◌}
use mathlib.Core.Bool.{Bool, true, false, cond}
use mathlib.Core.Logic.{⊎_elim}
use lib.ListN.{get_or}
use lib.Dec.{ltb, eqb, lit<, lit≤}
use native.Mathlib.Omega.{arith}
use borrow.Author.Tests.{eqb-true, eqb-false, lt-ltb, le-ltb}
use Rattle.der.proofs.Laws.{lt_or_le}
use Rattle.moment.specs.Calendar.{leap_year, days_of_year, month_lengths, days_of_month, days_of_years, days_of_months}

-- ---- years

-- the four kinds of year: whether 4, 100 and 400 divide it, and its days
pub data YearKind (y : ℕ) : Type 0 where
  four_hundredth : y % 4 ≡ 0 → y % 100 ≡ 0 → y % 400 ≡ 0 → days_of_year y ≡ 366 → YearKind y
  hundredth : y % 4 ≡ 0 → y % 100 ≡ 0 → 0 < y % 400 → days_of_year y ≡ 365 → YearKind y
  fourth : y % 4 ≡ 0 → 0 < y % 100 → 0 < y % 400 → days_of_year y ≡ 366 → YearKind y
  other : 0 < y % 4 → 0 < y % 100 → 0 < y % 400 → days_of_year y ≡ 365 → YearKind y

some : (n : ℕ) → eqb n 0 ≡ false → 0 < n
some n e = let h = eqb-false n 0 e in ⊎_elim (λ l. l) (λ l. absurd (h (omega arith))) (lt_or_le 0 n)

pub year_kind : (y : ℕ) → YearKind y
unfolding days_of_year leap_year
year_kind y = by_100 (eqb (y % 100) 0) refl
  where
    by_400 : eqb (y % 100) 0 ≡ true → (b : Bool) → eqb (y % 400) 0 ≡ b → YearKind y
    by_400 h true e =
        let k : y % 400 ≡ 0 = eqb-true _ _ e in
        four_hundredth (omega arith) (omega arith) k (rw (h, e))
    by_400 h false e =
        let k : y % 100 ≡ 0 = eqb-true _ _ h in
        hundredth (omega arith) k (some _ e) (rw (h, e))

    by_4 : eqb (y % 100) 0 ≡ false → (b : Bool) → eqb (y % 4) 0 ≡ b → YearKind y
    by_4 h true e = let k = some _ h in fourth (eqb-true _ _ e) k (omega arith) (rw (h, e))
    by_4 h false e = let k = some _ h in other (some _ e) k (omega arith) (rw (h, e))

    by_100 : (b : Bool) → eqb (y % 100) 0 ≡ b → YearKind y
    by_100 true e = by_400 e (eqb (y % 400) 0) refl
    by_100 false e = by_4 e (eqb (y % 4) 0) refl

-- the days of the years from the year 1 to p
unfoldable pub since_one : ℕ → ℕ
since_one p = p * 365 + p / 4 - p / 100 + p / 400

up_4 : (p : ℕ) → (p + 1) % 4 ≡ 0 → (p + 1) / 4 ≡ p / 4 + 1
up_4 p h = omega arith

up_100 : (p : ℕ) → (p + 1) % 100 ≡ 0 → (p + 1) / 100 ≡ p / 100 + 1
up_100 p h = omega arith

up_400 : (p : ℕ) → (p + 1) % 400 ≡ 0 → (p + 1) / 400 ≡ p / 400 + 1
up_400 p h = omega arith

flat_4 : (p : ℕ) → 0 < (p + 1) % 4 → (p + 1) / 4 ≡ p / 4 + 0
flat_4 p h = omega arith

flat_100 : (p : ℕ) → 0 < (p + 1) % 100 → (p + 1) / 100 ≡ p / 100 + 0
flat_100 p h = omega arith

flat_400 : (p : ℕ) → 0 < (p + 1) % 400 → (p + 1) / 400 ≡ p / 400 + 0
flat_400 p h = omega arith

less_100 : (p : ℕ) → p / 100 ≤ p
less_100 p = omega arith

-- with what the three quotients grow by
grow : (p a b c a' b' c' x y z d : ℕ) → b ≤ p → y ≤ 1 → a' ≡ a + x → b' ≡ b + y → c' ≡ c + z → 365 + x + z ≡ d + y
    → (p + 1) * 365 + a' - b' + c' ≡ p * 365 + a - b + c + d
grow p a b c a' b' c' x y z d h o e f g s = omega arith

one_more : (p : ℕ) → since_one (p + 1) ≡ since_one p + days_of_year (p + 1)
unfolding since_one
one_more p = go (year_kind (p + 1))
  where
    go : YearKind (p + 1) → (p + 1) * 365 + (p + 1) / 4 - (p + 1) / 100 + (p + 1) / 400 ≡ p * 365 + p / 4 - p / 100 + p / 400 + days_of_year (p + 1)
    go (four_hundredth a b c d) =
        rw d (grow p _ _ _ _ _ _ 1 1 1 366 (less_100 p) (omega arith) (up_4 p a) (up_100 p b) (up_400 p c) refl)
    go (hundredth a b c d) =
        rw d (grow p _ _ _ _ _ _ 1 1 0 365 (less_100 p) (omega arith) (up_4 p a) (up_100 p b) (flat_400 p c) refl)
    go (fourth a b c d) =
        rw d (grow p _ _ _ _ _ _ 1 0 0 366 (less_100 p) (omega arith) (up_4 p a) (flat_100 p b) (flat_400 p c) refl)
    go (other a b c d) =
        rw d (grow p _ _ _ _ _ _ 0 0 0 365 (less_100 p) (omega arith) (flat_4 p a) (flat_100 p b) (flat_400 p c) refl)

since_1970 : since_one 1969 ≡ 719162
unfolding since_one
since_1970 = refl

-- 719,162 of them lie before 1970
pub years_count : (k : ℕ) → since_one (1969 + k) ≡ days_of_years k + 719162
unfolding days_of_years
years_count zero = since_1970
years_count (suc k) =
    let e : 1969 + suc k ≡ (1969 + k) + 1 = omega arith in
    let f : (1969 + k) + 1 ≡ 1970 + k = omega arith in
    rw e (one_more (1969 + k) ∙ (rw f (omega (arith, years_count k))))

of_sum : (a b c : ℕ) → a ≡ b + c → a - c ≡ b
of_sum a b c e = omega arith

in_sum : (a b c : ℕ) → a ≡ b + c → c ≤ a
in_sum a b c e = omega arith

years_before : (y : ℕ) → 1970 ≤ y → since_one (y - 1) ≡ days_of_years (y - 1970) + 719162
years_before y h = let e : y - 1 ≡ 1969 + (y - 1970) = omega arith in rw e (years_count (y - 1970))

-- the closed form for a year
pub year_form : (y : ℕ) → 1970 ≤ y → since_one (y - 1) - 719162 ≡ days_of_years (y - 1970)
year_form y h = of_sum _ _ _ (years_before y h)

pub year_enough : (y : ℕ) → 1970 ≤ y → 719162 ≤ since_one (y - 1)
year_enough y h = in_sum _ _ _ (years_before y h)

pub years_fit : (k : ℕ) → k ≤ 8029 → days_of_years k < 3652060
unfolding since_one
years_fit k h = omega (arith, years_count k)

-- ---- months

-- what holds of each number below n
AllBelow : (ℕ → Type 0) → ℕ → Type 0
AllBelow P zero = Unit {0}
AllBelow P (suc n) = AllBelow P n × P n

below : (P : ℕ → Type 0) (n : ℕ) → AllBelow P n → (k : ℕ) → k < n → P k
unfolding AllBelow
below P zero a k h = absurd (omega arith)
below P (suc n) a k h =
    ⊎_elim
    (λ l. below P n a.0 k l)
    (λ l. let e : k ≡ n = omega arith in rw e a.1)
    (lt_or_le k n)

-- the days before each month of a year that is no leap year
abbrev pub before_month : List ℕ
before_month = 0 ∷ 31 ∷ 59 ∷ 90 ∷ 120 ∷ 151 ∷ 181 ∷ 212 ∷ 243 ∷ 273 ∷ 304 ∷ 334 ∷ []

pub months_count : (y : ℕ) (b : Bool) → leap_year y ≡ b → (k : ℕ) → k < 12 → days_of_months y k ≡ get_or before_month k 0 + cond (ltb k 2) 0 (cond b 1 0)
unfolding days_of_months days_of_month month_lengths AllBelow
months_count y true e =
    below
    (λ k. days_of_months y k ≡ get_or before_month k 0 + cond (ltb k 2) 0 1)
    12
    ((((((((((((tt, refl), refl), rw e), rw e), rw e), rw e), rw e), rw e), rw e), rw e), rw e), rw e)
months_count y false e =
    below
    (λ k. days_of_months y k ≡ get_or before_month k 0 + cond (ltb k 2) 0 0)
    12
    ((((((((((((tt, refl), refl), rw e), rw e), rw e), rw e), rw e), rw e), rw e), rw e), rw e), rw e)

-- the closed form for a month: the table, and from March on a day more in a leap year
pub early_month : (y m : ℕ) → 1 ≤ m → m < 3 → get_or before_month (m - 1) 0 ≡ days_of_months y (m - 1)
early_month y m h l =
    let e = months_count y (leap_year y) refl (m - 1) (omega arith) in
    let f : ltb (m - 1) 2 ≡ true = lt-ltb (m - 1) 2 (omega arith) in
    omega (arith, rw f at e)

late_month : (y m : ℕ) (b : Bool) → leap_year y ≡ b → 3 ≤ m → m ≤ 12 → days_of_months y (m - 1) ≡ get_or before_month (m - 1) 0 + cond b 1 0
late_month y m b l g h =
    let e = months_count y b l (m - 1) (omega arith) in
    let f : ltb (m - 1) 2 ≡ false = le-ltb (m - 1) 2 (omega arith) in
    rw f at e

pub late_month_leap : (y m : ℕ) → leap_year y ≡ true → 3 ≤ m → m ≤ 12 → get_or before_month (m - 1) 0 + 1 ≡ days_of_months y (m - 1)
late_month_leap y m l g h = sym (late_month y m true l g h)

pub late_month_common : (y m : ℕ) → leap_year y ≡ false → 3 ≤ m → m ≤ 12 → get_or before_month (m - 1) 0 ≡ days_of_months y (m - 1)
late_month_common y m l g h = omega (arith, late_month y m false l g h)

pub table_fits : (m : ℕ) → 1 ≤ m → m ≤ 12 → get_or before_month (m - 1) 0 < 335
unfolding AllBelow
table_fits m g h =
    below
    (λ k. get_or before_month k 0 < 335)
    12
    ((((((((((((tt, lit< tt), lit< tt), lit< tt), lit< tt), lit< tt), lit< tt), lit< tt), lit< tt), lit< tt), lit< tt), lit< tt), lit< tt)
    (m - 1)
    (omega arith)

pub february : (y m : ℕ) (b : Bool) → m ≡ 2 → leap_year y ≡ b → cond b 29 28 ≡ days_of_month y m
unfolding days_of_month month_lengths
february y m b e l = rw (e, l)

-- a month other than February has the same days in each year
pub other_month : (y m : ℕ) → 1 ≤ m → m ≤ 12 → (m ≡ 2 → ⊥) → get_or (month_lengths 28) (m - 1) 0 ≡ days_of_month y m
unfolding days_of_month month_lengths AllBelow
other_month y m g h n =
    below
    (λ k. (k ≡ 1 → ⊥) → get_or (month_lengths 28) k 0 ≡ get_or (month_lengths (cond (leap_year y) 29 28)) k 0)
    12
    ((((((((((((tt, (λ i. refl)), (λ i. absurd (i refl))), (λ i. refl)), (λ i. refl)), (λ i. refl)), (λ i. refl)), (λ i. refl)), (λ i. refl)), (λ i. refl)), (λ i. refl)), (λ i. refl)), (λ i. refl))
    (m - 1)
    (omega arith)
    (λ e. n (omega arith))

month_lengths_fit : (f k : ℕ) → f ≤ 31 → k < 12 → get_or (month_lengths f) k 0 ≤ 31
unfolding month_lengths AllBelow
month_lengths_fit f k h =
    below
    (λ k. get_or (month_lengths f) k 0 ≤ 31)
    12
    ((((((((((((tt, lit≤ tt), h), lit≤ tt), lit≤ tt), lit≤ tt), lit≤ tt), lit≤ tt), lit≤ tt), lit≤ tt), lit≤ tt), lit≤ tt), lit≤ tt)
    k

pub month_fits : (y m : ℕ) → 1 ≤ m → m ≤ 12 → days_of_month y m ≤ 31
unfolding days_of_month
month_fits y m g h = go (leap_year y)
  where
    go : (b : Bool) → get_or (month_lengths (cond b 29 28)) (m - 1) 0 ≤ 31
    go true = month_lengths_fit 29 (m - 1) (omega arith) (omega arith)
    go false = month_lengths_fit 28 (m - 1) (omega arith) (omega arith)

-- ---- a day lies within its month, and that within its year

-- the twelve months are the year
pub months_year : (y : ℕ) → days_of_months y 12 ≡ days_of_year y
unfolding days_of_months days_of_month month_lengths days_of_year
months_year y = go (leap_year y) refl
  where
    go : (b : Bool) → leap_year y ≡ b → days_of_months y 12 ≡ cond (leap_year y) 366 365
    go true e = rw e
    go false e = rw e

pub year_length : (y : ℕ) → days_of_year y ≤ 366
unfolding days_of_year
year_length y = go (leap_year y)
  where
    go : (b : Bool) → cond b 366 365 ≤ 366
    go true = omega arith
    go false = omega arith

months_suc : (y k : ℕ) → days_of_months y (suc k) ≡ days_of_months y k + days_of_month y (suc k)
unfolding days_of_months
months_suc y k = refl

-- later months begin later
pub months_later : (y k n : ℕ) → k ≤ n → days_of_months y k ≤ days_of_months y n
unfolding days_of_months
months_later y k zero h = let e : k ≡ 0 = omega arith in rw e (omega arith)
months_later y k (suc n) h =
    ⊎_elim
    (λ l. omega (arith, months_later y k n (omega arith)))
    (λ (l : suc n ≤ k). let e : k ≡ suc n = omega arith in omega (arith, ap (days_of_months y) e))
    (lt_or_le k (suc n))

-- a day of a month comes before the next month, and so before the next year
pub day_in_month : (y m day : ℕ) → 1 ≤ m → 1 ≤ day → day ≤ days_of_month y m → days_of_months y (m - 1) + (day - 1) < days_of_months y m
day_in_month y m day a b c =
    let e : m ≡ suc (m - 1) = omega arith in
    let f : days_of_months y m ≡ days_of_months y (m - 1) + days_of_month y m = ap (days_of_months y) e ∙ months_suc y (m - 1) ∙ ap (λ x. days_of_months y (m - 1) + days_of_month y x) (sym e) in
    omega arith

pub day_in_year : (y m day : ℕ) → 1 ≤ m → m ≤ 12 → 1 ≤ day → day ≤ days_of_month y m → days_of_months y (m - 1) + (day - 1) < days_of_year y
day_in_year y m day a b c d =
    omega (arith, day_in_month y m day a c d, months_later y m 12 b, months_year y)
