-- The text of a date is read back, and what is read is the text of a date. Assumes nothing.
use Prim.Native.Nat.{ℕ, ◌+◌, ◌-◌, ◌*◌, ◌/◌, ◌%◌, ◌≤◌}
use mathlib.Core.Path.{◌≡◌, refl, sym, ap, ◌∙◌}
use mathlib.Core.List.{List, [], ◌∷◌, ◌++◌}
use lib.ListN.{length, get_or}
use lib.Dec.{ltb}
use native.Mathlib.Omega.{arith}
use borrow.Author.Tests.{ltb-false}
use Rattle.der.specs.Places.{part}
use Rattle.der.proofs.Laws.{tests}
use Rattle.der.proofs.Invert.{peel}
use Rattle.der.proofs.Parts.{part_cons, part_none}
use Rattle.moment.specs.Calendar.{Date, Real, two_digits, after_year}
use Rattle.moment.specs.Model.{of_digits, two_at, date_at}
use Rattle.moment.proofs.Counts.{month_fits}

-- ---- two digits

-- the digits of a number below 100
pub record Digits (a b n : ℕ) : Type 0 where
  pub first : a ≡ 48 + n / 10
  pub last : b ≡ 48 + n % 10

digits_are : (a b n : ℕ) → of_digits a b ≡ n → n ≤ 99 → Digits a b n
unfolding of_digits
digits_are a b n e h =
    let p = peel (ltb a 48) e (λ q. omega arith) in
    let q = peel (ltb 57 a) p.1 (λ q. omega arith) in
    let r = peel (ltb b 48) q.1 (λ q. omega arith) in
    let u = peel (ltb 57 b) r.1 (λ q. omega arith) in
    let i : 48 ≤ a = ltb-false _ _ p.0 in
    let j : a ≤ 57 = ltb-false _ _ q.0 in
    let k : 48 ≤ b = ltb-false _ _ r.0 in
    let l : b ≤ 57 = ltb-false _ _ u.0 in
    let v : (a - 48) * 10 + (b - 48) ≡ n = u.1 in
    record { first = omega arith; last = omega arith }

digits_back : (n : ℕ) → n ≤ 99 → of_digits (48 + n / 10) (48 + n % 10) ≡ n
unfolding of_digits
digits_back n h =
    let a : 48 ≤ 48 + n / 10 = omega arith in
    let b : 48 + n / 10 ≤ 57 = omega arith in
    let c : 48 ≤ 48 + n % 10 = omega arith in
    let d : 48 + n % 10 ≤ 57 = omega arith in
    let e : (48 + n / 10 - 48) * 10 + (48 + n % 10 - 48) ≡ n = omega arith in
    search (tests, e)

pub two_bytes : (s : List ℕ) (at b : ℕ) → at + 2 ≤ b → b ≤ length s → part s at b ≡ get_or s at 0 ∷ get_or s (at + 1) 0 ∷ part s (at + 2) b
two_bytes s at b h l =
    let e : at + 1 + 1 ≡ at + 2 = omega arith in
    part_cons s at b (omega arith) (omega arith) ∙ ap (λ t. get_or s at 0 ∷ t) (rw e at (part_cons s (at + 1) b (omega arith) (omega arith)))

two_is : (s : List ℕ) (at : ℕ) → of_digits (get_or s at 0) (get_or s (at + 1) 0) ≡ two_at s at
unfolding two_at
two_is s at = refl

-- what two digits are read as is what they are the text of
pub two_written : (s : List ℕ) (at b : ℕ) → at + 2 ≤ b → b ≤ length s → two_at s at ≤ 99 → part s at b ≡ two_digits (two_at s at) ++ part s (at + 2) b
unfolding two_digits
two_written s at b h l small =
    let d = digits_are (get_or s at 0) (get_or s (at + 1) 0) (two_at s at) (two_is s at) small in
    two_bytes s at b h l ∙ cc

-- a text that begins with two digits
pub record ReadTwo (s : List ℕ) (at b n : ℕ) (rest : List ℕ) : Type 0 where
  pub number : two_at s at ≡ n
  pub rest_is : part s (at + 2) b ≡ rest

pub two_read : (s : List ℕ) (at b n : ℕ) (rest : List ℕ) → at + 2 ≤ b → b ≤ length s → n ≤ 99 → part s at b ≡ two_digits n ++ rest → ReadTwo s at b n rest
unfolding two_digits two_at
two_read s at b n rest h l small e =
    let f : get_or s at 0 ∷ get_or s (at + 1) 0 ∷ part s (at + 2) b ≡ (48 + n / 10) ∷ (48 + n % 10) ∷ rest = sym (two_bytes s at b h l) ∙ e in
    let p : get_or s at 0 ≡ 48 + n / 10 = cc in
    let q : get_or s (at + 1) 0 ≡ 48 + n % 10 = cc in
    record { number = rw (p, q) (digits_back n small); rest_is = cc }

-- ---- what follows the year

-- each number of a date after the year has two digits
pub record TwoDigits (d : Date) : Type 0 where
  pub month : d.month ≤ 99
  pub day : d.day ≤ 99
  pub hour : d.hour ≤ 99
  pub minute : d.minute ≤ 99
  pub second : d.second ≤ 99

pub real_two_digits : (d : Date) → Real d → TwoDigits d
real_two_digits d r =
    let f = month_fits d.year d.month r.month_first r.month_last in
    let g = r.day_last in
    let h = r.month_last in
    let i = r.hour_last in
    let j = r.minute_last in
    let k = r.second_last in
    record { month = omega arith; day = omega arith; hour = omega arith; minute = omega arith; second = omega arith }

pub after_written : (s : List ℕ) (at year : ℕ) → at + 11 ≤ length s → get_or s (at + 10) 0 ≡ 90 → Real (date_at s at year) → part s at (at + 11) ≡ after_year (date_at s at year)
unfolding after_year date_at
after_written s at year h z r =
    let t = real_two_digits (date_at s at year) r in
    let e : at + 2 + 2 ≡ at + 4 = omega arith in
    let f : at + 4 + 2 ≡ at + 6 = omega arith in
    let g : at + 6 + 2 ≡ at + 8 = omega arith in
    let i : at + 8 + 2 ≡ at + 10 = omega arith in
    let j : at + 10 + 1 ≡ at + 11 = omega arith in
    let month = two_written s at (at + 11) (omega arith) h t.month in
    let day = rw e at (two_written s (at + 2) (at + 11) (omega arith) h t.day) in
    let hour = rw f at (two_written s (at + 4) (at + 11) (omega arith) h t.hour) in
    let minute = rw g at (two_written s (at + 6) (at + 11) (omega arith) h t.minute) in
    let second = rw i at (two_written s (at + 8) (at + 11) (omega arith) h t.second) in
    let last = rw (j, part_none) at (part_cons s (at + 10) (at + 11) (omega arith) (omega arith)) in
    rw (month, day, hour, minute, second, last, z)

-- what was read after the year
pub record ReadAfter (s : List ℕ) (at : ℕ) (d : Date) : Type 0 where
  pub is_date : date_at s at d.year ≡ d
  pub ends : get_or s (at + 10) 0 ≡ 90

pub after_read : (s : List ℕ) (at : ℕ) (d : Date) → at + 11 ≤ length s → Real d → part s at (at + 11) ≡ after_year d → ReadAfter s at d
unfolding after_year date_at
after_read s at d h r w =
    let t = real_two_digits d r in
    let e : at + 2 + 2 ≡ at + 4 = omega arith in
    let f : at + 4 + 2 ≡ at + 6 = omega arith in
    let g : at + 6 + 2 ≡ at + 8 = omega arith in
    let i : at + 8 + 2 ≡ at + 10 = omega arith in
    let month = two_read s at (at + 11) d.month _ (omega arith) h t.month w in
    let day = two_read s (at + 2) (at + 11) d.day _ (omega arith) h t.day month.rest_is in
    let hour = two_read s (at + 4) (at + 11) d.hour _ (omega arith) h t.hour (rw e at day.rest_is) in
    let minute = two_read s (at + 6) (at + 11) d.minute _ (omega arith) h t.minute (rw f at hour.rest_is) in
    let second = two_read s (at + 8) (at + 11) d.second _ (omega arith) h t.second (rw g at minute.rest_is) in
    let last : get_or s (at + 10) 0 ∷ part s (at + 10 + 1) (at + 11) ≡ 90 ∷ [] = sym (part_cons s (at + 10) (at + 11) (omega arith) (omega arith)) ∙ (rw i at second.rest_is) in
    record {
      is_date = rw (month.number, day.number, hour.number, minute.number, second.number);
      ends = cc;
    }
