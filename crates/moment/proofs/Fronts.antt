-- A content is refused as a bad time unless it begins with the text of a date; then what follows the text decides. Assumes nothing.
use Prim.Native.Nat.{ℕ, ◌+◌, ◌-◌, ◌*◌, ◌/◌, ◌%◌, ◌≤◌, ◌<◌}
use mathlib.Core.Path.{◌≡◌, refl, ap, ◌∙◌}
use mathlib.Core.List.{List, ◌++◌}
use mathlib.Core.Bool.{cond}
use mathlib.Core.Logic.{⊎_elim}
use lib.ListN.{length, get_or}
use lib.Dec.{ltb, eqb}
use native.Mathlib.Omega.{arith}
use borrow.Author.Tests.{ltb-false, eqb-true}
use Rattle.refusal.specs.Refusals.{bad_der_time, trailing_time}
use Rattle.der.specs.Places.{part}
use Rattle.der.proofs.Laws.{tests}
use Rattle.der.proofs.Invert.{peel, either}
use Rattle.moment.specs.Calendar.{Date, Real, seconds_to, Kind, utc, generalized, two_digits, after_year, text, full_year, Writes}
use Rattle.moment.specs.Model.{two_at, date_at, unreal, moment_of, after_year_at, utc_in, generalized_in, time_is}
use Rattle.moment.proofs.RealDates.{left_is_real, real_is_left}
use Rattle.moment.proofs.Text.{two_written, after_written, two_read, after_read}
use Rattle.moment.proofs.Years.{full_year_lem}
use Rattle.std.specs.Prelude.{Err, Result}

-- the length of a kind's texts
unfoldable pub size : Kind → ℕ
size utc = 13
size generalized = 15

pub text_length : (kind : Kind) (d : Date) → length (text kind d) ≡ size kind
unfolding text after_year two_digits size
text_length utc d = refl
text_length generalized d = refl

-- the answer for a content of a kind
unfoldable pub content_in : Kind → List ℕ → ℕ → ℕ → Result (ℕ × ℕ) ℕ
content_in utc s start end = utc_in s start end
content_in generalized s start end = generalized_in s start end

-- a content that begins with the text of a date that has a moment
pub record Front (kind : Kind) (s : List ℕ) (start end : ℕ) : Type 0 where
  pub date : Date
  pub real : Real date
  pub since : 1970 ≤ date.year
  pub writes : Writes kind date.year
  pub room : start + size kind ≤ end
  pub said : part s start (start + size kind) ≡ text kind date

-- the answer for a date whose text ends at `at`, in a content that ends at `end`
unfoldable pub fate : Date → ℕ → ℕ → Result (ℕ × ℕ) ℕ
fate d at end = cond (ltb at end) (Err trailing_time) (time_is (seconds_to d) end)

pub real_fate : (d : Date) (at end : ℕ) → Real d → moment_of d at end ≡ fate d at end
unfolding moment_of fate
real_fate d at end r = rw (real_is_left d r)

-- ---- from the answer to the text

-- an answer by an equality test
if_equal : {A : Type 0} (a b : ℕ) {x y z : A} → cond (eqb a b) x y ≡ z → (y ≡ z → ⊥) → (a ≡ b) × (x ≡ z)
if_equal a b e other = ⊎_elim (λ w. (eqb-true a b w.0, w.1)) (λ w. absurd (other w.1)) (either (eqb a b) e)

record After (s : List ℕ) (at end year : ℕ) (z : Result (ℕ × ℕ) ℕ) : Type 0 where
  pub since : 1970 ≤ year
  pub ends : get_or s (at + 10) 0 ≡ 90
  pub real : Real (date_at s at year)
  pub fate_is : fate (date_at s at year) (at + 11) end ≡ z

-- a front, and the answer that comes of it
pub record Fronted (z : Result (ℕ × ℕ) ℕ) (kind : Kind) (s : List ℕ) (start end : ℕ) : Type 0 where
  pub front : Front kind s start end
  pub fate_is : fate front.date (start + size kind) end ≡ z

module _ (z : Result (ℕ × ℕ) ℕ) (good : Err bad_der_time ≡ z → ⊥) where
  after : (s : List ℕ) (at end year : ℕ) → after_year_at s at end year ≡ z → After s at end year z
  unfolding after_year_at moment_of fate
  after s at end year e =
      let p = peel (ltb year 1970) e good in
      let q = if_equal (get_or s (at + 10) 0) 90 p.1 good in
      let r = peel (unreal (date_at s at year)) q.1 good in
      record {
        since = ltb-false _ _ p.0;
        ends = q.0;
        real = left_is_real (date_at s at year) r.0;
        fate_is = r.1;
      }

  utc_front : (s : List ℕ) (start end : ℕ) → end ≤ length s → utc_in s start end ≡ z → Fronted z utc s start end
  unfolding utc_in text Writes date_at size
  utc_front s start end l e =
      let p = peel (ltb (end - start) 13) e good in
      let q = peel (ltb 99 (two_at s start)) p.1 good in
      let yy = two_at s start in
      let year = full_year yy in
      let small : yy ≤ 99 = ltb-false _ _ q.0 in
      let y = full_year_lem yy small in
      let k = after s (start + 2) end year q.1 in
      let room : 13 ≤ end - start = ltb-false _ _ p.0 in
      let whole : start + 2 + 11 ≡ start + 13 = omega arith in
      let front = two_written s start (start + 13) (omega arith) (omega arith) small in
      let back = rw whole at (after_written s (start + 2) year (omega arith) k.ends k.real) in
      record {
        front =
            record {
              date = date_at s (start + 2) year;
              real = k.real;
              since = k.since;
              writes = ap full_year y.digits;
              room = omega arith;
              said = front ∙ rw (back, y.digits);
            };
        fate_is = rw whole at k.fate_is;
      }

  generalized_front : (s : List ℕ) (start end : ℕ) → end ≤ length s → generalized_in s start end ≡ z → Fronted z generalized s start end
  unfolding generalized_in text Writes date_at size
  generalized_front s start end l e =
      let p = peel (ltb (end - start) 15) e good in
      let q = peel (ltb 99 (two_at s start)) p.1 good in
      let r = peel (ltb 99 (two_at s (start + 2))) q.1 good in
      let a = two_at s start in
      let b = two_at s (start + 2) in
      let year = a * 100 + b in
      let small : a ≤ 99 = ltb-false _ _ q.0 in
      let small₂ : b ≤ 99 = ltb-false _ _ r.0 in
      let k = after s (start + 4) end year r.1 in
      let room : 15 ≤ end - start = ltb-false _ _ p.0 in
      let four : start + 2 + 2 ≡ start + 4 = omega arith in
      let whole : start + 4 + 11 ≡ start + 15 = omega arith in
      let front = two_written s start (start + 15) (omega arith) (omega arith) small in
      let middle = rw four at (two_written s (start + 2) (start + 15) (omega arith) (omega arith) small₂) in
      let back = rw whole at (after_written s (start + 4) year (omega arith) k.ends k.real) in
      let high : year / 100 ≡ a = omega arith in
      let low : year % 100 ≡ b = omega arith in
      record {
        front =
            record {
              date = date_at s (start + 4) year;
              real = k.real;
              since = k.since;
              writes = omega arith;
              room = omega arith;
              said = front ∙ (ap (λ t. two_digits a ++ t) middle) ∙ rw (back, high, low);
            };
        fate_is = rw whole at k.fate_is;
      }

  -- what is not refused as a bad time begins with the text of a date
  pub fronted : (kind : Kind) (s : List ℕ) (start end : ℕ) → end ≤ length s → content_in kind s start end ≡ z → Fronted z kind s start end
  unfolding content_in
  fronted utc s start end l e = utc_front s start end l e
  fronted generalized s start end l e = generalized_front s start end l e

-- ---- from the text to the answer

after_goes_on : (s : List ℕ) (at end : ℕ) (d : Date) → at + 11 ≤ length s → Real d → 1970 ≤ d.year → part s at (at + 11) ≡ after_year d
    → after_year_at s at end d.year ≡ fate d (at + 11) end
unfolding after_year_at
after_goes_on s at end d h r since e =
    let a = after_read s at d h r e in
    search (tests, a.is_date, a.ends, real_fate d (at + 11) end r)

utc_goes_on : (s : List ℕ) (start end : ℕ) → end ≤ length s → (f : Front utc s start end) → utc_in s start end ≡ fate f.date (start + 13) end
unfolding utc_in text Writes size
utc_goes_on s start end l f =
    let d = f.date in
    let room : start + 13 ≤ end = f.room in
    let t = two_read s start (start + 13) (d.year % 100) (after_year d) (omega arith) (omega arith) (omega arith) f.said in
    let whole : start + 2 + 11 ≡ start + 13 = omega arith in
    let long : 13 ≤ end - start = omega arith in
    let small : d.year % 100 < 100 = omega arith in
    let a = rw whole at (after_goes_on s (start + 2) end d (omega arith) f.real f.since (rw whole t.rest_is)) in
    search (tests, t.number, f.writes, a)

generalized_goes_on : (s : List ℕ) (start end : ℕ) → end ≤ length s → (f : Front generalized s start end) → generalized_in s start end ≡ fate f.date (start + 15) end
unfolding generalized_in text Writes size
generalized_goes_on s start end l f =
    let d = f.date in
    let room : start + 15 ≤ end = f.room in
    let last : d.year ≤ 9999 = f.writes in
    let t = two_read s start (start + 15) (d.year / 100) (two_digits (d.year % 100) ++ after_year d) (omega arith) (omega arith) (omega arith) f.said in
    let u = two_read s (start + 2) (start + 15) (d.year % 100) (after_year d) (omega arith) (omega arith) (omega arith) t.rest_is in
    let four : start + 2 + 2 ≡ start + 4 = omega arith in
    let whole : start + 4 + 11 ≡ start + 15 = omega arith in
    let long : 15 ≤ end - start = omega arith in
    let small : d.year / 100 < 100 = omega arith in
    let small₂ : d.year % 100 < 100 = omega arith in
    let year : d.year / 100 * 100 + d.year % 100 ≡ d.year = omega arith in
    let a = rw whole at (after_goes_on s (start + 4) end d (omega arith) f.real f.since (rw whole (rw four at u.rest_is))) in
    search (tests, t.number, u.number, year, a)

-- the text of a date in front is read, and what follows it decides
pub goes_on : (kind : Kind) (s : List ℕ) (start end : ℕ) → end ≤ length s → (f : Front kind s start end) → content_in kind s start end ≡ fate f.date (start + size kind) end
unfolding content_in size
goes_on utc s start end l f = utc_goes_on s start end l f
goes_on generalized s start end l f = generalized_goes_on s start end l f
