-- The years that each kind of time writes. Assumes nothing.
use Prim.Native.Nat.{ℕ, ◌+◌, ◌%◌, ◌≤◌, ◌<◌}
use mathlib.Core.Path.{◌≡◌, refl}
use mathlib.Core.Bool.{Bool, true, false, cond}
use lib.Dec.{ltb}
use native.Mathlib.Omega.{arith}
use borrow.Author.Tests.{ltb-true, ltb-false, lt-ltb, le-ltb}
use mathlib.Core.Logic.{⊎_elim}
use Rattle.der.proofs.Laws.{lt_or_le}
use Rattle.moment.specs.Calendar.{utc, full_year, Writes}

-- the year of two digits lies in 1950 to 2049, and ends with them
pub record FullYear (yy y : ℕ) : Type 0 where
  pub first : 1950 ≤ y
  pub last : y ≤ 2049
  pub digits : y % 100 ≡ yy

pub full_year_lem : (yy : ℕ) → yy ≤ 99 → FullYear yy (full_year yy)
unfolding full_year
full_year_lem yy h = go (ltb yy 50) refl
  where
    go : (b : Bool) → ltb yy 50 ≡ b → FullYear yy (cond b (2000 + yy) (1900 + yy))
    go true e =
        let l : yy < 50 = ltb-true _ _ e in
        record { first = omega arith; last = omega arith; digits = omega arith }
    go false e =
        let l : 50 ≤ yy = ltb-false _ _ e in
        record { first = omega arith; last = omega arith; digits = omega arith }

-- UTCTime writes the years from 1950 to 2049, and no other
pub utc_years : (y : ℕ) → Writes utc y → (1950 ≤ y) × (y ≤ 2049)
unfolding Writes
utc_years y w = let f = full_year_lem (y % 100) (omega arith) in (omega arith, omega arith)

pub utc_years_back : (y : ℕ) → 1950 ≤ y → y ≤ 2049 → Writes utc y
unfolding Writes full_year
utc_years_back y h l =
    ⊎_elim
    (λ (a : y < 2000). let b : 50 ≤ y % 100 = omega arith in rw (le-ltb (y % 100) 50 b) (omega arith))
    (λ (a : 2000 ≤ y). let b : y % 100 < 50 = omega arith in rw (lt-ltb (y % 100) 50 b) (omega arith))
    (lt_or_le y 2000)
