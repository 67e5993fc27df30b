-- What a comparison answers: no two answers are one. Assumes nothing.
use Prim.Native.Nat.{ℕ}
use mathlib.Core.Path.{◌≡◌}
use mathlib.Core.Bool.{Bool, true, false}
use native.Mathlib.Omega.{arith}
use Rattle.std.specs.Prelude.{Ok, Err, Result}

pub yes_no : ◌≡◌ {A = Result Bool ℕ} (Ok true) (Ok false) → ⊥
yes_no h = let z : ◌≡◌ {A = ℕ} 0 1 = cc in omega arith

pub yes_refused : {e : ℕ} → ◌≡◌ {A = Result Bool ℕ} (Ok true) (Err e) → ⊥
yes_refused h = let z : ◌≡◌ {A = ℕ} 0 1 = cc in omega arith

pub no_refused : {e : ℕ} → ◌≡◌ {A = Result Bool ℕ} (Ok false) (Err e) → ⊥
no_refused h = let z : ◌≡◌ {A = ℕ} 0 1 = cc in omega arith
