-- The values of a function at 0, 1, .. as a list: a constant array that is this list has the function's value at each place. Assumes nothing.
use Prim.Native.Nat.{ℕ, zero, suc, ◌+◌, ◌<◌}
use mathlib.Core.Path.{◌≡◌}
use mathlib.Core.List.{List, [], ◌∷◌}
use lib.ListN.{get_or}
use native.Mathlib.Omega.{arith}
use native.Mathlib.Nat.{not-suc-le-zero, le_of_suc-le-suc}

-- the n values from i on
abbrev pub values : (ℕ → ℕ) → ℕ → ℕ → List ℕ
values f i zero = []
values f i (suc n) = f i ∷ values f (suc i) n

from : (f : ℕ → ℕ) (i n k : ℕ) → k < n → get_or (values f i n) k 0 ≡ f (i + k)
from f i zero k h = absurd (not-suc-le-zero h)
from f i (suc n) zero h =
    let z : i + 0 ≡ i = omega arith in
    rw z
from f i (suc n) (suc k) h =
    let z : i + suc k ≡ suc i + k = omega arith in
    rw z (from f (suc i) n k (le_of_suc-le-suc h))

pub at : (f : ℕ → ℕ) (n k : ℕ) → k < n → get_or (values f 0 n) k 0 ≡ f k
at f n k h =
    let z : 0 + k ≡ k = omega arith in
    rw z at (from f 0 n k h)
