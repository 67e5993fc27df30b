-- A step over one extension: it goes on to a later place, or ends the walk. Assumes nothing.
use Prim.Native.Nat.{ℕ, ◌≤◌, ◌<◌}
use mathlib.Core.Path.{◌≡◌}
use mathlib.Core.List.{List}
use mathlib.Core.Bool.{Bool}
use native.Mathlib.Omega.{arith}
use Rattle.der.proofs.Laws.{expect_value}
use Rattle.der.proofs.Theorems.{value_places}
use Rattle.extensions.specs.declared.Known.{Known}
use Rattle.extensions.specs.Model.{Move, Next, Stop, taken, go_on}
use Rattle.extensions.proofs.Inversion.{taken_inv}
use Rattle.std.specs.Prelude.{Err, Result}

pub taken_later : (s : List ℕ) (at to : ℕ) (known : Known) (strict : Bool) (at' : ℕ) (now : Known) → taken s at to known strict ≡ Next at' now → (at < at') × (at' ≤ to)
taken_later s at to known strict at' now e =
    let t = taken_inv s at to known strict at' now e in
    let p = value_places s at to 48 t.whole.start t.whole.end (expect_value s at to 48 _ t.whole t.outer) in
    omega arith

pub go_next : {x : Move} {a : ℕ} {y : Known} → x ≡ Next a y → (k : ℕ → Known → Result Known ℕ) → go_on x k ≡ k a y
unfolding go_on
go_next e k = rw e

pub go_stop : {x : Move} {n : ℕ} → x ≡ Stop n → (k : ℕ → Known → Result Known ℕ) → go_on x k ≡ Err n
unfolding go_on
go_stop e k = rw e
