use Prim.Native.Nat.{◌+◌, ◌-◌}
use mathlib.Core.Path.{◌≡◌}
use native.Mathlib.Omega.{arith}
use borrow.Author.Tests.{ne_eqb, le-ltb}
use Rattle.rows.specs.Model.{row_reading}
use borrow.Author.Rules.{rules}
use Rattle.rows.proofs.refused.Goals as goal

pub returns : goal.returns
unfolding row_reading
returns c =
    let n = c.number.result in
    let z : n + 1 - 1 ≡ n = omega arith in
    rw (ne_eqb (n + 1) 0 (λ q. omega arith), z, le-ltb 65535 n (search rules), c.number.ensures)
