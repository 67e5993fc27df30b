use Prim.Native.Nat.{ℕ}
use mathlib.Core.Path.{◌≡◌, subst}
use mathlib.Core.List.{map}
use lib.ListN.{length, length-map}
use native.Mathlib.Omega.{arith}
use Rattle.table.proofs.Laws.{Rows, rows_start, rows_turn, rows_short, rows_all, row_of_issuer, row_of_end}
use Rattle.table.proofs.fill.Goals as goal

pub loop-i-init : goal.loop-i-init
loop-i-init c = rows_start _ _ _

pub returns-then-table-i : goal.returns-then-table-i
returns-then-table-i c = rows_short _ _ _ _ (omega arith) c.loop-i.invariant

pub loop-i-preserved : goal.loop-i-preserved
loop-i-preserved c = rows_turn _ _ _ _ _ (row_of_issuer c.args.issuers.now _ _ _ _ (omega arith) c.row_of.ensures) c.loop-i.invariant

pub returns-then-i-table : goal.returns-then-i-table
returns-then-i-table c =
    let issuers = c.args.issuers.now in
    let lent = map (λ x. x.now) issuers in
    let done : c.loop-i.i ≡ length issuers = omega arith in
    let rows = subst (λ (n : ℕ). Rows lent c.args.end.now c.loop-i.table n) done c.loop-i.invariant in
    rows_all _ _ _ _ (rw (length-map issuers (λ x. x.now)) (omega arith)) (rows_turn _ _ _ _ _ (row_of_end issuers _ _ _ (omega arith) c.row_of-then-i-table.ensures) rows)

pub returns-else-i-table : goal.returns-else-i-table
returns-else-i-table c = rows_short _ _ _ _ (omega arith) c.loop-i.invariant
