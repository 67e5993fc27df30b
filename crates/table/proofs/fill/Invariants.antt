use mathlib.Core.List.{map}
use Rattle.table.proofs.Laws.{Rows}
use Rattle.table.proofs.fill.Given as goal

abbrev pub invariant-loop-i : goal.invariant-loop-i
invariant-loop-i l = Rows (map (λ x. x.now) l.issuers) l.end l.table l.i
