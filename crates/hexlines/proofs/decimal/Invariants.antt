use Rattle.std.proofs.Common.{◌≤◌}
use Rattle.hexlines.proofs.decimal.Given as goal

abbrev pub invariant-loop-b : goal.invariant-loop-b
invariant-loop-b l = l.value ≤ 9999999
