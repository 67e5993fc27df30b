-- `ip::in_subnet` meets its contract: what is left of the three has the answer of the whole. Assumes nothing.
use mathlib.Core.Path.{◌≡◌}
use mathlib.Core.Bool.{true}
use lib.ListN.{drop}
use Rattle.ip.specs.Model.{subnet_from}
use Rattle.ip.proofs.in_subnet.Given as goal

abbrev pub invariant-loop-i : goal.invariant-loop-i
invariant-loop-i l = subnet_from l.full (drop l.i l.p) (drop l.i l.address) (drop l.i l.mask) ≡ subnet_from true l.p l.address l.mask
