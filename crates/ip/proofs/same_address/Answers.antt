-- `ip::same_address` meets its contract. Assumes nothing.
use native.Mathlib.Omega.{arith}
use Rattle.ip.specs.Model.{same_address}
use Rattle.ip.proofs.same_address.Goals as goal

pub returns-then-not-neither : goal.returns-then-not-neither
unfolding same_address
returns-then-not-neither c = grind arith

pub returns-else-not-neither : goal.returns-else-not-neither
unfolding same_address
returns-else-not-neither c = grind arith
