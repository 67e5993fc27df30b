-- `ip::masked_byte` meets its contract. Assumes nothing.
use native.Mathlib.Omega.{arith}
use Rattle.der.proofs.Laws.{tests}
use Rattle.ip.specs.Model.{masked_byte}
use Rattle.ip.proofs.masked_byte.Goals as goal

pub returns-then-broken_mask : goal.returns-then-broken_mask
unfolding masked_byte
returns-then-broken_mask c = grind (arith, tests)

pub returns-then-x-block : goal.returns-then-x-block
unfolding masked_byte
returns-then-x-block c = grind (arith, tests)

pub returns : goal.returns
unfolding masked_byte
returns c = grind (arith, tests)
