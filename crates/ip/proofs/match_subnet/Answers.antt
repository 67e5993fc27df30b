-- `ip::match_subnet` meets its contract. Assumes nothing.
use native.Mathlib.Omega.{arith}
use Rattle.der.proofs.Laws.{tests}
use Rattle.ip.specs.Model.{match_subnet}
use Rattle.ip.proofs.match_subnet.Goals as goal

pub returns-then-neither : goal.returns-then-neither
unfolding match_subnet
returns-then-neither c = grind (arith, tests)

pub returns-then-neither-2 : goal.returns-then-neither-2
unfolding match_subnet
returns-then-neither-2 c = grind (arith, tests)

pub returns-then-q-p : goal.returns-then-q-p
unfolding match_subnet
returns-then-q-p c = grind (arith, tests)

pub returns : goal.returns
unfolding match_subnet
returns c = grind (arith, tests)
