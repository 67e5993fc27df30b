-- `dns::stands_for` meets its contract. Assumes nothing.
use native.Mathlib.Omega.{arith}
use Rattle.dns.specs.Model.{stands_for}
use Rattle.dns.proofs.stands_for.Goals as goal

pub returns-then-begins : goal.returns-then-begins
unfolding stands_for
returns-then-begins c = grind arith

pub returns : goal.returns
unfolding stands_for
returns c = grind arith
