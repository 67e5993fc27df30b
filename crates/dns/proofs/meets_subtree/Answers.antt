-- `dns::meets_subtree` meets its contract. Assumes nothing.
use native.Mathlib.Omega.{arith}
use Rattle.dns.specs.Model.{meets_subtree}
use Rattle.dns.proofs.meets_subtree.Goals as goal

pub returns-then-in_subtree : goal.returns-then-in_subtree
unfolding meets_subtree
returns-then-in_subtree c = grind arith

pub returns-then-begins : goal.returns-then-begins
unfolding meets_subtree
returns-then-begins c = grind arith

pub returns-else-begins : goal.returns-else-begins
unfolding meets_subtree
returns-else-begins c = grind arith
