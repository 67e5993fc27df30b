use native.Mathlib.Omega.{arith}
use Rattle.std.proofs.lemmas.Bool.Decides.{nat_tests}
use Rattle.std.proofs.lemmas.Grind.{common_steps}
use Rattle.extensions.specs.Model.{number_of, kind_of}
use Rattle.extensions.proofs.kind_of.Goals as goal

pub returns-in-Some-eq85 : goal.returns-in-Some-eq85
unfolding kind_of number_of
returns-in-Some-eq85 c = grind (arith, nat_tests, common_steps, c.in-Some-eq85.ensures.lookup)

pub returns-in_default : goal.returns-in_default
unfolding kind_of number_of
returns-in_default c = let h = rw c.in_default.is at c.get.ensures.lookup in grind (arith, nat_tests, common_steps)

pub returns-in_default-2 : goal.returns-in_default-2
unfolding kind_of number_of
returns-in_default-2 c = let h = rw c.in_default.is at c.get.ensures.lookup in grind (arith, nat_tests, common_steps)

pub returns-in_default-3 : goal.returns-in_default-3
unfolding kind_of number_of
returns-in_default-3 c = let h = rw c.in_default.is at c.get.ensures.lookup in grind (arith, nat_tests, common_steps)

pub returns-in_default-4 : goal.returns-in_default-4
unfolding kind_of number_of
returns-in_default-4 c = let h = rw c.in_default.is at c.get.ensures.lookup in grind (arith, nat_tests, common_steps)

pub returns-in_default-5 : goal.returns-in_default-5
unfolding kind_of number_of
returns-in_default-5 c = let h = rw c.in_default.is at c.get.ensures.lookup in grind (arith, nat_tests, common_steps)
