use native.Mathlib.Omega.{arith}
use Rattle.std.proofs.lemmas.Bool.Decides.{nat_tests}
use Rattle.extensions.specs.Model.{number, number_of, known_kind}
use Rattle.extensions.proofs.known_kind.Goals as goal

pub returns-in-15 : goal.returns-in-15
unfolding known_kind number_of number
returns-in-15 c = rw c.in-15.is

pub returns-in-17 : goal.returns-in-17
unfolding known_kind number_of number
returns-in-17 c = rw c.in-17.is

pub returns-in-19 : goal.returns-in-19
unfolding known_kind number_of number
returns-in-19 c = rw c.in-19.is

pub returns-in-30 : goal.returns-in-30
unfolding known_kind number_of number
returns-in-30 c = rw c.in-30.is

pub returns-in-31 : goal.returns-in-31
unfolding known_kind number_of number
returns-in-31 c = rw c.in-31.is

pub returns-in-37 : goal.returns-in-37
unfolding known_kind number_of number
returns-in-37 c = rw c.in-37.is

pub returns-in_default : goal.returns-in_default
unfolding known_kind number_of number
returns-in_default c = grind (arith, nat_tests)
