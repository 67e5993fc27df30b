-- `names::general::general_name` meets its contract. Assumes nothing.
use native.Mathlib.Omega.{arith}
use Rattle.names.specs.Model.{general_name, of_kind}
use Rattle.names.proofs.general.general_name.Goals as goal

pub returns-in-Some : goal.returns-in-Some
unfolding general_name of_kind
returns-in-Some c = grind arith

pub returns-in_default : goal.returns-in_default
unfolding general_name of_kind
returns-in_default c = grind arith
