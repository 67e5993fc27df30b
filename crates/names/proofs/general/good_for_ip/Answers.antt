-- `names::general::good_for_ip` meets its contract. Assumes nothing.
use native.Mathlib.Omega.{arith}
use Rattle.names.specs.Model.{good_for_ip}
use Rattle.names.proofs.general.good_for_ip.Goals as goal

pub returns : goal.returns
unfolding good_for_ip
returns c = grind arith
