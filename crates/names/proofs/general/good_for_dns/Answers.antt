-- `names::general::good_for_dns` meets its contract. Assumes nothing.
use native.Mathlib.Omega.{arith}
use Rattle.names.specs.Model.{good_for_dns}
use Rattle.names.proofs.general.good_for_dns.Goals as goal

pub returns-then-not-valid_wanted : goal.returns-then-not-valid_wanted
unfolding good_for_dns
returns-then-not-valid_wanted c = grind arith

pub returns : goal.returns
unfolding good_for_dns
returns c = grind arith
