-- `dns::match_wanted` meets its contract. Assumes nothing.
use native.Mathlib.Omega.{arith}
use Rattle.dns.specs.Model.{match_wanted}
use Rattle.dns.proofs.match_wanted.Goals as goal

pub returns-then-not-valid_presented : goal.returns-then-not-valid_presented
unfolding match_wanted
returns-then-not-valid_presented c = grind arith

pub returns : goal.returns
unfolding match_wanted
returns c = grind arith
