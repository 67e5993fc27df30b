-- `dns::match_excluded` meets its contract. Assumes nothing.
use native.Mathlib.Omega.{arith}
use Rattle.dns.specs.Model.{match_excluded}
use Rattle.dns.proofs.match_excluded.Goals as goal

pub returns-then-not-valid_presented : goal.returns-then-not-valid_presented
unfolding match_excluded
returns-then-not-valid_presented c = grind arith

pub returns-then-not-valid_entry : goal.returns-then-not-valid_entry
unfolding match_excluded
returns-then-not-valid_entry c = grind arith

pub returns : goal.returns
unfolding match_excluded
returns c = grind arith
