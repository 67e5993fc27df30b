-- `dns::match_permitted` meets its contract. Assumes nothing.
use native.Mathlib.Omega.{arith}
use Rattle.dns.specs.Model.{match_permitted}
use Rattle.dns.proofs.match_permitted.Goals as goal

pub returns-then-not-valid_presented : goal.returns-then-not-valid_presented
unfolding match_permitted
returns-then-not-valid_presented c = grind arith

pub returns-then-not-valid_entry : goal.returns-then-not-valid_entry
unfolding match_permitted
returns-then-not-valid_entry c = grind arith

pub returns : goal.returns
unfolding match_permitted
returns c = grind arith
