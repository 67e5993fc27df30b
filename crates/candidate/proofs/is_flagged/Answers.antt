use mathlib.Core.Path.{refl}
use lib.ListN.{length, get_or-eq_default}
use native.Mathlib.Omega.{arith}
use borrow.Author.Tests.{le-ltb}
use Rattle.candidate.specs.Model.{is_flagged}
use Rattle.candidate.proofs.is_flagged.Goals as goal

pub returns-then-i-bound : goal.returns-then-i-bound
unfolding is_flagged
returns-then-i-bound c = refl

pub returns-else-i-bound : goal.returns-else-i-bound
unfolding is_flagged
returns-else-i-bound c =
    let a = c.args in
    rw (le-ltb a.i (length a.bound.now) (omega arith), get_or-eq_default a.bound.now 0 {n = a.i} (omega arith))
