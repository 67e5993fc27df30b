-- `wanted::refusal_for` meets its contract. Assumes nothing.
use mathlib.Core.Path.{◌≡◌, sym, ◌∙◌}
use native.Mathlib.Omega.{arith}
use Rattle.std.proofs.Common.{rules}
use Rattle.refusal.specs.Model.{outcome}
use Rattle.refusal.proofs.Laws.{outcome_some}
use Rattle.path.specs.Model.{on_reading}
use Rattle.wanted.specs.Model.{name_by}
use Rattle.wanted.proofs.refusal_for.Goals as goal

pub returns-in-Ok : goal.returns-in-Ok
unfolding name_by on_reading
returns-in-Ok c = search rules

pub returns-in-Err : goal.returns-in-Err
unfolding name_by on_reading outcome
returns-in-Err c = let z : c.in-Err.e ≡ 0 = sym c.number.ensures ∙ c.if-number-eq0.true in rw (c.in-Err.is, z)

pub returns-in-Err-2 : goal.returns-in-Err-2
unfolding name_by on_reading
returns-in-Err-2 c =
    let same : c.in-Err.e ≡ c.in-Err-2.e = cc in
    rw (c.in-Err-2.is, outcome_some c.in-Err-2.e (omega (arith, same)))
