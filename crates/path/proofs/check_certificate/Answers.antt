use mathlib.Core.Path.{sym, ◌∙◌}
use native.Mathlib.Omega.{arith}
use Rattle.refusal.proofs.Laws.{outcome_none, outcome_some}
use Rattle.path.specs.Model.{checked_as, on_reading}
use Rattle.path.proofs.check_certificate.Goals as goal

pub returns-then-is_distrusted : goal.returns-then-is_distrusted
unfolding checked_as on_reading
returns-then-is_distrusted c = rw (c.in-Ok.is, ← c.is_distrusted.ensures, c.if-is_distrusted.true) (sym (outcome_some 4 (omega arith)))

pub returns-else-is_distrusted : goal.returns-else-is_distrusted
unfolding checked_as on_reading
returns-else-is_distrusted c = rw (c.in-Ok.is, ← c.is_distrusted.ensures, c.if-is_distrusted.false) c.own.ensures

pub returns-then-number-eq0 : goal.returns-then-number-eq0
unfolding checked_as on_reading
returns-then-number-eq0 c = rw (c.in-Err.is, sym c.number.ensures ∙ c.if-number-eq0.true) (sym outcome_none)

pub returns-else-number-eq0 : goal.returns-else-number-eq0
unfolding checked_as on_reading
returns-else-number-eq0 c = rw c.in-Err.is (sym (outcome_some c.in-Err.e (omega (arith, c.number.ensures, c.if-number-eq0.false))))
