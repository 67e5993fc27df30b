-- `moment::days_of_month` meets its contract. Assumes nothing.
use mathlib.Core.Path.{sym, ◌∙◌}
use mathlib.Core.Bool.{true, false}
use native.Mathlib.Omega.{arith}
use Rattle.moment.specs.Calendar.{month_lengths}
use Rattle.moment.proofs.Counts.{february, other_month}
use Rattle.moment.proofs.days_of_month.Goals as goal

pub returns-then-leap_year : goal.returns-then-leap_year
returns-then-leap_year c = february _ _ true c.if-month-eq2.true (sym c.leap_year.ensures ∙ c.if-leap_year.true)

pub returns-else-leap_year : goal.returns-else-leap_year
returns-else-leap_year c = february _ _ false c.if-month-eq2.true (sym c.leap_year.ensures ∙ c.if-leap_year.false)

pub returns : goal.returns
unfolding month_lengths
returns c = other_month _ _ (omega arith) (omega arith) c.if-month-eq2.false
