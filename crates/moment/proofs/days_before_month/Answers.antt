-- `moment::days_before_month` meets its contract: the table is the count. Assumes nothing.
use mathlib.Core.Path.{sym, ◌∙◌}
use native.Mathlib.Omega.{arith}
use Rattle.moment.proofs.Counts.{early_month, late_month_leap, late_month_common}
use Rattle.moment.proofs.days_before_month.Goals as goal
use Rattle.moment.proofs.days_before_month.Goals.{else-month-gt2-via-then-month-gt2+else-leap_year, else-month-gt2-via-else-month-gt2}

pub returns-then-leap_year : goal.returns-then-leap_year
returns-then-leap_year c = late_month_leap _ _ (sym c.leap_year.ensures ∙ c.if-leap_year.true) (omega arith) (omega arith)

pub returns-else-month-gt2 : goal.returns-else-month-gt2
returns-else-month-gt2 c =
    elim c.else-month-gt2.branch [
      | else-month-gt2-via-then-month-gt2+else-leap_year w ↦ late_month_common _ _ (sym w.leap_year.ensures ∙ w.if-leap_year.false) (omega arith) (omega arith)
      | else-month-gt2-via-else-month-gt2 w ↦ early_month _ _ (omega arith) (omega arith)
    ]
