-- `moment::days_before_year` meets its contract: the closed form is the count. Assumes nothing.
use native.Mathlib.Omega.{arith}
use Rattle.moment.proofs.Counts.{since_one, year_form}
use Rattle.moment.proofs.days_before_year.Goals as goal

pub returns : goal.returns
unfolding since_one
returns c = year_form _ (omega arith)
