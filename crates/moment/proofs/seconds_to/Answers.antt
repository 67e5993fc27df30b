-- `moment::seconds_to` meets its contract. Assumes nothing.
use native.Mathlib.Omega.{arith}
use Rattle.moment.specs.Calendar.{seconds_to, days_to}
use Rattle.moment.specs.Model.{date_of}
use Rattle.moment.proofs.RealDates.{days_fit}
use Rattle.moment.proofs.seconds_to.Goals as goal

pub overflow_add-days : goal.overflow_add-days
overflow_add-days c = omega (arith, days_fit (date_of c.args.d) c.requires.real (omega arith))

pub overflow_add-days-2 : goal.overflow_add-days-2
overflow_add-days-2 c = omega (arith, days_fit (date_of c.args.d) c.requires.real (omega arith))

pub overflow_mul-result : goal.overflow_mul-result
overflow_mul-result c = omega (arith, days_fit (date_of c.args.d) c.requires.real (omega arith))

pub overflow_add-result : goal.overflow_add-result
overflow_add-result c = omega (arith, days_fit (date_of c.args.d) c.requires.real (omega arith))

pub overflow_mul-result-2 : goal.overflow_mul-result-2
overflow_mul-result-2 c = omega (arith, days_fit (date_of c.args.d) c.requires.real (omega arith))

pub overflow_add-result-2 : goal.overflow_add-result-2
overflow_add-result-2 c = omega (arith, days_fit (date_of c.args.d) c.requires.real (omega arith))

pub overflow_mul-result-3 : goal.overflow_mul-result-3
overflow_mul-result-3 c = omega (arith, days_fit (date_of c.args.d) c.requires.real (omega arith))

pub overflow_add-result-3 : goal.overflow_add-result-3
overflow_add-result-3 c = omega (arith, days_fit (date_of c.args.d) c.requires.real (omega arith))

pub returns : goal.returns
unfolding seconds_to days_to
returns c = simp (c.days_before_month.ensures, c.days_before_year.ensures)
