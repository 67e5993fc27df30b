-- `moment::after_year` meets its contract. Assumes nothing.
use native.Mathlib.Omega.{arith}
use Rattle.der.proofs.Laws.{tests}
use Rattle.moment.specs.Calendar.{Date}
use Rattle.moment.specs.Model.{date_at, after_year_at}
use mathlib.Core.Path.{ap}
use Rattle.moment.proofs.after_year.Goals as goal

pub returns-then-year-lt1970 : goal.returns-then-year-lt1970
unfolding after_year_at
returns-then-year-lt1970 c = grind (arith, tests)

pub returns : goal.returns
unfolding after_year_at
returns c = search (tests, ← c.date_at.ensures, c.moment_of.ensures)

pub moment_of-requires : goal.moment_of-requires
unfolding date_at
moment_of-requires c = let y = ap (λ (d : Date). d.year) c.date_at.ensures in omega arith
