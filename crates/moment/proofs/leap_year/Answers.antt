-- `moment::leap_year` meets its contract. Assumes nothing.
use Rattle.der.proofs.Laws.{tests}
use Rattle.moment.specs.Calendar.{leap_year}
use Rattle.moment.proofs.leap_year.Goals as goal

pub returns-then-year-eq0 : goal.returns-then-year-eq0
unfolding leap_year
returns-then-year-eq0 c = search tests

pub returns-else-year-eq0 : goal.returns-else-year-eq0
unfolding leap_year
returns-else-year-eq0 c = search tests
