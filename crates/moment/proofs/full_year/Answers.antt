-- `moment::full_year` meets its contract. Assumes nothing.
use Rattle.der.proofs.Laws.{tests}
use Rattle.moment.specs.Calendar.{full_year}
use Rattle.moment.proofs.full_year.Goals as goal

pub returns-then-digits-lt50 : goal.returns-then-digits-lt50
unfolding full_year
returns-then-digits-lt50 c = search tests

pub returns-else-digits-lt50 : goal.returns-else-digits-lt50
unfolding full_year
returns-else-digits-lt50 c = search tests
