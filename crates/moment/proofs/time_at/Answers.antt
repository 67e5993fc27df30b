-- `moment::time_at` meets its contract. Assumes nothing.
use Rattle.moment.specs.Model.{time_at}
use Rattle.moment.proofs.time_at.Goals as goal

pub returns-then-is_utc : goal.returns-then-is_utc
unfolding time_at
returns-then-is_utc c = search (← c.is_utc.ensures, c.if-is_utc.true, c.utc_at.ensures)

pub returns-else-is_utc : goal.returns-else-is_utc
unfolding time_at
returns-else-is_utc c = search (← c.is_utc.ensures, c.if-is_utc.false, c.generalized_at.ensures)
