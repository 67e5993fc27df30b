-- `moment::date_at` meets its contract. Assumes nothing.
use Rattle.moment.specs.Model.{date_at}
use Rattle.moment.proofs.date_at.Goals as goal

pub returns : goal.returns
unfolding date_at
returns c = simp (c.two_at.ensures, c.two_at-2.ensures, c.two_at-3.ensures, c.two_at-4.ensures, c.two_at-5.ensures)
