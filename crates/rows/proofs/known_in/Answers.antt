use Rattle.rows.specs.Model.{known_in}
use Rattle.rows.proofs.known_in.Goals as goal

pub returns : goal.returns
unfolding known_in
returns c = rw (c.slot_at.ensures, c.slot_at-2.ensures, c.slot_at-3.ensures, c.slot_at-4.ensures, c.slot_at-5.ensures, c.slot_at-6.ensures)
