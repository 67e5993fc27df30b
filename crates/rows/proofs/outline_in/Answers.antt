use Rattle.rows.specs.Model.{certificate_in, known_in}
use Rattle.rows.proofs.outline_in.Goals as goal

pub returns : goal.returns
unfolding certificate_in known_in
returns c = rw (c.span_at.ensures, c.span_at-2.ensures, c.span_at-3.ensures, c.span_at-4.ensures, c.span_at-5.ensures, c.span_at-6.ensures, c.slot_at.ensures)
