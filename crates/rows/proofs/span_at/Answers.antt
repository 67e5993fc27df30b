use mathlib.Core.Path.{refl}
use Rattle.rows.specs.Model.{span_in}
use Rattle.rows.proofs.span_at.Goals as goal

pub returns : goal.returns
unfolding span_in
returns c = refl
