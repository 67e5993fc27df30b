use mathlib.Core.Path.{refl}
use Rattle.rows.specs.Model.{slot_in}
use Rattle.rows.proofs.slot_at.Goals as goal

pub returns : goal.returns
unfolding slot_in
returns c = refl
