use mathlib.Core.Path.{refl}
use Rattle.extensions.specs.Model.{none_known}
use Rattle.extensions.proofs.none_known.Goals as goal

pub returns : goal.returns
unfolding none_known
returns c = refl
