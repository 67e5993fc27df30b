-- `labels::whole` meets its contract. Assumes nothing.
use mathlib.Core.Path.{◌≡◌, refl}
use mathlib.Core.Bool.{Bool, true, false, cond, not}
use Rattle.labels.specs.Model.{whole}
use Rattle.der.proofs.Laws.{tests}
use Rattle.labels.proofs.whole.Goals as goal

not_is : (b : Bool) → not b ≡ cond b false true
not_is true = refl
not_is false = refl

pub returns-then-l-ne0 : goal.returns-then-l-ne0
unfolding whole
returns-then-l-ne0 c = search (tests, not_is)

pub returns-else-l-ne0 : goal.returns-else-l-ne0
unfolding whole
returns-else-l-ne0 c = rw c.if-l-ne0.false
