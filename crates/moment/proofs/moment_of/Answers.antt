-- `moment::moment_of` meets its contract. Assumes nothing.
use mathlib.Core.Path.{sym, ◌∙◌}
use Rattle.der.proofs.Laws.{tests}
use Rattle.moment.specs.Model.{moment_of}
use Rattle.moment.proofs.RealDates.{left_is_real}
use Rattle.moment.proofs.moment_of.Goals as goal

pub returns-then-is_unreal : goal.returns-then-is_unreal
unfolding moment_of
returns-then-is_unreal c = search (tests, ← c.is_unreal.ensures, c.if-is_unreal.true)

pub returns-then-at-end : goal.returns-then-at-end
unfolding moment_of
returns-then-at-end c = search (tests, ← c.is_unreal.ensures, c.if-is_unreal.false)

pub seconds_to-requires-clause-real : goal.seconds_to-requires-clause-real
seconds_to-requires-clause-real c = left_is_real _ (sym c.is_unreal.ensures ∙ c.if-is_unreal.false)

pub returns : goal.returns
unfolding moment_of
returns c = search (tests, ← c.is_unreal.ensures, c.if-is_unreal.false, c.seconds_to.ensures)
