use mathlib.Core.Path.{◌∙◌}
use Rattle.der.proofs.Laws.{handed_on}
use Rattle.rows.specs.Model.{on_outline}
use Rattle.asked.specs.Model.{question_in}
use Rattle.asked.proofs.question_of.Goals as goal

pub returns-in_err-outline : goal.returns-in_err-outline
unfolding question_in on_outline
returns-in_err-outline c = handed_on _ c.from_residual.ensures ∙ rw (← c.in_err-outline.ensures)

pub returns : goal.returns
unfolding question_in on_outline
returns c = rw (← c.in_ok-outline.ensures, ← c.key_of.ensures)
