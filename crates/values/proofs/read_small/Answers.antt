use mathlib.Core.Path.{◌∙◌}
use Rattle.der.proofs.Laws.{handed_on}
use Rattle.der.specs.Model.{on_content}
use Rattle.values.specs.Model.{read_small}
use Rattle.values.proofs.read_small.Goals as goal

pub returns-in_err-digits : goal.returns-in_err-digits
unfolding read_small on_content
returns-in_err-digits c =
    handed_on _ c.from_residual.ensures ∙ search (← c.nonnegative_at.ensures, c.in_err-digits.was)

pub returns : goal.returns
unfolding read_small on_content
returns c = search (← c.nonnegative_at.ensures, c.in_ok-digits.was, c.small_in.ensures)
