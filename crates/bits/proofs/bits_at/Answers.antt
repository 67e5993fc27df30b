use mathlib.Core.Path.{◌∙◌}
use Rattle.der.proofs.Laws.{handed_on}
use Rattle.der.specs.Model.{on_content}
use Rattle.bits.specs.Model.{bits_at}
use Rattle.bits.proofs.bits_at.Goals as goal

pub returns-in_err-content : goal.returns-in_err-content
unfolding bits_at on_content
returns-in_err-content c =
    handed_on _ c.from_residual.ensures ∙ search (← c.expect.ensures, c.in_err-content.was)

pub returns : goal.returns
unfolding bits_at on_content
returns c = search (← c.expect.ensures, c.in_ok-content.was, c.whole_octets.ensures)
