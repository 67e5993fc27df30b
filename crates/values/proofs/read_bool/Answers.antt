use native.Mathlib.Omega.{arith}
use mathlib.Core.Path.{◌∙◌}
use Rattle.der.proofs.Laws.{tests, handed_on}
use Rattle.der.specs.Model.{on_content}
use Rattle.values.specs.Model.{read_bool}
use Rattle.values.proofs.read_bool.Goals as goal

pub returns-then-s-to : goal.returns-then-s-to
unfolding read_bool
returns-then-s-to c = grind (arith, tests)

pub returns-then-to-from : goal.returns-then-to-from
unfolding read_bool
returns-then-to-from c = grind (arith, tests)

pub returns-in_err-content : goal.returns-in_err-content
unfolding read_bool on_content
returns-in_err-content c =
    handed_on _ c.from_residual.ensures ∙ search (tests, ← c.expect.ensures, c.in_err-content.was)

pub returns : goal.returns
unfolding read_bool on_content
returns c = search (tests, ← c.expect.ensures, c.in_ok-content.was, c.truth_in.ensures)
