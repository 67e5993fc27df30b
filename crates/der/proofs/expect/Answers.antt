use native.Mathlib.Omega.{arith}
use mathlib.Core.Path.{◌≡◌, ◌∙◌}
use Rattle.std.specs.Prelude.{None, Some}
use Rattle.der.proofs.Laws.{tests, handed_on}
use Rattle.der.specs.Model.{expect_at, of_tag}
use Rattle.der.proofs.expect.Goals as goal

pub returns-in_err-value : goal.returns-in_err-value
unfolding expect_at of_tag
returns-in_err-value c =
    let none : c.read_value.result ≡ None = grind arith in
    handed_on _ c.from_residual.ensures ∙ rw (← c.read_value.ensures, none) (grind arith)

pub returns-then-value-tag : goal.returns-then-value-tag
unfolding expect_at of_tag
returns-then-value-tag c =
    let found : c.read_value.result ≡ Some c.in_ok-value.value = grind arith in
    search (tests, ← c.read_value.ensures, found)

pub returns : goal.returns
unfolding expect_at of_tag
returns c =
    let found : c.read_value.result ≡ Some c.in_ok-value.value = grind arith in
    search (tests, ← c.read_value.ensures, found)
