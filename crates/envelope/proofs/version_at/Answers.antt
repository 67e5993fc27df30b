use native.Mathlib.Omega.{arith}
use Rattle.der.specs.Model.{on_content}
use Rattle.std.proofs.lemmas.Result.{err_from_is_err_and}
use Rattle.der.proofs.Laws.{tests}
use Rattle.envelope.specs.Model.{version_at, is_version}
use Rattle.envelope.proofs.version_at.Goals as goal

pub returns-in_err-version : goal.returns-in_err-version
unfolding version_at is_version on_content
returns-in_err-version c = let p = err_from_is_err_and c.from_residual.result c.from_residual.ensures.1 in grind (arith, tests)

pub returns-in_err-value : goal.returns-in_err-value
unfolding version_at is_version on_content
returns-in_err-value c = let p = err_from_is_err_and c.from_residual-in_err-value.result c.from_residual-in_err-value.ensures.1 in grind (arith, tests)

pub returns-then-value-ne2 : goal.returns-then-value-ne2
unfolding version_at is_version on_content
returns-then-value-ne2 c = grind (arith, tests)

pub returns : goal.returns
unfolding version_at is_version on_content
returns c = grind (arith, tests)
