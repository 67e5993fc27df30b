use native.Mathlib.Omega.{arith}
use Rattle.der.specs.Model.{on_content}
use Rattle.std.proofs.lemmas.Result.{err_from_is_err_and}
use Rattle.der.proofs.Laws.{tests}
use Rattle.extensions.specs.Model.{extension_in, on_truth}
use Rattle.extensions.proofs.extension_in.Goals as goal

pub returns-in_err-identifier : goal.returns-in_err-identifier
unfolding extension_in on_truth on_content
returns-in_err-identifier c = let p = err_from_is_err_and c.from_residual.result c.from_residual.ensures.1 in grind (arith, tests)

pub returns-in_err-critical : goal.returns-in_err-critical
unfolding extension_in on_truth on_content
returns-in_err-critical c = let p = err_from_is_err_and c.from_residual-in_err-critical.result c.from_residual-in_err-critical.ensures.1 in grind (arith, tests)

pub returns-in_err-value : goal.returns-in_err-value
unfolding extension_in on_truth on_content
returns-in_err-value c = let p = err_from_is_err_and c.from_residual-in_err-value.result c.from_residual-in_err-value.ensures.1 in grind (arith, tests)

pub returns : goal.returns
unfolding extension_in on_truth on_content
returns c = grind (arith, tests)
