use native.Mathlib.Omega.{arith}
use Rattle.der.specs.Model.{on_content}
use Rattle.std.proofs.lemmas.Result.{err_from_is_err_and}
use Rattle.der.proofs.Laws.{tests}
use Rattle.envelope.specs.Model.{parts_in}
use Rattle.envelope.proofs.parts_in.Goals as goal

pub returns-in_err-content : goal.returns-in_err-content
unfolding parts_in on_content
returns-in_err-content c = let p = err_from_is_err_and c.from_residual.result c.from_residual.ensures.1 in grind (arith, tests)

pub returns-in_err-algorithm : goal.returns-in_err-algorithm
unfolding parts_in on_content
returns-in_err-algorithm c = let p = err_from_is_err_and c.from_residual-in_err-algorithm.result c.from_residual-in_err-algorithm.ensures.1 in grind (arith, tests)

pub returns-in_err-signature : goal.returns-in_err-signature
unfolding parts_in on_content
returns-in_err-signature c = let p = err_from_is_err_and c.from_residual-in_err-signature.result c.from_residual-in_err-signature.ensures.1 in grind (arith, tests)

pub returns-then-signature-to : goal.returns-then-signature-to
unfolding parts_in on_content
returns-then-signature-to c = grind (arith, tests)

pub returns : goal.returns
unfolding parts_in on_content
returns c = grind (arith, tests)
