use native.Mathlib.Omega.{arith}
use Rattle.der.specs.Model.{on_content}
use Rattle.std.proofs.lemmas.Result.{err_from_is_err_and}
use Rattle.der.proofs.Laws.{tests}
use Rattle.envelope.specs.Model.{begun}
use Rattle.envelope.proofs.begin.Goals as goal

pub returns-in_err-version : goal.returns-in_err-version
unfolding begun on_content
returns-in_err-version c = let p = err_from_is_err_and c.from_residual.result c.from_residual.ensures.1 in grind (arith, tests)

pub returns-in_err-serial : goal.returns-in_err-serial
unfolding begun on_content
returns-in_err-serial c = let p = err_from_is_err_and c.from_residual-in_err-serial.result c.from_residual-in_err-serial.ensures.1 in grind (arith, tests)

pub returns-in_err-algorithm : goal.returns-in_err-algorithm
unfolding begun on_content
returns-in_err-algorithm c = let p = err_from_is_err_and c.from_residual-in_err-algorithm.result c.from_residual-in_err-algorithm.ensures.1 in grind (arith, tests)

pub returns-then-not-same : goal.returns-then-not-same
unfolding begun on_content
returns-then-not-same c = grind (arith, tests)

pub returns : goal.returns
unfolding begun on_content
returns c = grind (arith, tests)
