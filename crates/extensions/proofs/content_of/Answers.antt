use native.Mathlib.Omega.{arith}
use Rattle.der.specs.Model.{on_content}
use Rattle.std.proofs.lemmas.Result.{err_from_is_err_and}
use Rattle.der.proofs.Laws.{tests}
use Rattle.extensions.specs.Model.{content_of, number}
use Rattle.extensions.proofs.content_of.Goals as goal

pub returns-in_err-content : goal.returns-in_err-content
unfolding content_of on_content number
returns-in_err-content c = let p = err_from_is_err_and c.from_residual.result c.from_residual.ensures.1 in grind (arith, tests)

pub returns-in-KeyUsage : goal.returns-in-KeyUsage
unfolding content_of on_content number
returns-in-KeyUsage c = grind (arith, tests)

pub returns-then-content-value : goal.returns-then-content-value
unfolding content_of on_content number
returns-then-content-value c = grind (arith, tests)

pub returns : goal.returns
unfolding content_of on_content number
returns c = grind (arith, tests)
