use native.Mathlib.Omega.{arith}
use Rattle.der.specs.Model.{on_content}
use Rattle.std.proofs.lemmas.Result.{err_from_is_err_and}
use Rattle.der.proofs.Laws.{tests}
use Rattle.extensions.specs.Model.{extensions_at, on_kept}
use Rattle.extensions.proofs.all_at.Goals as goal

pub returns-in_err-field : goal.returns-in_err-field
unfolding extensions_at on_kept on_content
returns-in_err-field c = let p = err_from_is_err_and c.from_residual.result c.from_residual.ensures.1 in grind (arith, tests)

pub returns-in_err-list : goal.returns-in_err-list
unfolding extensions_at on_kept on_content
returns-in_err-list c = let p = err_from_is_err_and c.from_residual-in_err-list.result c.from_residual-in_err-list.ensures.1 in grind (arith, tests)

pub returns-then-from-to : goal.returns-then-from-to
unfolding extensions_at on_kept on_content
returns-then-from-to c = grind (arith, tests)

pub returns-in-Ok : goal.returns-in-Ok
unfolding extensions_at on_kept on_content
returns-in-Ok c = grind (arith, tests)

pub returns-in-Ok-2 : goal.returns-in-Ok-2
unfolding extensions_at on_kept on_content
returns-in-Ok-2 c = grind (arith, tests)

pub returns-in_default : goal.returns-in_default
unfolding extensions_at on_kept on_content
returns-in_default c = grind (arith, tests)

pub returns-in_default-2 : goal.returns-in_default-2
unfolding extensions_at on_kept on_content
returns-in_default-2 c = grind (arith, tests)
