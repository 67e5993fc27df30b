use native.Mathlib.Omega.{arith}
use Rattle.der.specs.Model.{on_content}
use Rattle.std.proofs.lemmas.Result.{err_from_is_err_and}
use Rattle.der.proofs.Laws.{tests}
use Rattle.extensions.specs.Model.{taken, on_parsed, on_kept, ruled, moved}
use Rattle.extensions.proofs.take_one.Goals as goal

pub returns-in_err-whole : goal.returns-in_err-whole
unfolding taken on_parsed on_kept ruled moved on_content
returns-in_err-whole c = let p = err_from_is_err_and c.from_residual.result c.from_residual.ensures.1 in grind (arith, tests)

pub returns-in_err-x : goal.returns-in_err-x
unfolding taken on_parsed on_kept ruled moved on_content
returns-in_err-x c = let p = err_from_is_err_and c.from_residual-in_err-x.result c.from_residual-in_err-x.ensures.1 in grind (arith, tests)

pub returns-in_err-find : goal.returns-in_err-find
unfolding taken on_parsed on_kept ruled moved on_content
returns-in_err-find c = let p = err_from_is_err_and c.from_residual-in_err-find.result c.from_residual-in_err-find.ensures.1 in grind (arith, tests)

pub returns-then-x-whole : goal.returns-then-x-whole
unfolding taken on_parsed on_kept ruled moved on_content
returns-then-x-whole c = grind (arith, tests)

pub returns : goal.returns
unfolding taken on_parsed on_kept ruled moved on_content
returns c = grind (arith, tests)
