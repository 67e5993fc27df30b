use native.Mathlib.Omega.{arith}
use Rattle.der.specs.Model.{on_content}
use Rattle.std.proofs.lemmas.Result.{err_from_is_err_and}
use Rattle.der.proofs.Laws.{tests}
use Rattle.extensions.specs.Model.{remembered, passed_over, ruled, with_find, number, number_of}
use Rattle.extensions.proofs.remember.Goals as goal

pub returns-in_err-start : goal.returns-in_err-start
unfolding remembered passed_over ruled with_find on_content number_of number
returns-in_err-start c = let p = err_from_is_err_and c.from_residual.result c.from_residual.ensures.1 in grind (arith, tests)

pub returns-then-x : goal.returns-then-x
unfolding remembered passed_over ruled with_find on_content number_of number
returns-then-x c = grind (arith, tests)

pub returns-in_default : goal.returns-in_default
unfolding remembered passed_over ruled with_find on_content number_of number
returns-in_default c = grind (arith, tests)

pub returns-then-slot_of : goal.returns-then-slot_of
unfolding remembered passed_over ruled with_find on_content number_of number
returns-then-slot_of c = grind (arith, tests)

pub returns : goal.returns
unfolding remembered passed_over ruled with_find on_content number_of number
returns c = grind (arith, tests)
