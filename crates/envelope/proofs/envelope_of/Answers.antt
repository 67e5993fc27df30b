use native.Mathlib.Omega.{arith}
use Rattle.der.specs.Model.{on_content}
use Rattle.std.proofs.lemmas.Result.{err_from_is_err_and}
use Rattle.der.proofs.Laws.{tests}
use Rattle.envelope.specs.Model.{opened, on_parts}
use Rattle.envelope.proofs.envelope_of.Goals as goal

pub returns-in_err-whole : goal.returns-in_err-whole
unfolding opened on_parts on_content
returns-in_err-whole c = let p = err_from_is_err_and c.from_residual.result c.from_residual.ensures.1 in grind (arith, tests)

pub returns-in_err-envelope : goal.returns-in_err-envelope
unfolding opened on_parts on_content
returns-in_err-envelope c = let p = err_from_is_err_and c.from_residual-in_err-envelope.result c.from_residual-in_err-envelope.ensures.1 in grind (arith, tests)

pub returns-then-whole-s : goal.returns-then-whole-s
unfolding opened on_parts on_content
returns-then-whole-s c = grind (arith, tests)

pub returns : goal.returns
unfolding opened on_parts on_content
returns c = grind (arith, tests)
