-- `moment::generalized_at` meets its contract. Assumes nothing.
use native.Mathlib.Omega.{arith}
use mathlib.Core.Path.{sym, ◌∙◌}
use Rattle.der.specs.Model.{on_content}
use Rattle.std.proofs.lemmas.Result.{err_from_is_err_and}
use Rattle.moment.specs.Model.{generalized_at}
use Rattle.moment.proofs.Contents.{content_within}
use Rattle.moment.proofs.generalized_at.Goals as goal

pub returns-in_err-start : goal.returns-in_err-start
unfolding generalized_at on_content
returns-in_err-start c = let p = err_from_is_err_and c.from_residual.result c.from_residual.ensures.1 in rw (p.1, p.2, ← c.expect.ensures, c.in_err-start.was)

pub returns : goal.returns
unfolding generalized_at on_content
returns c = grind (arith, c.in_ok-start.was)

pub generalized_in-requires : goal.generalized_in-requires
unfolding generalized_at on_content
generalized_in-requires c = content_within _ _ _ _ _ _ (sym c.expect.ensures ∙ c.in_ok-start.was)
