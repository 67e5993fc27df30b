-- `moment::utc_at` meets its contract. Assumes nothing.
use native.Mathlib.Omega.{arith}
use mathlib.Core.Path.{sym, ◌∙◌}
use Rattle.der.specs.Model.{on_content}
use Rattle.std.proofs.lemmas.Result.{err_from_is_err_and}
use Rattle.moment.specs.Model.{utc_at}
use Rattle.moment.proofs.Contents.{content_within}
use Rattle.moment.proofs.utc_at.Goals as goal

pub returns-in_err-start : goal.returns-in_err-start
unfolding utc_at on_content
returns-in_err-start c = let p = err_from_is_err_and c.from_residual.result c.from_residual.ensures.1 in rw (p.1, p.2, ← c.expect.ensures, c.in_err-start.was)

pub returns : goal.returns
unfolding utc_at on_content
returns c = grind (arith, c.in_ok-start.was)

pub utc_in-requires : goal.utc_in-requires
unfolding utc_at on_content
utc_in-requires c = content_within _ _ _ _ _ _ (sym c.expect.ensures ∙ c.in_ok-start.was)
