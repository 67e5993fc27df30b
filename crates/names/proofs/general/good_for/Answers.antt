-- `names::general::good_for` meets its contract: the rest of the walk has the answer of the whole. Assumes nothing.
use mathlib.Core.Path.{sym, ap, ◌∙◌}
use Rattle.std.specs.Prelude.{Ok}
use Rattle.der.proofs.Laws.{handed_on}
use Rattle.der.proofs.Loop.{start, turn, stop, finish}
use Rattle.names.specs.Model.{good_for}
use Rattle.names.proofs.Laws.{try_later, go_on_lem, go_hit, go_broke}
use native.Mathlib.Omega.{arith}
use Rattle.names.proofs.general.good_for.Goals as goal

pub loop-at-init : goal.loop-at-init
unfolding good_for
loop-at-init c = start _ _ _ _ _

pub returns-in_err-next : goal.returns-in_err-next
returns-in_err-next c =
    handed_on _ c.from_residual.ensures ∙ stop _ _ _ _ _ _ c.loop-at.invariant (omega arith) (go_broke (sym c.in_err-next.ensures))

pub loop-at-smaller : goal.loop-at-smaller
loop-at-smaller c = let l = try_later _ _ _ _ _ _ (sym c.in_ok-next.ensures ∙ ap Ok c.in-Next.is) in omega arith

pub loop-at-preserved : goal.loop-at-preserved
loop-at-preserved c =
    let found = sym c.in_ok-next.ensures ∙ ap Ok c.in-Next.is in
    turn _ _ _ _ _ _ _ c.loop-at.invariant (omega arith) (try_later _ _ _ _ _ _ found) (go_on_lem found)

pub returns-in-Good : goal.returns-in-Good
returns-in-Good c = stop _ _ _ _ _ _ c.loop-at.invariant (omega arith) (go_hit (sym c.in_ok-next.ensures ∙ ap Ok c.in-Good.is))

pub returns : goal.returns
returns c = finish _ _ _ _ _ c.loop-at.invariant (omega arith)
