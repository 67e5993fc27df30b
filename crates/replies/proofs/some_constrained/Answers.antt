-- `replies::some_constrained` meets its contract. Assumes nothing.
use mathlib.Core.Path.{sym, ap, ◌∙◌}
use native.Mathlib.Omega.{arith}
use Rattle.lent.proofs.Laws.{path_start, path_turn, path_found, path_end}
use Rattle.machine.specs.World.{constrained_as}
use Rattle.replies.proofs.some_constrained.Goals as goal

pub loop-k-init : goal.loop-k-init
loop-k-init c = path_start _ _ _

pub returns-then-is_constrained : goal.returns-then-is_constrained
returns-then-is_constrained c = path_found _ _ _ _ (omega arith) c.number_at-n.ensures (sym (ap constrained_as c.outline.ensures) ∙ sym c.is_constrained.ensures ∙ c.if-is_constrained.true) c.loop-k.invariant

pub loop-k-preserved : goal.loop-k-preserved
loop-k-preserved c = path_turn _ _ _ _ (omega arith) c.number_at-n.ensures (sym (ap constrained_as c.outline.ensures) ∙ sym c.is_constrained.ensures ∙ c.if-is_constrained.false) c.loop-k.invariant

pub returns : goal.returns
returns c = path_end _ _ _ _ (omega arith) c.loop-k.invariant
