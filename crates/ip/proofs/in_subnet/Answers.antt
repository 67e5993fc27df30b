-- `ip::in_subnet` meets its contract: what is left of the three has the answer of the whole. Assumes nothing.
use mathlib.Core.Path.{sym, ◌∙◌}
use native.Mathlib.Omega.{arith}
use Rattle.ip.proofs.Laws.{subnet_turn, subnet_differs, subnet_broken, subnet_end}
use Rattle.ip.proofs.in_subnet.Goals as goal

pub returns-in-Differs : goal.returns-in-Differs
returns-in-Differs c = sym (subnet_differs _ c.args.p.now c.args.address.now c.args.mask.now c.loop-i.i (omega arith) (omega arith) (omega arith) (sym c.in-Differs.ensures)) ∙ c.loop-i.invariant

pub returns-in-Broken : goal.returns-in-Broken
returns-in-Broken c = sym (subnet_broken _ c.args.p.now c.args.address.now c.args.mask.now c.loop-i.i (omega arith) (omega arith) (omega arith) (sym c.in-Broken.ensures)) ∙ c.loop-i.invariant

pub loop-i-preserved : goal.loop-i-preserved
loop-i-preserved c = subnet_turn _ c.args.p.now c.args.address.now c.args.mask.now c.loop-i.i (omega arith) (omega arith) (omega arith) (sym c.in-Same.ensures) ∙ c.loop-i.invariant

pub returns : goal.returns
returns c = sym (subnet_end _ c.args.p.now c.args.address.now c.args.mask.now c.loop-i.i (omega arith)) ∙ c.loop-i.invariant
