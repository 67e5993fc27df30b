-- `search::walk::move_on` meets its contract. Assumes nothing.
use Rattle.machine.proofs.Moves.{notes, tries, extends}
use Rattle.machine.proofs.Lent.{request_candidates, request_checks}
use Rattle.machine.specs.World.{world_in, world_by}
use native.Mathlib.Omega.{arith}
use mathlib.Core.Path.{sym, ◌∙◌}
use borrow.Author.Rules.{rules}
use Rattle.search.proofs.walk.move_on.Goals as goal

pub returns-then-candidates-i : goal.returns-then-candidates-i
returns-then-candidates-i c = c.leave.ensures _ (omega (arith, request_candidates c.args.request.now))

pub returns-in-Pass : goal.returns-in-Pass
unfolding world_in
returns-in-Pass c =
    notes (world_by c.args.request.now) c.args.s c.requires.0 c.requires.1 (omega (arith, request_candidates c.args.request.now)) (search rules) c.note.result _ c.note.ensures (sym c.verdict_on.ensures ∙ c.in-Pass.is)

pub returns-in-Anchor : goal.returns-in-Anchor
unfolding world_in
returns-in-Anchor c =
    let W = world_by c.args.request.now in
    tries W c.args.s c.requires.0 c.requires.1 (omega (arith, request_candidates c.args.request.now)) (search rules) c.anchor.result (sym c.verdict_on.ensures ∙ c.in-Anchor.is) (c.anchor.ensures c.requires.0 W)

pub returns-in-Extend : goal.returns-in-Extend
unfolding world_in
returns-in-Extend c =
    let r = c.args.request.now in
    let W = world_by r in
    extends W c.args.s c.requires.0 c.requires.1 (omega (arith, request_candidates r)) (search rules) c.extend.result (sym c.verdict_on.ensures ∙ c.in-Extend.is)
    (c.extend.ensures c.requires.0 c.requires.1 W (request_checks r _ c.lent.ensures))
