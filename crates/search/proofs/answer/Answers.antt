-- `search::answer` meets its contract. Assumes nothing.
use Rattle.machine.proofs.Whole.{answered, answered_at_once}
use Rattle.machine.proofs.Lent.{request_judges}
use Rattle.machine.specs.World.{world_by}
use native.Mathlib.Omega.{arith}
use Rattle.search.proofs.answer.Goals as goal

pub returns-then-s-gt-MOST_INTERMEDIATES : goal.returns-then-s-gt-MOST_INTERMEDIATES
returns-then-s-gt-MOST_INTERMEDIATES c deep halts = absurd (omega arith)

pub returns-in-Walk : goal.returns-in-Walk
returns-in-Walk c deep halts = absurd (halts c.in-Walk.is)

pub advance-requires : goal.advance-requires
advance-requires c =
    let r = c.args.request.now in
    (c.reply-t.ensures (omega arith) c.in_default.not-Walk (world_by r) (request_judges r _ c.lent.ensures)).deep

pub returns-in-Walk-phase : goal.returns-in-Walk-phase
returns-in-Walk-phase c deep halts =
    let r = c.args.request.now in
    answered (world_by r) c.args.s c.reply-t.result c.advance.result c.args.given (c.reply-t.ensures deep halts (world_by r) (request_judges r _ c.lent.ensures)) c.advance.ensures

pub returns : goal.returns
returns c deep halts =
    let r = c.args.request.now in
    answered_at_once (world_by r) c.args.s c.reply-t.result c.args.given (c.reply-t.ensures deep halts (world_by r) (request_judges r _ c.lent.ensures)) c.in_default-phase.not-Walk
