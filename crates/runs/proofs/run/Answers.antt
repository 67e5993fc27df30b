-- `runs::run` meets its contract. Assumes nothing.
use lib.Seq.{take_all}
use native.Mathlib.Omega.{arith}
use Rattle.runs.proofs.Laws.{take_more, goes_on, came}
use Rattle.runs.proofs.run.Goals as goal

pub loop-answer-init : goal.loop-answer-init
loop-answer-init c = c.start-s.ensures

pub loop-answer-preserved : goal.loop-answer-preserved
loop-answer-preserved c = goes_on _ _ _ _ _ _ _ _ _ _ (take_more c.args.answers.now c.loop-answer.answer-index (omega arith)) c.loop-answer.invariant c.answer-s.ensures

pub returns : goal.returns
returns c = came _ _ _ _ _ _ _ _ (take_all c.loop-answer.answer-index c.args.answers.now (omega arith)) c.loop-answer.invariant
