-- `runs::run` meets its contract. Assumes nothing.
use lib.ListN.{take}
use Rattle.machine.specs.Machine.{Came}
use Rattle.machine.specs.World.{end_by, world_by}
use Rattle.runs.proofs.run.Given as goal

abbrev pub invariant-loop-answer : goal.invariant-loop-answer
invariant-loop-answer l = Came (world_by l.request) (end_by l.request) l.signatures l.extensions l.comparisons (take l.answer-index l.answers) l.s
