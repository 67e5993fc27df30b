-- `judge::pathjudge_question` meets its contract. Assumes nothing.
use Rattle.judge.proofs.Laws.{question_told}
use Rattle.judge.proofs.pathjudge_question.Goals as goal

pub returns : goal.returns
returns c h = question_told _ _ _ _ _ _ _ _ _ c.state_of.ensures c.asked-numbers.ensures c.question.ensures h
