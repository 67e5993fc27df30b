-- `judge::pathjudge_answer` meets its contract. Assumes nothing.
use lib.ListN.{length-map}
use mathlib.Core.Path.{sym}
use Rattle.judge.proofs.Laws.{shown_held, answered_held, answer_at}
use Rattle.judge.proofs.pathjudge_answer.Goals as goal

pub returns : goal.returns
returns c h =
    let a = c.args in
    answer_at _ _ _ _ _
    (shown_held _ _ _ h _ (sym (length-map a.issuers.now (λ x. x.now))) _ _ _ _ c.shown.ensures)
    (answered_held _ _ _ h _ _ _ _ _ _ _ _ _ (sym (length-map a.subjects.now (λ x. x.now))) _ _ _ (rw c.state_of.ensures at c.answer-s.ensures))
