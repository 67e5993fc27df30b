-- `judge::pathjudge_judge` meets its contract. Assumes nothing.
use lib.ListN.{length-map}
use mathlib.Core.Path.{sym, ◌∙◌}
use Rattle.judge.proofs.Laws.{end_held, shown_held, came_held, counted, went, not_read}
use Rattle.judge.proofs.pathjudge_judge.Goals as goal

pub returns-in-Err : goal.returns-in-Err
returns-in-Err c =
    let h = c.fill.ensures in
    let i = sym (length-map c.args.issuers.now (λ x. x.now)) in
    not_read _ _ _ _ (sym (end_held _ _ _ h _ i) ∙ sym c.reading.ensures ∙ c.in-Err.is) _ _ _ _ c.ended.ensures

pub returns : goal.returns
returns c =
    let a = c.args in
    let h = c.fill.ensures in
    let i = sym (length-map a.issuers.now (λ x. x.now)) in
    went _ _ _ _ _ _
    (sym (end_held _ _ _ h _ i) ∙ sym c.reading.ensures ∙ c.in_default.is)
    _ (counted a.subjects.now a.issuers.now)
    (came_held _ _ _ h _ _ _ _ _ _ _ _ _ (sym (length-map a.subjects.now (λ x. x.now))) _ _ _ _ _ _ c.run-s.ensures)
    (shown_held _ _ _ h _ i _ _ _ _ c.shown.ensures)
