use Rattle.rows.proofs.Laws.{row_accepted}
use Rattle.rows.proofs.accepted.Goals as goal

pub returns : goal.returns
returns c =
    row_accepted _ _ _ _ _ _ _ c.flag.ensures c.flag-2.ensures c.flag-3.ensures c.flag-4.ensures c.flag-5.ensures c.flag-6.ensures
