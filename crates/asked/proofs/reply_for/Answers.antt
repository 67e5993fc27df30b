use Rattle.asked.specs.Model.{reply_in, reply_for}
use Rattle.asked.proofs.reply_for.Goals as goal

pub returns-then-eq : goal.returns-then-eq
unfolding reply_in
returns-then-eq c = rw (← c.if-eq.ensures)

pub returns-in-Err : goal.returns-in-Err
unfolding reply_in reply_for
returns-in-Err c = rw (← c.if-eq.ensures, ← c.in-Err.ensures)

pub returns-in-Ok : goal.returns-in-Ok
unfolding reply_in reply_for
returns-in-Ok c = rw (← c.if-eq.ensures, ← c.in-Ok.ensures)
