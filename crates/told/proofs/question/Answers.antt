-- `told::question` meets its contract. Assumes nothing.
use Rattle.told.specs.Model.{keyed_of, asked_of}
use Rattle.told.proofs.question.Goals as goal

pub returns-in-Ok-key : goal.returns-in-Ok-key
unfolding asked_of keyed_of
returns-in-Ok-key c = rw (← c.in-Ok.ensures, c.in-Ok-key.is)

pub returns-in-Err-key : goal.returns-in-Err-key
unfolding asked_of keyed_of
returns-in-Err-key c = rw (← c.in-Ok.ensures, c.in-Err-key.is) cc

pub returns-in-Err : goal.returns-in-Err
unfolding asked_of
returns-in-Err c = rw (← c.in-Err.ensures) cc
