-- `search::walk::leave` meets its contract. Assumes nothing.
use Rattle.machine.proofs.Moves.{over, pops}
use Rattle.search.proofs.walk.leave.Goals as goal

pub returns-then-s-eq0 : goal.returns-then-s-eq0
returns-then-s-eq0 c W none = over W c.args.s c.requires.0 c.requires.1 none c.if-s-eq0.true

pub returns : goal.returns
returns c W none = pops W c.args.s c.requires.0 c.requires.1 none c.if-s-eq0.false
