-- `taken::anchor` meets its contract. Assumes nothing.
use Rattle.machine.proofs.Moves.{try_out, try_asks}
use Rattle.taken.proofs.anchor.Goals as goal

pub returns-then-s-eq0 : goal.returns-then-s-eq0
returns-then-s-eq0 c deep W = try_out W c.args.s deep c.args.i c.if-s-eq0.true

pub returns : goal.returns
returns c deep W = try_asks W c.args.s deep c.args.i c.if-s-eq0.false
