-- `replies::on_word` meets its contract. Assumes nothing.
use mathlib.Core.Path.{refl}
use Rattle.machine.proofs.Moves.{vetoed, taken}
use Rattle.replies.proofs.on_word.Goals as goal

pub returns-then-word-eq0 : goal.returns-then-word-eq0
returns-then-word-eq0 c W = taken W c.args.s c.requires.0 c.args.word c.requires.1 c.if-word-eq0.true

pub returns : goal.returns
returns c W = rw (c.refuse.ensures, c.from.ensures) (vetoed W c.args.s c.requires.0 c.args.word _ c.requires.1 c.if-word-eq0.false refl)
