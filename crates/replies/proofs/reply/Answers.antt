-- `replies::reply` meets its contract. Assumes nothing.
use Rattle.machine.proofs.Moves.{idle}
use native.Mathlib.Omega.{arith}
use Rattle.replies.proofs.reply.Goals as goal

pub returns-then-s-gt-MOST_INTERMEDIATES : goal.returns-then-s-gt-MOST_INTERMEDIATES
returns-then-s-gt-MOST_INTERMEDIATES c d h W j = absurd (omega arith)

pub returns-in-Ask : goal.returns-in-Ask
returns-in-Ask c d h W j = c.on_answer.ensures W j

pub returns-in-Offer : goal.returns-in-Offer
returns-in-Offer c d h W j = c.on_word.ensures W

pub returns-in_default : goal.returns-in_default
returns-in_default c d h W j =
    let a = c.args in
    idle W a.s d a.answer h c.in_default.not-Ask c.in_default.not-Offer
