-- `entries::settle` meets its contract. Assumes nothing.
use Rattle.std.proofs.Common.{rules}
use Rattle.entries.specs.Model.{settled}
use Rattle.entries.proofs.settle.Goals as goal

pub returns-in_err-answer : goal.returns-in_err-answer
unfolding settled
returns-in_err-answer c = search rules

pub returns-in-true-true : goal.returns-in-true-true
unfolding settled
returns-in-true-true c = search rules

pub returns-in-true-false : goal.returns-in-true-false
unfolding settled
returns-in-true-false c = search rules

pub returns-in-false-true : goal.returns-in-false-true
unfolding settled
returns-in-false-true c = search rules

pub returns-in-false-false : goal.returns-in-false-false
unfolding settled
returns-in-false-false c = search rules
