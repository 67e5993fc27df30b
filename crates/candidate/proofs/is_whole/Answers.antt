use lib.ListN.{length-map}
use Rattle.candidate.specs.Model.{is_whole}
use Rattle.candidate.proofs.is_whole.Goals as goal

pub returns-then-not-is_flagged : goal.returns-then-not-is_flagged
unfolding is_whole
returns-then-not-is_flagged c = rw (← c.is_flagged.ensures, c.if-not-is_flagged.true)

pub returns-else-not-is_flagged : goal.returns-else-not-is_flagged
unfolding is_whole
returns-else-not-is_flagged c = rw (← c.is_flagged.ensures, c.if-not-is_flagged.false, length-map c.args.constraints.now (λ x. x.now))
