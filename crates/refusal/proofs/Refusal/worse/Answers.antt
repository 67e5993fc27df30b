-- `Refusal::worse` meets its contract: by the test of the two ranks. Assumes nothing.
use borrow.Author.Tests.{lt-ltb, le-ltb}
use Rattle.refusal.specs.Model.{worse_of}
use Rattle.refusal.proofs.Refusal.worse.Goals as goal

pub returns-then-rank : goal.returns-then-rank
unfolding worse_of
returns-then-rank c = search (lt-ltb, ← c.rank.ensures, ← c.rank-2.ensures)

pub returns-else-rank : goal.returns-else-rank
unfolding worse_of
returns-else-rank c = search (le-ltb, ← c.rank.ensures, ← c.rank-2.ensures)
