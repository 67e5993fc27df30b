-- `labels::valid_wanted` meets its contract. Assumes nothing.
use Rattle.labels.specs.Model.{valid_wanted}
use Rattle.der.proofs.Laws.{tests}
use Rattle.labels.proofs.valid_wanted.Goals as goal

pub returns-then-h-gt-LONGEST_NAME : goal.returns-then-h-gt-LONGEST_NAME
unfolding valid_wanted
returns-then-h-gt-LONGEST_NAME c = search tests

pub returns : goal.returns
unfolding valid_wanted
returns c = search (tests, c.host.ensures, c.relative.ensures)
