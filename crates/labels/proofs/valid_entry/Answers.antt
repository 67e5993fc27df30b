-- `labels::valid_entry` meets its contract. Assumes nothing.
use Rattle.labels.specs.Model.{valid_entry}
use Rattle.der.proofs.Laws.{tests}
use Rattle.labels.proofs.valid_entry.Goals as goal

pub returns-then-h-gt-LONGEST_NAME : goal.returns-then-h-gt-LONGEST_NAME
unfolding valid_entry
returns-then-h-gt-LONGEST_NAME c = search tests

pub returns-then-is_empty : goal.returns-then-is_empty
unfolding valid_entry
returns-then-is_empty c = search (tests, ← c.is_empty.ensures, c.if-is_empty.true)

pub returns-then-begins : goal.returns-then-begins
unfolding valid_entry
returns-then-begins c = search (tests, ← c.is_empty.ensures, c.if-is_empty.false, ← c.begins.ensures, c.if-begins.true, c.host.ensures, c.rest.ensures)

pub returns : goal.returns
unfolding valid_entry
returns c = search (tests, ← c.is_empty.ensures, c.if-is_empty.false, ← c.begins.ensures, c.if-begins.false, c.host-2.ensures)
