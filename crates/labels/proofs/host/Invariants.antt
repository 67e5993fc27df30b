-- `labels::host` meets its contract: what is left of the text, with the label so far, has the answer of the whole. Assumes nothing.
use mathlib.Core.Path.{◌≡◌}
use lib.ListN.{drop}
use Rattle.labels.specs.Model.{host_from, host_text}
use Rattle.labels.proofs.host.Given as goal

abbrev pub invariant-loop-b : goal.invariant-loop-b
invariant-loop-b l = host_from (drop l.b-index l.h) l.label ≡ host_text l.h
