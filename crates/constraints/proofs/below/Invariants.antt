-- `constraints::below` meets its contract: what is left of the certificates, with what is left of the budget, has the answer of the whole. Assumes nothing.
use mathlib.Core.Path.{◌≡◌}
use Rattle.entries.specs.Tally.{spend}
use Rattle.constraints.specs.Paths.{noted_at, certs_at}
use Rattle.constraints.specs.Model.{below_in}
use Rattle.constraints.proofs.Turns.{under}
use Rattle.constraints.proofs.below.Given as goal

abbrev pub invariant-loop-k : goal.invariant-loop-k
invariant-loop-k l = spend l.left (under l.s l.lists (noted_at l.lent) l.path l.k) ≡ spend l.fn.left (below_in l.s l.lists (certs_at (noted_at l.lent) l.path l.level))
