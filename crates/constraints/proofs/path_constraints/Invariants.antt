-- `constraints::path_constraints` meets its contract: what is left of the issuers, with what is left of the budget, has the answer of the whole. Assumes nothing.
use mathlib.Core.Path.{◌≡◌}
use Rattle.entries.specs.Tally.{spend}
use Rattle.constraints.specs.Paths.{noted_at, certs_at}
use Rattle.constraints.specs.Model.{issuers_in, path_constraints_in}
use Rattle.constraints.proofs.path_constraints.Given as goal

abbrev pub invariant-loop-k : goal.invariant-loop-k
invariant-loop-k l =
    spend l.left (issuers_in (certs_at (noted_at l.lent) l.path l.k)) ≡ spend l.fn.left (path_constraints_in l.anchor l.bound (certs_at (noted_at l.lent) l.path l.depth))
