-- `entries::all` meets its contract: what is left of the walk, with what is left of the budget, has the answer of the whole. Assumes nothing.
use Prim.Native.Nat.{◌-◌}
use Rattle.entries.specs.Tally.{spend}
use Rattle.entries.specs.Model.{judged, go_on, ended, entries}
use Rattle.entries.proofs.Spending.{Paying}
use Rattle.entries.proofs.all.Given as goal

abbrev pub invariant-loop-at : goal.invariant-loop-at
invariant-loop-at l =
    Paying l.to ended (λ a x. go_on (judged l.s l.to l.excluded l.kind l.p a x)) (spend l.initial.left (entries l.s l.from l.to l.excluded l.kind l.p)) l.left l.at l.seen

abbrev pub decreases-loop-at : goal.decreases-loop-at
decreases-loop-at l = l.to - l.at
