-- `entries::judge` meets its contract. Assumes nothing.
use mathlib.Core.Path.{sym, ◌∙◌}
use native.Mathlib.Omega.{arith}
use Rattle.std.proofs.Common.{rules}
use Rattle.der.specs.Places.{part}
use Rattle.entries.specs.Model.{judged, on_base}
use Rattle.entries.proofs.Laws.{base_within, judged_same}
use Rattle.entries.proofs.judge.Goals as goal

pub returns-in_err-base : goal.returns-in_err-base
unfolding judged on_base
returns-in_err-base c = search rules

pub returns-then-base-kind : goal.returns-then-base-kind
unfolding judged on_base
returns-then-base-kind c = search rules

pub slice_bounds-compare-count : goal.slice_bounds-compare-count
slice_bounds-compare-count c = omega (arith, base_within _ _ _ _ _ _ (sym c.in_ok-base.ensures))

pub slice_bounds-compare-start : goal.slice_bounds-compare-start
slice_bounds-compare-start c = omega (arith, base_within _ _ _ _ _ _ (sym c.in_ok-base.ensures))

pub slice_bounds-compare-end : goal.slice_bounds-compare-end
slice_bounds-compare-end c = omega (arith, base_within _ _ _ _ _ _ (sym c.in_ok-base.ensures))

pub returns : goal.returns
unfolding part
returns c = c.settle.ensures ∙ judged_same _ _ _ _ _ _ _ (sym c.in_ok-base.ensures) c.if-base-kind.false c.compare-answer.ensures
