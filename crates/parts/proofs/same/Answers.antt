use native.Mathlib.Omega.{arith}
use mathlib.Core.Path.{sym, ◌∙◌}
use Rattle.der.proofs.Laws.{tests}
use Rattle.parts.specs.Model.{same_parts}
use Rattle.parts.proofs.Equal.{same_parts_lem, same_short, same_start, same_turn, same_differ, same_end}
use Rattle.parts.proofs.same.Goals as goal

pub returns-then-b-a : goal.returns-then-b-a
unfolding same_parts
returns-then-b-a c = grind (arith, tests)

pub returns-then-b-a-2 : goal.returns-then-b-a-2
returns-then-b-a-2 c =
    sym
    (same_parts_lem _ _ _ _ _ _ c.if-b-a.false c.if-s-b.false c.if-d-c.false c.if-t-d.false
    ∙ same_short _ _ _ _ _ _ c.if-s-b.false c.if-t-d.false c.if-b-a-2.true)

pub loop-i-init : goal.loop-i-init
loop-i-init c =
    (omega arith, same_start _ _ _ _ _ _ ∙ sym (same_parts_lem _ _ _ _ _ _ c.if-b-a.false c.if-s-b.false c.if-d-c.false c.if-t-d.false))

pub returns-then-s-a : goal.returns-then-s-a
returns-then-s-a c =
    sym
    (sym c.loop-i.invariant.1
    ∙ same_differ _ _ _ _ _ _ _ c.loop-i-test.true c.if-b-a-2.false c.if-s-b.false c.if-t-d.false c.if-s-a.true)

pub loop-i-preserved : goal.loop-i-preserved
loop-i-preserved c = (
  omega (arith, c.loop-i-test.true),
  same_turn _ _ _ _ _ _ _ c.loop-i-test.true c.if-b-a-2.false c.if-s-b.false c.if-t-d.false c.if-s-a.false
      ∙ c.loop-i.invariant.1,
)

pub returns : goal.returns
returns c =
    sym
    (sym c.loop-i.invariant.1
    ∙ same_end _ _ _ _ _ _ _ c.if-b-a.false c.if-d-c.false c.if-b-a-2.false c.loop-i.invariant.0 (omega arith))
