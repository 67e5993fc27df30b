use lib.ListN.{get_or}
use native.Mathlib.Omega.{arith}
use Rattle.der.proofs.Laws.{tests, one_shifted}
use Rattle.bits.specs.Model.{flags_in}
use Rattle.bits.proofs.flags_in.Goals.{then-to-from-eq1+else-unused-gt0, else-to-from-eq1+else-s-to-ne0}
use Rattle.bits.proofs.flags_in.Goals as goal

pub returns-then-s-to : goal.returns-then-s-to
unfolding flags_in
returns-then-s-to c = grind (arith, tests)

pub returns-then-unused-gt7 : goal.returns-then-unused-gt7
unfolding flags_in
returns-then-unused-gt7 c = grind (arith, tests)

pub returns-then-unused-gt0 : goal.returns-then-unused-gt0
unfolding flags_in
returns-then-unused-gt0 c = grind (arith, tests)

pub returns-then-s-to-ne0 : goal.returns-then-s-to-ne0
unfolding flags_in
returns-then-s-to-ne0 c =
    let a = c.args in
    let unused = get_or a.s.now a.from 0 in
    let zero = rw (one_shifted unused (omega (arith, c.if-unused-gt7.false))) at c.if-s-to-ne0.true in
    search tests

pub returns : goal.returns
unfolding flags_in
returns c =
    let a = c.args in
    let unused = get_or a.s.now a.from 0 in
    elim c.if-to-from-eq1.branch [
      | then-to-from-eq1+else-unused-gt0 w ↦ grind (arith, tests)
      | else-to-from-eq1+else-s-to-ne0 w ↦
          let zero = rw (one_shifted unused (omega (arith, c.if-unused-gt7.false))) at w.if-s-to-ne0.false in
          search tests
    ]
