use mathlib.Core.Path.{sym}
use native.Mathlib.Omega.{arith}
use Rattle.der.proofs.Laws.{number_one, long_none, long_less, long_is}
use Rattle.der.specs.Model.{least}
use Rattle.der.proofs.long_1.Goals as goal

pub returns-then-to-at-le1 : goal.returns-then-to-at-le1
returns-then-to-at-le1 c = sym (long_none _ _ _ _ c.if-to-at-le1.true)

pub returns-then-len-lt128 : goal.returns-then-len-lt128
unfolding least
returns-then-len-lt128 c =
    let a = c.args in
    let n = number_one a.s.now a.at c.byte_at-len.ensures.is in
    sym (long_less _ _ _ _ c.if-to-at-le1.false (omega (arith, n, c.if-len-lt128.true)))

pub returns : goal.returns
unfolding least
returns c =
    let a = c.args in
    let n = number_one a.s.now a.at c.byte_at-len.ensures.is in
    sym (long_is _ _ _ _ c.if-to-at-le1.false n c.if-len-lt128.false (omega arith))
