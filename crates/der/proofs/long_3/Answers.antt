use mathlib.Core.Path.{sym}
use native.Mathlib.Omega.{arith}
use Rattle.der.proofs.Laws.{number_three, long_none, long_less, long_is}
use Rattle.der.specs.Model.{least}
use Rattle.der.proofs.long_3.Goals as goal

pub returns-then-to-at-le3 : goal.returns-then-to-at-le3
returns-then-to-at-le3 c = sym (long_none _ _ _ _ c.if-to-at-le3.true)

pub returns-then-len-lt65536 : goal.returns-then-len-lt65536
unfolding least
returns-then-len-lt65536 c =
    let a = c.args in
    let n = number_three a.s.now a.at c.byte_at-a.ensures.is c.byte_at-b.ensures.is c.byte_at-c.ensures.is in
    sym (long_less _ _ _ _ c.if-to-at-le3.false (omega (arith, n, c.if-len-lt65536.true)))

pub returns : goal.returns
unfolding least
returns c =
    let a = c.args in
    let n = number_three a.s.now a.at c.byte_at-a.ensures.is c.byte_at-b.ensures.is c.byte_at-c.ensures.is in
    sym (long_is _ _ _ _ c.if-to-at-le3.false n c.if-len-lt65536.false (omega arith))
