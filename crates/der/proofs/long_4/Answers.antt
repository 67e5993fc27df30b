use mathlib.Core.Path.{sym}
use native.Mathlib.Omega.{arith}
use Rattle.der.proofs.Laws.{number_four, long_none, long_less, long_is}
use Rattle.der.specs.Model.{least}
use Rattle.der.proofs.long_4.Goals as goal

pub returns-then-to-at-le4 : goal.returns-then-to-at-le4
returns-then-to-at-le4 c = sym (long_none _ _ _ _ c.if-to-at-le4.true)

pub returns-then-len-lt16777216 : goal.returns-then-len-lt16777216
unfolding least
returns-then-len-lt16777216 c =
    let a = c.args in
    let n = number_four a.s.now a.at c.byte_at-a.ensures.is c.byte_at-b.ensures.is c.byte_at-c.ensures.is c.byte_at-d.ensures.is in
    sym (long_less _ _ _ _ c.if-to-at-le4.false (omega (arith, n, c.if-len-lt16777216.true)))

pub returns : goal.returns
unfolding least
returns c =
    let a = c.args in
    let n = number_four a.s.now a.at c.byte_at-a.ensures.is c.byte_at-b.ensures.is c.byte_at-c.ensures.is c.byte_at-d.ensures.is in
    sym (long_is _ _ _ _ c.if-to-at-le4.false n c.if-len-lt16777216.false (omega arith))
