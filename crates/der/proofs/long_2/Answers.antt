use mathlib.Core.Path.{sym}
use native.Mathlib.Omega.{arith}
use Rattle.der.proofs.Laws.{number_two, long_none, long_less, long_is}
use Rattle.der.specs.Model.{least}
use Rattle.der.proofs.long_2.Goals as goal

pub returns-then-to-at-le2 : goal.returns-then-to-at-le2
returns-then-to-at-le2 c = sym (long_none _ _ _ _ c.if-to-at-le2.true)

pub returns-then-len-lt256 : goal.returns-then-len-lt256
unfolding least
returns-then-len-lt256 c =
    let a = c.args in
    let n = number_two a.s.now a.at c.byte_at-a.ensures.is c.byte_at-b.ensures.is in
    sym (long_less _ _ _ _ c.if-to-at-le2.false (omega (arith, n, c.if-len-lt256.true)))

pub returns : goal.returns
unfolding least
returns c =
    let a = c.args in
    let n = number_two a.s.now a.at c.byte_at-a.ensures.is c.byte_at-b.ensures.is in
    sym (long_is _ _ _ _ c.if-to-at-le2.false n c.if-len-lt256.false (omega arith))
