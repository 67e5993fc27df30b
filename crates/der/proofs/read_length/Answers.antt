use native.Mathlib.Omega.{arith}
use mathlib.Core.Path.{sym, ◌∙◌}
use lib.Dec.{lit<, lit≤}
use Rattle.der.proofs.Laws.{tests, first_none, length_long}
use Rattle.der.specs.Model.{read_length, by_first}
use Rattle.der.proofs.read_length.Goals as goal

pub returns-then-s-to : goal.returns-then-s-to
unfolding read_length
returns-then-s-to c = grind (arith, tests)

pub returns-then-first-lt128 : goal.returns-then-first-lt128
unfolding read_length by_first
returns-then-first-lt128 c = search (tests, ← c.byte_at-first.ensures.is)

pub returns-in-129 : goal.returns-in-129
returns-in-129 c =
    c.long_1.ensures ∙ sym (length_long _ _ _ 1 c.if-s-to.false c.if-to-at.false (sym c.byte_at-first.ensures.is ∙ c.in-129.is) (lit< tt) (lit≤ tt))

pub returns-in-130 : goal.returns-in-130
returns-in-130 c =
    c.long_2.ensures ∙ sym (length_long _ _ _ 2 c.if-s-to.false c.if-to-at.false (sym c.byte_at-first.ensures.is ∙ c.in-130.is) (lit< tt) (lit≤ tt))

pub returns-in-131 : goal.returns-in-131
returns-in-131 c =
    c.long_3.ensures ∙ sym (length_long _ _ _ 3 c.if-s-to.false c.if-to-at.false (sym c.byte_at-first.ensures.is ∙ c.in-131.is) (lit< tt) (lit≤ tt))

pub returns-in-132 : goal.returns-in-132
returns-in-132 c =
    c.long_4.ensures ∙ sym (length_long _ _ _ 4 c.if-s-to.false c.if-to-at.false (sym c.byte_at-first.ensures.is ∙ c.in-132.is) (lit< tt) (lit≤ tt))

pub returns-in_default : goal.returns-in_default
unfolding read_length
returns-in_default c =
    let b = c.byte_at-first in
    search (tests, ← b.ensures.is, first_none c.args.s.now c.args.at c.args.to b.result c.if-first-lt128.false (λ e. omega arith) (λ e. omega arith) (λ e. omega arith) (λ e. omega arith))
