use native.Mathlib.Omega.{arith}
use mathlib.Core.Path.{sym, ◌∙◌}
use borrow.Author.Tests.{le-ltb, lt-leb}
use Rattle.der.proofs.Laws.{tests, limited_value, limited_long, limited_past, limited_bad}
use Rattle.der.proofs.Invert.{length_next}
use Rattle.der.specs.Model.{read_limited}
use Rattle.der.proofs.read_limited.Goals as goal
use Rattle.der.proofs.read_limited.Goals.{then-limit-len-via-then-limit-len, then-limit-len-via-else-limit-len+then-to-next}

pub returns-then-s-to : goal.returns-then-s-to
unfolding read_limited
returns-then-s-to c = grind (arith, tests)

pub returns-then-high_tag : goal.returns-then-high_tag
unfolding read_limited
returns-then-high_tag c =
    simp (le-ltb _ _ c.if-s-to.false, lt-leb _ _ c.if-to-from.false, ← c.high_tag.ensures, c.if-high_tag.true)

pub returns-in_err-len : goal.returns-in_err-len
returns-in_err-len c =
    c.from_residual.ensures
    ∙ sym
    (limited_bad _ _ _ _
    c.if-s-to.false
    c.if-to-from.false
    (sym c.high_tag.ensures ∙ c.if-high_tag.false)
    (sym c.read_length.ensures ∙ c.in_err-len.was))

pub overflow_sub-to : goal.overflow_sub-to
overflow_sub-to c =
    let reach = length_next _ _ _ _ _ (sym c.read_length.ensures ∙ c.in_ok-len.was) in
    omega (arith, reach)

pub returns-then-limit-len : goal.returns-then-limit-len
returns-then-limit-len c =
    let high = sym c.high_tag.ensures ∙ c.if-high_tag.false in
    let read = sym c.read_length.ensures ∙ c.in_ok-len.was in
    elim c.then-limit-len.branch [
      | then-limit-len-via-then-limit-len w ↦ sym (limited_long _ _ _ _ _ _ c.if-s-to.false c.if-to-from.false high read w.if-limit-len.true)
      | then-limit-len-via-else-limit-len+then-to-next w ↦
          sym (limited_past _ _ _ _ _ _ c.if-s-to.false c.if-to-from.false high read w.if-limit-len.false w.if-to-next.true)
    ]

pub returns : goal.returns
returns c =
    sym
    (limited_value _ _ _ _ _ _
    c.if-s-to.false
    c.if-to-from.false
    (sym c.high_tag.ensures ∙ c.if-high_tag.false)
    (sym c.read_length.ensures ∙ c.in_ok-len.was)
    c.if-limit-len.false
    c.if-to-next.false)
