use mathlib.Core.Path.{◌≡◌}
use Rattle.std.proofs.Common.{rules}
use Rattle.parts.specs.Model.{same_parts}
use Rattle.rows.specs.Model.{on_outline}
use Rattle.candidate.specs.Model.{has_both_as}
use Rattle.candidate.proofs.has_both.Goals as goal

pub returns-in_default : goal.returns-in_default
unfolding has_both_as on_outline
returns-in_default c = rw c.in_default.is

pub returns-then-same : goal.returns-then-same
unfolding has_both_as on_outline
returns-then-same c =
    let a = c.args in
    let o = c.in-Ok.other in
    let subject : c.same.result ≡ same_parts a.s.now a.subject.start a.subject.end a.t.now o.subject.start o.subject.end = search rules in
    let key : c.same-then-same.result ≡ same_parts a.s.now a.key.start a.key.end a.t.now o.key.start o.key.end = search rules in
    rw (c.in-Ok.is, ← subject, c.if-same.true, ← key)

pub returns-else-same : goal.returns-else-same
unfolding has_both_as on_outline
returns-else-same c =
    let a = c.args in
    let o = c.in-Ok.other in
    let subject : c.same.result ≡ same_parts a.s.now a.subject.start a.subject.end a.t.now o.subject.start o.subject.end = search rules in
    rw (c.in-Ok.is, ← subject, c.if-same.false)
