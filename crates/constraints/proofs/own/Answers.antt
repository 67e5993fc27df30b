-- `constraints::own` meets its contract. Assumes nothing.
use native.Mathlib.Omega.{arith}
use Rattle.entries.proofs.Leaving.{along, nothing, refused_at_once}
use Rattle.subtrees.specs.Noted.{noted}
use Rattle.constraints.proofs.Turns.{own_bound, own_free, own_unread}
use Rattle.constraints.proofs.own.Goals as goal

pub returns-then-held : goal.returns-then-held
returns-then-held c =
    let a = c.args in
    along (own_bound (noted a.t.now a.reading) _ _ c.in-Ok.is c.if-held.true) c.constrain.ensures

pub returns : goal.returns
returns c =
    let a = c.args in
    along (own_free (noted a.t.now a.reading) _ _ c.in-Ok.is c.if-held.false) (nothing _)

pub returns-in_default : goal.returns-in_default
returns-in_default c =
    let a = c.args in
    along (own_unread (noted a.t.now a.reading) _ _ c.in_default.is) (refused_at_once _ _ (λ z. omega arith))
