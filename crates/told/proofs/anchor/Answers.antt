-- `told::anchor` meets its contract. Assumes nothing.
use mathlib.Core.Path.{◌≡◌, refl}
use mathlib.Core.Bool.{Bool, true, false, cond}
use Rattle.std.specs.Int.{from_bool}
use Rattle.told.specs.Model.{trusted_of}
use Rattle.told.proofs.anchor.Goals as goal

as_byte : (b : Bool) → from_bool b ≡ cond b 1 0
as_byte true = refl
as_byte false = refl

pub returns-in-Ok : goal.returns-in-Ok
unfolding trusted_of
returns-in-Ok c = rw (← c.in-Ok.ensures, c.from.ensures, as_byte c.in-Ok.anchor.constraints.known)

pub returns-in-Err : goal.returns-in-Err
unfolding trusted_of
returns-in-Err c = rw (← c.in-Err.ensures, c.number.ensures)
