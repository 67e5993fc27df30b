use native.Mathlib.Omega.{arith}
use mathlib.Core.Path.{refl}
use Rattle.der.proofs.byte_at.Goals as goal

pub returns : goal.returns
returns c = record { is = refl; small = omega (arith, c.shared_slice_known-1.given c.args.at) }
