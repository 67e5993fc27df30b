-- What the crates above may cite of a certificate that was read. Assumes nothing.
use mathlib.Core.Path.{◌≡◌}
use mathlib.Core.List.{List}
use mathlib.Core.Bool.{Bool}
use Prim.Native.Nat.{ℕ}
use Rattle.der.specs.Places.{Bytes}
use Rattle.cert.specs.declared.Certificate.{Certificate}
use Rattle.cert.specs.Model.{read_certificate}
use Rattle.cert.proofs.Sound.{Inside, sound}
use Rattle.std.specs.Prelude.{Ok}

-- its places are in order and in the bytes
pub read_inside : (s : List ℕ) → Bytes s → (strict : Bool) (c : Certificate) → read_certificate s strict ≡ Ok c → Inside s c
read_inside s b strict c e = (sound s b strict c e).inside
