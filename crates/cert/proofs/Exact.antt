-- One byte string has one skeleton, and one skeleton one byte string; and the two skeletons that say the same. Assumes nothing.
use Prim.Native.Nat.{ℕ, ◌<◌}
use mathlib.Core.Path.{◌≡◌, sym, ap, ◌∙◌}
use mathlib.Core.List.{List}
use mathlib.Core.Bool.{Bool}
use lib.ListN.{length}
use Rattle.der.specs.Places.{Bytes, LIMIT}
use Rattle.cert.specs.declared.Certificate.{Certificate}
use Rattle.cert.specs.Model.{read_certificate}
use Rattle.cert.specs.Rfc5280.{Skeleton, certificate_content, certificate}
use Rattle.cert.proofs.Sound.{sound}
use Rattle.cert.proofs.Unique.{unique}
use Rattle.std.specs.Prelude.{Ok}

-- a byte string that is read is the encoding of no other skeleton
pub one_skeleton : (s : List ℕ) (b : Bytes s) (strict : Bool) (c : Certificate) (e : read_certificate s strict ≡ Ok c) (k : Skeleton) → s ≡ certificate k
    → length (certificate_content k) < LIMIT → (sound s b strict c e).k ≡ k
one_skeleton s b strict c e k is short =
    let r = sound s b strict c e in
    unique r.k k r.rules.short short (sym r.bytes ∙ is)

-- two byte strings that are read as one skeleton are the same
pub one_string : (s s' : List ℕ) (b : Bytes s) (b' : Bytes s') (strict strict' : Bool) (c c' : Certificate) (e : read_certificate s strict ≡ Ok c) (e' : read_certificate s' strict' ≡ Ok c')
    → (sound s b strict c e).k ≡ (sound s' b' strict' c' e').k → s ≡ s'
one_string s s' b b' strict strict' c c' e e' same =
    (sound s b strict c e).bytes ∙ ap certificate same ∙ sym (sound s' b' strict' c' e').bytes
