-- CONFORMING: a certificate that is as RFC 5280 demands is accepted, if it is short and has nothing critical that is not known. Assumes nothing.
use Prim.Native.Nat.{◌<◌}
use mathlib.Core.Path.{◌≡◌}
use mathlib.Core.Bool.{Bool, true}
use lib.ListN.{length}
use Rattle.der.specs.Places.{LIMIT}
use Rattle.parts.specs.Lists.{Every}
use Rattle.extensions.specs.Rfc5280.{listed}
use Rattle.extensions.specs.Accepted.{Recognized}
use Rattle.extensions.proofs.Conforming.{conforming_taken}
use Rattle.cert.specs.Model.{read_certificate}
use Rattle.cert.specs.Rfc5280.{Skeleton, certificate_content, certificate}
use Rattle.cert.specs.Conforming.{Conforming}
use Rattle.cert.specs.Accepted.{Readable}
use Rattle.cert.specs.Layout.{places}
use Rattle.cert.proofs.Complete.{complete}
use Rattle.std.specs.Prelude.{Ok}

module _ (strict : Bool) (k : Skeleton) (c : Conforming k) (short : length (certificate_content k) < LIMIT) (r : strict ≡ true → Every Recognized (listed k.extensions)) where
  pub conforming_readable : Readable strict k
  conforming_readable =
      let t = conforming_taken strict k.extensions c.extensions r in
      record { short = short; each = t.0; once = t.1 }

  pub conforming_accepted : read_certificate (certificate k) strict ≡ Ok (places k)
  conforming_accepted = complete strict k conforming_readable
