-- Which certificates are accepted, by their skeletons. These are rules of rustls-webpki: RFC 5280 asks for more (`Conforming.antt`). No reader is named here.
use Rattle.std.specs.Prelude.{ℕ, ◌≤◌, ◌<◌, Bool, length}
use Rattle.der.specs.Places.{LIMIT}
use Rattle.extensions.specs.Rfc5280.{listed}
use Rattle.extensions.specs.Accepted.{KnownNumber, occurs, Each}
use Rattle.cert.specs.Rfc5280.{Skeleton, certificate_content}

-- every content is shorter than the limit, since the outermost is; each extension is one that a reader takes; no known one is there twice
pub record Readable (strict : Bool) (k : Skeleton) : Type 0 where
  pub short : length (certificate_content k) < LIMIT
  pub each : Each strict (listed k.extensions)
  pub once : (n : ℕ) → KnownNumber n → occurs n (listed k.extensions) ≤ 1
