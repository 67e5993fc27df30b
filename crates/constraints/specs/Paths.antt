-- A path by the numbers of its certificates, as a list of their bytes and of what is known of each.
use Rattle.std.specs.Prelude.{ℕ, List, map}
use Rattle.lent.specs.Lent.{certificate_of, readings_in, each_now, pre}
use Rattle.lent.specs.declared.Lent.{Lent}
use Rattle.subtrees.specs.Noted.{Noted, noted}
use Rattle.cert.specs.Model.{Reading}

-- the certificate with a number, and what is known of it; the same by a table of readings
abbrev pub noted_of : (ℕ → Reading) → List (List ℕ) → List ℕ → ℕ → ℕ → Noted
noted_of known issuers end anchors n = noted (certificate_of issuers end anchors n) (known n)

abbrev pub cert_at : List (List ℕ) → List (List ℕ) → List ℕ → ℕ → ℕ → Noted
cert_at table issuers end anchors n = noted_of (readings_in table issuers end anchors) issuers end anchors n

abbrev pub noted_at : Lent → ℕ → Noted
noted_at l = cert_at l.table.now (each_now l.issuers.now) l.end.now l.anchors

-- the certificates up to level d, the highest first and the end entity last
unfoldable pub certs_at : (ℕ → Noted) → List ℕ → ℕ → List Noted
certs_at cert path d = map cert (pre path d)
