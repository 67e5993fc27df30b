-- A certificate of a path, with what is known of it.
use Rattle.std.specs.Prelude.{ℕ, List, true}
use Rattle.cert.specs.Model.{read_certificate, Reading}

-- a certificate: its bytes, and what is known of it
pub record Noted : Type 0 where
  pub bytes : List ℕ
  pub reading : Reading

abbrev pub noted : List ℕ → Reading → Noted
noted s r = record { bytes = s; reading = r }

-- a certificate of which is known what is read
abbrev pub lent : List ℕ → Noted
lent s = noted s (read_certificate s true)
