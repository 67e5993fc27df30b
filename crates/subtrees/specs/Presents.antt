-- Which names a certificate presents. Its fields are those that crate `cert` reads.
use Rattle.std.specs.Prelude.{ℕ, ◌≡◌, List, [], ◌∷◌, ◌++◌, true, Ok}
use Rattle.der.specs.Places.{part}
use Rattle.cert.specs.declared.Certificate.{Certificate}
use Rattle.cert.specs.Model.{read_certificate}
use Rattle.names.specs.General.{General, Named, encoded, Each}
use Rattle.entries.specs.Kinds.{directory_name}

-- the names of a certificate: its alternative names, and its subject, which is a directory name
pub record Presents (t : List ℕ) (names : List General) : Type 0 where
  pub c : Certificate
  pub read : read_certificate t true ≡ Ok c
  pub alternative : List General
  pub is : part t c.known.alternative_name.start c.known.alternative_name.end ≡ encoded alternative
  pub named : Each Named alternative
  pub all : names ≡ alternative ++ (record { kind = directory_name; content = part t c.subject.start c.subject.end } ∷ [])
