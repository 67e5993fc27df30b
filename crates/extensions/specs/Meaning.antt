-- What a list of extensions says, apart from how it is written; and the one way to write it that DER has. No reader is named here.
use Rattle.std.specs.Prelude.{ℕ, ◌≡◌, List, [], map, Bool, false}
use Rattle.parts.specs.Lists.{Every}
use Rattle.extensions.specs.Rfc5280.{Criticality, written, is_critical, Extension, Extensions, present, listed}

-- what an extension says: its criticality is a truth, however it is written
pub record Said : Type 0 where
  pub identifier : List ℕ
  pub critical : Bool
  pub value : List ℕ

unfoldable pub said_by : Extension → Said
said_by x = record { identifier = x.identifier; critical = is_critical x.critical; value = x.value }

unfoldable pub said : Extensions → List Said
said es = map said_by (listed es)

-- X.690, 11.5: a value that is equal to its default is not encoded
abbrev pub DerCriticality : Criticality → Type 0
DerCriticality c = c ≡ written false → ⊥

-- DER: that of each extension; RFC 5280, 4.1, Extensions ::= SEQUENCE SIZE (1..MAX) OF Extension, so that a field that is there has one or more
pub record DerExtensions (es : Extensions) : Type 0 where
  pub each : Every (λ x. DerCriticality x.critical) (listed es)
  pub size : es ≡ present [] → ⊥
