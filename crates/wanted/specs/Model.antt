-- What is said of the wanted name.
use Rattle.std.specs.Prelude.{ℕ, List}
use Rattle.path.specs.Model.{on_reading}
use Rattle.conditions.specs.Model.{name_in}
use Rattle.cert.specs.Model.{Reading}

-- the refusal of the name, or none, by what is known of the end entity
unfoldable pub name_by : Reading → List ℕ → ℕ → List ℕ → ℕ
name_by r end kind name = on_reading r (λ e. e) (name_in end kind name)
