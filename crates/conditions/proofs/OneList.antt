-- ONE LIST: the lists that `Met` and `Passes` speak of are the only ones that their contents have. Assumes nothing.
use Prim.Native.Nat.{ℕ}
use mathlib.Core.Path.{◌≡◌, sym, ◌∙◌}
use mathlib.Core.List.{List}
use Rattle.names.specs.General.{General}
use Rattle.names.proofs.Once.{names_once}
use Rattle.subtrees.specs.Rfc5280Names.{NameConstraints}
use Rattle.subtrees.proofs.Once.{constraints_once}
use Rattle.checks.specs.Conditions.{Contents}
use Rattle.conditions.specs.Exactly.{Met, Passes}

-- whatever the rule, and whatever lists the content is read as
pub met_once : (Rule : List General → List General → Contents → Type 0) (content : List ℕ) (below : List Contents) (m : Met Rule content below) (permitted excluded : List General)
    → NameConstraints content permitted excluded → (m.permitted ≡ permitted) × (m.excluded ≡ excluded)
met_once Rule content below m permitted excluded c = constraints_once content m.permitted m.excluded permitted excluded m.is c

-- so are a certificate's alternative names
pub passes_once : (permitted excluded permitted' excluded' : List General) (o : Contents) (p : Passes permitted excluded o) (q : Passes permitted' excluded' o) → p.alternative ≡ q.alternative
passes_once permitted excluded permitted' excluded' o p q = names_once p.alternative q.alternative p.named q.named (sym p.is ∙ q.is)
