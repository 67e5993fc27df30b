-- What two lists with an entry for each level, the path from the end entity up and the next candidate there, stand for: the path up to a level, and
-- the events that are left.
use Rattle.std.specs.Prelude.{ℕ, zero, suc, ◌-◌, List, [], ◌∷◌, ◌++◌, get_or}
use Rattle.lent.specs.Lent.{most_intermediates, pre}
use Rattle.dialogue.specs.Model.{World, Event, leave, each, enter}

-- the events of the candidates that are left at level d
abbrev pub level : World → List ℕ → List ℕ → ℕ → List Event
level W path next d = each W (enter W (most_intermediates - d)) (pre path d) (W.candidates - get_or next d 0) (get_or next d 0)

-- the events that are left below level d
unfoldable pub under : World → List ℕ → List ℕ → ℕ → List Event
under W path next zero = []
under W path next (suc d) = level W path next d ++ (leave ∷ under W path next d)

-- the events that are left at level d and below
abbrev pub remaining : World → List ℕ → List ℕ → ℕ → List Event
remaining W path next d = level W path next d ++ (leave ∷ under W path next d)
