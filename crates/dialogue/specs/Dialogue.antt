-- A dialogue: the turns, each a question or an offer with the caller's answer, that lead through a tree to its outcome. The caller may answer one
-- question in two ways.
use Rattle.std.specs.Prelude.{ℕ, ◌≡◌, List, [], ◌∷◌, ◌++◌}
use Rattle.dialogue.specs.Log.{Turn, answer, word}
use Rattle.dialogue.specs.Model.{Outcome, Tree, done, ask, offer}

-- the turns lead from the tree to the outcome
unfoldable pub Leads : Tree → List Turn → Outcome → Type 0
Leads (done r) l q = (l ≡ []) × (r ≡ q)
Leads (ask key what t) l q = (a : ℕ) × (rest : List Turn) × (l ≡ answer key what a ∷ rest) × Leads (t a) rest q
Leads (offer anchor path t) l q = (a : ℕ) × (rest : List Turn) × (l ≡ word anchor path a ∷ rest) × Leads (t a) rest q

-- ---- a caller who answers one after the other
-- the tree after an answer, and the turn that the answer made
unfoldable pub give : Tree → ℕ → Tree
give (done r) a = done r
give (ask key what t) a = t a
give (offer anchor path t) a = t a

unfoldable pub turn : Tree → ℕ → List Turn
turn (done r) a = []
turn (ask key what t) a = answer key what a ∷ []
turn (offer anchor path t) a = word anchor path a ∷ []

unfoldable pub follow : Tree → List ℕ → Tree
follow t [] = t
follow t (a ∷ said) = follow (give t a) said

unfoldable pub talk : Tree → List ℕ → List Turn
talk t [] = []
talk t (a ∷ said) = turn t a ++ talk (give t a) said
