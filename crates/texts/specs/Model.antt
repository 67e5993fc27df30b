-- What the code answers, as functions of the bytes.
use Rattle.std.specs.Prelude.{ℕ, ◌-◌, List, [], ◌∷◌, Bool, false, cond, length, get_or, take, eqb}
use Rattle.texts.specs.Bytes.{dot}

unfoldable pub begins : List ℕ → ℕ → Bool
begins [] b = false
begins (x ∷ xs) b = eqb x b

unfoldable pub relative_text : List ℕ → List ℕ
relative_text h =
    cond (eqb (length h) 0)
    h
    (cond (eqb (get_or h (length h - 1) 0) dot) (take (length h - 1) h) h)

unfoldable pub from_dot : List ℕ → List ℕ
from_dot [] = []
from_dot (x ∷ xs) = cond (eqb x dot) (x ∷ xs) (from_dot xs)
