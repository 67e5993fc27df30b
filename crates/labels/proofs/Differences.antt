-- D19 of docs/DIFFERENCES.md: a name with an underscore is accepted. Assumes nothing.
use Prim.Native.Nat.{ℕ}
use mathlib.Core.Path.{◌≡◌, refl}
use mathlib.Core.List.{List, [], ◌∷◌}
use mathlib.Core.Bool.{Bool, true, false, ◌||◌}
use lib.Dec.{eqb}
use Rattle.texts.specs.Model.{begins, relative_text, from_dot}
use Rattle.labels.specs.Names.{hyphen, digit, capital, letter, every, longer, labels}
use Rattle.labels.specs.Model.{whole, take_byte, on_taken, host_from, host_text, valid_presented, valid_wanted, valid_entry}

-- RFC 1034, 3.5, RFC 1123, 2.1: letters, digits and the hyphen
abbrev allowed : ℕ → Bool
allowed b = letter b || (digit b || eqb b hyphen)

-- _a.b, as a presented name, as a wanted one, and as an entry
abbrev name : List ℕ
name = 95 ∷ 97 ∷ 46 ∷ 98 ∷ []

pub d19 : (valid_presented name ≡ true) × (valid_wanted name ≡ true) × (valid_entry name ≡ true) × (every (every allowed) (labels name) ≡ false)
unfolding valid_presented valid_wanted valid_entry host_text host_from on_taken take_byte whole begins relative_text from_dot digit capital letter every longer labels
d19 = (refl, refl, refl, refl)
