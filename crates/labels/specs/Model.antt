-- What the code answers, as functions of the bytes: the same tests in the same order.
use Rattle.std.specs.Prelude.{ℕ, ◌+◌, List, [], ◌∷◌, Bool, true, false, cond, length, drop, ltb, leb, eqb, Some, None, Option}
use Rattle.texts.specs.Model.{begins, relative_text, from_dot}
use Rattle.labels.specs.declared.Label.{Label}
use Rattle.texts.specs.Bytes.{dot}
use Rattle.labels.specs.Names.{star, hyphen, underscore, longest_label, longest_name, digit, letter}

-- ---- a text byte by byte
unfoldable pub whole : Label → Bool
whole l = cond (eqb l.size 0) false (cond l.hyphen false true)

abbrev pub fresh : Label
fresh = record { size = 0; hyphen = false; digits = true }

-- one byte more than l
abbrev pub grown : Label → Bool → Bool → Option Label
grown l h d = Some (record { size = l.size + 1; hyphen = h; digits = d })

unfoldable pub take_byte : Label → ℕ → Option Label
take_byte l b =
    cond (eqb b dot)
    (cond (whole l) (Some fresh) None)
    (cond (leb longest_label l.size)
    None
    (cond (eqb b hyphen)
    (cond (eqb l.size 0) None (grown l true false))
    (cond (digit b)
    (grown l false l.digits)
    (cond (letter b) (grown l false false) (cond (eqb b underscore) (grown l false false) None)))))

-- go on with the label, or not
unfoldable pub on_taken : Option Label → (Label → Bool) → Bool
on_taken (Some l) k = k l
on_taken None k = false

unfoldable pub host_from : List ℕ → Label → Bool
host_from [] l = cond l.digits false (whole l)
host_from (b ∷ bs) l = on_taken (take_byte l b) (host_from bs)

unfoldable pub host_text : List ℕ → Bool
host_text h = host_from h fresh

-- ---- the three roles
-- after the star and a dot
unfoldable pub valid_starred : List ℕ → Bool
valid_starred name = cond (eqb (length (from_dot name)) 0) false (host_text name)

unfoldable pub valid_presented : List ℕ → Bool
valid_presented h =
    cond (ltb longest_name (length h))
    false
    (cond (begins h star) (cond (begins (drop 1 h) dot) (valid_starred (drop 1 (drop 1 h))) false) (host_text h))

unfoldable pub valid_wanted : List ℕ → Bool
valid_wanted h = cond (ltb longest_name (length h)) false (host_text (relative_text h))

unfoldable pub valid_entry : List ℕ → Bool
valid_entry h =
    cond (ltb longest_name (length h))
    false
    (cond (eqb (length h) 0) true (cond (begins h dot) (host_text (drop 1 h)) (host_text h)))
