-- D47 of docs/DIFFERENCES.md: entries that are no names are taken. Assumes nothing.
use Prim.Native.Nat.{ℕ}
use mathlib.Core.Path.{◌≡◌, refl}
use mathlib.Core.List.{List, [], ◌∷◌}
use mathlib.Core.Bool.{true, false}
use Rattle.texts.specs.Model.{begins, relative_text, from_dot}
use Rattle.labels.specs.Names.{digit, capital, letter, label_byte, every, none, last_of, longer, labels, good_label, host_name, entry_name}
use Rattle.labels.specs.Model.{whole, take_byte, on_taken, host_from, host_text, valid_presented, valid_entry}
use Rattle.dns.specs.Names.{small}
use Rattle.dns.specs.Model.{same_text, in_subtree, meets_subtree, match_permitted, match_excluded}
use Rattle.std.specs.Prelude.{Ok}

-- a.b, c.a.b and .a.b
abbrev name : List ℕ
name = 97 ∷ 46 ∷ 98 ∷ []

abbrev below : List ℕ
below = 99 ∷ 46 ∷ name

abbrev dotted : List ℕ
dotted = 46 ∷ name

-- RFC 5280, 4.2.1.10: an entry is a name; RFC 1034, 3.5: each label of a name has one character or more. The text .a.b has an empty label, and the empty text
-- has no other. Both are taken as entries. Where .a.b is excluded, a.b passes and c.a.b does not; the empty text has every name
pub d47_dot : (match_excluded name dotted ≡ Ok false) × (match_excluded below dotted ≡ Ok true) × (entry_name dotted ≡ true) × (host_name (labels dotted) ≡ false)
unfolding match_excluded meets_subtree in_subtree same_text small valid_presented valid_entry
    host_text host_from on_taken take_byte whole begins relative_text from_dot digit capital letter label_byte every none last_of longer labels good_label host_name entry_name
d47_dot = (refl, refl, refl, refl)

pub d47_empty : (match_permitted name [] ≡ Ok true) × (match_excluded name [] ≡ Ok true) × (entry_name [] ≡ true) × (host_name (labels []) ≡ false)
unfolding match_permitted match_excluded meets_subtree in_subtree valid_presented valid_entry
    host_text host_from on_taken take_byte whole begins relative_text digit capital letter label_byte every none last_of longer labels good_label host_name entry_name
d47_empty = (refl, refl, refl, refl)
