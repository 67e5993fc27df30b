-- Host names as lists of labels, and which texts are names. RFC 1034, 3.1 and 3.5, as RFC 1123, 2.1, changes it; RFC 5280, 4.2.1.6 and 4.2.1.10;
-- RFC 9525, 6.3 (RFC 6125, 6.4). Where these leave a choice, it is said at the definition. No reader is named here.
use Rattle.std.specs.Prelude.{ℕ, ◌-◌, List, [], ◌∷◌, Bool, true, false, cond, not, ◌&&◌, ◌||◌, length, get_or, take, drop, leb, ltb, eqb}
use Rattle.texts.specs.Bytes.{dot}

-- ---- bytes, by their ASCII numbers
abbrev pub star : ℕ
star = 42

abbrev pub hyphen : ℕ
hyphen = 45

abbrev pub underscore : ℕ
underscore = 95

-- RFC 1034, 3.1: 63 bytes of a label; 255 octets of a name, with a length octet before each label and the root's
abbrev pub longest_label : ℕ
longest_label = 63

abbrev pub longest_name : ℕ
longest_name = 253

unfoldable pub digit : ℕ → Bool
digit b = leb 48 b && leb b 57

unfoldable pub capital : ℕ → Bool
capital b = leb 65 b && leb b 90

unfoldable pub letter : ℕ → Bool
letter b = capital b || (leb 97 b && leb b 122)

-- RFC 1034, 3.5: letters, digits and the hyphen; and the underscore, which host names in use have (weaker, D19)
unfoldable pub label_byte : ℕ → Bool
label_byte b = letter b || (digit b || (eqb b hyphen || eqb b underscore))

-- ---- labels
abbrev pub Labels : Type 0
Labels = List (List ℕ)

unfoldable pub every : {A : Type 0} → (A → Bool) → List A → Bool
every good [] = true
every good (x ∷ xs) = good x && every good xs

unfoldable pub none : {A : Type 0} → List A → Bool
none [] = true
none (x ∷ xs) = false

-- the last one, or another where there is none
unfoldable pub last_of : {A : Type 0} → A → List A → A
last_of other [] = other
last_of other (x ∷ xs) = last_of x xs

-- the first label is one byte longer
unfoldable pub longer : ℕ → Labels → Labels
longer b [] = (b ∷ []) ∷ []
longer b (l ∷ ls) = (b ∷ l) ∷ ls

-- RFC 1034, 3.1: a text is its labels with a dot between each two
unfoldable pub labels : List ℕ → Labels
labels [] = [] ∷ []
labels (b ∷ bs) = cond (eqb b dot) ([] ∷ labels bs) (longer b (labels bs))

-- RFC 1034, 3.5, and RFC 1123, 2.1: at most 63 bytes, no hyphen at either end, and the first may be a digit
unfoldable pub good_label : List ℕ → Bool
good_label l =
    ltb 0 (length l)
    && (leb (length l) longest_label && (every label_byte l && (not (eqb (get_or l 0 0) hyphen) && not (eqb (last_of 0 l) hyphen))))

-- RFC 1123, 2.1: the last label is not all digits, so that no name has an address's form (stricter, D51: its syntax alone allows it)
unfoldable pub host_name : Labels → Bool
host_name ls = every good_label ls && not (every digit (last_of [] ls))

-- RFC 1034, 3.1: without the root's label, which is empty and ends a complete name
unfoldable pub relative : Labels → Labels
relative ls = cond (none (last_of [] ls)) (take (length ls - 1) ls) ls

-- ---- the three roles of a text of at most 253 bytes, the last dot of a complete name among them (stricter, D51)
abbrev pub short : List ℕ → Bool
short h = leb (length h) longest_name

-- a name that is looked for
unfoldable pub wanted_name : List ℕ → Bool
wanted_name h = short h && host_name (relative (labels h))

-- the first label is a star and nothing else
unfoldable pub starred : Labels → Bool
starred [] = false
starred ([] ∷ ls) = false
starred ((b ∷ l) ∷ ls) = eqb b star && none l

-- RFC 9525, 6.3: a star is the whole first label. rustls-webpki wants two labels after it, so that it stands for no part of a top level (stricter, D51)
unfoldable pub presented_name : List ℕ → Bool
presented_name h =
    short h
    && cond (starred (labels h)) (leb 2 (length (drop 1 (labels h))) && host_name (drop 1 (labels h))) (host_name (labels h))

-- RFC 5280, 4.2.1.10: a name. rustls-webpki takes one after a dot too, and no text at all (weaker, D47)
unfoldable pub entry_name : List ℕ → Bool
entry_name h =
    short h && (none h || host_name (cond (none (get_or (labels h) 0 [])) (drop 1 (labels h)) (labels h)))
