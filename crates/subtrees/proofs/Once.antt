-- ONE LIST: a content of name constraints has at most one list of permitted and one of excluded entries. Assumes nothing.
use Prim.Native.Nat.{ℕ, ◌+◌}
use mathlib.Core.Path.{◌≡◌, refl, sym, ap, ◌∙◌}
use mathlib.Core.Bool.{Bool, true, false, cond}
use mathlib.Core.List.{List, [], ◌∷◌, ◌++◌, append_assoc}
use lib.ListN.{length, get_or}
use lib.Dec.{ltb}
use native.Mathlib.Omega.{arith}
use Rattle.der.specs.X690.{big_endian, octets_of, length_bytes, encoding}
use Rattle.der.proofs.Parts.{append_inv}
use Rattle.extensions.specs.Layout.{header}
use Rattle.extensions.proofs.Slots.{header_is}
use Rattle.names.specs.General.{General, Named, Each}
use Rattle.names.proofs.Once.{name_once}
use Rattle.subtrees.specs.Rfc5280Names.{subtrees, Field, absent, present, NameConstraints}

-- ---- the header of an encoding is known by its bytes, whatever its length
front : (n : ℕ) (x r : List ℕ) → get_or ((length_bytes n ++ x) ++ r) 0 0 ≡ get_or (length_bytes n ++ x) 0 0
unfolding length_bytes
front n x r = go (ltb n 128)
  where
    go : (b : Bool) → get_or ((cond b (n ∷ []) ((128 + octets_of n) ∷ big_endian (octets_of n) n) ++ x) ++ r) 0 0 ≡ get_or (cond b (n ∷ []) ((128 + octets_of n) ∷ big_endian (octets_of n) n) ++ x) 0 0
    go true = refl
    go false = refl

header_front : (t : ℕ) (x r : List ℕ) → header (encoding t x ++ r) ≡ header (encoding t x)
unfolding header encoding
header_front t x r = rw (front (length x) x r)

tail_of : (t u : ℕ) (l m : List ℕ) → t ∷ l ≡ u ∷ m → l ≡ m
tail_of t u l m e = cc

-- so where two encodings, with what comes after them, are the same, they are the same without their headers
pub inner_once : (t u : ℕ) (x y r q : List ℕ) → encoding t x ++ r ≡ encoding u y ++ q → x ++ r ≡ y ++ q
unfolding encoding
inner_once t u x y r q e =
    let n = length_bytes (length x) in
    let m = length_bytes (length y) in
    let l : length n ≡ length m = omega (arith, header_is t x, header_is u y, sym (header_front t x r) ∙ ap header e ∙ header_front u y q) in
    (append_inv n m (x ++ r) (y ++ q) l (sym (append_assoc n x r) ∙ tail_of t u _ _ e ∙ append_assoc m y q)).1

first_of : (t : ℕ) (x r : List ℕ) → get_or (encoding t x ++ r) 0 0 ≡ t
unfolding encoding
first_of t x r = refl

begins : (t : ℕ) (x : List ℕ) → t ≡ get_or (encoding t x) 0 0
unfolding encoding
begins t x = refl

-- ---- entries in a row, and bytes after them that begin with no entry
abbrev Clear : ℕ → List ℕ → Type 0
Clear t r = get_or r 0 0 ≡ t → ⊥

abbrev base : General → List ℕ
base n = encoding n.kind n.content

one_first : (n : General) (ns : List General) (r : List ℕ) → subtrees (n ∷ ns) ++ r ≡ encoding 48 (base n) ++ (subtrees ns ++ r)
unfolding subtrees
one_first n ns r = append_assoc (encoding 48 (base n)) (subtrees ns) r

one_begins : (n : General) (ns : List General) (r q : List ℕ) → q ≡ subtrees (n ∷ ns) ++ r → get_or q 0 0 ≡ 48
one_begins n ns r q e = ap (λ (l : List ℕ). get_or l 0 0) (e ∙ one_first n ns r) ∙ first_of 48 (base n) (subtrees ns ++ r)

entries_once : (ns ms : List General) (r q : List ℕ) → Each Named ns → Each Named ms → Clear 48 r → Clear 48 q → subtrees ns ++ r ≡ subtrees ms ++ q → (ns ≡ ms) × (r ≡ q)
unfolding subtrees Each
entries_once [] [] r q a b c d e = (refl, e)
entries_once [] (m ∷ ms) r q a b c d e = absurd (c (one_begins m ms q r e))
entries_once (n ∷ ns) [] r q a b c d e = absurd (d (one_begins n ns r q (sym e)))
entries_once (n ∷ ns) (m ∷ ms) r q a b c d e =
    let i = inner_once 48 48 (base n) (base m) (subtrees ns ++ r) (subtrees ms ++ q) (sym (one_first n ns r) ∙ e ∙ one_first m ms q) in
    let h = name_once n m (subtrees ns ++ r) (subtrees ms ++ q) a.0 b.0 i in
    let t = entries_once ns ms r q a.1 b.1 c d h.1 in
    let p : n ≡ m = h.0 in
    let u : ns ≡ ms = t.0 in
    (cc, t.1)

-- ---- a list under its tag, or not there, and bytes after it that begin neither with the tag nor with an entry
field_once : (t : ℕ) (ns ms : List General) (x y r q : List ℕ) → Field t ns x → Field t ms y → Each Named ns → Each Named ms → Clear t r → Clear t q → Clear 48 r → Clear 48 q → x ++ r ≡ y ++ q
    → (ns ≡ ms) × (r ≡ q)
field_once t ns ms x y r q (absent a i) (absent b j) v w c d f g e = (a ∙ sym b, rw (i, j) at e)
field_once t ns ms x y r q (absent a i) (present j) v w c d f g e = absurd (c (ap (λ (l : List ℕ). get_or l 0 0) (rw (i, j) at e) ∙ first_of t _ q))
field_once t ns ms x y r q (present i) (absent b j) v w c d f g e = absurd (d (ap (λ (l : List ℕ). get_or l 0 0) (sym (rw (i, j) at e)) ∙ first_of t _ r))
field_once t ns ms x y r q (present i) (present j) v w c d f g e = entries_once ns ms r q v w f g (inner_once t t _ _ r q (rw (i, j) at e))

clear_of : (t u : ℕ) (ns : List General) (x : List ℕ) → Field t ns x → (t ≡ u → ⊥) → (0 ≡ u → ⊥) → Clear u x
clear_of t u ns x (absent a i) n z h = z (rw i at h)
clear_of t u ns x (present i) n z h = n (begins t (subtrees ns) ∙ rw i at h)

-- THEOREM
pub constraints_once : (content : List ℕ) (p e p' e' : List General) → NameConstraints content p e → NameConstraints content p' e' → (p ≡ p') × (e ≡ e')
constraints_once content p e p' e' c d =
    let f = field_once 160 p p' c.first d.first c.second d.second c.permitted_is d.permitted_is c.named.0 d.named.0
    (clear_of 161 160 e c.second c.excluded_is (λ z. omega arith) (λ z. omega arith))
    (clear_of 161 160 e' d.second d.excluded_is (λ z. omega arith) (λ z. omega arith))
    (clear_of 161 48 e c.second c.excluded_is (λ z. omega arith) (λ z. omega arith))
    (clear_of 161 48 e' d.second d.excluded_is (λ z. omega arith) (λ z. omega arith))
    (sym c.is ∙ d.is) in
    let g = field_once 161 e e' c.second d.second [] [] c.excluded_is d.excluded_is c.named.1 d.named.1 (λ z. omega arith) (λ z. omega arith) (λ z. omega arith) (λ z. omega arith)
    (ap (λ (l : List ℕ). l ++ []) f.1) in
    (f.0, g.0)
