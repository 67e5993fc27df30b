-- Laws of `part`, the bytes between two places. Assumes nothing.
use Prim.Native.Nat.{ℕ, suc, ◌+◌, ◌-◌, ◌≤◌, ◌<◌}
use mathlib.Core.Path.{◌≡◌, refl, sym, ap, ◌∙◌}
use mathlib.Core.List.{List, [], ◌∷◌, ◌++◌}
use lib.ListN.{length, get_or, drop, length-take, length-drop, length-append}
use lib.Seq.{take_all, take-add, drop-drop, take-suc, get_or-take, get_or-drop, drop-cons}
use native.Mathlib.Omega.{arith}
use native.Mathlib.Numerals.{add-one}
use Rattle.der.specs.Places.{part}

pub part_length : (s : List ℕ) (a b : ℕ) → b ≤ length s → length (part s a b) ≡ b - a
unfolding part
part_length s a b h = simp (length-take, length-drop) (omega arith)

pub part_at : (s : List ℕ) (a b i : ℕ) → i < b - a → get_or (part s a b) i 0 ≡ get_or s (a + i) 0
unfolding part
part_at s a b i h = rw (get_or-take, get_or-drop)

-- all of it
pub part_whole : (s : List ℕ) → part s 0 (length s) ≡ s
unfolding part
part_whole s = take_all (length s - 0) s (omega arith)

-- a part is the part up to b, and the part from b on
pub part_split : (s : List ℕ) (a b c : ℕ) → a ≤ b → b ≤ c → part s a c ≡ part s a b ++ part s b c
unfolding part
part_split s a b c h k =
    let e : c - a ≡ (b - a) + (c - b) = omega arith in
    let f : a + (b - a) ≡ b = omega arith in
    rw (e, take-add, drop-drop, f)

-- one byte more at the end
pub part_more : (s : List ℕ) (a k : ℕ) → a + k < length s → part s a (a + suc k) ≡ part s a (a + k) ++ (get_or s (a + k) 0 ∷ [])
unfolding part
part_more s a k h =
    let e : (a + suc k) - a ≡ suc k = omega arith in
    let f : (a + k) - a ≡ k = omega arith in
    let l : k < length (drop a s) = simp length-drop (omega arith) in
    rw (e, f, take-suc (drop a s) k 0 l, get_or-drop)

-- the first byte
pub part_cons : (s : List ℕ) (a b : ℕ) → a < b → a < length s → part s a b ≡ get_or s a 0 ∷ part s (a + 1) b
unfolding part
part_cons s a b h k =
    let e : b - a ≡ suc (b - (a + 1)) = omega arith in
    rw (e, drop-cons s a 0 k, add-one)

pub part_none : (s : List ℕ) (a : ℕ) → part s a a ≡ []
unfolding part
part_none s a = let e : a - a ≡ 0 = omega arith in rw e

-- two lists in a row, the first of one length
pub append_inv : (xs ys us vs : List ℕ) → length xs ≡ length ys → xs ++ us ≡ ys ++ vs → (xs ≡ ys) × (us ≡ vs)
append_inv [] [] us vs l e = (refl, e)
append_inv [] (b ∷ ys) us vs l e = absurd (omega arith)
append_inv (a ∷ xs) [] us vs l e = absurd (omega arith)
append_inv (a ∷ xs) (b ∷ ys) us vs l e =
    let t : xs ++ us ≡ ys ++ vs = cc in
    let h : a ≡ b = cc in
    let r = append_inv xs ys us vs (omega arith) t in
    (cc r.0, r.1)

-- a part that begins with a list: the list is the part's front, and the rest its back
pub part_front : (s : List ℕ) (a b : ℕ) (xs ys : List ℕ) → a ≤ b → b ≤ length s → part s a b ≡ xs ++ ys
    → (a + length xs ≤ b) × (part s a (a + length xs) ≡ xs) × (part s (a + length xs) b ≡ ys)
part_front s a b xs ys h k e =
    let l : b - a ≡ length xs + length ys = sym (part_length s a b k) ∙ ap length e ∙ length-append xs ys in
    let m : a + length xs ≤ b = omega arith in
    let q = append_inv (part s a (a + length xs)) xs (part s (a + length xs) b) ys (part_length s a (a + length xs) (omega arith) ∙ omega arith) (sym (part_split s a (a + length xs) b (omega arith) m) ∙ e) in
    (m, q.0, q.1)

-- a part's first byte, and the rest
pub part_tail : (s : List ℕ) (a b x : ℕ) (xs : List ℕ) → a < b → b ≤ length s → part s a b ≡ x ∷ xs → (get_or s a 0 ≡ x) × (part s (a + 1) b ≡ xs)
part_tail s a b x xs h k e =
    let p : get_or s a 0 ∷ part s (a + 1) b ≡ x ∷ xs = sym (part_cons s a b h (omega arith)) ∙ e in
    (cc, cc)
