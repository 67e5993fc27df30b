-- Every encoding of a tag and a content that the limit allows is accepted. Assumes nothing.
use Prim.Native.Nat.{ℕ, zero, suc, ◌+◌, ◌-◌, ◌/◌, ◌%◌, ◌^◌, ◌≤◌, ◌<◌}
use mathlib.Core.Path.{◌≡◌, refl, sym, ap, ◌∙◌}
use mathlib.Core.List.{List, [], ◌∷◌, ◌++◌}
use mathlib.Core.Logic.{⊎_elim}
use mathlib.Core.Bool.{false}
use lib.ListN.{length, get_or, length-append}
use native.Mathlib.Omega.{arith}
use native.Mathlib.Nat.{pow-suc}
use borrow.Author.Tests.{lt-ltb, le-ltb}
use Rattle.der.specs.Model.{high_tag, number_at, least, long_form, by_first, read_length, read_limited, length_is, value_is}
use Rattle.der.specs.X690.{big_endian, octets_of, length_bytes, encoding}
use Rattle.der.specs.Places.{part}
use Rattle.der.proofs.Laws.{tests, limited_value, lt_or_le}
use Rattle.der.proofs.Parts.{append_inv, part_length, part_split, part_more, part_cons}

-- a last element
snoc_inv : (xs ys : List ℕ) (x y : ℕ) → length xs ≡ length ys → xs ++ (x ∷ []) ≡ ys ++ (y ∷ []) → (xs ≡ ys) × (x ≡ y)
snoc_inv [] [] x y l e = (refl, cc)
snoc_inv [] (b ∷ ys) x y l e = absurd (omega arith)
snoc_inv (a ∷ xs) [] x y l e = absurd (omega arith)
snoc_inv (a ∷ xs) (b ∷ ys) x y l e =
    let t : xs ++ (x ∷ []) ≡ ys ++ (y ∷ []) = cc in
    let h : a ≡ b = cc in
    let r = snoc_inv xs ys x y (omega arith) t in
    (cc r.0, r.1)

pub big_length : (k n : ℕ) → length (big_endian k n) ≡ k
unfolding big_endian
big_length zero n = refl
big_length (suc k) n = simp (length-append, big_length k (n / 256)) (omega arith)

-- a number is read back from its bytes
pub number_back : (s : List ℕ) (at k n : ℕ) → n < 256 ^ k → at + k ≤ length s → part s at (at + k) ≡ big_endian k n → number_at s at k ≡ n
unfolding big_endian number_at
number_back s at zero n h l e = omega arith
number_back s at (suc k) n h l e =
    let m : part s at (at + k) ++ (get_or s (at + k) 0 ∷ []) ≡ big_endian k (n / 256) ++ ((n % 256) ∷ []) = sym (part_more s at k (omega arith)) ∙ e in
    let r = snoc_inv (part s at (at + k)) (big_endian k (n / 256)) (get_or s (at + k) 0) (n % 256) (simp (big_length, part_length s at (at + k) (omega arith)) (omega arith)) m in
    omega (arith, number_back s at k (n / 256) (omega (arith, pow-suc 256 k)) (omega arith) r.0, r.1)

-- the fewest bytes that hold n
pub octets_hold : (n : ℕ) → 128 ≤ n → n < 2 ^ 32 → (1 ≤ octets_of n) × (octets_of n ≤ 4) × (least (octets_of n) ≤ n) × (n < 256 ^ octets_of n)
unfolding octets_of least
octets_hold n a b =
    ⊎_elim
    (λ h. simp (lt-ltb n 256 h) (omega arith))
    (λ h.
    ⊎_elim
    (λ i. simp (le-ltb n 256 h, lt-ltb n 65536 i) (omega arith))
    (λ i.
    ⊎_elim
    (λ j. simp (le-ltb n 256 h, le-ltb n 65536 i, lt-ltb n 16777216 j) (omega arith))
    (λ j. simp (le-ltb n 256 h, le-ltb n 65536 i, le-ltb n 16777216 j) (omega arith))
    (lt_or_le n 16777216))
    (lt_or_le n 65536))
    (lt_or_le n 256)

-- ---- the two ways to an accepted length
short_law : (s : List ℕ) (at to n : ℕ) → to ≤ length s → at < to → get_or s at 0 ≡ n → n < 128 → read_length s at to ≡ length_is n (at + 1)
unfolding read_length by_first
short_law s at to n a b e h = search (tests, e)

long_law : (s : List ℕ) (at to n k : ℕ) → to ≤ length s → at + k < to → get_or s at 0 ≡ 128 + k → 1 ≤ k → k ≤ 4 → number_at s (at + 1) k ≡ n → least k ≤ n
    → read_length s at to ≡ length_is n (at + 1 + k)
unfolding read_length by_first long_form
long_law s at to n k a b e h i m l =
    let z : (128 + k) - 128 ≡ k = omega arith in
    let b₁ : at < to = omega arith in
    let b₂ : 128 ≤ 128 + k = omega arith in
    let b₃ : 129 ≤ 128 + k = omega arith in
    let b₄ : 128 + k < 133 = omega arith in
    let b₅ : k < to - at = omega arith in
    search (tests, e, z, m)

pub bytes_short : (n : ℕ) → n < 128 → length_bytes n ≡ n ∷ []
unfolding length_bytes
bytes_short n h = simp (lt-ltb n 128 h)

pub bytes_long : (n : ℕ) → 128 ≤ n → length_bytes n ≡ (128 + octets_of n) ∷ big_endian (octets_of n) n
unfolding length_bytes
bytes_long n h = simp (le-ltb n 128 h)

pub length_complete : (s : List ℕ) (at to n : ℕ) → n < 2 ^ 32 → to ≤ length s → at + length (length_bytes n) ≤ to
    → part s at (at + length (length_bytes n)) ≡ length_bytes n → read_length s at to ≡ length_is n (at + length (length_bytes n))
length_complete s at to n h l r e =
    ⊎_elim
    (λ a.
    let q = bytes_short n a in
    let m : length (length_bytes n) ≡ 1 = ap length q in
    let p : get_or s at 0 ∷ part s (at + 1) (at + 1) ≡ n ∷ [] = sym (part_cons s at (at + 1) (omega arith) (omega arith)) ∙ (rw (m, q) at e) in
    rw m (short_law s at to n l (omega arith) (cc) a))
    (λ a.
    let q = bytes_long n a in
    let k = octets_of n in
    let o = octets_hold n a h in
    let m : at + length (length_bytes n) ≡ at + 1 + k = omega (arith, ap length q, big_length k n) in
    let p : get_or s at 0 ∷ part s (at + 1) (at + 1 + k) ≡ (128 + k) ∷ big_endian k n = sym (part_cons s at (at + 1 + k) (omega arith) (omega arith)) ∙ (rw (m, q) at e) in
    let f : get_or s at 0 ≡ 128 + k = cc in
    let g : part s (at + 1) (at + 1 + k) ≡ big_endian k n = cc in
    rw m (long_law s at to n k l (omega arith) f o.0 o.1 (number_back s (at + 1) k n o.3 (omega arith) g) o.2))
    (lt_or_le n 128)

-- COMPLETE: the encoding of a tag and a content, with room for it before `to`, is accepted, with its places
pub value_complete : (s : List ℕ) (from to limit tag : ℕ) (content : List ℕ) → high_tag tag ≡ false → length content < limit → length content < 2 ^ 32
    → to ≤ length s → from + length (encoding tag content) ≤ to → part s from (from + length (encoding tag content)) ≡ encoding tag content
    → read_limited s from to limit ≡ value_is tag (from + 1 + length (length_bytes (length content))) (from + length (encoding tag content))
unfolding encoding
value_complete s from to limit tag content low short small l r e =
    let n = length content in
    let k = length (length_bytes n) in
    let m : length (encoding tag content) ≡ 1 + k + n = simp length-append (omega arith) in
    let end : from + length (encoding tag content) ≡ from + 1 + k + n = omega arith in
    let p : get_or s from 0 ∷ part s (from + 1) (from + 1 + k + n) ≡ tag ∷ (length_bytes n ++ content) = sym (part_cons s from (from + 1 + k + n) (omega arith) (omega arith)) ∙ (rw end at e) in
    let t : get_or s from 0 ≡ tag = cc in
    let g : part s (from + 1) (from + 1 + k + n) ≡ length_bytes n ++ content = cc in
    let a : part s (from + 1) (from + 1 + k) ++ part s (from + 1 + k) (from + 1 + k + n) ≡ length_bytes n ++ content = sym (part_split s (from + 1) (from + 1 + k) (from + 1 + k + n) (omega arith) (omega arith)) ∙ g in
    let q = append_inv (part s (from + 1) (from + 1 + k)) (length_bytes n) (part s (from + 1 + k) (from + 1 + k + n)) content (part_length s (from + 1) (from + 1 + k) (omega arith) ∙ omega arith) a in
    rw end (limited_value s from to limit n (from + 1 + k) l (omega arith) (rw t low) (length_complete s (from + 1) to n small l (omega arith) q.0) short (omega arith) ∙ rw t)
