-- Laws of bits: those of a byte, of a list of bytes, and of a mask. Assumes nothing.
use Prim.Native.Nat.{ℕ, zero, suc, ◌+◌, ◌-◌, ◌*◌, ◌/◌, ◌%◌, ◌^◌, ◌≤◌, ◌<◌}
use mathlib.Core.Path.{◌≡◌, refl, sym, ap, ◌∙◌}
use mathlib.Core.List.{List, [], ◌∷◌, ◌++◌, append_assoc}
use mathlib.Core.Bool.{cond}
use mathlib.Core.Logic.{⊎_elim}
use lib.ListN.{length, take, replicate, length-append, replicate-append-replicate}
use lib.Seq.{take_all, take-append-le, take-append-add}
use lib.Dec.{leb}
use native.Mathlib.Omega.{arith}
use native.Mathlib.Nat.{pow-suc, pow-succ', div-div-eq-div-mul, div-one}
use borrow.Author.Tests.{le-leb, lt-leb}
use Rattle.der.specs.Places.{Bytes}
use Rattle.der.proofs.Laws.{lt_or_le}
use Rattle.der.proofs.Parts.{append_inv}
use Rattle.ip.specs.Addresses.{bits_of, bits, Prefix}

snoc_inv : (xs ys : List ℕ) (x y : ℕ) → length xs ≡ length ys → xs ++ (x ∷ []) ≡ ys ++ (y ∷ []) → (xs ≡ ys) × (x ≡ y)
snoc_inv xs ys x y l e = let r = append_inv xs ys (x ∷ []) (y ∷ []) l e in (r.0, cc r.1)

-- ---- the bits of a number
pub bits_length : (k v : ℕ) → length (bits_of k v) ≡ k
unfolding bits_of
bits_length zero v = refl
bits_length (suc k) v = length-append (bits_of k (v / 2)) ((v % 2) ∷ []) ∙ omega (arith, bits_length k (v / 2))

pub bits_inv : (k v w : ℕ) → v < 2 ^ k → w < 2 ^ k → bits_of k v ≡ bits_of k w → v ≡ w
unfolding bits_of
bits_inv zero v w a b e = omega arith
bits_inv (suc k) v w a b e =
    let r = snoc_inv (bits_of k (v / 2)) (bits_of k (w / 2)) (v % 2) (w % 2) (bits_length k (v / 2) ∙ sym (bits_length k (w / 2))) e in
    let q = bits_inv k (v / 2) (w / 2) (omega (arith, pow-suc 2 k)) (omega (arith, pow-suc 2 k)) r.0 in
    omega (arith, q, r.1)

-- the first bits are those of a quotient
pub bits_take : (i j k v : ℕ) → k ≡ i + j → take j (bits_of k v) ≡ bits_of j (v / 2 ^ i)
unfolding bits_of
bits_take zero j k v e =
    let q : k ≡ j = omega arith in
    let d : v / 2 ^ 0 ≡ v = div-one v in
    rw (q, d) (take_all j (bits_of j v) (omega (arith, bits_length j v)))
bits_take (suc i) j zero v e = absurd (omega arith)
bits_take (suc i) j (suc k) v e =
    let d : v / 2 / 2 ^ i ≡ v / 2 ^ suc i = div-div-eq-div-mul v 2 (2 ^ i) ∙ ap (λ (m : ℕ). v / m) (sym (pow-succ' 2 i)) in
    take-append-le j (bits_of k (v / 2)) ((v % 2) ∷ []) (omega (arith, bits_length k (v / 2))) ∙ bits_take i j k (v / 2) (omega arith) ∙ ap (bits_of j) d

-- ---- the bits of a byte
pub up_to_8 : (P : ℕ → Type 0) → P 0 → P 1 → P 2 → P 3 → P 4 → P 5 → P 6 → P 7 → P 8 → (n : ℕ) → n ≤ 8 → P n
up_to_8 P p0 p1 p2 p3 p4 p5 p6 p7 p8 zero l = p0
up_to_8 P p0 p1 p2 p3 p4 p5 p6 p7 p8 (suc zero) l = p1
up_to_8 P p0 p1 p2 p3 p4 p5 p6 p7 p8 (suc (suc zero)) l = p2
up_to_8 P p0 p1 p2 p3 p4 p5 p6 p7 p8 (suc (suc (suc zero))) l = p3
up_to_8 P p0 p1 p2 p3 p4 p5 p6 p7 p8 (suc (suc (suc (suc zero)))) l = p4
up_to_8 P p0 p1 p2 p3 p4 p5 p6 p7 p8 (suc (suc (suc (suc (suc zero))))) l = p5
up_to_8 P p0 p1 p2 p3 p4 p5 p6 p7 p8 (suc (suc (suc (suc (suc (suc zero)))))) l = p6
up_to_8 P p0 p1 p2 p3 p4 p5 p6 p7 p8 (suc (suc (suc (suc (suc (suc (suc zero))))))) l = p7
up_to_8 P p0 p1 p2 p3 p4 p5 p6 p7 p8 (suc (suc (suc (suc (suc (suc (suc (suc zero)))))))) l = p8
up_to_8 P p0 p1 p2 p3 p4 p5 p6 p7 p8 (suc (suc (suc (suc (suc (suc (suc (suc (suc n))))))))) l = absurd (omega arith)

quotient_small : (x : ℕ) → x < 256 → (j : ℕ) → j ≤ 8 → x / 2 ^ (8 - j) < 2 ^ j
quotient_small x h = up_to_8 (λ j. x / 2 ^ (8 - j) < 2 ^ j) (omega arith) (omega arith) (omega arith) (omega arith) (omega arith) (omega arith) (omega arith) (omega arith) (omega arith)

-- two bytes have the same first bits if and only if they have the same quotient
module _ (x y : ℕ) (a : x < 256) (b : y < 256) (j : ℕ) (l : j ≤ 8) where
  pub bits_quotient : take j (bits_of 8 x) ≡ take j (bits_of 8 y) → x / 2 ^ (8 - j) ≡ y / 2 ^ (8 - j)
  bits_quotient e =
      bits_inv j (x / 2 ^ (8 - j)) (y / 2 ^ (8 - j)) (quotient_small x a j l) (quotient_small y b j l) (sym (bits_take (8 - j) j 8 x (omega arith)) ∙ e ∙ bits_take (8 - j) j 8 y (omega arith))

  pub quotient_bits : x / 2 ^ (8 - j) ≡ y / 2 ^ (8 - j) → take j (bits_of 8 x) ≡ take j (bits_of 8 y)
  quotient_bits e = bits_take (8 - j) j 8 x (omega arith) ∙ ap (bits_of j) e ∙ sym (bits_take (8 - j) j 8 y (omega arith))

-- ---- the bits of bytes
-- within the first byte, and past it
pub bits_within : (n x : ℕ) (p : List ℕ) → n ≤ 8 → take n (bits (x ∷ p)) ≡ take n (bits_of 8 x)
unfolding bits
bits_within n x p l = take-append-le n (bits_of 8 x) (bits p) (omega (arith, bits_length 8 x))

pub bits_past : (n x : ℕ) (p : List ℕ) → 8 ≤ n → take n (bits (x ∷ p)) ≡ bits_of 8 x ++ take (n - 8) (bits p)
unfolding bits
bits_past n x p l =
    let e : n ≡ length (bits_of 8 x) + (n - 8) = omega (arith, bits_length 8 x) in
    ap (λ (m : ℕ). take m (bits_of 8 x ++ bits p)) e ∙ take-append-add (bits_of 8 x) (bits p) (n - 8)

pub bytes_inv : (m k : List ℕ) → Bytes m → Bytes k → length m ≡ length k → bits m ≡ bits k → m ≡ k
unfolding bits
bytes_inv [] [] a b l e = refl
bytes_inv [] (y ∷ k) a b l e = absurd (omega arith)
bytes_inv (x ∷ m) [] a b l e = absurd (omega arith)
bytes_inv (x ∷ m) (y ∷ k) a b l e =
    let r = append_inv (bits_of 8 x) (bits_of 8 y) (bits m) (bits k) (bits_length 8 x ∙ sym (bits_length 8 y)) e in
    let q : x ≡ y = bits_inv 8 x y (a 0) (b 0) r.0 in
    rw (q, bytes_inv m k (λ i. a (suc i)) (λ i. b (suc i)) (omega arith) r.1)

-- ---- masks, byte by byte: n ones in k bytes
unfoldable pub mask_of : ℕ → ℕ → List ℕ
mask_of n zero = []
mask_of n (suc k) = cond (leb 8 n) (255 ∷ mask_of (n - 8) k) ((256 - 2 ^ (8 - n)) ∷ mask_of 0 k)

pub mask_more : (n k : ℕ) → 8 ≤ n → mask_of n (suc k) ≡ 255 ∷ mask_of (n - 8) k
unfolding mask_of
mask_more n k l = rw (le-leb 8 n l)

pub mask_last : (n k : ℕ) → n < 8 → mask_of n (suc k) ≡ (256 - 2 ^ (8 - n)) ∷ mask_of 0 k
unfolding mask_of
mask_last n k l = rw (lt-leb 8 n l)

pub mask_length : (n k : ℕ) → length (mask_of n k) ≡ k
unfolding mask_of
mask_length n zero = refl
mask_length n (suc k) = ⊎_elim (λ l. rw (lt-leb 8 n l) (ap suc (mask_length 0 k))) (λ l. rw (le-leb 8 n l) (ap suc (mask_length (n - 8) k))) (lt_or_le n 8)

ones_small : (n : ℕ) → n ≤ 8 → 256 - 2 ^ (8 - n) < 256
ones_small = up_to_8 (λ n. 256 - 2 ^ (8 - n) < 256) (omega arith) (omega arith) (omega arith) (omega arith) (omega arith) (omega arith) (omega arith) (omega arith) (omega arith)

pub bytes_cons : (x : ℕ) (xs : List ℕ) → x < 256 → Bytes xs → Bytes (x ∷ xs)
bytes_cons x xs h b zero = h
bytes_cons x xs h b (suc i) = b i

pub mask_bytes : (n k : ℕ) → Bytes (mask_of n k)
unfolding mask_of
mask_bytes n zero = λ i. omega arith
mask_bytes n (suc k) =
    ⊎_elim
    (λ l. rw (lt-leb 8 n l) (bytes_cons (256 - 2 ^ (8 - n)) (mask_of 0 k) (ones_small n (omega arith)) (mask_bytes 0 k)))
    (λ l. rw (le-leb 8 n l) (bytes_cons 255 (mask_of (n - 8) k) (omega arith) (mask_bytes (n - 8) k)))
    (lt_or_le n 8)

first_byte : (n : ℕ) → n ≤ 8 → bits_of 8 (256 - 2 ^ (8 - n)) ≡ replicate n 1 ++ replicate (8 - n) 0
unfolding bits_of
first_byte = up_to_8 (λ n. bits_of 8 (256 - 2 ^ (8 - n)) ≡ replicate n 1 ++ replicate (8 - n) 0) refl refl refl refl refl refl refl refl refl

ones_join : (n : ℕ) (t : List ℕ) → bits_of 8 255 ++ (replicate n 1 ++ t) ≡ replicate (8 + n) 1 ++ t
unfolding bits_of
ones_join n t = sym (append_assoc (replicate 8 1) (replicate n 1) t) ∙ ap (λ (s : List ℕ). s ++ t) (replicate-append-replicate 8 n 1)

zeros_join : (n k : ℕ) → n ≤ 8 → bits_of 8 (256 - 2 ^ (8 - n)) ++ replicate k 0 ≡ replicate n 1 ++ replicate ((8 - n) + k) 0
zeros_join n k l = rw (first_byte n l, append_assoc) (ap (λ (s : List ℕ). replicate n 1 ++ s) (replicate-append-replicate (8 - n) k 0))

counted : (a b c d : ℕ) → a ≡ b → c ≡ d → ◌≡◌ {A = List ℕ} (replicate a 1 ++ replicate c 0) (replicate b 1 ++ replicate d 0)
counted a b c d e f = rw (e, f)

ones_more : (n k : ℕ) → 8 ≤ n → n ≤ 8 * suc k → bits_of 8 255 ++ (replicate (n - 8) 1 ++ replicate (8 * k - (n - 8)) 0) ≡ replicate n 1 ++ replicate (8 * suc k - n) 0
ones_more n k l h = ones_join (n - 8) (replicate (8 * k - (n - 8)) 0) ∙ counted (8 + (n - 8)) n (8 * k - (n - 8)) (8 * suc k - n) (omega arith) (omega arith)

ones_last : (n k : ℕ) → n < 8 → bits_of 8 (256 - 2 ^ (8 - n)) ++ replicate (8 * k - 0) 0 ≡ replicate n 1 ++ replicate (8 * suc k - n) 0
ones_last n k l = zeros_join n (8 * k - 0) (omega arith) ∙ counted n n ((8 - n) + (8 * k - 0)) (8 * suc k - n) refl (omega arith)

pub mask_bits : (k n : ℕ) → n ≤ 8 * k → bits (mask_of n k) ≡ replicate n 1 ++ replicate (8 * k - n) 0
unfolding mask_of bits
mask_bits zero n l = let e : n ≡ 0 = omega arith in rw e
mask_bits (suc k) n l =
    ⊎_elim
    (λ h. rw (lt-leb 8 n h) (ap (λ (t : List ℕ). bits_of 8 (256 - 2 ^ (8 - n)) ++ t) (mask_bits k 0 (omega arith)) ∙ ones_last n k h))
    (λ h. rw (le-leb 8 n h) (ap (λ (t : List ℕ). bits_of 8 255 ++ t) (mask_bits k (n - 8) (omega arith)) ∙ ones_more n k h l))
    (lt_or_le n 8)

pub mask_prefix : (n k : ℕ) → n ≤ 8 * k → Prefix n (mask_of n k)
mask_prefix n k l = record { few = rw (mask_length n k) l; is = rw (mask_length n k) (mask_bits k n l) }

pub prefix_mask : (n : ℕ) (m : List ℕ) → Bytes m → Prefix n m → m ≡ mask_of n (length m)
prefix_mask n m b p = bytes_inv m (mask_of n (length m)) b (mask_bytes n (length m)) (sym (mask_length n (length m))) (p.is ∙ sym (mask_bits (length m) n p.few))
