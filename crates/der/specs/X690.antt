-- The encodings of ITU-T X.690 that a certificate's outline is made of. No reader is named here.
use Rattle.std.specs.Prelude.{ℕ, zero, suc, ◌+◌, ◌-◌, ◌*◌, ◌/◌, ◌%◌, ◌^◌, ◌≤◌, ◌<◌, ◌≡◌, List, [], ◌∷◌, ◌++◌, Bool, true, false, cond, ◌&&◌, length, get_or, ltb, eqb}

-- n in k octets, the most significant first
unfoldable pub big_endian : ℕ → ℕ → List ℕ
big_endian zero n = []
big_endian (suc k) n = big_endian k (n / 256) ++ ((n % 256) ∷ [])

-- ---- 8.1.2: identifier octets
-- 8.1.2.4: five ones in bits 5 to 1 of the first octet announce more octets; 8.1.2.2: any other octet is the whole identifier
abbrev pub OneOctet : ℕ → Type 0
OneOctet tag = tag % 32 ≡ 31 → ⊥

-- ---- 8.1.3: length octets
-- the definite forms of the length n: 8.1.3.4, one octet; 8.1.3.5, the number k of octets that follow, from 1 to 126, and n in them
pub data Definite (n : ℕ) : List ℕ → Type 0 where
  short : n < 128 → Definite n (n ∷ [])
  long : (k : ℕ) → 1 ≤ k → k < 127 → n < 256 ^ k → Definite n ((128 + k) ∷ big_endian k n)

-- 10.1: the definite form, in the minimum number of octets
pub record Minimal (n : ℕ) (octets : List ℕ) : Type 0 where
  pub form : Definite n octets
  pub fewest : (other : List ℕ) → Definite n other → length octets ≤ length other

-- the one such form of a length below 2 ^ 32 (`proofs/Minimum.antt`, `minimal_is`)
unfoldable pub octets_of : ℕ → ℕ
octets_of n = cond (ltb n 256) 1 (cond (ltb n 65536) 2 (cond (ltb n 16777216) 3 4))

unfoldable pub length_bytes : ℕ → List ℕ
length_bytes n = cond (ltb n 128) (n ∷ []) ((128 + octets_of n) ∷ big_endian (octets_of n) n)

-- ---- 8.1.1: identifier, length, contents; 10.2: of a string too, in the primitive form
unfoldable pub encoding : ℕ → List ℕ → List ℕ
encoding tag content = tag ∷ (length_bytes (length content) ++ content)

-- ---- 8.2, 11.1: BOOLEAN, one octet of contents; 0 for false, and of the others 255 for true
abbrev pub truth : Bool → List ℕ
truth true = 255 ∷ []
truth false = 0 ∷ []

-- ---- 8.3: INTEGER
-- the octets as an unsigned number
unfoldable pub value_of : List ℕ → ℕ
value_of [] = 0
value_of (x ∷ xs) = x * 256 ^ length xs + value_of xs

-- 8.3.1: one octet or more; 8.3.3: two's complement, so that a number which is not negative has a 0 in bit 8 of the first octet and is
-- the octets' value; 8.3.2: the first octet and bit 8 of the second are not all zeros (all ones begin a negative number)
pub record Natural (n : ℕ) (content : List ℕ) : Type 0 where
  pub some : 1 ≤ length content
  pub positive : get_or content 0 0 < 128
  pub value : value_of content ≡ n
  pub shortest : 2 ≤ length content → get_or content 0 0 ≡ 0 → 128 ≤ get_or content 1 0

-- ---- 8.6, 11.2: BIT STRING
-- 8.6.2.1: bit k of the string, from bit 8 of the first octet on; beyond the octets 0
unfoldable pub bit : List ℕ → ℕ → ℕ
bit octets k = (get_or octets (k / 8) 0 / 2 ^ (7 - k % 8)) % 2

-- 8.6.2.2: the number of unused bits, 0 to 7; 8.6.2.3: 0 for the empty string; 11.2.1: the unused bits are 0
pub record BitString (unused : ℕ) (octets : List ℕ) : Type 0 where
  pub few : unused < 8
  pub empty : octets ≡ [] → unused ≡ 0
  pub zeros : get_or octets (length octets - 1) 0 % (2 ^ unused) ≡ 0

-- 11.2.2: of named bits, no trailing 0 bit: the last used bit is 1
pub record NamedBits (unused : ℕ) (octets : List ℕ) : Type 0 where
  pub string : BitString unused octets
  pub last : (octets ≡ [] → ⊥) → (get_or octets (length octets - 1) 0 / 2 ^ unused) % 2 ≡ 1

-- ---- 8.19: OBJECT IDENTIFIER
-- 8.19.2: subidentifiers, one after the other. In each, bit 8 is 1 in every octet but the last, and the first octet is not 80 (hex). `fresh` says that a
-- subidentifier begins with the next octet
unfoldable pub subidentifiers : Bool → List ℕ → Bool
subidentifiers fresh [] = fresh
subidentifiers fresh (x ∷ xs) = cond (fresh && eqb x 128) false (subidentifiers (ltb x 128) xs)

-- 8.19.3 and 8.19.4: the first two components share a subidentifier, so there is one or more
pub record ObjectIdentifier (content : List ℕ) : Type 0 where
  pub some : content ≡ [] → ⊥
  pub series : subidentifiers true content ≡ true

-- the octets without the zero octets at their end
abbrev pub keep_octet : ℕ → List ℕ → List ℕ
keep_octet zero [] = []
keep_octet (suc x) [] = suc x ∷ []
keep_octet x (y ∷ ys) = x ∷ (y ∷ ys)

unfoldable pub trimmed : List ℕ → List ℕ
trimmed [] = []
trimmed (x ∷ xs) = keep_octet x (trimmed xs)
