-- Addresses as bits, and the subnets of RFC 5280, 4.2.1.10, in the style of RFC 4632, 3.1: an address, and a mask that is a prefix of ones. No reader is named here.
use Rattle.std.specs.Prelude.{ℕ, zero, suc, ◌-◌, ◌*◌, ◌/◌, ◌%◌, ◌≤◌, ◌≡◌, List, [], ◌∷◌, ◌++◌, ◌⊎◌, length, get_or, take, replicate}

-- the k lowest bits of v, the most significant first
unfoldable pub bits_of : ℕ → ℕ → List ℕ
bits_of zero v = []
bits_of (suc k) v = bits_of k (v / 2) ++ ((v % 2) ∷ [])

unfoldable pub bits : List ℕ → List ℕ
bits [] = []
bits (b ∷ bs) = bits_of 8 b ++ bits bs

-- a mask of n ones, and zeros after them
pub record Prefix (n : ℕ) (mask : List ℕ) : Type 0 where
  pub few : n ≤ 8 * length mask
  pub is : bits mask ≡ replicate n 1 ++ replicate (8 * length mask - n) 0

-- the two addresses have the same n first bits
abbrev pub Inside : ℕ → List ℕ → List ℕ → Type 0
Inside n p address = take n (bits p) ≡ take n (bits address)

-- an address lies in a subnet: an address and a mask of its own length, a prefix of n ones, and the same n first bits
pub record InSubnet (p subnet : List ℕ) : Type 0 where
  pub address : List ℕ
  pub mask : List ℕ
  pub ones : ℕ
  pub is : subnet ≡ address ++ mask
  pub address_size : length address ≡ length p
  pub mask_size : length mask ≡ length p
  pub prefix : Prefix ones mask
  pub inside : Inside ones p address

-- ---- 4.2.1.6 and 4.2.1.10: an address has 4 octets or 16; an entry is an address and a mask, 8 octets or 32
abbrev pub IsAddress : List ℕ → Type 0
IsAddress p = (length p ≡ 4) ⊎ (length p ≡ 16)

abbrev pub IsEntry : List ℕ → Type 0
IsEntry q = (length q ≡ 8) ⊎ (length q ≡ 32)

-- an entry of the family of the address p: its address, and its mask
pub record Halves (p entry address mask : List ℕ) : Type 0 where
  pub is : entry ≡ address ++ mask
  pub address_size : length address ≡ length p
  pub mask_size : length mask ≡ length p

-- bit by bit, whatever the form of the mask: the address and the entry's agree wherever the mask has a one
pub record InMasked (p entry : List ℕ) : Type 0 where
  pub address : List ℕ
  pub mask : List ℕ
  pub halves : Halves p entry address mask
  pub agree : (k : ℕ) → get_or (bits mask) k 0 ≡ 1 → get_or (bits p) k 0 ≡ get_or (bits address) k 0
