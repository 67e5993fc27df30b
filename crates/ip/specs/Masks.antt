-- Which masks are taken, for one address. RFC 5280, 4.2.1.10, with RFC 4632, 3.1: a mask is ones and then zeros. rustls-webpki reads the octets of a mask only
-- as long as address and entry agree, so a break further on goes unnoticed (docs/DIFFERENCES.md, D20). No reader is named here.
use Rattle.std.specs.Prelude.{ℕ, List, take}
use Rattle.ip.specs.Addresses.{Prefix, Inside, Halves}

-- the mask of an entry of the family of p: ones and then zeros; or its first k octets are, and under these p is outside already
pub data Masked (p entry : List ℕ) : Type 0 where
  whole : (address mask : List ℕ) (n : ℕ) → Halves p entry address mask → Prefix n mask → Masked p entry
  outside : (address mask : List ℕ) (k n : ℕ) → Halves p entry address mask → Prefix n (take k mask) → (Inside n p address → ⊥) → Masked p entry
