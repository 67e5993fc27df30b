-- Places in a list of bytes: what a slice holds, and what stands between two places.
use Rattle.std.specs.Prelude.{ℕ, ◌-◌, ◌<◌, List, get_or, take, drop}

-- bytes, as every `&[u8]` has them
abbrev pub Bytes : List ℕ → Type 0
Bytes s = (i : ℕ) → get_or s i 0 < 256

-- the bytes of s from a up to, not including, b
unfoldable pub part : List ℕ → ℕ → ℕ → List ℕ
part s a b = take (b - a) (drop a s)

-- every content in a certificate that is read is shorter
abbrev pub LIMIT : ℕ
LIMIT = 65535
