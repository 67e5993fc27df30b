-- The length octets of `length_bytes` are the definite form in the minimum number of octets, and the only one. Assumes nothing.
use Prim.Native.Nat.{ℕ, zero, suc, ◌+◌, ◌^◌, ◌≤◌, ◌<◌}
use mathlib.Core.Path.{◌≡◌, sym}
use mathlib.Core.List.{List, [], ◌∷◌}
use mathlib.Core.Logic.{⊎_elim}
use lib.ListN.{length}
use native.Mathlib.Omega.{arith}
use borrow.Author.Tests.{lt-ltb, le-ltb}
use Rattle.der.specs.X690.{big_endian, Definite, short, long, Minimal, octets_of, length_bytes}
use Rattle.der.proofs.Laws.{lt_or_le}
use Rattle.der.proofs.Complete.{big_length, octets_hold, bytes_short, bytes_long}

-- no fewer octets hold n
octets_least : (n k : ℕ) → n < 2 ^ 32 → 128 ≤ n → n < 256 ^ k → octets_of n ≤ k
unfolding octets_of
octets_least n zero h l b = absurd (omega arith)
octets_least n (suc zero) h l b = simp (lt-ltb n 256 b) (omega arith)
octets_least n (suc (suc zero)) h l b =
    ⊎_elim
    (λ c. simp (lt-ltb n 256 c) (omega arith))
    (λ c. simp (le-ltb n 256 c, lt-ltb n 65536 b) (omega arith))
    (lt_or_le n 256)
octets_least n (suc (suc (suc zero))) h l b =
    ⊎_elim
    (λ c. simp (lt-ltb n 256 c) (omega arith))
    (λ c.
    ⊎_elim
    (λ d. simp (le-ltb n 256 c, lt-ltb n 65536 d) (omega arith))
    (λ d. simp (le-ltb n 256 c, le-ltb n 65536 d, lt-ltb n 16777216 b) (omega arith))
    (lt_or_le n 65536))
    (lt_or_le n 256)
octets_least n (suc (suc (suc (suc k)))) h l b = let o = octets_hold n l h in omega (arith, o.1)

-- the form that `length_bytes` gives
definite : (n : ℕ) → n < 2 ^ 32 → Definite n (length_bytes n)
definite n h =
    ⊎_elim
    (λ l. rw (bytes_short n l) (short l))
    (λ l. let o = octets_hold n l h in rw (bytes_long n l) (long (octets_of n) o.0 (omega (arith, o.1)) o.3))
    (lt_or_le n 128)

few : (n : ℕ) → n < 2 ^ 32 → (other : List ℕ) → Definite n other → length (length_bytes n) ≤ length other
few n h other (short l) = rw (bytes_short n l) (omega arith)
few n h other (long k a b c) =
    ⊎_elim
    (λ l. rw (bytes_short n l) (omega arith))
    (λ l. rw (bytes_long n l) (simp big_length (omega (arith, octets_least n k h l c))))
    (lt_or_le n 128)

pub minimal : (n : ℕ) → n < 2 ^ 32 → Minimal n (length_bytes n)
minimal n h = record { form = definite n h; fewest = few n h }

only : (n : ℕ) → n < 2 ^ 32 → (octets : List ℕ) → Definite n octets → ((other : List ℕ) → Definite n other → length octets ≤ length other)
    → octets ≡ length_bytes n
only n h octets (short l) fewest = sym (bytes_short n l)
only n h octets (long k a b c) fewest =
    ⊎_elim
    (λ l. absurd (let f = fewest (n ∷ []) (short l) in omega (arith, big_length k n)))
    (λ l.
    let f : length ((128 + k) ∷ big_endian k n) ≤ length (length_bytes n) = fewest (length_bytes n) (definite n h) in
    let g : suc k ≤ suc (octets_of n) = simp (bytes_long n l, big_length) at f in
    let e : k ≡ octets_of n = omega (arith, octets_least n k h l c) in
    rw (bytes_long n l, e))
    (lt_or_le n 128)

pub minimal_is : (n : ℕ) → n < 2 ^ 32 → (octets : List ℕ) → Minimal n octets → octets ≡ length_bytes n
minimal_is n h octets m = only n h octets m.form m.fewest
