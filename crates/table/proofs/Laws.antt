-- Laws of tables: filling them row by row, and what a full one says. Assumes nothing.
use Prim.Native.Nat.{ℕ, zero, suc, ◌+◌, ◌≤◌, ◌<◌}
use mathlib.Core.Path.{◌≡◌, refl, sym, subst}
use mathlib.Core.List.{List, [], ◌∷◌, map}
use mathlib.Core.Bool.{Bool, true, false, cond}
use lib.ListN.{length, get_or, set, length-set, length-map, get_or-eq_default}
use lib.Seq.{get_or-set_same, get_or-set_other}
use lib.Dec.{leb, eqb}
use native.Mathlib.Omega.{arith}
use native.Mathlib.Nat.{le_of_suc-le-suc}
use borrow.Author.Tests.{leb-false, eqb-true, eqb-false}
use denote.Ref.{Bor}
use Rattle.cert.specs.Model.{read_certificate}
use Rattle.rows.specs.Model.{row_reading}
use Rattle.table.specs.Model.{reading_in, Held}

module _ (issuers : List (List ℕ)) (end : List ℕ) where
  -- the rows below n are right
  pub Rows : List (List ℕ) → ℕ → Type 0
  Rows table n = (i : ℕ) → i < n → i < length table → row_reading (get_or table i []) ≡ read_certificate (get_or issuers i end) true

  pub rows_start : (table : List (List ℕ)) → Rows table 0
  unfolding Rows
  rows_start table i h l = absurd (omega arith)

  pub rows_turn : (table : List (List ℕ)) (n : ℕ) (row : List ℕ) → row_reading row ≡ read_certificate (get_or issuers n end) true → Rows table n → Rows (set table n row) (n + 1)
  unfolding Rows
  rows_turn table n row e r i h l = go (eqb i n) refl
    where
      l' : i < length table
      l' = rw (length-set table n row) at l

      go : (v : Bool) → eqb i n ≡ v → row_reading (get_or (set table n row) i []) ≡ read_certificate (get_or issuers i end) true
      go true q = let z : i ≡ n = eqb-true i n q in subst (λ (k : ℕ). row_reading (get_or (set table n row) k []) ≡ read_certificate (get_or issuers k end) true) (sym z) (rw (get_or-set_same table n row [] (omega (arith, l', z))) e)
      go false q = rw (get_or-set_other table n i row [] (eqb-false i n q)) (r i (omega (arith, eqb-false i n q)) l')

  pub rows_short : (table : List (List ℕ)) (n : ℕ) → length table ≤ n → Rows table n → Held table issuers end
  unfolding Rows Held
  rows_short table n h r i k l = r i (omega arith) l

  pub rows_all : (table : List (List ℕ)) (n : ℕ) → length issuers ≤ n → Rows table (n + 1) → Held table issuers end
  unfolding Rows Held
  rows_all table n h r i k l = r i (omega arith) l

-- what stands behind the i-th reference
pub behind : (l : List (Bor (List ℕ))) (i : ℕ) (d : Bor (List ℕ)) (other : List ℕ) → i < length l → get_or (map (λ x. x.now) l) i other ≡ (get_or l i d).now
behind [] i d other h = absurd (omega arith)
behind (x ∷ xs) zero d other h = refl
behind (x ∷ xs) (suc i) d other h = behind xs i d other (le_of_suc-le-suc h)

-- where a table is held, what is known of a certificate is what is read
pub held_reading : (table issuers : List (List ℕ)) (end : List ℕ) → Held table issuers end → (i : ℕ) → i ≤ length issuers → reading_in table i (get_or issuers i end) ≡ read_certificate (get_or issuers i end) true
unfolding reading_in Held
held_reading table issuers end h i k = go (leb (length table) i) refl
  where
    go : (v : Bool) → leb (length table) i ≡ v → cond v (read_certificate (get_or issuers i end) true) (row_reading (get_or table i [])) ≡ read_certificate (get_or issuers i end) true
    go true q = refl
    go false q = h i k (leb-false (length table) i q)

-- a row of the certificate that the i-th reference lends, or of the end entity past them all
module _ (issuers : List (Bor (List ℕ))) (end : List ℕ) (i : ℕ) (row : List ℕ) where
  pub row_of_issuer : (d : Bor (List ℕ)) → i < length issuers → row_reading row ≡ read_certificate (get_or issuers i d).now true → row_reading row ≡ read_certificate (get_or (map (λ x. x.now) issuers) i end) true
  row_of_issuer d h e = rw (behind issuers i d end h) e

  pub row_of_end : length issuers ≤ i → row_reading row ≡ read_certificate end true → row_reading row ≡ read_certificate (get_or (map (λ x. x.now) issuers) i end) true
  row_of_end h e = rw (get_or-eq_default (map (λ x. x.now) issuers) end {n = i} (rw (length-map issuers (λ x. x.now)) h)) e
