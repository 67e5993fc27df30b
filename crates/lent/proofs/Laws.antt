-- Laws of the lent lists and of paths kept in arrays. Assumes nothing.
use Prim.Native.Nat.{ℕ, zero, suc, ◌+◌, ◌-◌, ◌≤◌, ◌<◌}
use mathlib.Core.Path.{◌≡◌, refl, sym, ap, ◌∙◌, fun_ext}
use mathlib.Core.List.{List, [], ◌∷◌, map, reverse}
use Rattle.std.proofs.Math.Seq.{take-suc}
use Rattle.std.proofs.lemmas.List.{reverse-append}
use mathlib.Core.Bool.{Bool, true, false, cond, ◌||◌}
use Rattle.std.specs.List.{list_any}
use lib.ListN.{length, get_or, get_or-map, get_or-eq_default, take}
use native.Mathlib.Omega.{arith}
use native.Mathlib.Numerals.{add-one}
use lib.Dec.{ltb}
use borrow.Author.Tests.{ltb-true, ltb-false, lt-ltb, le-ltb, lt-leb}
use denote.Ref.{Bor}
use Rattle.parts.specs.Model.{same_parts}
use Rattle.table.specs.Model.{reading_in, Held}
use Rattle.table.proofs.Laws.{held_reading}
use Rattle.lent.specs.Lent.{certificate_of, readings_of, row_at, readings_in, lower, pre, some_of, listed}

-- ---- a certificate by its number
module _ (issuers : List (Bor (List ℕ))) (end : Bor (List ℕ)) (anchors n : ℕ) where
  pub certificate_none : n < anchors → certificate_of (map (λ x. x.now) issuers) end.now anchors n ≡ end.now
  unfolding certificate_of
  certificate_none h = rw (lt-ltb n anchors h)

  pub certificate_there : anchors ≤ n → certificate_of (map (λ x. x.now) issuers) end.now anchors n ≡ (get_or issuers (n - anchors) end).now
  unfolding certificate_of
  certificate_there h = rw (le-ltb n anchors h) (get_or-map (λ x. x.now) issuers (n - anchors) end)

-- ---- a table of readings
module _ (table issuers : List (List ℕ)) (end : List ℕ) (anchors n : ℕ) where
  row_inside : row_at anchors (length issuers) n ≤ length issuers
  unfolding row_at
  row_inside = go (ltb n anchors) (ltb (n - anchors) (length issuers)) refl
    where
      go : (u v : Bool) → ltb (n - anchors) (length issuers) ≡ v → cond u (length issuers) (cond v (n - anchors) (length issuers)) ≤ length issuers
      go true v q = omega arith
      go false true q = omega (arith, ltb-true (n - anchors) (length issuers) q)
      go false false q = omega arith

  row_certificate : get_or issuers (row_at anchors (length issuers) n) end ≡ certificate_of issuers end anchors n
  unfolding row_at certificate_of
  row_certificate = go (ltb n anchors) (ltb (n - anchors) (length issuers)) refl
    where
      past : get_or issuers (length issuers) end ≡ end
      past = get_or-eq_default issuers end {n = length issuers} (omega arith)

      go : (u v : Bool) → ltb (n - anchors) (length issuers) ≡ v → get_or issuers (cond u (length issuers) (cond v (n - anchors) (length issuers))) end ≡ cond u end (get_or issuers (n - anchors) end)
      go true v q = past
      go false true q = refl
      go false false q = past ∙ sym (get_or-eq_default issuers end {n = n - anchors} (ltb-false (n - anchors) (length issuers) q))

  held_readings_at : Held table issuers end → readings_in table issuers end anchors n ≡ readings_of issuers end anchors n
  unfolding readings_in
  held_readings_at h = rw row_certificate at (held_reading table issuers end h (row_at anchors (length issuers) n) row_inside)

-- where there is a row for each certificate, what is known is in the table alone, whatever the certificates are
pub rows_alone : (table issuers others : List (List ℕ)) (end other : List ℕ) (anchors n : ℕ) → length issuers ≡ length others → length issuers < length table
    → readings_in table issuers end anchors n ≡ readings_in table others other anchors n
unfolding readings_in reading_in
rows_alone table issuers others end other anchors n same all =
    let i = row_at anchors (length issuers) n in
    let few : i < length table = omega (arith, all, row_inside table issuers end anchors n) in
    rw (← same) (rw (lt-leb (length table) i few) refl)

-- a table that is held says what is read
pub held_readings : (table issuers : List (List ℕ)) (end : List ℕ) (anchors : ℕ) → Held table issuers end → readings_in table issuers end anchors ≡ readings_of issuers end anchors
held_readings table issuers end anchors h = fun_ext (λ n. held_readings_at table issuers end anchors n h)

-- ---- a list of keys
either_way : (b c : Bool) → (b || c) ≡ cond b true c
either_way true c = refl
either_way false c = refl

module _ (s : List ℕ) (from to : ℕ) where
  pub listed_any : (keys : List (Bor (List ℕ))) → list_any (λ k. same_parts s from to k.now 0 (length k.now)) keys ≡ listed (map (λ x. x.now) keys) s from to
  unfolding listed
  listed_any [] = refl
  listed_any (k ∷ ks) = either_way (same_parts s from to k.now 0 (length k.now)) _ ∙ ap (cond (same_parts s from to k.now 0 (length k.now)) true) (listed_any ks)

-- ---- a path in an array
pub lower_length : (path : List ℕ) (d : ℕ) → length (lower path d) ≡ d
unfolding lower
lower_length path zero = refl
lower_length path (suc d) = ap suc (lower_length path d)

-- some of the numbers below place k, the newest first
some_below : (f : ℕ → Bool) (path : List ℕ) (k : ℕ) → k ≤ length path → list_any f (reverse (take k path)) ≡ some_of f (lower path k)
unfolding some_of lower
some_below f path zero h = refl
some_below f path (suc k) h =
    let l : k < length path = omega arith in
    let e = either_way (f (get_or path k 0)) _ ∙ ap (cond (f (get_or path k 0)) true) (some_below f path k (omega arith)) in
    rw (take-suc path k 0 l, reverse-append) e

-- the same of a whole path
pub some_upward : (f : ℕ → Bool) (path : List ℕ) (d : ℕ) → d < length path → list_any f (reverse (take (d + 1) path)) ≡ some_of f (pre path d)
unfolding lower
some_upward f path d h = rw add-one (some_below f path (suc d) (omega arith))

-- ---- a loop from the newest certificate of a path down to the end entity
module _ (f : ℕ → Bool) (path : List ℕ) (depth : ℕ) where
  -- what is left of the path below place k has the whole path's answer
  abbrev pub OnLower : ℕ → Type 0
  OnLower k = some_of f (lower path k) ≡ some_of f (pre path depth)

  pub path_start : OnLower (depth + 1)
  unfolding lower
  path_start = rw (add-one depth)

  below : (k : ℕ) → 0 < k → lower path k ≡ get_or path (k - 1) 0 ∷ lower path (k - 1)
  unfolding lower
  below zero h = absurd (omega arith)
  below (suc k) h = let e : suc k - 1 ≡ k = omega arith in rw e

  pub path_turn : (k : ℕ) {n : ℕ} → 0 < k → n ≡ get_or path (k - 1) 0 → f n ≡ false → OnLower k → OnLower (k - 1)
  unfolding some_of
  path_turn k h a e i =
      let g : some_of f (get_or path (k - 1) 0 ∷ lower path (k - 1)) ≡ some_of f (pre path depth) = rw (below k h) at i in
      rw (← a, e) at g

  pub path_found : (k : ℕ) {n : ℕ} → 0 < k → n ≡ get_or path (k - 1) 0 → f n ≡ true → OnLower k → true ≡ some_of f (pre path depth)
  unfolding some_of
  path_found k h a e i =
      let g : some_of f (get_or path (k - 1) 0 ∷ lower path (k - 1)) ≡ some_of f (pre path depth) = rw (below k h) at i in
      rw (← a, e) at g

  pub path_end : (k : ℕ) → k ≤ 0 → OnLower k → false ≡ some_of f (pre path depth)
  unfolding some_of lower
  path_end zero h i = i
  path_end (suc k) h i = absurd (omega arith)
