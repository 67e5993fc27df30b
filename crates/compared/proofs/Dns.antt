-- THEOREMS: what a comparison of DNS names costs: no more than three looks for each byte of the two, and one. Assumes nothing.
use Prim.Native.Nat.{ℕ, ◌+◌, ◌-◌, ◌*◌, ◌≤◌, ◌<◌}
use mathlib.Core.Path.{◌≡◌, refl, sym, ◌∙◌}
use mathlib.Core.List.{List, [], ◌∷◌, ◌++◌}
use mathlib.Core.Bool.{Bool, true, false, cond}
use mathlib.Core.Logic.{◌⊎◌, inl, inr, ⊎_elim}
use lib.ListN.{length, get_or, drop, length-drop}
use lib.Dec.{ltb, leb, eqb}
use native.Mathlib.Omega.{arith}
use borrow.Author.Tests.{leb-false, eqb-true, eqb-false, ne_eqb, le-leb}
use Rattle.der.proofs.Laws.{lt_or_le}
use Rattle.texts.specs.Bytes.{dot}
use Rattle.labels.specs.Names.{star, digit, letter, capital}
use Rattle.dns.specs.Names.{small}
use Rattle.texts.specs.Model.{begins, from_dot}
use Rattle.labels.specs.Model.{whole, take_byte, on_taken, host_from, host_text, valid_presented, valid_entry}
use Rattle.dns.specs.Model.{tail, in_subtree}
use Rattle.dns.proofs.Texts.{small_keeps}
use Rattle.looks.proofs.Der.{at_most, test_then}
use Rattle.compared.specs.Dns.{begins_looks, text_looks, same_text_looks, from_dot_looks, all_taken, label_looks, host_looks, starred_looks, presented_looks, entry_looks, in_looks, meets_looks, permitted_looks, excluded_looks}

pub not-true : {A : Type 0} → false ≡ true → A
not-true e = let z : ◌≡◌ {A = ℕ} 0 1 = cc in absurd (omega arith)

-- ---- texts
pub begins_few : (h : List ℕ) → (begins_looks h ≤ 1) × (begins_looks h ≤ length h)
unfolding begins_looks
begins_few [] = (omega arith, omega arith)
begins_few (x ∷ xs) = (omega arith, omega arith)

pub begins_some : (h : List ℕ) (b : ℕ) → begins h b ≡ true → 0 < length h
unfolding begins
begins_some [] b e = not-true e
begins_some (x ∷ xs) b e = omega arith

text_few : (x y : List ℕ) → text_looks x y ≤ 2 * length x
unfolding text_looks
text_few [] ys = omega arith
text_few (x ∷ xs) [] = omega arith
text_few (x ∷ xs) (y ∷ ys) =
    let l = text_few xs ys in
    let m : cond (eqb (small x) (small y)) (text_looks xs ys) 0 ≤ 2 * length xs = at_most (eqb (small x) (small y)) (λ e. l) (λ e. omega arith) in
    omega arith

-- two texts of one length: each byte of the two once; other texts: none
pub same_text_few : (x y : List ℕ) → (same_text_looks x y ≤ 2 * length x) × (same_text_looks x y ≤ 2 * length y)
unfolding same_text_looks
same_text_few x y =
    let l = text_few x y in (
      at_most (eqb (length x) (length y)) (λ e. l) (λ e. omega arith),
      at_most (eqb (length x) (length y)) (λ e. omega (arith, eqb-true (length x) (length y) e)) (λ e. omega arith),
    )

pub same_text_none : (x y : List ℕ) → (length x ≡ length y) ⊎ (same_text_looks x y ≡ 0)
unfolding same_text_looks
same_text_none x y = go (eqb (length x) (length y)) refl
  where
    go : (b : Bool) → eqb (length x) (length y) ≡ b → (length x ≡ length y) ⊎ (cond b (text_looks x y) 0 ≡ 0)
    go true e = inl (eqb-true (length x) (length y) e)
    go false e = inr refl

-- up to the first dot, and what is from it on: each byte once, but for the dot
pub from_dot_few : (h : List ℕ) → (from_dot_looks h ≤ length h) × (length (from_dot h) ≤ length h) × (from_dot_looks h + length (from_dot h) ≤ length h + 1)
unfolding from_dot_looks from_dot
from_dot_few [] = (omega arith, omega arith, omega arith)
from_dot_few (x ∷ xs) = go (eqb x dot) (from_dot_few xs)
  where
    go : (b : Bool) → (from_dot_looks xs ≤ length xs) × (length (from_dot xs) ≤ length xs) × (from_dot_looks xs + length (from_dot xs) ≤ length xs + 1)
        → (1 + cond b 0 (from_dot_looks xs) ≤ length (x ∷ xs)) × (length (cond b (x ∷ xs) (from_dot xs)) ≤ length (x ∷ xs)) × ((1 + cond b 0 (from_dot_looks xs)) + length (cond b (x ∷ xs) (from_dot xs)) ≤ length (x ∷ xs) + 1)
    go true l = (omega arith, omega arith, omega arith)
    go false l = (omega arith, omega arith, omega arith)

label_few : (before h : List ℕ) → label_looks before h ≤ length h
unfolding label_looks
label_few before [] = omega arith
label_few before (b ∷ bs) =
    let l = label_few (before ++ (b ∷ [])) bs in
    let m : cond (all_taken (before ++ (b ∷ []))) (label_looks (before ++ (b ∷ [])) bs) 0 ≤ length bs = at_most (all_taken (before ++ (b ∷ []))) (λ e. l) (λ e. omega arith) in
    omega arith

-- each byte once
pub host_few : (h : List ℕ) → host_looks h ≤ length h
unfolding host_looks
host_few h = label_few [] h

-- ---- the three roles
starred_few : (n : List ℕ) → starred_looks n ≤ 2 * length n
unfolding starred_looks
starred_few n =
    let l = from_dot_few n in
    let m : cond (eqb (length (from_dot n)) 0) 0 (host_looks n) ≤ length n = at_most (eqb (length (from_dot n)) 0) (λ e. omega arith) (λ e. host_few n) in
    omega arith

-- without a star: each byte once, and the first again
presented_plain : (h : List ℕ) → begins h star ≡ false → presented_looks h ≤ length h + begins_looks h
unfolding presented_looks
presented_plain h e = rw e (at_most (ltb 253 (length h)) (λ f. omega arith) (λ f. omega (arith, host_few h)))

-- with a star and a dot: these once, and the others twice
presented_starred : (h : List ℕ) → begins h star ≡ true → begins (drop 1 h) dot ≡ true → presented_looks h ≤ 2 * length h - 2
unfolding presented_looks
presented_starred h e f =
    let n = drop 1 (drop 1 h) in
    let k = begins_some h star e in
    let l = begins_some (drop 1 h) dot f in
    let d : length (drop 1 h) ≡ length h - 1 = length-drop 1 h in
    let g : length n ≡ length (drop 1 h) - 1 = length-drop 1 (drop 1 h) in
    rw (e, f) (at_most (ltb 253 (length h)) (λ i. omega arith) (λ i. omega (arith, starred_few n, begins_few h, begins_few (drop 1 h))))

-- what is accepted and begins with a star goes on with a dot
pub dot_after : (h : List ℕ) → begins h star ≡ true → valid_presented h ≡ true → begins (drop 1 h) dot ≡ true
unfolding valid_presented
dot_after h e v = go (ltb 253 (length h)) (begins (drop 1 h) dot) _ (rw e at v)
  where
    go : (b t x : Bool) → cond b false (cond t x false) ≡ true → t ≡ true
    go true t x v = not-true v
    go false true x v = refl
    go false false x v = not-true v

-- each byte twice at most
pub presented_few : (h : List ℕ) → presented_looks h ≤ 2 * length h
unfolding presented_looks
presented_few h =
    let b = begins_few h in
    let c = begins_few (drop 1 h) in
    let d : length (drop 1 h) ≡ length h - 1 = length-drop 1 h in
    let g : length (drop 1 (drop 1 h)) ≡ length (drop 1 h) - 1 = length-drop 1 (drop 1 h) in
    let m : cond (begins h star) (begins_looks (drop 1 h) + cond (begins (drop 1 h) dot) (starred_looks (drop 1 (drop 1 h))) 0) (host_looks h) ≤ 2 * length h - begins_looks h =
    at_most (begins h star)
    (λ e.
    let k = begins_some h star e in
    test_then (begins (drop 1 h) dot) (starred_looks (drop 1 (drop 1 h))) (λ n. begins_looks (drop 1 h) + n ≤ 2 * length h - begins_looks h) (omega arith)
    (λ f. omega (arith, starred_few (drop 1 (drop 1 h)), begins_some (drop 1 h) dot f)))
    (λ e. omega (arith, host_few h)) in
    at_most (ltb 253 (length h)) (λ e. omega arith) (λ e. omega arith)

-- each byte once, and the first again
pub entry_few : (h : List ℕ) → entry_looks h ≤ length h + begins_looks h
unfolding entry_looks
entry_few h =
    let d : length (drop 1 h) ≡ length h - 1 = length-drop 1 h in
    let m : cond (begins h dot) (host_looks (drop 1 h)) (host_looks h) ≤ length h = at_most (begins h dot) (λ e. omega (arith, host_few (drop 1 h))) (λ e. host_few h) in
    at_most (ltb 253 (length h)) (λ e. omega arith) (λ e. at_most (eqb (length h) 0) (λ f. omega arith) (λ f. omega arith))

-- ---- subtrees
pub in_few : (p q : List ℕ) → (in_looks p q ≤ 2 * length p) × (in_looks p q ≤ 2 * length q + 2) × (in_looks p q ≤ 4 * length q)
unfolding in_looks
in_few p q =
    let b = begins_few q in
    let s = same_text_few p q in
    let t = same_text_few (tail p q) q in
    let m : cond (begins q dot) (same_text_looks (tail p q) q) (1 + cond (eqb (get_or p (length p - length q - 1) 0) dot) (same_text_looks (tail p q) q) 0) ≤ 2 * length q + 1 =
    at_most (begins q dot) (λ e. omega arith) (λ e. test_then (eqb (get_or p (length p - length q - 1) 0) dot) (same_text_looks (tail p q) q) (λ n. 1 + n ≤ 2 * length q + 1) (omega arith) (λ f. omega arith)) in (
      at_most (eqb (length q) 0) (λ e. omega arith) (λ e.
          at_most (leb (length p) (length q)) (λ f. s.0) (λ f. omega (arith, leb-false (length p) (length q) f))),
      at_most (eqb (length q) 0) (λ e. omega arith) (λ e.
          at_most (leb (length p) (length q)) (λ f. omega arith) (λ f. omega arith)),
      at_most (eqb (length q) 0) (λ e. omega arith) (λ e.
          let z = eqb-false (length q) 0 e in
          at_most (leb (length p) (length q)) (λ f. omega arith) (λ f. omega arith)),
    )

-- a text that is shorter than the entry is not looked at
pub in_shorter : (p q : List ℕ) → length p < length q → in_looks p q ≤ 0
unfolding in_looks same_text_looks
in_shorter p q l = rw (le-leb (length p) (length q) (omega arith), ne_eqb (length p) (length q) (omega arith)) (at_most (eqb (length q) 0) (λ e. omega arith) (λ e. omega arith))

-- no accepted entry begins with a star
pub entry_no_star : (q : List ℕ) → valid_entry q ≡ true → begins q star ≡ false
unfolding valid_entry host_text host_from on_taken take_byte whole digit letter capital begins
entry_no_star [] v = refl
entry_no_star (x ∷ xs) v = go (eqb x 42) refl
  where
    none : (b : Bool) → cond b false false ≡ true → ⊥
    none true e = not-true e
    none false e = not-true e

    go : (b : Bool) → eqb x 42 ≡ b → b ≡ false
    go true e = absurd (none (ltb 253 (length (x ∷ xs))) (rw (eqb-true x 42 e, ne_eqb (length (x ∷ xs)) 0 (omega arith)) at v))
    go false e = refl

-- the first bytes differ
star_differs : (p q : List ℕ) → begins p star ≡ true → begins q star ≡ false → text_looks p q ≤ 2
unfolding text_looks begins
star_differs [] q e f = omega arith
star_differs (x ∷ xs) [] e f = omega arith
star_differs (x ∷ xs) (y ∷ ys) e f =
    let d : small x ≡ small y → ⊥ = (λ s.
    let g : small x ≡ 42 = eqb-true (small x) 42 (small_keeps x 42 (omega arith) ∙ e) in
    eqb-false (small y) 42 (small_keeps y 42 (omega arith) ∙ f) (sym s ∙ g)) in
    rw (ne_eqb (small x) (small y) d) (omega arith)

pub in_starred : (p q : List ℕ) → begins p star ≡ true → begins q star ≡ false → length p ≤ length q → in_looks p q ≤ 2
unfolding in_looks same_text_looks
in_starred p q e f l =
    rw (le-leb (length p) (length q) l) (
    at_most (eqb (length q) 0) (λ g. omega arith) (λ g.
    at_most (eqb (length p) (length q)) (λ h. star_differs p q e f) (λ h. omega arith)))

-- ---- one entry against one name
-- what an accepted name cost: without a star its bytes and the first again, with a star two less than its bytes twice
pub data Cost (p : List ℕ) : Type 0 where
  plain : begins p star ≡ false → presented_looks p ≤ length p + begins_looks p → Cost p
  starred : begins p star ≡ true → 0 < length p → presented_looks p ≤ 2 * length p - 2 → Cost p

pub cost : (p : List ℕ) → valid_presented p ≡ true → Cost p
cost p v = go (begins p star) refl
  where
    go : (t : Bool) → begins p star ≡ t → Cost p
    go true e = starred e (begins_some p star e) (presented_starred p e (dot_after p e v))
    go false e = plain e (presented_plain p e)

-- no more than three looks for each byte of the two
pub permitted_few : (p q : List ℕ) → permitted_looks p q ≤ 3 * length p + 3 * length q
unfolding permitted_looks
permitted_few p q =
    let a = presented_few p in
    test_then (valid_presented p) _ (λ n. presented_looks p + n ≤ 3 * length p + 3 * length q) (omega arith) (λ v. by (cost p v))
  where
    by : Cost p → presented_looks p + (entry_looks q + cond (valid_entry q) (in_looks p q) 0) ≤ 3 * length p + 3 * length q
    by (plain e l) =
        let m : cond (valid_entry q) (in_looks p q) 0 ≤ in_looks p q = at_most (valid_entry q) (λ w. omega arith) (λ w. omega arith) in
        omega (arith, begins_few p, begins_few q, entry_few q, in_few p q)
    by (starred e k l) =
        let m : cond (valid_entry q) (in_looks p q) 0 ≤ in_looks p q = at_most (valid_entry q) (λ w. omega arith) (λ w. omega arith) in
        omega (arith, begins_few q, entry_few q, in_few p q)

-- what a star that meets no subtree costs beside
starred_meets : (p q : List ℕ) → begins p star ≡ true → valid_entry q ≡ true → 0 < length p
    → in_looks p q + (begins_looks p + (from_dot_looks (drop 1 q) + same_text_looks (drop 1 p) (from_dot (drop 1 q)))) ≤ length p + 2 * length q + 2
starred_meets p q e v l =
    let b = begins_few p in
    let d : length (drop 1 p) ≡ length p - 1 = length-drop 1 p in
    let f : length (drop 1 q) ≡ length q - 1 = length-drop 1 q in
    let g = from_dot_few (drop 1 q) in
    let s = same_text_few (drop 1 p) (from_dot (drop 1 q)) in
    let i = in_few p q in
    ⊎_elim
    (λ (n : length (drop 1 p) ≡ length (from_dot (drop 1 q))). ⊎_elim
    (λ (k : length q < length p). omega arith)
    (λ (k : length p ≤ length q). omega (arith, in_starred p q e (entry_no_star q v) k))
    (lt_or_le (length q) (length p)))
    (λ (n : same_text_looks (drop 1 p) (from_dot (drop 1 q)) ≡ 0). ⊎_elim
    (λ (k : length p < length q). omega (arith, in_shorter p q k))
    (λ (k : length q ≤ length p). omega arith)
    (lt_or_le (length p) (length q)))
    (same_text_none (drop 1 p) (from_dot (drop 1 q)))

-- what `meets_subtree` costs: without a star a look at the first byte more
pub plain_meets : (p q : List ℕ) → begins p star ≡ false → meets_looks p q ≤ in_looks p q + begins_looks p
unfolding meets_looks
plain_meets p q e = rw e (go (in_subtree p q))
  where
    go : (t : Bool) → in_looks p q + cond t 0 (begins_looks p + 0) ≤ in_looks p q + begins_looks p
    go true = omega arith
    go false = omega arith

star_meets : (p q : List ℕ) → begins p star ≡ true → valid_entry q ≡ true → 0 < length p → meets_looks p q ≤ length p + 2 * length q + 2
unfolding meets_looks
star_meets p q e v l = rw e (go (in_subtree p q) (starred_meets p q e v l))
  where
    go : (t : Bool) {m : ℕ} → in_looks p q + (begins_looks p + (from_dot_looks (drop 1 q) + same_text_looks (drop 1 p) (from_dot (drop 1 q)))) ≤ m
        → in_looks p q + cond t 0 (begins_looks p + (from_dot_looks (drop 1 q) + same_text_looks (drop 1 p) (from_dot (drop 1 q)))) ≤ m
    go true h = omega arith
    go false h = h

-- no more than three looks for each byte of the two, and one
pub excluded_few : (p q : List ℕ) → excluded_looks p q ≤ 3 * length p + 3 * length q + 1
unfolding excluded_looks
excluded_few p q =
    let a = presented_few p in
    test_then (valid_presented p) _ (λ n. presented_looks p + n ≤ 3 * length p + 3 * length q + 1) (omega arith) (λ v. by (cost p v))
  where
    by : Cost p → presented_looks p + (entry_looks q + cond (valid_entry q) (meets_looks p q) 0) ≤ 3 * length p + 3 * length q + 1
    by (plain e l) =
        let b = begins_few p in
        test_then (valid_entry q) (meets_looks p q) (λ n. presented_looks p + (entry_looks q + n) ≤ 3 * length p + 3 * length q + 1)
        (omega (arith, begins_few q, entry_few q)) (λ v. omega (arith, begins_few q, entry_few q, in_few p q, plain_meets p q e))
    by (starred e k l) =
        test_then (valid_entry q) (meets_looks p q) (λ n. presented_looks p + (entry_looks q + n) ≤ 3 * length p + 3 * length q + 1)
        (omega (arith, begins_few q, entry_few q)) (λ v. omega (arith, begins_few q, entry_few q, star_meets p q e v k))
