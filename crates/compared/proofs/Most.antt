-- THEOREMS: what a comparison of DNS names costs, whatever their lengths: no more than 1139 looks. Assumes nothing.
use Prim.Native.Nat.{ℕ, ◌+◌, ◌-◌, ◌*◌, ◌≤◌, ◌<◌}
use mathlib.Core.Path.{◌≡◌, refl, sym, ◌∙◌}
use mathlib.Core.List.{List, [], ◌∷◌}
use mathlib.Core.Bool.{Bool, true, false, cond, not, ◌&&◌}
use mathlib.Core.Logic.{◌⊎◌, inl, inr, ⊎_elim}
use lib.ListN.{length, get_or, drop, length-drop}
use lib.Dec.{ltb, leb, eqb}
use native.Mathlib.Omega.{arith}
use borrow.Author.Tests.{lt-ltb, lt-leb, leb-true, eqb-true, ne_eqb}
use Rattle.der.proofs.Laws.{lt_or_le}
use Rattle.looks.proofs.Der.{at_most, test_then}
use Rattle.texts.specs.Bytes.{dot}
use Rattle.labels.specs.Names.{Labels, star, hyphen, digit, label_byte, every, last_of, longer, labels, good_label, host_name}
use Rattle.texts.specs.Model.{begins, from_dot}
use Rattle.labels.specs.Model.{host_text, valid_starred, valid_presented, valid_entry}
use Rattle.dns.specs.Model.{tail, in_subtree}
use Rattle.dns.proofs.Texts.{both}
use Rattle.labels.proofs.Valid.{host_text_lem}
use Rattle.compared.specs.Dns.{begins_looks, same_text_looks, from_dot_looks, host_looks, starred_looks, presented_looks, entry_looks, in_looks, meets_looks, permitted_looks, excluded_looks}
use Rattle.compared.proofs.Dns.{Cost, plain, starred, not-true, cost, begins_few, begins_some, same_text_few, same_text_none, from_dot_few, host_few, presented_few, entry_few, in_few, in_starred, entry_no_star, dot_after, plain_meets}

-- ---- a label has no more than 63 bytes: the first dot of a name is among its first 64
longer_first : (b : ℕ) (ls : Labels) → length (get_or (longer b ls) 0 []) ≡ length (get_or ls 0 []) + 1
unfolding longer
longer_first b [] = refl
longer_first b (l ∷ ls) = omega arith

dot_first : (h : List ℕ) → from_dot_looks h ≤ length (get_or (labels h) 0 []) + 1
unfolding from_dot_looks labels
dot_first [] = omega arith
dot_first (b ∷ bs) = go (eqb b dot) (dot_first bs)
  where
    go : (t : Bool) → from_dot_looks bs ≤ length (get_or (labels bs) 0 []) + 1
        → 1 + cond t 0 (from_dot_looks bs) ≤ length (get_or (cond t ([] ∷ labels bs) (longer b (labels bs))) 0 []) + 1
    go true h = omega arith
    go false h = omega (arith, longer_first b (labels bs))

first_label : (ls : Labels) → host_name ls ≡ true → length (get_or ls 0 []) ≤ 63
unfolding host_name every good_label
first_label [] e = omega arith
first_label (l ∷ ls) e =
    let more = every label_byte l && (not (eqb (get_or l 0 0) hyphen) && not (eqb (last_of 0 l) hyphen)) in
    let a = both (every good_label (l ∷ ls)) (not (every digit (last_of [] (l ∷ ls)))) e in
    let b = both (good_label l) (every good_label ls) a.0 in
    let c = both (ltb 0 (length l)) (leb (length l) 63 && more) b.0 in
    leb-true (length l) 63 (both (leb (length l) 63) more c.1).0

host_dot : (h : List ℕ) → host_text h ≡ true → from_dot_looks h ≤ 64
host_dot h e = omega (arith, dot_first h, first_label (labels h) (sym (host_text_lem h) ∙ e))

-- ---- an accepted name with a star, and an accepted entry
starred_name : (h : List ℕ) → begins h star ≡ true → valid_presented h ≡ true → host_text (drop 1 (drop 1 h)) ≡ true
unfolding valid_presented valid_starred
starred_name h e v = go (ltb 253 (length h)) (eqb (length (from_dot (drop 1 (drop 1 h)))) 0) (rw (e, dot_after h e v) at v)
  where
    go : (b c : Bool) → cond b false (cond c false (host_text (drop 1 (drop 1 h)))) ≡ true → host_text (drop 1 (drop 1 h)) ≡ true
    go true c v = not-true v
    go false true v = not-true v
    go false false v = v

starred_most : (h : List ℕ) → begins h star ≡ true → valid_presented h ≡ true → presented_looks h ≤ length h + 64
unfolding presented_looks starred_looks
starred_most h e v =
    let n = drop 1 (drop 1 h) in
    let f = dot_after h e v in
    let k = begins_some (drop 1 h) dot f in
    let d : length (drop 1 h) ≡ length h - 1 = length-drop 1 h in
    let g : length n ≡ length (drop 1 h) - 1 = length-drop 1 (drop 1 h) in
    let m : cond (eqb (length (from_dot n)) 0) 0 (host_looks n) ≤ length n = at_most (eqb (length (from_dot n)) 0) (λ i. omega arith) (λ i. host_few n) in
    let w = host_dot n (starred_name h e v) in
    rw (e, f) (at_most (ltb 253 (length h)) (λ i. omega arith) (λ i. omega (arith, begins_few h, begins_few (drop 1 h))))

entry_dot : (q : List ℕ) → valid_entry q ≡ true → from_dot_looks (drop 1 q) ≤ 64
unfolding valid_entry begins from_dot_looks
entry_dot [] v = omega arith
entry_dot (x ∷ xs) v = go (ltb 253 (length (x ∷ xs))) (eqb x 46) refl (rw (ne_eqb (length (x ∷ xs)) 0 (omega arith)) at v)
  where
    plainly : eqb x 46 ≡ false → from_dot_looks (x ∷ xs) ≤ 64 → from_dot_looks xs ≤ 64
    plainly e l = let m : 1 + from_dot_looks xs ≤ 64 = rw e at l in omega arith

    go : (b c : Bool) → eqb x 46 ≡ c → cond b false (cond c (host_text xs) (host_text (x ∷ xs))) ≡ true → from_dot_looks xs ≤ 64
    go true c e v = not-true v
    go false true e v = host_dot xs v
    go false false e v = plainly e (host_dot (x ∷ xs) v)

-- ---- an entry that is shorter than the name
entry_dotted : (q : List ℕ) → begins q dot ≡ true → entry_looks q ≤ length q
unfolding entry_looks
entry_dotted q e =
    let k = begins_some q dot e in
    let d : length (drop 1 q) ≡ length q - 1 = length-drop 1 q in
    rw e (at_most (ltb 253 (length q)) (λ f. omega arith) (λ f. at_most (eqb (length q) 0) (λ g. omega arith) (λ g. omega (arith, begins_few q, host_few (drop 1 q)))))

in_dotted : (p q : List ℕ) → begins q dot ≡ true → length q < length p → in_looks p q ≤ 2 * length q + 1
unfolding in_looks
in_dotted p q e l = rw (e, lt-leb (length p) (length q) l) (at_most (eqb (length q) 0) (λ f. omega arith) (λ f. omega (arith, begins_few q, same_text_few (tail p q) q)))

-- the star is no dot before the entry
star_first : (p : List ℕ) → begins p star ≡ true → eqb (get_or p 0 0) dot ≡ false
unfolding begins
star_first [] e = not-true e
star_first (x ∷ xs) e = let f = eqb-true x 42 e in rw f refl

in_beside : (p q : List ℕ) → begins p star ≡ true → begins q dot ≡ false → length p ≡ length q + 1 → in_looks p q ≤ 2
unfolding in_looks
in_beside p q e f l =
    let z : length p - length q - 1 ≡ 0 = omega arith in
    rw (f, lt-leb (length p) (length q) (omega arith), z, star_first p e) (at_most (eqb (length q) 0) (λ g. omega arith) (λ g. omega (arith, begins_few q)))

-- an entry that is shorter than a name with a star, of no more than 253 bytes
shorter_most : (p q : List ℕ) → begins p star ≡ true → length q < length p → length p ≤ 253 → entry_looks q + in_looks p q ≤ 757
shorter_most p q e l s = go (begins q dot) refl (lt_or_le (length q + 1) (length p))
  where
    go : (t : Bool) → begins q dot ≡ t → (length q + 1 < length p) ⊎ (length p ≤ length q + 1) → entry_looks q + in_looks p q ≤ 757
    go true f c = omega (arith, entry_dotted q f, in_dotted p q f l)
    go false f (inl c) = omega (arith, begins_few q, entry_few q, in_few p q)
    go false f (inr c) = omega (arith, begins_few q, entry_few q, in_beside p q e f (omega arith))

-- ---- names and entries of no more than 253 bytes
star_last : (p q : List ℕ) → begins p star ≡ true → meets_looks p q ≤ in_looks p q + (begins_looks p + (from_dot_looks (drop 1 q) + same_text_looks (drop 1 p) (from_dot (drop 1 q))))
unfolding meets_looks
star_last p q e = rw e (go (in_subtree p q))
  where
    go : (t : Bool)
        → in_looks p q + cond t 0 (begins_looks p + (from_dot_looks (drop 1 q) + same_text_looks (drop 1 p) (from_dot (drop 1 q)))) ≤ in_looks p q + (begins_looks p + (from_dot_looks (drop 1 q) + same_text_looks (drop 1 p) (from_dot (drop 1 q))))
    go true = omega arith
    go false = omega arith

-- 1139 in all, and 1079 where the entry is no shorter than the name
starred_all : (p q : List ℕ) → begins p star ≡ true → valid_presented p ≡ true → valid_entry q ≡ true → length p ≤ 253 → length q ≤ 253
    → (presented_looks p + (entry_looks q + meets_looks p q) ≤ 1139) × (length p ≤ length q → presented_looks p + (entry_looks q + meets_looks p q) ≤ 1079)
starred_all p q e v w l m =
    let a = starred_most p e v in
    let b = begins_few p in
    let c = begins_few q in
    let f = entry_few q in
    let d : length (drop 1 p) ≡ length p - 1 = length-drop 1 p in
    let g : length (drop 1 q) ≡ length q - 1 = length-drop 1 q in
    let h = from_dot_few (drop 1 q) in
    let s = same_text_few (drop 1 p) (from_dot (drop 1 q)) in
    let k = begins_some p star e in
    let n = star_last p q e in
    let long : length p ≤ length q → presented_looks p + (entry_looks q + meets_looks p q) ≤ 1079 = (λ i.
    let j = in_starred p q e (entry_no_star q w) i in
    ⊎_elim
    (λ (r : length (drop 1 p) ≡ length (from_dot (drop 1 q))). omega arith)
    (λ (r : same_text_looks (drop 1 p) (from_dot (drop 1 q)) ≡ 0). omega arith)
    (same_text_none (drop 1 p) (from_dot (drop 1 q)))) in
    let all : presented_looks p + (entry_looks q + meets_looks p q) ≤ 1139 =
    ⊎_elim
    (λ (i : length q < length p).
    let j = shorter_most p q e i l in
    let x = entry_dot q w in
    ⊎_elim
    (λ (r : length (drop 1 p) ≡ length (from_dot (drop 1 q))). omega arith)
    (λ (r : same_text_looks (drop 1 p) (from_dot (drop 1 q)) ≡ 0). omega arith)
    (same_text_none (drop 1 p) (from_dot (drop 1 q))))
    (λ (i : length p ≤ length q). omega (arith, long i))
    (lt_or_le (length q) (length p)) in
    (all, long)

-- no more than 1139 looks, and 1079 where the entry has more than 252 bytes
pub record Most (n : ℕ) (q : List ℕ) : Type 0 where
  pub all : n ≤ 1139
  pub long : 252 < length q → n ≤ 1079

few : (n : ℕ) (q : List ℕ) → n ≤ 1079 → Most n q
few n q h = record { all = omega arith; long = λ l. h }

accepted_most : (p q : List ℕ) → valid_presented p ≡ true → valid_entry q ≡ true → length p ≤ 253 → length q ≤ 253 → Most (presented_looks p + (entry_looks q + meets_looks p q)) q
accepted_most p q v w l m = go (cost p v)
  where
    go : Cost p → Most (presented_looks p + (entry_looks q + meets_looks p q)) q
    go (plain e c) = few _ q (omega (arith, begins_few p, begins_few q, entry_few q, in_few p q, plain_meets p q e))
    go (starred e k c) =
        let a = starred_all p q e v w l m in
        record { all = a.0; long = λ i. a.1 (omega arith) }

-- ---- whatever the lengths: a text of more than 253 bytes is not looked at
presented_most : (p : List ℕ) → presented_looks p ≤ 506
unfolding presented_looks
presented_most p = ⊎_elim (λ (l : 253 < length p). rw (lt-ltb 253 (length p) l) (omega arith)) (λ (l : length p ≤ 253). omega (arith, presented_few p)) (lt_or_le 253 (length p))

entry_most : (q : List ℕ) → entry_looks q ≤ 254
unfolding entry_looks
entry_most q = ⊎_elim (λ (l : 253 < length q). rw (lt-ltb 253 (length q) l) (omega arith)) (λ (l : length q ≤ 253). omega (arith, entry_few q, begins_few q)) (lt_or_le 253 (length q))

presented_short : (p : List ℕ) → valid_presented p ≡ true → length p ≤ 253
unfolding valid_presented
presented_short p v = ⊎_elim (λ (l : 253 < length p). not-true (rw (lt-ltb 253 (length p) l) at v)) (λ (l : length p ≤ 253). l) (lt_or_le 253 (length p))

entry_short : (q : List ℕ) → valid_entry q ≡ true → length q ≤ 253
unfolding valid_entry
entry_short q v = ⊎_elim (λ (l : 253 < length q). not-true (rw (lt-ltb 253 (length q) l) at v)) (λ (l : length q ≤ 253). l) (lt_or_le 253 (length q))

either_most : (p q : List ℕ) (n : ℕ) → n ≤ meets_looks p q → Most (presented_looks p + cond (valid_presented p) (entry_looks q + cond (valid_entry q) n 0) 0) q
either_most p q n h =
    let a = presented_most p in
    let b = entry_most q in
    test_then (valid_presented p) _ (λ k. Most (presented_looks p + k) q) (few _ q (omega arith)) (λ v.
    test_then (valid_entry q) n (λ k. Most (presented_looks p + (entry_looks q + k)) q) (few _ q (omega arith)) (λ w.
    let c = accepted_most p q v w (presented_short p v) (entry_short q w) in
    record { all = omega (arith, c.all); long = λ l. omega (arith, c.long l) }))

in_meets : (p q : List ℕ) → in_looks p q ≤ meets_looks p q
unfolding meets_looks
in_meets p q = omega arith

pub permitted_most : (p q : List ℕ) → Most (permitted_looks p q) q
unfolding permitted_looks
permitted_most p q = either_most p q (in_looks p q) (in_meets p q)

pub excluded_most : (p q : List ℕ) → Most (excluded_looks p q) q
unfolding excluded_looks
excluded_most p q = either_most p q (meets_looks p q) (omega arith)
