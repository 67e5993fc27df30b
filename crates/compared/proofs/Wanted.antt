-- THEOREMS: what it costs to look for the wanted name among the end entity's names. Assumes nothing.
use Prim.Native.Nat.{ℕ, ◌+◌, ◌-◌, ◌*◌, ◌≤◌, ◌<◌}
use mathlib.Core.Path.{◌≡◌, refl, sym}
use mathlib.Core.List.{List, [], ◌∷◌}
use mathlib.Core.Bool.{Bool, true, false, cond}
use mathlib.Core.Logic.{⊎_elim}
use lib.ListN.{length, get_or, take, drop, length-take, length-drop}
use lib.Dec.{ltb, eqb}
use native.Mathlib.Nat.{add-mul, mul-le-mul_left, mul-le-mul_right}
use native.Mathlib.Omega.{arith}
use borrow.Author.Tests.{lt-ltb, eqb-true, eqb-false}
use Rattle.der.specs.Places.{part}
use Rattle.der.proofs.Laws.{lt_or_le}
use Rattle.der.proofs.Parts.{part_length}
use Rattle.looks.specs.Der.{same_looks, value_looks}
use Rattle.looks.proofs.Der.{at_most, value_few, test_then, walk_keeps}
use Rattle.texts.specs.Bytes.{dot}
use Rattle.labels.specs.Names.{star}
use Rattle.texts.specs.Model.{begins, relative_text, from_dot}
use Rattle.labels.specs.Model.{whole, take_byte, on_taken, host_from, host_text, valid_starred, valid_presented, valid_wanted}
use Rattle.names.specs.General.{dns_name, ip_address}
use Rattle.ip.specs.Model.{neither}
use Rattle.names.specs.Model.{general_name, is_wanted}
use Rattle.compared.specs.Dns.{begins_looks, same_text_looks, relative_looks, presented_looks, wanted_looks, stands_looks, match_wanted_looks}
use Rattle.compared.specs.Names.{address_looks, fit_looks, try_looks, good_looks, good_dns_looks, good_ip_looks}
use Rattle.compared.proofs.Dns.{Cost, plain, starred, not-true, cost, dot_after, begins_few, same_text_few, same_text_none, from_dot_few, host_few, presented_few}
use Rattle.compared.proofs.Names.{address_few}
use Rattle.compared.proofs.Entries.{name_then, name_cost}

-- ---- a DNS name
relative_few : (h : List ℕ) → (relative_looks h ≤ 1) × (relative_looks h ≤ length h)
unfolding relative_looks
relative_few h = (
  at_most (eqb (length h) 0) (λ e. omega arith) (λ e. omega arith),
  at_most (eqb (length h) 0) (λ e. omega arith) (λ e. omega (arith, eqb-false (length h) 0 e)),
)

relative_shorter : (h : List ℕ) → length (relative_text h) ≤ length h
unfolding relative_text
relative_shorter h = go (eqb (length h) 0) (eqb (get_or h (length h - 1) 0) dot)
  where
    go : (b c : Bool) → length (cond b h (cond c (take (length h - 1) h) h)) ≤ length h
    go true c = omega arith
    go false true = simp length-take (omega arith)
    go false false = omega arith

-- each byte once, and the last again
pub wanted_few : (h : List ℕ) → wanted_looks h ≤ length h + relative_looks h
unfolding wanted_looks
wanted_few h = at_most (ltb 253 (length h)) (λ e. omega arith) (λ e. omega (arith, host_few (relative_text h), relative_shorter h))

stands_plain : (p q : List ℕ) → begins p star ≡ false → stands_looks p q ≤ begins_looks p + same_text_looks p q
unfolding stands_looks
stands_plain p q e = rw e (omega arith)

stands_starred : (p q : List ℕ) → begins p star ≡ true → 0 < length p → stands_looks p q ≤ 1 + (length p + length q)
unfolding stands_looks
stands_starred p q e l =
    let b = begins_few p in
    let d : length (drop 1 p) ≡ length p - 1 = length-drop 1 p in
    let f = from_dot_few q in
    let s = same_text_few (drop 1 p) (from_dot q) in
    rw e (
    ⊎_elim
    (λ (n : length (drop 1 p) ≡ length (from_dot q)). omega arith)
    (λ (n : same_text_looks (drop 1 p) (from_dot q) ≡ 0). omega arith)
    (same_text_none (drop 1 p) (from_dot q)))

-- no more than three looks for each byte of the presented name, two for each of the wanted one, and three
pub match_wanted_few : (p q : List ℕ) → match_wanted_looks p q ≤ 3 * length p + 2 * length q + 3
unfolding match_wanted_looks
match_wanted_few p q =
    let a = presented_few p in
    test_then (valid_presented p) _ (λ n. presented_looks p + n ≤ 3 * length p + 2 * length q + 3) (omega arith) (λ v. by (cost p v))
  where
    by : Cost p → presented_looks p + (wanted_looks q + cond (valid_wanted q) (relative_looks q + stands_looks p (relative_text q)) 0) ≤ 3 * length p + 2 * length q + 3
    by (plain e l) =
        let b = begins_few p in
        test_then (valid_wanted q) _ (λ n. presented_looks p + (wanted_looks q + n) ≤ 3 * length p + 2 * length q + 3)
        (omega (arith, wanted_few q, relative_few q)) (λ v. omega (arith, wanted_few q, relative_few q, relative_shorter q, stands_plain p (relative_text q) e, same_text_few p (relative_text q)))
    by (starred e k l) =
        test_then (valid_wanted q) _ (λ n. presented_looks p + (wanted_looks q + n) ≤ 3 * length p + 2 * length q + 3)
        (omega (arith, wanted_few q, relative_few q)) (λ v. omega (arith, wanted_few q, relative_few q, relative_shorter q, stands_starred p (relative_text q) e k))

-- ---- an address
-- no more than two looks for each byte of the presented one
address_own : (p q : List ℕ) → address_looks p q ≤ 2 * length p
unfolding address_looks same_looks
address_own p q = go (eqb (length p) (length q)) refl
  where
    go : (b : Bool) → eqb (length p) (length q) ≡ b → address_looks p q ≤ 2 * length p
    go true e = omega (arith, address_few p q, eqb-true (length p) (length q) e)
    go false e =
        at_most (neither (length p) 4 16) (λ f. omega arith) (λ f.
        at_most (ltb (length p) 0) (λ g. omega arith) (λ g.
        at_most (ltb (length p) (length p)) (λ h. omega arith) (λ h.
        at_most (ltb (length q) 0) (λ i. omega arith) (λ i.
        at_most (ltb (length q) (length q)) (λ j. omega arith) (λ j.
        at_most (eqb (length p - 0) (length q - 0)) (λ k. absurd (eqb-false (length p) (length q) e (omega (arith, eqb-true (length p - 0) (length q - 0) k)))) (λ k. omega arith))))))

-- ---- all names
-- a name that is accepted has a byte, and with a star four or more
presented_some : (p : List ℕ) → valid_presented p ≡ true → 0 < length p
unfolding valid_presented begins host_text host_from
presented_some [] v = not-true v
presented_some (x ∷ xs) v = omega arith

starred_two : (n : List ℕ) → valid_starred n ≡ true → 2 ≤ length n
unfolding valid_starred from_dot host_text host_from on_taken take_byte whole
starred_two [] v = not-true v
starred_two (x ∷ []) v = go (eqb x 46) refl v
  where
    go : (b : Bool) → eqb x 46 ≡ b → cond (eqb (length (cond b (x ∷ []) [])) 0) false (host_text (x ∷ [])) ≡ true → 2 ≤ length (x ∷ [])
    go true e v = not-true (rw (eqb-true x 46 e) at v)
    go false e v = not-true v
starred_two (x ∷ (y ∷ ys)) v = omega arith

starred_four : (p : List ℕ) → begins p star ≡ true → valid_presented p ≡ true → 4 ≤ length p
unfolding valid_presented
starred_four p e v =
    let d : length (drop 1 p) ≡ length p - 1 = length-drop 1 p in
    let g : length (drop 1 (drop 1 p)) ≡ length (drop 1 p) - 1 = length-drop 1 (drop 1 p) in
    omega (arith, starred_two (drop 1 (drop 1 p)) (go (ltb 253 (length p)) (rw (e, dot_after p e v) at v)))
  where
    go : (b : Bool) → cond b false (valid_starred (drop 1 (drop 1 p))) ≡ true → valid_starred (drop 1 (drop 1 p)) ≡ true
    go true v = not-true v
    go false v = v

-- three times the looks: nine for each byte that is presented and twelve, and for each byte that is wanted one for each that is presented and two
share : (p q : List ℕ) → 3 * match_wanted_looks p q ≤ 9 * length p + length p * length q + 2 * length q + 12
unfolding match_wanted_looks
share p q =
    let a = presented_few p in
    test_then (valid_presented p) _ (λ n. 3 * (presented_looks p + n) ≤ 9 * length p + length p * length q + 2 * length q + 12) (omega arith) (λ v. by v (cost p v))
  where
    by : valid_presented p ≡ true → Cost p
        → 3 * (presented_looks p + (wanted_looks q + cond (valid_wanted q) (relative_looks q + stands_looks p (relative_text q)) 0)) ≤ 9 * length p + length p * length q + 2 * length q + 12
    by v (plain e l) =
        let b = begins_few p in
        let m = mul-le-mul_right {m = 1} {n = length p} (length q) (presented_some p v) in
        test_then (valid_wanted q) _ (λ n. 3 * (presented_looks p + (wanted_looks q + n)) ≤ 9 * length p + length p * length q + 2 * length q + 12)
        (omega (arith, wanted_few q, relative_few q)) (λ w. omega (arith, wanted_few q, relative_few q, stands_plain p (relative_text q) e, same_text_few p (relative_text q)))
    by v (starred e k l) =
        let m = mul-le-mul_right {m = 4} {n = length p} (length q) (starred_four p e v) in
        test_then (valid_wanted q) _ (λ n. 3 * (presented_looks p + (wanted_looks q + n)) ≤ 9 * length p + length p * length q + 2 * length q + 12)
        (omega (arith, wanted_few q, relative_few q)) (λ w. omega (arith, wanted_few q, relative_few q, relative_shorter q, stands_starred p (relative_text q) e k))

fit_few : (kind : ℕ) (content : List ℕ) (sought : ℕ) (wanted : List ℕ) → 3 * fit_looks kind content sought wanted ≤ 9 * length content + length content * length wanted + 2 * length wanted + 12
unfolding fit_looks
fit_few kind content sought wanted = go (eqb kind sought) (eqb kind dns_name)
  where
    go : (b c : Bool) → 3 * cond b (cond c (match_wanted_looks content wanted) (address_looks content wanted)) 0 ≤ 9 * length content + length content * length wanted + 2 * length wanted + 12
    go true true = share content wanted
    go true false = omega (arith, address_own content wanted)
    go false c = omega arith

-- a name has two bytes or more before its content
try_few : (s : List ℕ) (at to sought : ℕ) (wanted : List ℕ) (k : ℕ → ℕ) → ((next : ℕ) → 3 * k next ≤ 9 * (to - next) + (to - next) * length wanted)
    → 3 * try_looks s at to sought wanted k ≤ 9 * (to - at) + (to - at) * length wanted
unfolding try_looks
try_few s at to sought wanted k after =
    let v = value_few s at to in
    name_then (general_name s at to) _ (λ n. 3 * (value_looks s at to + n) ≤ 9 * (to - at) + (to - at) * length wanted) (omega arith) (λ kind start end e.
    let h = name_cost s at to kind start end e in
    let n = length (part s start end) in
    let f = fit_few kind (part s start end) sought wanted in
    let l = part_length s start end (omega (arith, h.inside, h.within)) in
    let m = mul-le-mul_right {m = n + 2} {n = end - at} (length wanted) (omega (arith, h.after, h.ordered)) in
    let c = add-mul n 2 (length wanted) in
    let d = add-mul (end - at) (to - end) (length wanted) in
    let q : (end - at) + (to - end) ≡ to - at = omega (arith, h.after, h.ordered, h.inside) in
    let r : (to - at) * length wanted ≡ (end - at) * length wanted + (to - end) * length wanted = rw (sym q) d in
    let g : 3 * cond (is_wanted s kind start end sought wanted) 0 (k end) ≤ 9 * (to - end) + (to - end) * length wanted = rest (is_wanted s kind start end sought wanted) end in
    omega (arith, h.cost, h.after, h.ordered, h.inside))
  where
    rest : (b : Bool) (end : ℕ) → 3 * cond b 0 (k end) ≤ 9 * (to - end) + (to - end) * length wanted
    rest true end = omega arith
    rest false end = after end

-- no more than a third of the wanted name's bytes, and three, for each byte of the names
pub good_few : (s : List ℕ) (from to sought : ℕ) (wanted : List ℕ) → 3 * good_looks s from to sought wanted ≤ 9 * (to - from) + (to - from) * length wanted
unfolding good_looks
good_few s from to sought wanted =
    walk_keeps to _ _ (λ at n. 3 * n ≤ 9 * (to - at) + (to - at) * length wanted) (λ at u. omega arith)
    (λ at u k l after. try_few s at to sought wanted (λ next. k next u) (λ next. after next u)) from tt

wanted_long : (s : List ℕ) (from to : ℕ) (wanted : List ℕ) → 253 < length wanted → good_dns_looks s from to wanted ≡ 0
unfolding good_dns_looks wanted_looks valid_wanted
wanted_long s from to wanted l = rw (lt-ltb 253 (length wanted) l) refl

-- the wanted name is tested once before
pub good_dns_few : (s : List ℕ) (from to : ℕ) (wanted : List ℕ) → 3 * good_dns_looks s from to wanted ≤ 3 * length wanted + 3 + 9 * (to - from) + (to - from) * length wanted
unfolding good_dns_looks
good_dns_few s from to wanted =
    test_then (valid_wanted wanted) (good_looks s from to dns_name wanted) (λ n. 3 * (wanted_looks wanted + n) ≤ 3 * length wanted + 3 + 9 * (to - from) + (to - from) * length wanted)
    (omega (arith, wanted_few wanted, relative_few wanted)) (λ v. omega (arith, wanted_few wanted, relative_few wanted, good_few s from to dns_name wanted))

-- whatever the wanted name's length: one of more than 253 bytes is not looked at
pub good_dns_most : (s : List ℕ) (from to : ℕ) (wanted : List ℕ) → 3 * good_dns_looks s from to wanted ≤ 762 + 262 * (to - from)
good_dns_most s from to wanted =
    ⊎_elim
    (λ (l : 253 < length wanted). omega (arith, wanted_long s from to wanted l))
    (λ (l : length wanted ≤ 253).
    let m = mul-le-mul_left {m = length wanted} {n = 253} (to - from) l in
    omega (arith, good_dns_few s from to wanted))
    (lt_or_le 253 (length wanted))

-- ---- an address among them: no more than two looks for each byte of the names
own_few : (kind : ℕ) (content wanted : List ℕ) → fit_looks kind content ip_address wanted ≤ 2 * length content
unfolding fit_looks
own_few kind content wanted =
    at_most (eqb kind ip_address)
    (λ e. at_most (eqb kind dns_name) (λ f. absurd (let k = eqb-true kind 135 e in let l = eqb-true kind 130 f in omega arith)) (λ f. address_own content wanted))
    (λ e. omega arith)

try_own : (s : List ℕ) (at to : ℕ) (wanted : List ℕ) (k : ℕ → ℕ) → ((next : ℕ) → k next ≤ 2 * (to - next)) → try_looks s at to ip_address wanted k ≤ 2 * (to - at)
unfolding try_looks
try_own s at to wanted k after =
    let v = value_few s at to in
    name_then (general_name s at to) _ (λ n. value_looks s at to + n ≤ 2 * (to - at)) (omega arith) (λ kind start end e.
    let h = name_cost s at to kind start end e in
    let f = own_few kind (part s start end) wanted in
    let l = part_length s start end (omega (arith, h.inside, h.within)) in
    let g : cond (is_wanted s kind start end ip_address wanted) 0 (k end) ≤ 2 * (to - end) = at_most (is_wanted s kind start end ip_address wanted) (λ w. omega arith) (λ w. after end) in
    omega (arith, h.cost, h.after, h.ordered, h.inside))

pub good_ip_few : (s : List ℕ) (from to : ℕ) (wanted : List ℕ) → good_ip_looks s from to wanted ≤ 2 * (to - from)
unfolding good_ip_looks good_looks
good_ip_few s from to wanted =
    walk_keeps to _ _ (λ at n. n ≤ 2 * (to - at)) (λ at u. omega arith)
    (λ at u k l after. try_own s at to wanted (λ next. k next u) (λ next. after next u)) from tt
