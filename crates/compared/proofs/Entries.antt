-- THEOREMS: what an entry costs, and a list of them, by the comparisons that it takes. Assumes nothing.
use Prim.Native.Nat.{ℕ, zero, suc, ◌+◌, ◌-◌, ◌*◌, ◌≤◌, ◌<◌}
use mathlib.Core.Path.{◌≡◌, refl}
use mathlib.Core.List.{List, [], ◌∷◌}
use mathlib.Core.Bool.{Bool, true, false, cond}
use mathlib.Core.Logic.{⊎_elim}
use lib.ListN.{length, get_or}
use lib.Dec.{ltb, leb, eqb}
use native.Mathlib.Nat.{add-mul, mul_comm, mul-suc, mul-le-mul_right}
use native.Mathlib.Omega.{arith}
use borrow.Author.Tests.{ltb-true, ltb-false, eqb-true, eqb-false}
use Rattle.refusal.specs.Refusals.{bad_der}
use Rattle.der.specs.Model.{high_tag, least, read_value, expect_at, on_content, value_is}
use Rattle.der.specs.Places.{part}
use Rattle.der.specs.Loop.{run, walk}
use Rattle.der.proofs.Laws.{lt_or_le, expect_value, value_expect}
use Rattle.der.proofs.Invert.{length_inv, value_inv}
use Rattle.der.proofs.Parts.{part_length}
use Rattle.looks.specs.Der.{nothing, long_looks, first_looks, length_looks, value_looks}
use Rattle.looks.proofs.Der.{Headed, at_most, value_few, expect_cost, content_then, expect_then, test_then}
use Rattle.names.specs.General.{dns_name, ip_address}
use Rattle.names.specs.Model.{general_name, name_is}
use Rattle.names.proofs.Laws.{name_at}
use Rattle.entries.specs.declared.Seen.{Seen}
use Rattle.entries.specs.Tally.{Tally, tally, after, spend}
use Rattle.entries.specs.Model.{on_name, base_at, on_base, judged, unseen, ended, go_on, entries, next_is}
use Rattle.entries.proofs.Laws.{base_inv, base_within, judged_inv}
use Rattle.entries.proofs.Spending.{enough, lacking}
use Rattle.compared.specs.Dns.{permitted_looks, excluded_looks}
use Rattle.compared.specs.Names.{match_subnet_looks}
use Rattle.compared.specs.Entries.{base_looks, compared_looks, judged_looks, after_step, Going, going, turn_looks, all_looks, used, Met, first, later, Against, row_looks, NoLonger}
use Rattle.compared.proofs.Dns.{permitted_few, excluded_few}
use Rattle.compared.proofs.Most.{Most, permitted_most, excluded_most}
use Rattle.compared.proofs.Names.{match_subnet_few}
use Rattle.compared.proofs.Follows.{base_follows}
use Rattle.std.specs.Prelude.{Err, Ok, Result}
use Rattle.names.specs.declared.general.Name.{Name}

-- ---- a header
first_most : (at to b : ℕ) → first_looks at to b ≤ 4
unfolding first_looks long_looks
first_most at to b =
    at_most (ltb b 128) (λ e. omega arith) (λ e.
    at_most (ltb b 129) (λ f. omega arith) (λ f.
    at_most (ltb 132 b) (λ g. omega arith) (λ g.
    let h = ltb-false 132 b g in
    at_most (leb (to - at) (b - 128)) (λ i. omega arith) (λ i. omega arith))))

-- six looks, whatever the length
pub value_most : (s : List ℕ) (from to : ℕ) → value_looks s from to ≤ 6
unfolding value_looks length_looks
value_most s from to =
    let l = first_most (from + 1) to (get_or s (from + 1) 0) in
    let n : length_looks s (from + 1) to ≤ 5 = at_most (ltb (length s) to) (λ e. omega arith) (λ e. at_most (leb to (from + 1)) (λ f. omega arith) (λ f. omega arith)) in
    at_most (ltb (length s) to) (λ e. omega arith) (λ e.
    at_most (leb to from) (λ f. omega arith) (λ f.
    let m : cond (high_tag (get_or s from 0)) 0 (length_looks s (from + 1) to) ≤ 5 = at_most (high_tag (get_or s from 0)) (λ g. omega arith) (λ g. n) in
    omega arith))

-- what is looked at after a general name
pub name_then : (g : Result Name ℕ) (k : ℕ → ℕ → ℕ → ℕ) (P : ℕ → Type 0) → P 0 → ((kind start end : ℕ) → g ≡ name_is kind start end → P (k kind start end)) → P (on_name g nothing k)
unfolding on_name
name_then (Ok v) k P z h = h v.kind v.start v.end refl
name_then (Err e) k P z h = z

-- a general name that is found costs the header before it
pub name_cost : (s : List ℕ) (from to kind start end : ℕ) → general_name s from to ≡ name_is kind start end → Headed s from to start end
name_cost s from to kind start end e = expect_cost s from to kind bad_der (record { start = start; end = end }) (value_expect s from to kind bad_der start end (name_at s from to kind start end e).value)

-- ---- one entry
-- no more than three looks for each byte of the two, and one
pub compared_few : (excluded : Bool) (kind : ℕ) (p q : List ℕ) → compared_looks excluded kind p q ≤ 3 * length p + 3 * length q + 1
unfolding compared_looks
compared_few excluded kind p q =
    at_most (eqb kind dns_name)
    (λ e. at_most excluded (λ f. excluded_few p q) (λ f. omega (arith, permitted_few p q)))
    (λ e. at_most (eqb kind ip_address) (λ f. omega (arith, match_subnet_few p q)) (λ f. omega arith))

-- and no more than 1139, whatever the lengths
pub compared_most : (excluded : Bool) (kind : ℕ) (p q : List ℕ) → Most (compared_looks excluded kind p q) q
unfolding compared_looks
compared_most excluded kind p q = go (eqb kind dns_name) excluded (eqb kind ip_address)
  where
    go : (b c d : Bool) → Most (cond b (cond c (excluded_looks p q) (permitted_looks p q)) (cond d (match_subnet_looks p q) 0)) q
    go true true d = excluded_most p q
    go true false d = permitted_most p q
    go false c true = let l = match_subnet_few p q in record { all = omega arith; long = λ m. omega arith }
    go false c false = record { all = omega arith; long = λ m. omega arith }

one_byte : (k : ℕ) → least k < 256 → k ≤ 1
unfolding least
one_byte k c = go (eqb k 1) (eqb k 2) (eqb k 3) refl c
  where
    go : (x y z : Bool) → eqb k 1 ≡ x → cond x 128 (cond y 256 (cond z 65536 16777216)) < 256 → k ≤ 1
    go true y z e c = omega (arith, eqb-true k 1 e)
    go false true z e c = omega arith
    go false false true e c = omega arith
    go false false false e c = omega arith

-- a content of less than 256 bytes has a header of no more than three
pub short_header : (s : List ℕ) (from to tag start end : ℕ) → read_value s from to ≡ value_is tag start end → end - start < 256 → start ≤ from + 3
unfolding read_value
short_header s from to tag start end e l =
    let v = value_inv s from to 65535 tag start end e in
    ⊎_elim (λ h. omega (arith, h.after)) (λ h. omega (arith, h.1.after, one_byte h.0 (omega (arith, h.1.shortest)))) (length_inv s (from + 1) to (end - start) start v.length_is).form

module _ (s : List ℕ) (to : ℕ) (excluded : Bool) (kind : ℕ) (p : List ℕ) where
  -- the headers of an entry that is compared, and the comparison
  pub judged_most : (at : ℕ) → judged_looks s to excluded kind p at ≤ 1145
  unfolding judged_looks base_looks
  judged_most at =
      let v = value_most s at to in
      content_then (expect_at s at to 48 bad_der) _ (λ n. value_looks s at to + n ≤ 1145) (omega arith) (λ o d.
      let a = o.start in
      let b = o.end in
      let h = expect_cost s at to 48 bad_der o d in
      let w = value_most s a b in
      name_then (general_name s a b) _ (λ n. value_looks s at to + (value_looks s a b + n) ≤ 1145) (omega arith) (λ base start end e.
      let i = name_cost s a b base start end e in
      test_then (eqb end b) _ (λ n. value_looks s at to + (value_looks s a b + n) ≤ 1145) (omega arith) (λ f.
      test_then (eqb base kind) _ (λ n. value_looks s at to + (value_looks s a b + n) ≤ 1145) (omega arith) (λ g.
      let c = compared_most excluded kind p (part s start end) in
      let l = part_length s start end (omega (arith, i.inside, i.within)) in
      ⊎_elim
      (λ (m : 252 < end - start). omega (arith, c.long (omega arith)))
      (λ (m : end - start ≤ 252).
      let inner = short_header s a b base start end (name_at s a b base start end e).value (omega arith) in
      let outer = short_header s at to 48 a b (expect_value s at to 48 bad_der o d) (omega (arith, eqb-true end b f)) in
      omega (arith, c.all, h.cost, i.cost))
      (lt_or_le 252 (end - start))))))

  -- the name and what is left of the list
  pub judged_few : (at : ℕ) → judged_looks s to excluded kind p at ≤ 3 * length p + 3 * (to - at)
  unfolding judged_looks base_looks
  judged_few at =
      let most = 3 * length p + 3 * (to - at) in
      let v = value_few s at to in
      expect_then s at to 48 bad_der _ (λ n. value_looks s at to + n ≤ most) (omega arith) (λ a b h.
      let w = value_few s a b in
      name_then (general_name s a b) _ (λ n. value_looks s at to + (value_looks s a b + n) ≤ most) (omega (arith, h.cost, h.inside)) (λ base start end e.
      let i = name_cost s a b base start end e in
      test_then (eqb end b) _ (λ n. value_looks s at to + (value_looks s a b + n) ≤ most) (omega (arith, h.cost, h.inside)) (λ f.
      test_then (eqb base kind) _ (λ n. value_looks s at to + (value_looks s a b + n) ≤ most) (omega (arith, h.cost, h.inside)) (λ g.
      omega (arith, compared_few excluded kind p (part s start end), part_length s start end (omega (arith, i.inside, i.within)), h.cost, h.after, h.inside, i.cost, i.after, i.ordered, i.inside)))))

  -- the name and the entry, its header among its bytes: three looks for each byte of the two, and seven less
  pub entry_cost : (at base start end : ℕ) → base_at s at to ≡ name_is base start end → judged_looks s to excluded kind p at + 7 ≤ 3 * length p + 3 * (end - at)
  unfolding judged_looks base_looks on_content on_name
  entry_cost at base start end e =
      let i = base_inv s at to base start end e in
      let h = expect_cost s at to 48 bad_der i.whole i.outer in
      let j = name_cost s i.whole.start i.whole.end base start end i.inner in
      let z = i.all in
      rw (i.outer, i.inner) (
      test_then (eqb end i.whole.end) _ (λ n. value_looks s at to + (value_looks s i.whole.start i.whole.end + n) + 7 ≤ 3 * length p + 3 * (end - at))
      (omega (arith, h.cost, h.after, j.cost, j.after, j.ordered)) (λ f.
      test_then (eqb base kind) _ (λ n. value_looks s at to + (value_looks s i.whole.start i.whole.end + n) + 7 ≤ 3 * length p + 3 * (end - at))
      (omega (arith, h.cost, h.after, j.cost, j.after, j.ordered)) (λ g.
      omega (arith, compared_few excluded kind p (part s start end), part_length s start end (omega (arith, j.inside, j.within)), h.cost, h.after, j.cost, j.after, j.ordered))))

-- the headers of an entry, and so one that cannot be read
pub headers_most : (s : List ℕ) (at to : ℕ) → base_looks s at to (λ base start end. 0) ≤ 12
unfolding base_looks
headers_most s at to =
    let v = value_most s at to in
    expect_then s at to 48 bad_der _ (λ n. value_looks s at to + n ≤ 12) (omega arith) (λ a b h.
    let w = value_most s a b in
    name_then (general_name s a b) _ (λ n. value_looks s at to + (value_looks s a b + n) ≤ 12) (omega arith) (λ base start end e.
    test_then (eqb end b) 0 (λ n. value_looks s at to + (value_looks s a b + n) ≤ 12) (omega arith) (λ f. omega arith)))

-- an entry of at most `longest` bytes, or one that cannot be read
either_cost : (s : List ℕ) (to : ℕ) (excluded : Bool) (kind : ℕ) (p : List ℕ) (at longest : ℕ) → 4 ≤ longest → ((base start end : ℕ) → base_at s at to ≡ name_is base start end → end - at ≤ longest)
    → judged_looks s to excluded kind p at ≤ 3 * (length p + longest)
unfolding judged_looks on_base
either_cost s to excluded kind p at longest l h = by (base_at s at to) refl
  where
    by : (b : Result Name ℕ) → base_at s at to ≡ b → judged_looks s to excluded kind p at ≤ 3 * (length p + longest)
    by (Ok v) e = omega (arith, entry_cost s to excluded kind p at v.kind v.start v.end e, h v.kind v.start v.end e)
    by (Err x) e =
        let f : on_base (base_at s at to) nothing (λ base start end. cond (eqb base kind) (compared_looks excluded kind p (part s start end)) 0) ≡ 0 = rw e refl in
        omega (arith, base_follows s at to (λ base start end. cond (eqb base kind) (compared_looks excluded kind p (part s start end)) 0), headers_most s at to)

-- ---- what is used of the budget
used_stop : (left e : ℕ) → (left ≡ 0 → ⊥) → used left (tally 1 e) ≡ 1
unfolding used
used_stop left e n = rw (enough left (tally 1 e) (omega arith)) (omega arith)

used_next : (left : ℕ) (t : Tally) → (left ≡ 0 → ⊥) → used left (after (tally 1 0) t) ≡ suc (used (left - 1) t)
unfolding used after
used_next left t n =
    ⊎_elim
    (λ (l : left - 1 < t.taken). rw (lacking (left - 1) t l, lacking left (tally (1 + t.taken) t.refusal) (omega arith)) (omega arith))
    (λ (l : t.taken ≤ left - 1). rw (enough (left - 1) t l, enough left (tally (1 + t.taken) t.refusal) (omega arith)) (omega arith))
    (lt_or_le (left - 1) t.taken)

-- ---- a list
module _ (s : List ℕ) (to : ℕ) (excluded : Bool) (kind : ℕ) (p : List ℕ) where
  -- what holds of no look, of one turn, and of a turn and what comes after it, holds of the looks and of the comparisons that are taken
  module _ (P : ℕ → ℕ → ℕ → Type 0) (none : (at u : ℕ) → P at 0 u) (one : (at : ℕ) → at < to → P at (judged_looks s to excluded kind p at) 1)
      (more : (at : ℕ) (seen : Seen) (next : ℕ) (seen' : Seen) (n u : ℕ) → judged s to excluded kind p at seen ≡ next_is next seen' → P next n u → P at (judged_looks s to excluded kind p at + n) (suc u)) where
    turn_keeps : (at : ℕ) (seen : Seen) (left : ℕ) (k : ℕ → Going → ℕ) (t : ℕ → Seen → Tally) (r : Result (ℕ × Seen) ℕ) → at < to → judged s to excluded kind p at seen ≡ r → (left ≡ 0 → ⊥)
        → ((next : ℕ) (x : Seen) → P next (k next (going x (left - 1))) (used (left - 1) (t next x)))
        → P at (judged_looks s to excluded kind p at + after_step r (λ next x. k next (going x (left - 1)))) (used left (go_on r t))
    unfolding after_step go_on
    turn_keeps at seen left k t (Ok v) l e n h = rw (used_next left (t v.0 v.1) n) (more at seen v.0 v.1 _ _ e (h v.0 v.1))
    turn_keeps at seen left k t (Err f) l e n h =
        let z : judged_looks s to excluded kind p at + 0 ≡ judged_looks s to excluded kind p at = omega arith in
        rw (used_stop left f n, z) (one at l)

    paid_keeps : (at : ℕ) (seen : Seen) (left : ℕ) (k : ℕ → Going → ℕ) (t : ℕ → Seen → Tally) → at < to
        → ((next : ℕ) (x : Seen) → P next (k next (going x (left - 1))) (used (left - 1) (t next x)))
        → P at (turn_looks s to excluded kind p at (going seen left) k) (used left (go_on (judged s to excluded kind p at seen) t))
    unfolding turn_looks
    paid_keeps at seen left k t l h = by (eqb left 0) refl
      where
        by : (b : Bool) → eqb left 0 ≡ b
            → P at (cond b 0 (judged_looks s to excluded kind p at + after_step (judged s to excluded kind p at seen) (λ next x. k next (going x (left - 1))))) (used left (go_on (judged s to excluded kind p at seen) t))
        by true e = none at _
        by false e = turn_keeps at seen left k t (judged s to excluded kind p at seen) l refl (eqb-false left 0 e) h

    run_keeps : (fuel at : ℕ) (seen : Seen) (left : ℕ)
        → P at (run to (λ at x. 0) (turn_looks s to excluded kind p) fuel at (going seen left)) (used left (run to ended (λ at seen. go_on (judged s to excluded kind p at seen)) fuel at seen))
    unfolding run
    run_keeps zero at seen left = none at _
    run_keeps (suc fuel) at seen left = by (ltb at to) refl (run_keeps fuel)
      where
        by : (b : Bool) → ltb at to ≡ b
            → ((a : ℕ) (x : Seen) (m : ℕ) → P a (run to (λ at x. 0) (turn_looks s to excluded kind p) fuel a (going x m)) (used m (run to ended (λ at seen. go_on (judged s to excluded kind p at seen)) fuel a x)))
            → P at (cond b (turn_looks s to excluded kind p at (going seen left) (run to (λ at x. 0) (turn_looks s to excluded kind p) fuel)) 0) (used left (cond b (go_on (judged s to excluded kind p at seen) (run to ended (λ at seen. go_on (judged s to excluded kind p at seen)) fuel)) (ended at seen)))
        by false e h = none at _
        by true e h = paid_keeps at seen left _ _ (ltb-true at to e) (λ next x. h next x (left - 1))

    pub all_keeps : (from left : ℕ) → P from (all_looks s from to excluded kind p left) (used left (entries s from to excluded kind p))
    unfolding all_looks entries walk
    all_keeps from left = run_keeps (to - from) from unseen left

  -- a list costs no more than 1145 looks for each comparison that it takes of the budget
  pub all_most : (from left : ℕ) → all_looks s from to excluded kind p left ≤ 1145 * used left (entries s from to excluded kind p)
  all_most from left =
      all_keeps (λ at n u. n ≤ 1145 * u) (λ at u. omega arith) (λ at l. judged_most s to excluded kind p at)
      (λ at seen next x n u e h. omega (arith, judged_most s to excluded kind p at)) from left

  -- and no more than three for each byte of the list, and for each comparison three for each byte of the name
  pub all_few : (from left : ℕ) → all_looks s from to excluded kind p left ≤ 3 * (length p * used left (entries s from to excluded kind p)) + 3 * (to - from)
  all_few from left =
      all_keeps (λ at n u. n ≤ 3 * (length p * u) + 3 * (to - at)) (λ at u. omega arith)
      (λ at l. omega (arith, judged_few s to excluded kind p at, mul-suc (length p) 0))
      (λ at seen next x n u e h.
      let j = judged_inv s to excluded kind p at seen next x e in
      omega (arith, h, entry_cost s to excluded kind p at j.base j.start next j.is, base_within s at to j.base j.start next j.is, mul-suc (length p) u)) from left

  -- and where no entry that is met has more than `longest` bytes: three for each comparison and each byte of the name and of that entry
  pub all_each : (from left longest : ℕ) → 4 ≤ longest → ((at base start end : ℕ) → Met s from to at → base_at s at to ≡ name_is base start end → end - at ≤ longest)
      → all_looks s from to excluded kind p left ≤ 3 * ((length p + longest) * used left (entries s from to excluded kind p))
  all_each from left longest l each =
      all_keeps (λ at n u. Met s from to at → n ≤ 3 * ((length p + longest) * u)) (λ at u m. omega arith)
      (λ at k m. omega (arith, either_cost s to excluded kind p at longest l (λ base start end. each at base start end m), mul-suc (length p + longest) 0))
      (λ at seen next x n u e h m.
      let j = judged_inv s to excluded kind p at seen next x e in
      omega (arith, h (later at j.base j.start next m j.is), either_cost s to excluded kind p at longest l (λ base start end. each at base start end m), mul-suc (length p + longest) u))
      from left first

-- ---- list after list, name after name: what the budget pays for
-- what is left is no more than there was
left_less : (left : ℕ) (t : Tally) → (spend left t).left ≤ left
left_less left t =
    ⊎_elim
    (λ (l : left < t.taken). rw (lacking left t l) (omega arith))
    (λ (l : t.taken ≤ left). rw (enough left t l) (omega arith))
    (lt_or_le left t.taken)

-- no more than 1145 looks for each comparison of the budget
pub row_most : (xs : List Against) (left : ℕ) → row_looks xs left ≤ 1145 * left
unfolding row_looks used
row_most [] left = omega arith
row_most (x ∷ xs) left =
    let t = entries x.bytes x.from x.to x.excluded x.kind x.name in
    omega (arith, all_most x.bytes x.to x.excluded x.kind x.name x.from left, row_most xs (spend left t).left, left_less left t)

-- and no more than three for each comparison of it and each byte of the longest name and of the longest entry
pub row_each : (m n : ℕ) → 4 ≤ n → (xs : List Against) (left : ℕ) → NoLonger m n xs → row_looks xs left ≤ 3 * (left * (m + n))
unfolding row_looks used NoLonger
row_each m n h [] left l = omega arith
row_each m n h (x ∷ xs) left l =
    let t = entries x.bytes x.from x.to x.excluded x.kind x.name in
    let u = left - (spend left t).left in
    let a = all_each x.bytes x.to x.excluded x.kind x.name x.from left n h l.1 in
    let b = mul-le-mul_right {m = length x.name + n} {n = m + n} u (omega (arith, l.0)) in
    let c = mul_comm (m + n) u in
    let d = add-mul u (spend left t).left (m + n) in
    let e : u + (spend left t).left ≡ left = omega (arith, left_less left t) in
    let f : left * (m + n) ≡ u * (m + n) + (spend left t).left * (m + n) = rw e at d in
    omega (arith, row_each m n h xs (spend left t).left l.2)
