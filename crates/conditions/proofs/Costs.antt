-- COSTS: how many comparisons the name constraints of a path take at most. Assumes nothing.
use Prim.Native.Nat.{ℕ, zero, suc, ◌+◌, ◌-◌, ◌*◌, ◌/◌, ◌≤◌}
use mathlib.Core.Path.{◌≡◌, refl}
use mathlib.Core.Bool.{Bool, true, false, cond}
use mathlib.Core.Logic.{⊎_elim}
use mathlib.Core.List.{List, [], ◌∷◌, map}
use native.Mathlib.Omega.{arith}
use native.Mathlib.Nat.{mul-suc, add-mul, mul-le-mul_right}
use lib.Dec.{ltb, leb, eqb}
use lib.ListN.{length, get_or}
use borrow.Author.Tests.{ltb-true}
use Rattle.refusal.specs.Refusals.{bad_der}
use Rattle.der.specs.declared.Span.{Span}
use Rattle.der.specs.Model.{expect_at}
use Rattle.der.specs.Places.{part}
use Rattle.der.specs.Loop.{run, walk}
use Rattle.der.proofs.Laws.{expect_value}
use Rattle.der.proofs.Theorems.{value_places}
use Rattle.der.proofs.Invert.{peel, either}
use Rattle.extensions.proofs.Inversion.{on_content_lem}
use Rattle.cert.specs.declared.Certificate.{Certificate}
use Rattle.cert.specs.Model.{read_certificate, Reading}
use Rattle.names.specs.Model.{general_name, name_is}
use Rattle.names.proofs.Laws.{name_at}
use Rattle.entries.specs.declared.Seen.{Seen}
use Rattle.entries.specs.Kinds.{directory_name}
use Rattle.entries.specs.Tally.{Tally, tally, clean, after}
use Rattle.entries.specs.Model.{on_name, judged, unseen, ended, go_on, entries, next_is}
use Rattle.entries.proofs.Laws.{base_inv, judged_inv}
use Rattle.subtrees.specs.declared.Subtrees.{Subtrees}
use Rattle.subtrees.specs.Noted.{lent}
use Rattle.subtrees.specs.Model.{list_at, subtrees_at, name, next_name, alternatives, on_read, unread, certificate_as}
use Rattle.constraints.specs.Model.{below_in, on_lists, left_over, constraints_in, own_in, anchored_in, issuers_in, path_constraints_in}
use Rattle.dialogue.specs.Work.{pairs}
use Rattle.std.specs.Prelude.{Ok, Err, Result}
use Rattle.names.specs.declared.general.Name.{Name}

after_few : (a b : Tally) → (after a b).taken ≤ a.taken + b.taken
unfolding after
after_few a b = by (eqb a.refusal 0)
  where
    by : (t : Bool) → (cond t (tally (a.taken + b.taken) b.refusal) a).taken ≤ a.taken + b.taken
    by true = omega arith
    by false = omega arith

-- 1 + 2 + .. + d
half : (d : ℕ) → 2 * (d + pairs d) ≡ d * suc d
unfolding pairs
half zero = omega arith
half (suc d) = omega (arith, half d, mul-suc d (suc d))

name_long : (s : List ℕ) (from to kind start end : ℕ) → general_name s from to ≡ name_is kind start end → (from + 2 ≤ end) × (end ≤ to)
name_long s from to kind start end e =
    let p = value_places s from to kind start end (name_at s from to kind start end e).value in
    (omega (arith, p.after, p.ordered), p.inside)

-- ---- one list against one name: an entry that is passed has four bytes or more
entry_long : (s : List ℕ) (to : ℕ) (excluded : Bool) (kind : ℕ) (p : List ℕ) (at : ℕ) (seen : Seen) (next : ℕ) (seen' : Seen)
    → judged s to excluded kind p at seen ≡ next_is next seen' → (at + 4 ≤ next) × (next ≤ to)
entry_long s to excluded kind p at seen next seen' e =
    let j = judged_inv s to excluded kind p at seen next seen' e in
    let b = base_inv s at to j.base j.start next j.is in
    let o = value_places s at to 48 b.whole.start b.whole.end (expect_value s at to 48 bad_der b.whole b.outer) in
    let i = name_long s b.whole.start b.whole.end j.base j.start next b.inner in
    (omega (arith, o.after, i.0), omega (arith, o.inside, i.1))

module _ (s : List ℕ) (to : ℕ) (excluded : Bool) (kind : ℕ) (p : List ℕ) where
  abbrev entries_from : ℕ → ℕ → Seen → Tally
  entries_from fuel at seen = run to ended (λ at seen. go_on (judged s to excluded kind p at seen)) fuel at seen

  entries_run : (fuel at : ℕ) (seen : Seen) → 4 * (entries_from fuel at seen).taken ≤ (to - at) + 3
  unfolding run ended go_on
  entries_run zero at seen = omega arith
  entries_run (suc fuel) at seen = by (ltb at to) refl (judged s to excluded kind p at seen) refl (entries_run fuel)
    where
      by : (t : Bool) → ltb at to ≡ t → (j : Result (ℕ × Seen) ℕ) → judged s to excluded kind p at seen ≡ j → ((a : ℕ) (x : Seen) → 4 * (entries_from fuel a x).taken ≤ (to - a) + 3)
          → 4 * (cond t (go_on j (entries_from fuel)) (ended at seen)).taken ≤ (to - at) + 3
      by true l (Ok v) e rec =
          let g = entry_long s to excluded kind p at seen v.0 v.1 e in
          omega (arith, after_few (tally 1 0) (entries_from fuel v.0 v.1), rec v.0 v.1, g.0, g.1)
      by true l (Err x) e rec = omega (arith, ltb-true at to l)
      by false l j e rec = omega arith

  entries_few : (from : ℕ) → 4 * (entries s from to excluded kind p).taken ≤ (to - from) + 3
  unfolding entries walk
  entries_few from = entries_run (to - from) from unseen

-- ---- both lists: they lie one after the other, each that is there behind a header of two bytes or more
no_content : {e : ℕ} {p : Span} → Err e ≡ Ok p → ⊥
no_content h = let z : ◌≡◌ {A = ℕ} 0 1 = cc in omega arith

list_few : (s : List ℕ) (from to tag : ℕ) (p : Span) (t : ℕ) → list_at s from to tag ≡ Ok p → 4 * t ≤ (p.end - p.start) + 3 → 4 * t + (to - p.end) ≤ (to - from) + 1
unfolding list_at
list_few s from to tag p t e few =
    let x = peel (ltb (length s) to) e no_content in
    ⊎_elim (λ h. not_there h.1) (λ h. ⊎_elim (λ i. there i.1) (λ i. not_there i.1) (either (eqb (get_or s from 0) tag) h.1)) (either (leb to from) x.1)
  where
    not_there : ◌≡◌ {A = Result Span ℕ} (Ok (record { start = from; end = from })) (Ok p) → 4 * t + (to - p.end) ≤ (to - from) + 1
    not_there q =
        let a : from ≡ p.start = cc in
        let b : from ≡ p.end = cc in
        omega (arith, few, a, b)

    there : expect_at s from to tag bad_der ≡ Ok p → 4 * t + (to - p.end) ≤ (to - from) + 1
    there q =
        let v = value_places s from to tag p.start p.end (expect_value s from to tag bad_der p q) in
        omega (arith, few, v.after, v.ordered, v.inside)

no_lists : {l : Subtrees} (e : ℕ) → Err e ≡ Ok l → ⊥
no_lists e h = let z : ◌≡◌ {A = ℕ} 0 1 = cc in omega arith

name_few : (s : List ℕ) (from to : ℕ) (lists : Subtrees) → subtrees_at s from to ≡ Ok lists → (kind : ℕ) (p : List ℕ) → 4 * (name s lists kind p).taken ≤ (to - from) + 2
unfolding subtrees_at name
name_few s from to lists e kind p =
    let x = on_content_lem (list_at s from to 160) Err _ e no_lists in
    let y = on_content_lem (list_at s x.0.end to 161) Err _ x.2 no_lists in
    let z : ◌≡◌ {A = Subtrees} (record { permitted = x.0; excluded = y.0 }) lists = cc y.2 in
    let a = entries s x.0.start x.0.end false kind p in
    let b = entries s y.0.start y.0.end true kind p in
    rw (← z)
    (omega (
      arith,
      after_few a b,
      list_few s from to 160 x.0 a.taken x.1 (entries_few s x.0.end false kind p x.0.start),
      list_few s x.0.end to 161 y.0 b.taken y.1 (entries_few s y.0.end true kind p y.0.start),
    ))

-- ---- the certificates below, by number: at most m bytes of names, and l of constraints
module _ (cert : ℕ → List ℕ) (m l : ℕ)
    (names : (n : ℕ) (c : Certificate) → read_certificate (cert n) true ≡ Ok c → c.known.alternative_name.end - c.known.alternative_name.start ≤ m)
    (own : (n : ℕ) (c : Certificate) → read_certificate (cert n) true ≡ Ok c → c.known.name_constraints.known ≡ true
    → c.known.name_constraints.end - c.known.name_constraints.start ≤ l) where
  -- both lists against a certificate: the names and the subject, against the entries
  abbrev each : ℕ
  each = suc (m / 2) * ((l + 2) / 4)

  module _ (s : List ℕ) (lists : Subtrees) (few : (kind : ℕ) (p : List ℕ) → (name s lists kind p).taken ≤ (l + 2) / 4) where
    abbrev names_from : List ℕ → ℕ → ℕ → ℕ → Unit {0} → Tally
    names_from t to fuel at u = run to (λ a v. clean) (λ a v. next_name s lists t (general_name t a to)) fuel at u

    names_run : (t : List ℕ) (to fuel at : ℕ) (u : Unit {0}) → (names_from t to fuel at u).taken ≤ (to - at) / 2 * ((l + 2) / 4)
    unfolding run next_name on_name
    names_run t to zero at u = omega arith
    names_run t to (suc fuel) at u = by (ltb at to) (general_name t at to) refl (names_run t to fuel)
      where
        by : (b : Bool) (n : Result Name ℕ) → general_name t at to ≡ n → ((a : ℕ) (v : Unit {0}) → (names_from t to fuel a v).taken ≤ (to - a) / 2 * ((l + 2) / 4))
            → (cond b (next_name s lists t n (names_from t to fuel)) clean).taken ≤ (to - at) / 2 * ((l + 2) / 4)
        by true (Ok v) e rec =
            let g = name_long t at to v.kind v.start v.end e in
            omega (
              arith,
              after_few (name s lists v.kind (part t v.start v.end)) (names_from t to fuel v.end tt),
              few v.kind (part t v.start v.end),
              rec v.end tt,
              mul-le-mul_right {m = suc ((to - v.end) / 2)} {n = (to - at) / 2} ((l + 2) / 4) (omega (arith, g.0, g.1)),
            )
        by true (Err x) e rec = omega arith
        by false n e rec = omega arith

    certificate_few : (n : ℕ) → (certificate_as s lists (lent (cert n))).taken ≤ each
    unfolding certificate_as on_read alternatives walk
    certificate_few n = by (read_certificate (cert n) true) refl
      where
        by : (r : Reading) → read_certificate (cert n) true ≡ r
            → (on_read r unread (λ c.
            after
            (alternatives s lists (cert n) c.known.alternative_name.start c.known.alternative_name.end)
            (name s lists directory_name (part (cert n) c.subject.start c.subject.end)))).taken ≤ each
        by (Ok c) e =
            let from = c.known.alternative_name.start in
            let to = c.known.alternative_name.end in
            omega (
              arith,
              after_few (alternatives s lists (cert n) from to) (name s lists directory_name (part (cert n) c.subject.start c.subject.end)),
              names_run (cert n) to (to - from) from tt,
              few directory_name (part (cert n) c.subject.start c.subject.end),
              mul-le-mul_right {m = (to - from) / 2} {n = m / 2} ((l + 2) / 4) (omega (arith, names n c e)),
            )
        by (Err e) h = omega arith

    below_few : (path : List ℕ) → (below_in s lists (map lent (map cert path))).taken ≤ length path * each
    unfolding below_in
    below_few [] = omega arith
    below_few (n ∷ ns) = omega (arith, after_few (certificate_as s lists (lent (cert n))) (below_in s lists (map lent (map cert ns))), certificate_few n, below_few ns)

  constraints_few : (s : List ℕ) (from to : ℕ) → to - from ≤ l → (path : List ℕ) → (constraints_in s from to (map lent (map cert path))).taken ≤ length path * each
  unfolding constraints_in on_lists
  constraints_few s from to few path = by (subtrees_at s from to) refl
    where
      over : (t : Bool) → (cond t clean (tally 0 bad_der)).taken ≡ 0
      over true = refl
      over false = refl

      by : (g : Result Subtrees ℕ) → subtrees_at s from to ≡ g → (on_lists g (tally 0) (λ lists. after (below_in s lists (map lent (map cert path))) (left_over lists.excluded.end to))).taken ≤ length path * each
      by (Ok lists) e =
          omega (
            arith,
            after_few (below_in s lists (map lent (map cert path))) (left_over lists.excluded.end to),
            over (eqb lists.excluded.end to),
            below_few s lists (λ kind p. omega (arith, few, name_few s from to lists e kind p)) path,
          )
      by (Err e) h = omega arith

  own_few : (n : ℕ) (path : List ℕ) → (own_in (lent (cert n)) (map lent (map cert path))).taken ≤ length path * each
  unfolding own_in on_read
  own_few n path = by (read_certificate (cert n) true) refl
    where
      by : (r : Reading) → read_certificate (cert n) true ≡ r
          → (on_read r unread (λ c.
          cond c.known.name_constraints.known
          (constraints_in (cert n) c.known.name_constraints.start c.known.name_constraints.end (map lent (map cert path)))
          clean)).taken ≤ length path * each
      by (Ok c) e = go c.known.name_constraints.known refl
        where
          go : (t : Bool) → c.known.name_constraints.known ≡ t
              → (cond t (constraints_in (cert n) c.known.name_constraints.start c.known.name_constraints.end (map lent (map cert path))) clean).taken ≤ length path * each
          go true h = constraints_few (cert n) c.known.name_constraints.start c.known.name_constraints.end (own n c e h) path
          go false h = omega arith
      by (Err e) h = omega arith

  issuers_few : (path : List ℕ) → (issuers_in (map lent (map cert path))).taken ≤ pairs (length path) * each
  unfolding issuers_in pairs
  issuers_few [] = omega arith
  issuers_few (n ∷ []) = omega arith
  issuers_few (n ∷ (k ∷ ns)) =
      omega (
        arith,
        after_few (own_in (lent (cert n)) (map lent (map cert (k ∷ ns)))) (issuers_in (map lent (map cert (k ∷ ns)))),
        own_few n (k ∷ ns),
        issuers_few (k ∷ ns),
        add-mul (suc (length ns)) (pairs (suc (length ns))) each,
      )

  -- the anchor's lists over all, and each issuer's over those below it
  pub path_few : (anchor : List ℕ) → length anchor ≤ l → (bound : Bool) (path : List ℕ) → (path_constraints_in anchor bound (map lent (map cert path))).taken ≤ length path * suc (length path) / 2 * each
  unfolding path_constraints_in anchored_in pairs
  path_few anchor few bound path =
      let d = length path in
      let h : d * suc d / 2 ≡ d + pairs d = omega (arith, half d) in
      rw h
      (omega (
        arith,
        after_few (anchored_in anchor bound (map lent (map cert path))) (issuers_in (map lent (map cert path))),
        by bound,
        issuers_few path,
        add-mul d (pairs d) each,
      ))
    where
      by : (t : Bool) → (cond t (constraints_in anchor 0 (length anchor) (map lent (map cert path))) clean).taken ≤ length path * each
      by true = constraints_few anchor 0 (length anchor) (omega (arith, few)) path
      by false = omega arith
