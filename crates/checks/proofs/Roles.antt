-- The check of basic constraints finds nothing exactly if the certificate is in its role. Assumes nothing.
use Prim.Native.Nat.{ℕ, suc, ◌+◌, ◌-◌, ◌≤◌, ◌<◌}
use mathlib.Core.Path.{◌≡◌, refl, sym, ap, ◌∙◌, subst}
use mathlib.Core.List.{List, ◌∷◌, ◌++◌}
use mathlib.Core.Bool.{Bool, true, false, cond}
use mathlib.Core.Logic.{inl, inr, ⊎_elim}
use lib.ListN.{length, get_or}
use lib.Dec.{ltb, eqb}
use native.Mathlib.Omega.{arith}
use borrow.Author.Tests.{ltb-false, eqb-true, eqb-false, eq-eqb, ne_eqb}
use Rattle.der.specs.Places.{Bytes, part}
use Rattle.der.specs.X690.{encoding, truth}
use Rattle.values.specs.Model.{read_bool, read_small, truth_is, number_is}
use Rattle.der.proofs.Laws.{tests}
use Rattle.der.proofs.Invert.{either}
use Rattle.der.proofs.Parts.{part_length, part_split, part_none, part_front, part_tail}
use Rattle.values.proofs.SmallValues.{There, NoBoolean, true_is, false_is, is_bool, absent_bool, small_is, is_small}
use Rattle.checks.specs.Conditions.{Authority, unwritten, written, Bound, unbounded, at_most, PathLength, none, some, BasicConstraints, Optional, absent, present, Constrained, Role, end_entity, issuer, Allows, InRole}
use Rattle.checks.proofs.Contents.{found}
use Rattle.extensions.specs.Model.{on_truth}
use Rattle.checks.specs.Model.{in_role, first_of, on_number, itself, bounded_role, basic_in, basic_of}
use Rattle.extensions.proofs.Refusals.{TruthFair, truth_said, truth_not, bool_fair}
use Rattle.cert.proofs.Refusals.{SmallFair, small_is as small_number, small_not, small_fair}
use Rattle.std.specs.Prelude.{Err, Ok, Result}

pub first_zero : (d e : ℕ) → first_of d e ≡ 0 → (d ≡ 0) × (e ≡ 0)
unfolding first_of
first_zero d e h =
    ⊎_elim (λ w. (eqb-true d 0 w.0, w.1)) (λ w. absurd (eqb-false d 0 w.0 w.1)) (either (eqb d 0) h)

pub zero_first : (d e : ℕ) → d ≡ 0 → e ≡ 0 → first_of d e ≡ 0
unfolding first_of
zero_first d e h k = search (tests, h, k)

-- ---- the role, by a number that bounds it
role_inv : (i a : Bool) (limit below : ℕ) → in_role i a limit below ≡ 0 → (a ≡ i) × (i ≡ true → below ≤ limit)
unfolding in_role
role_inv true true limit below e =
    (refl, λ h. ⊎_elim (λ w. absurd (let z = w.1 in omega arith)) (λ w. ltb-false _ _ w.0) (either (ltb limit below) e))
role_inv true false limit below e = absurd (omega arith)
role_inv false true limit below e = absurd (omega arith)
role_inv false false limit below e = (refl, λ h. cc h)

role_case : (i : Bool) (limit below : ℕ) → (i ≡ true → below ≤ limit) → in_role i i limit below ≡ 0
unfolding in_role
role_case true limit below h = let l : below ≤ limit = h refl in search tests
role_case false limit below h = refl

-- ---- sound
numbered : (g : Result (ℕ × ℕ) ℕ) (k : ℕ → ℕ → ℕ) → SmallFair g → on_number g itself k ≡ 0 → (n : ℕ) × (next : ℕ) × (g ≡ number_is n next) × (k n next ≡ 0)
unfolding on_number
numbered (Ok v) k (small_number a b) e = (v.0, v.1, refl, e)
numbered (Err x) k (small_not f) e = absurd (omega arith)

told : (g : Result (Bool × ℕ) ℕ) (k : Bool → ℕ → ℕ) → TruthFair g → on_truth g itself k ≡ 0 → (a : Bool) × (next : ℕ) × (g ≡ truth_is a next) × (k a next ≡ 0)
unfolding on_truth
told (Ok v) k (truth_said b c) e = (v.0, v.1, refl, e)
told (Err x) k (truth_not f) e = absurd (omega arith)

-- a BOOLEAN that was read, or none
record Told (s : List ℕ) (from to next : ℕ) (a : Bool) : Type 0 where
  pub ordered : from ≤ next
  pub inside : next ≤ to
  pub within : to ≤ length s
  pub says : Authority (part s from next) a

-- some bytes stand between two places
some_bytes : (s : List ℕ) (a b x : ℕ) (xs : List ℕ) → b ≤ length s → part s a b ≡ x ∷ xs → a < b
some_bytes s a b x xs h e = let l : b - a ≡ suc (length xs) = sym (part_length s a b h) ∙ ap length e in omega arith

there_told : (s : List ℕ) (from to next : ℕ) (a : Bool) → There s from to next (encoding 1 (truth a)) → Told s from to next a
unfolding encoding
there_told s from to next a t =
    let l = some_bytes s from next 1 _ (omega (arith, t.within, t.inside)) t.bytes in
    record { ordered = omega arith; inside = t.inside; within = t.within; says = written t.bytes }

said_told : (s : List ℕ) → Bytes s → (from to next : ℕ) (a : Bool) → from ≤ to → read_bool s from to ≡ truth_is a next → Told s from to next a
said_told s b from to next true h e = there_told s from to next true (true_is s b from to next e)
said_told s b from to next false h e =
    ⊎_elim
    (λ w. let n : next ≡ from = w.0 in
    record { ordered = omega arith; inside = omega arith; within = w.1; says = unwritten (rw n (part_none s from)) refl })
    (λ w. there_told s from to next false w)
    (false_is s b from to next e)

-- what a bound says of a role
abbrev Bounds : Bool → Bound → ℕ → Type 0
Bounds i bound below = i ≡ true → Allows bound below

basic_in_sound : (s : List ℕ) → Bytes s → (from to : ℕ) (i : Bool) (below : ℕ) → from ≤ to → basic_in s from to i below ≡ 0
    → (bound : Bound) × BasicConstraints (part s from to) i bound × Bounds i bound below
unfolding basic_in bounded_role
basic_in_sound s b from to i below h e =
    let p = told (read_bool s from to) _ (bool_fair s from to) e in
    let a = p.0 in
    let next = p.1 in
    let t = said_told s b from to next a h p.2 in
    let split : part s from to ≡ part s from next ++ part s next to = part_split s from next to t.ordered t.inside in
    ⊎_elim
    (λ w.
    let r = role_inv i a below below w.1 in
    let n : next ≡ to = eqb-true next to w.0 in (
      unbounded,
      record {
        first = part s from next;
        second = part s next to;
        whole = split;
        says = subst (λ (x : Bool). Authority (part s from next) x) r.0 t.says;
        limits = none (rw n (part_none s to)) refl;
      },
      λ j. tt,
    ))
    (λ w.
    let q = numbered (read_small s next to) _ (small_fair s next to) w.1 in
    let z = first_zero _ _ q.3 in
    let r = role_inv i a q.0 below z.0 in
    let m = small_is s b next to q.0 q.1 q.2 in
    let last : q.1 ≡ to = ⊎_elim (λ y. eqb-true q.1 to y.0) (λ y. absurd (let z' = y.1 in omega arith)) (either (eqb q.1 to) z.1) in
    let bytes : part s next to ≡ encoding 2 m.1.0 = sym (ap (part s next) last) ∙ m.1.2.bytes in (
      at_most q.0,
      record {
        first = part s from next;
        second = part s next to;
        whole = split;
        says = subst (λ (x : Bool). Authority (part s from next) x) r.0 t.says;
        limits = some q.0 m.1.0 m.0 m.1.1 bytes refl;
      },
      λ j. omega (arith, r.1 j),
    ))
    (either (eqb next to) p.3)

-- ---- complete
first_octet : (s : List ℕ) (from to tag : ℕ) (content : List ℕ) → to ≤ length s → part s from to ≡ encoding tag content → (from < to) × (get_or s from 0 ≡ tag)
unfolding encoding
first_octet s from to tag content l e =
    let h = some_bytes s from to tag _ l e in
    (h, (part_tail s from to tag _ h l e).0)

-- the BOOLEAN is read again; where none is written, what follows begins with another tag or is not there
told_said : (s : List ℕ) (from to next : ℕ) (a : Bool) (bound : Bound) → from ≤ next → next ≤ to → to ≤ length s → Authority (part s from next) a → PathLength (part s next to) bound → read_bool s from to ≡ truth_is a next
told_said s from to next a bound h k l (written e) q = is_bool s from to next a (record { within = l; inside = k; bytes = e })
told_said s from to next a bound h k l (unwritten e z) q =
    let n : next ≡ from = omega (arith, sym (part_length s from next (omega arith)) ∙ ap length e) in
    rw (n, z) (absent_bool s from to l (no_boolean q))
  where
    no_boolean : PathLength (part s next to) bound → NoBoolean s from to
    no_boolean (none f g) =
        let n : next ≡ from = omega (arith, sym (part_length s from next (omega arith)) ∙ ap length e) in
        inl (omega (arith, sym (part_length s next to l) ∙ ap length f))
    no_boolean (some m content i j f g) =
        let n : next ≡ from = omega (arith, sym (part_length s from next (omega arith)) ∙ ap length e) in
        let o = first_octet s next to 2 content l f in
        let o' : get_or s from 0 ≡ 2 = rw (← n) o.1 in
        inr (λ x. omega arith)

limits_case : (s : List ℕ) → Bytes s → (next to : ℕ) (i : Bool) (below : ℕ) (bound : Bound) → next ≤ to → to ≤ length s → PathLength (part s next to) bound → Bounds i bound below
    → cond (eqb next to) (in_role i i below below) (bounded_role s next to i i below) ≡ 0
unfolding bounded_role on_number
limits_case s b next to i below bound k l (none e g) r =
    let n : next ≡ to = omega (arith, sym (part_length s next to l) ∙ ap length e) in
    simp (eq-eqb next to n) (role_case i below below (λ j. omega arith))
limits_case s b next to i below bound k l (some n content m q e g) r =
    let o = first_octet s next to 2 content l e in
    let c : read_small s next to ≡ number_is n to = is_small s b next to n to content m q (record { within = l; inside = omega arith; bytes = e }) in
    let y : in_role i i n below ≡ 0 = role_case i n below (λ j. let z : Allows (at_most n) below = rw g at (r j) in omega arith) in
    simp (ne_eqb next to (λ x. omega arith), c, eq-eqb to to refl) (zero_first (in_role i i n below) 0 y refl)

basic_in_complete : (s : List ℕ) → Bytes s → (from to : ℕ) (i : Bool) (below : ℕ) (bound : Bound) → from ≤ to → to ≤ length s
    → BasicConstraints (part s from to) i bound → Bounds i bound below → basic_in s from to i below ≡ 0
unfolding basic_in on_truth
basic_in_complete s b from to i below bound h l v r =
    let f = part_front s from to v.first v.second h l v.whole in
    let next = from + length v.first in
    let q : PathLength (part s next to) bound = rw f.2 v.limits in
    let a : read_bool s from to ≡ truth_is i next = told_said s from to next i bound (omega arith) f.0 l (rw f.1 v.says) q in
    rw a (limits_case s b next to i below bound f.0 l q r)

-- ---- with and without the extension
abbrev pub is_issuer : Role → Bool
is_issuer end_entity = false
is_issuer (issuer n) = true

abbrev pub below_of : Role → ℕ
below_of end_entity = 0
below_of (issuer n) = n

in_role_lem : (role : Role) (x : Optional) (bound : Bound) → Constrained x (is_issuer role) bound → Bounds (is_issuer role) bound (below_of role) → InRole role x
in_role_lem end_entity x bound c r = (bound, c)
in_role_lem (issuer n) x bound c r = (bound, c, r refl)

role_bounds : (role : Role) (x : Optional) → InRole role x → (bound : Bound) × Constrained x (is_issuer role) bound × Bounds (is_issuer role) bound (below_of role)
role_bounds end_entity x p = (p.0, p.1, λ j. absurd (let z : ◌≡◌ {A = ℕ} 0 1 = cc in omega arith))
role_bounds (issuer n) x p = (p.0, p.1, λ j. p.2)

module _ (s : List ℕ) (b : Bytes s) (from to : ℕ) (h : from ≤ to) where
  pub role_sound : (there : Bool) (role : Role) → basic_of s there from to (is_issuer role) (below_of role) ≡ 0 → InRole role (found there (part s from to))
  unfolding basic_of
  role_sound true role e =
      let p = basic_in_sound s b from to (is_issuer role) (below_of role) h e in
      in_role_lem role (present (part s from to)) p.0 p.1 p.2
  role_sound false role e =
      let p = role_inv (is_issuer role) false (below_of role) (below_of role) e in
      in_role_lem role absent unbounded (sym p.0, refl) (λ j. tt)

  pub role_complete : (there : Bool) (role : Role) → to ≤ length s → InRole role (found there (part s from to)) → basic_of s there from to (is_issuer role) (below_of role) ≡ 0
  unfolding basic_of
  role_complete true role l p =
      let q = role_bounds role _ p in
      basic_in_complete s b from to (is_issuer role) (below_of role) q.0 h l q.1 q.2
  role_complete false role l p =
      let q = role_bounds role _ p in
      rw q.1.0 (role_case false (below_of role) (below_of role) (λ j. omega arith))
