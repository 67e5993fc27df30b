-- A refusal is never the number 0, which stands for none. Assumes nothing.
use Prim.Native.Nat.{ℕ, ◌*◌}
use mathlib.Core.Path.{◌≡◌}
use mathlib.Core.List.{List, [], ◌∷◌}
use mathlib.Core.Bool.{Bool, true, false, cond}
use lib.ListN.{length, take, drop}
use lib.Dec.{eqb}
use native.Mathlib.Omega.{arith}
use Rattle.refusal.specs.Refusals.{bad_der}
use Rattle.der.specs.Model.{read_value, of_tag, expect_at, on_content}
use Rattle.der.specs.Places.{part}
use Rattle.ip.specs.declared.Masked.{Masked}
use Rattle.ip.specs.declared.Masked.TheVariants.{Same, Differs, Broken}
use Rattle.labels.specs.Model.{valid_presented, valid_entry}
use Rattle.dns.specs.Model.{match_permitted, match_excluded}
use Rattle.names.specs.Model.{is_kind, of_kind, general_name}
use Rattle.ip.specs.Model.{neither, masked_byte, on_masked, subnet_from, match_subnet}
use Rattle.entries.specs.declared.Seen.{Seen}
use Rattle.entries.specs.Model.{on_name, base_at, compared, settled, on_base, judged, next_is}
use Rattle.std.specs.Prelude.{None, Ok, Err, Some, Option, Result}
use Rattle.der.specs.declared.Value.{Value}
use Rattle.der.specs.declared.Span.{Span}
use Rattle.names.specs.declared.general.Name.{Name}

-- the number in a refusal is not 0
abbrev pub Nonzero : {A : Type 0} → Result A ℕ → Type 0
Nonzero (Ok v) = Unit {0}
Nonzero (Err e) = e ≡ 0 → ⊥

abbrev pub Called : Result Name ℕ → Type 0
Called g = Nonzero g

pub some_of : {A : Type 0} {r : Result A ℕ} {e : ℕ} → Nonzero r → r ≡ Err e → e ≡ 0 → ⊥
some_of h q = rw q at h

-- a test between two that have it
pub by_cases : {A : Type 0} (P : A → Type 0) (b : Bool) {x y : A} → P x → P y → P (cond b x y)
by_cases P true h k = h
by_cases P false h k = k

-- ---- comparisons
permitted_answered : (p q : List ℕ) → Nonzero (match_permitted p q)
unfolding match_permitted
permitted_answered p q =
    by_cases Nonzero (valid_presented p)
    (by_cases Nonzero (valid_entry q) tt (λ z. omega arith))
    (λ z. omega arith)

excluded_answered : (p q : List ℕ) → Nonzero (match_excluded p q)
unfolding match_excluded
excluded_answered p q =
    by_cases Nonzero (valid_presented p)
    (by_cases Nonzero (valid_entry q) tt (λ z. omega arith))
    (λ z. omega arith)

masked_answered : (m : Masked) (next : Result Bool ℕ) → Nonzero next → Nonzero (on_masked m next)
unfolding on_masked
masked_answered Same next h = h
masked_answered Differs next h = tt
masked_answered Broken next h = λ z. omega arith

from_answered : (full : Bool) (p a ms : List ℕ) → Nonzero (subnet_from full p a ms)
unfolding subnet_from
from_answered full [] a ms = tt
from_answered full (x ∷ p) [] ms = tt
from_answered full (x ∷ p) (y ∷ a) [] = tt
from_answered full (x ∷ p) (y ∷ a) (m ∷ ms) = masked_answered (masked_byte full m x y) (subnet_from (eqb m 255) p a ms) (from_answered (eqb m 255) p a ms)

subnet_answered : (p q : List ℕ) → Nonzero (match_subnet p q)
unfolding match_subnet
subnet_answered p q =
    by_cases Nonzero (neither (length p) 4 16)
    (λ z. omega arith)
    (by_cases Nonzero (neither (length q) 8 32)
    (λ z. omega arith)
    (by_cases Nonzero (eqb (length q) (length p * 2)) (from_answered true p (take (length p) q) (drop (length p) q)) tt))

compared_answered : (excluded : Bool) (kind : ℕ) (p q : List ℕ) → Nonzero (compared excluded kind p q)
unfolding compared
compared_answered excluded kind p q =
    by_cases Nonzero (eqb kind 130)
    (by_cases Nonzero excluded (excluded_answered p q) (permitted_answered p q))
    (by_cases Nonzero (eqb kind 135)
    (subnet_answered p q)
    (by_cases Nonzero (eqb kind 164)
    (by_cases Nonzero excluded tt tt)
    (by_cases Nonzero (eqb kind 134) (by_cases Nonzero excluded tt tt) (λ z. omega arith))))

-- ---- an entry
of_called : (r : Option Value) → Nonzero (of_kind r)
unfolding of_kind
of_called (Some v) = by_cases Nonzero (is_kind v.tag) tt (λ z. omega arith)
of_called None = λ z. omega arith

pub name_called : (s : List ℕ) (from to : ℕ) → Called (general_name s from to)
unfolding general_name
name_called s from to = of_called (read_value s from to)

of_gotten : (tag : ℕ) (r : Option Value) → Nonzero (of_tag tag bad_der r)
unfolding of_tag
of_gotten tag (Some v) = by_cases Nonzero (eqb v.tag tag) tt (λ z. omega arith)
of_gotten tag None = λ z. omega arith

pub expect_gotten : (s : List ℕ) (from to tag : ℕ) → Nonzero (expect_at s from to tag bad_der)
unfolding expect_at
expect_gotten s from to tag = of_gotten tag (read_value s from to)

-- what goes on from an answer
pub on_gotten : {R : Type 0} (P : R → Type 0) (g : Result Span ℕ) {other : ℕ → R} {k : ℕ → ℕ → R} → Nonzero g → ((e : ℕ) → (e ≡ 0 → ⊥) → P (other e)) → ((a b : ℕ) → P (k a b)) → P (on_content g other k)
unfolding on_content
on_gotten P (Ok p) h o f = f p.start p.end
on_gotten P (Err e) h o f = o e h

on_called : {R : Type 0} (P : R → Type 0) (g : Result Name ℕ) {other : ℕ → R} {k : ℕ → ℕ → ℕ → R} → Called g → ((e : ℕ) → (e ≡ 0 → ⊥) → P (other e)) → ((x a b : ℕ) → P (k x a b)) → P (on_name g other k)
unfolding on_name
on_called P (Ok v) h o f = f v.kind v.start v.end
on_called P (Err e) h o f = o e h

base_based : (s : List ℕ) (at to : ℕ) → Nonzero (base_at s at to)
unfolding base_at
base_based s at to =
    on_gotten Nonzero (expect_at s at to 48 bad_der) (expect_gotten s at to 48) (λ e h. h) (λ a b.
    on_called Nonzero (general_name s a b) (name_called s a b) (λ e h. h) (λ x c d.
    by_cases Nonzero (eqb d b) tt (λ z. omega arith)))

settled_stepped : (excluded : Bool) (seen : Seen) (next : ℕ) (a : Result Bool ℕ) → Nonzero a → Nonzero (settled excluded seen next a)
unfolding settled
settled_stepped excluded seen next (Ok true) h = by_cases Nonzero excluded (λ z. omega arith) tt
settled_stepped excluded seen next (Ok false) h = by_cases Nonzero excluded tt tt
settled_stepped excluded seen next (Err e) h = h

on_based : (excluded : Bool) (kind : ℕ) (p s : List ℕ) (seen : Seen) (b : Result Name ℕ) → Nonzero b
    → Nonzero (on_base b Err (λ base start end. cond (eqb base kind) (settled excluded seen end (compared excluded kind p (part s start end))) (next_is end seen)))
unfolding on_base
on_based excluded kind p s seen (Ok v) h =
    by_cases Nonzero (eqb v.kind kind) (settled_stepped excluded seen v.end _ (compared_answered excluded kind p (part s v.start v.end))) tt
on_based excluded kind p s seen (Err e) h = h

pub judged_stepped : (s : List ℕ) (to : ℕ) (excluded : Bool) (kind : ℕ) (p : List ℕ) (at : ℕ) (seen : Seen) → Nonzero (judged s to excluded kind p at seen)
unfolding judged
judged_stepped s to excluded kind p at seen = on_based excluded kind p s seen (base_at s at to) (base_based s at to)

pub judged_refused : (s : List ℕ) (to : ℕ) (excluded : Bool) (kind : ℕ) (p : List ℕ) (at : ℕ) (seen : Seen) (e : ℕ) → judged s to excluded kind p at seen ≡ Err e → e ≡ 0 → ⊥
judged_refused s to excluded kind p at seen e h = some_of (judged_stepped s to excluded kind p at seen) h

pub name_refused : (s : List ℕ) (from to e : ℕ) → general_name s from to ≡ Err e → e ≡ 0 → ⊥
name_refused s from to e h = some_of (name_called s from to) h
