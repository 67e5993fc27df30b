-- Laws of the model that the functions' proofs cite: where an accepted entry lies, and each turn and exit of the loop. Assumes nothing.
use Prim.Native.Nat.{ℕ, ◌≤◌, ◌<◌}
use mathlib.Core.Path.{◌≡◌, refl, sym, ap, ◌∙◌}
use mathlib.Core.List.{List}
use mathlib.Core.Bool.{Bool, true, false, cond}
use mathlib.Core.Logic.{⊎_elim}
use lib.ListN.{length}
use lib.Dec.{eqb}
use native.Mathlib.Omega.{arith}
use borrow.Author.Tests.{eqb-true, eq-eqb}
use Rattle.refusal.specs.Refusals.{bad_der}
use Rattle.der.specs.declared.Span.{Span}
use Rattle.der.specs.Model.{expect_at}
use Rattle.der.specs.Places.{part}
use Rattle.der.proofs.Laws.{expect_value}
use Rattle.der.proofs.Theorems.{value_places}
use Rattle.der.proofs.Invert.{either}
use Rattle.extensions.proofs.Inversion.{on_content_lem, chosen}
use Rattle.names.specs.Model.{general_name, name_is}
use Rattle.names.proofs.Laws.{name_within}
use Rattle.entries.specs.declared.Seen.{Seen}
use Rattle.entries.specs.Tally.{Tally, tally, after}
use Rattle.entries.specs.Model.{on_name, base_at, compared, settled, on_base, judged, go_on, next_is}
use Rattle.std.specs.Prelude.{Ok, Err, Result}
use Rattle.names.specs.declared.general.Name.{Name}

-- ---- an entry
pub on_name_lem : {R : Type 0} {r : R} (g : Result Name ℕ) (other : ℕ → R) (k : ℕ → ℕ → ℕ → R) → on_name g other k ≡ r → ((e : ℕ) → other e ≡ r → ⊥)
    → (kind start end : ℕ) × (g ≡ name_is kind start end) × (k kind start end ≡ r)
unfolding on_name
on_name_lem (Ok v) other k e n = (v.kind, v.start, v.end, refl, e)
on_name_lem (Err x) other k e n = absurd (n x e)

not_base : {k a b : ℕ} (e : ℕ) → Err e ≡ name_is k a b → ⊥
not_base e h = cc

pub not_next : {a : ℕ} {x : Seen} (e : ℕ) → Err e ≡ next_is a x → ⊥
not_next e h = cc

-- what an acceptance holds is one thing
same_name : {k a b k' a' b' : ℕ} → name_is k a b ≡ name_is k' a' b' → (k ≡ k') × (a ≡ a') × (b ≡ b')
same_name h = (grind arith, grind arith, grind arith)

pub same_next : {a a' : ℕ} {x x' : Seen} → next_is a x ≡ next_is a' x' → (a ≡ a') × (x ≡ x')
same_next h = (grind arith, grind arith)

-- a SEQUENCE, and in it a general name and nothing after it
pub record BaseAt (s : List ℕ) (at to kind start end : ℕ) : Type 0 where
  pub whole : Span
  pub outer : expect_at s at to 48 bad_der ≡ Ok whole
  pub inner : general_name s whole.start whole.end ≡ name_is kind start end
  pub all : end ≡ whole.end

pub base_inv : (s : List ℕ) (at to kind start end : ℕ) → base_at s at to ≡ name_is kind start end → BaseAt s at to kind start end
unfolding base_at
base_inv s at to kind start end e =
    let p = on_content_lem (expect_at s at to 48 bad_der) Err _ e not_base in
    let q = on_name_lem (general_name s p.0.start p.0.end) Err _ p.2 not_base in
    let t = chosen (eqb q.2 p.0.end) q.4 (not_base _) in
    let n = same_name t.1 in
    record { whole = p.0; outer = p.1; inner = rw (q.3, n.0, n.1, n.2); all = sym n.2 ∙ eqb-true _ _ t.0 }

pub base_within : (s : List ℕ) (at to kind start end : ℕ) → base_at s at to ≡ name_is kind start end → (at < end) × (start ≤ end) × (end ≤ to) × (end ≤ length s)
base_within s at to kind start end e =
    let b = base_inv s at to kind start end e in
    let p = value_places s at to 48 b.whole.start b.whole.end (expect_value s at to 48 _ b.whole b.outer) in
    let n = name_within s b.whole.start b.whole.end kind start end b.inner in
    omega (arith, b.all)

settled_at : (excluded : Bool) (seen : Seen) (end at' : ℕ) (seen' : Seen) (a : Result Bool ℕ) → settled excluded seen end a ≡ next_is at' seen' → at' ≡ end
unfolding settled
settled_at true seen end at' seen' (Ok true) e = absurd (not_next _ e)
settled_at false seen end at' seen' (Ok true) e = sym (same_next e).0
settled_at true seen end at' seen' (Ok false) e = sym (same_next e).0
settled_at false seen end at' seen' (Ok false) e = sym (same_next e).0
settled_at excluded seen end at' seen' (Err x) e = absurd (not_next _ e)

-- an entry that was passed: its base, and what its comparison came to
pub record JudgedAs (s : List ℕ) (to : ℕ) (excluded : Bool) (kind : ℕ) (p : List ℕ) (at : ℕ) (seen : Seen) (at' : ℕ) (seen' : Seen) : Type 0 where
  pub base : ℕ
  pub start : ℕ
  pub is : base_at s at to ≡ name_is base start at'
  pub came : cond (eqb base kind) (settled excluded seen at' (compared excluded kind p (part s start at'))) (next_is at' seen) ≡ next_is at' seen'

judged_inv_of : (s : List ℕ) (to : ℕ) (excluded : Bool) (kind : ℕ) (p : List ℕ) (at : ℕ) (seen : Seen) (at' : ℕ) (seen' : Seen) (b : Result Name ℕ) → base_at s at to ≡ b
    → on_base b Err (λ base start end. cond (eqb base kind) (settled excluded seen end (compared excluded kind p (part s start end))) (next_is end seen)) ≡ next_is at' seen'
    → JudgedAs s to excluded kind p at seen at' seen'
unfolding on_base
judged_inv_of s to excluded kind p at seen at' seen' (Ok v) h e =
    let same : v.end ≡ at' =
    ⊎_elim
    (λ q. sym (settled_at excluded seen v.end at' seen' (compared excluded kind p (part s v.start v.end)) q.1))
    (λ q. (same_next q.1).0)
    (either (eqb v.kind kind) e) in
    record { base = v.kind; start = v.start; is = h ∙ ap (name_is v.kind v.start) same; came = rw same at e }
judged_inv_of s to excluded kind p at seen at' seen' (Err x) h e = absurd (not_next _ e)

pub judged_inv : (s : List ℕ) (to : ℕ) (excluded : Bool) (kind : ℕ) (p : List ℕ) (at : ℕ) (seen : Seen) (at' : ℕ) (seen' : Seen) → judged s to excluded kind p at seen ≡ next_is at' seen'
    → JudgedAs s to excluded kind p at seen at' seen'
unfolding judged
judged_inv s to excluded kind p at seen at' seen' e = judged_inv_of s to excluded kind p at seen at' seen' (base_at s at to) refl e

pub judged_later : (s : List ℕ) (to : ℕ) (excluded : Bool) (kind : ℕ) (p : List ℕ) (at : ℕ) (seen : Seen) (at' : ℕ) (seen' : Seen) → judged s to excluded kind p at seen ≡ next_is at' seen' → at < at'
judged_later s to excluded kind p at seen at' seen' e =
    let j = judged_inv s to excluded kind p at seen at' seen' e in
    (base_within s at to j.base j.start at' j.is).0

-- ---- the loop over the entries
pub go_next : {x : Result (ℕ × Seen) ℕ} {a : ℕ} {y : Seen} → x ≡ next_is a y → (k : ℕ → Seen → Tally) → go_on x k ≡ after (tally 1 0) (k a y)
unfolding go_on
go_next e k = rw e

pub go_stop : {x : Result (ℕ × Seen) ℕ} {e : ℕ} → x ≡ Err e → (k : ℕ → Seen → Tally) → go_on x k ≡ tally 1 e
unfolding go_on
go_stop h k = rw h

pub takes_one : (x : Result (ℕ × Seen) ℕ) (k : ℕ → Seen → Tally) → 0 < (go_on x k).taken
unfolding go_on after
takes_one (Ok v) k = omega arith
takes_one (Err e) k = omega arith

-- ---- an entry of the name's kind
pub judged_same : (s : List ℕ) (to : ℕ) (excluded : Bool) (kind : ℕ) (p : List ℕ) (at : ℕ) (seen : Seen) {base start end : ℕ} {a : Result Bool ℕ} → base_at s at to ≡ name_is base start end → base ≡ kind
    → a ≡ compared excluded kind p (part s start end) → settled excluded seen end a ≡ judged s to excluded kind p at seen
unfolding judged on_base
judged_same s to excluded kind p at seen h e q = rw (h, eq-eqb _ _ e, q)
