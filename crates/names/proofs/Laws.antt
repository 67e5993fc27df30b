-- Laws of the definitions of `specs/Model.antt` that the functions' proofs cite: each exit and each turn of a loop. Assumes nothing.
use Prim.Native.Nat.{ℕ, ◌≤◌, ◌<◌}
use mathlib.Core.Path.{◌≡◌, refl, ap}
use mathlib.Core.List.{List}
use mathlib.Core.Bool.{true}
use mathlib.Core.Logic.{⊎_elim}
use lib.ListN.{length}
use native.Mathlib.Omega.{arith}
use Rattle.der.specs.Model.{read_value, value_is}
use Rattle.der.proofs.Invert.{either}
use Rattle.der.proofs.Theorems.{value_places}
use Rattle.names.specs.Model.{is_kind, of_kind, general_name, is_wanted, on_found, try_name, on_tried, name_is}
use Rattle.std.specs.Prelude.{Err, Ok, None, Some, Result, ⊤, Option}
use Rattle.names.specs.declared.general.Tried.TheVariants.{Good, Next}
use Rattle.names.specs.declared.general.Name.{Name}
use Rattle.names.specs.declared.general.Tried.{Tried}
use Rattle.der.specs.declared.Value.{Value}

-- a general name is a value of one of the kinds
pub record NameAt (s : List ℕ) (from to kind start end : ℕ) : Type 0 where
  pub value : read_value s from to ≡ value_is kind start end
  pub known : is_kind kind ≡ true

-- two names that are one have the same kind and the same places
name_one : {m n : Name} → ◌≡◌ {A = Result Name ℕ} (Ok m) (Ok n) → m ≡ n
name_one e = cc

pub name_same : {k a b l c d : ℕ} → name_is k a b ≡ name_is l c d → (k ≡ l) × (a ≡ c) × (b ≡ d)
name_same e =
    let n = name_one e in
    (ap (λ (v : Name). v.kind) n, ap (λ (v : Name). v.start) n, ap (λ (v : Name). v.end) n)

no_name : {e k a b : ℕ} → Err e ≡ name_is k a b → ⊥
no_name h = let z : ◌≡◌ {A = ℕ} 0 1 = cc in omega arith

has_kind : (s : List ℕ) (from to kind start end : ℕ) (r : Option Value) → read_value s from to ≡ r → of_kind r ≡ name_is kind start end → NameAt s from to kind start end
unfolding of_kind
has_kind s from to kind start end (Some v) h e =
    ⊎_elim
    (λ p.
    let m = name_same p.1 in
    record { value = rw (h, m.0, m.1, m.2); known = rw m.0 at p.0 })
    (λ p. absurd (no_name p.1))
    (either (is_kind v.tag) e)
has_kind s from to kind start end None h e = absurd (no_name e)

pub name_at : (s : List ℕ) (from to kind start end : ℕ) → general_name s from to ≡ name_is kind start end → NameAt s from to kind start end
unfolding general_name
name_at s from to kind start end e = has_kind s from to kind start end (read_value s from to) refl e

pub name_within : (s : List ℕ) (from to kind start end : ℕ) → general_name s from to ≡ name_is kind start end
    → (from < end) × (start ≤ end) × (end ≤ to) × (end ≤ length s)
name_within s from to kind start end e =
    let p = value_places s from to kind start end (name_at s from to kind start end e).value in
    omega arith

-- a name that was passed over ends later
hit_on : {a : ℕ} → ◌≡◌ {A = Result Tried ℕ} (Ok Good) (Ok (Next a)) → ⊥
hit_on h = let z : ◌≡◌ {A = ℕ} 0 1 = cc in omega arith

found_later : (s : List ℕ) (at to sought : ℕ) (wanted : List ℕ) (next : ℕ) (n : Result Name ℕ) → general_name s at to ≡ n → on_found s sought wanted n ≡ Ok (Next next) → at < next
unfolding on_found
found_later s at to sought wanted next (Ok v) h e =
    ⊎_elim
    (λ p. absurd (hit_on p.1))
    (λ p. let k : v.end ≡ next = cc p.1 in let w = name_within s at to v.kind v.start v.end h in omega arith)
    (either (is_wanted s v.kind v.start v.end sought wanted) e)
found_later s at to sought wanted next (Err r) h e = absurd (let z : ◌≡◌ {A = ℕ} 0 1 = cc in omega arith)

pub try_later : (s : List ℕ) (at to sought : ℕ) (wanted : List ℕ) (next : ℕ) → try_name s at to sought wanted ≡ Ok (Next next) → at < next
unfolding try_name
try_later s at to sought wanted next e = found_later s at to sought wanted next (general_name s at to) refl e

pub go_on_lem : {x : Result Tried ℕ} {a : ℕ} → x ≡ Ok (Next a) → (k : ℕ → Unit {0} → Result ⊤ ℕ) → on_tried x k ≡ k a tt
unfolding on_tried
go_on_lem e k = rw e

pub go_hit : {x : Result Tried ℕ} → x ≡ Ok Good → (k : ℕ → Unit {0} → Result ⊤ ℕ) → on_tried x k ≡ Ok tt
unfolding on_tried
go_hit e k = rw e

pub go_broke : {x : Result Tried ℕ} {e : ℕ} → x ≡ Err e → (k : ℕ → Unit {0} → Result ⊤ ℕ) → on_tried x k ≡ Err e
unfolding on_tried
go_broke h k = rw h
