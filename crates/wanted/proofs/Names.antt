-- A refusal of the wanted name is never the number 0, which stands for none. Assumes nothing.
use Prim.Native.Nat.{ℕ, zero, suc, ◌<◌}
use mathlib.Core.Path.{◌≡◌, refl}
use mathlib.Core.List.{List}
use lib.Dec.{lit<, ltb}
use native.Mathlib.Omega.{arith}
use Rattle.std.specs.Prelude.{Option, Some, None, Result, Ok, Err, ⊤}
use Rattle.refusal.specs.Refusals.{cert_not_valid_for_name, malformed_dns_identifier}
use Rattle.refusal.specs.Model.{outcome}
use Rattle.refusal.proofs.Laws.{outcome_some}
use Rattle.der.specs.declared.Value.{Value}
use Rattle.der.specs.Model.{read_value}
use Rattle.der.specs.Loop.{run, walk}
use Rattle.extensions.proofs.Refusals.{by_test}
use Rattle.names.specs.declared.general.Name.{Name}
use Rattle.names.specs.Model.{is_kind, of_kind, general_name, is_wanted, on_found, try_name, on_tried, good_for, good_for_dns, good_for_ip}
use Rattle.conditions.specs.Model.{refusal_in}

abbrev Nonzero : {A : Type 0} → Result A ℕ → Type 0
Nonzero (Ok v) = Unit {0}
Nonzero (Err e) = 0 < e

kind_nonzero : (r : Option Value) → Nonzero (of_kind r)
unfolding of_kind
kind_nonzero (Some v) = by_test Nonzero (is_kind v.tag) tt (lit< tt)
kind_nonzero None = lit< tt

-- the names up to the first that cannot be read
module _ (s : List ℕ) (to sought : ℕ) (wanted : List ℕ) where
  one_nonzero : (n : Result Name ℕ) (k : ℕ → Unit {0} → Result ⊤ ℕ) → Nonzero n → ((at : ℕ) → Nonzero (k at tt)) → Nonzero (on_tried (on_found s sought wanted n) k)
  unfolding on_found on_tried
  one_nonzero (Ok v) k h rest = by_test (λ t. Nonzero (on_tried t k)) (is_wanted s v.kind v.start v.end sought wanted) tt (rest v.end)
  one_nonzero (Err e) k h rest = h

  walk_nonzero : (fuel at : ℕ) → Nonzero (run to (λ at u. Err cert_not_valid_for_name) (λ at u. on_tried (try_name s at to sought wanted)) fuel at tt)
  unfolding run try_name general_name
  walk_nonzero zero at = lit< tt
  walk_nonzero (suc fuel) at =
      by_test Nonzero (ltb at to) (one_nonzero (of_kind (read_value s at to)) _ (kind_nonzero (read_value s at to)) (walk_nonzero fuel)) (lit< tt)

  good_nonzero : (from : ℕ) → Nonzero (good_for s from to sought wanted)
  unfolding good_for walk
  good_nonzero from = walk_nonzero _ from

-- so the outcome of its number is the answer
kept : (v : Result ⊤ ℕ) → Nonzero v → v ≡ outcome (refusal_in v)
unfolding refusal_in outcome
kept (Ok tt) h = refl
kept (Err e) h = rw (outcome_some e h)

pub dns_kept : (s : List ℕ) (from to : ℕ) (wanted : List ℕ) → good_for_dns s from to wanted ≡ outcome (refusal_in (good_for_dns s from to wanted))
unfolding good_for_dns
dns_kept s from to wanted =
    let g = kept (good_for s from to 130 wanted) (good_nonzero s to 130 wanted from) in
    let m = kept (Err malformed_dns_identifier) (lit< tt) in
    grind arith

pub ip_kept : (s : List ℕ) (from to : ℕ) (wanted : List ℕ) → good_for_ip s from to wanted ≡ outcome (refusal_in (good_for_ip s from to wanted))
unfolding good_for_ip
ip_kept s from to wanted = kept _ (good_nonzero s to 135 wanted from)
