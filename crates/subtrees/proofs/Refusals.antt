-- A refusal is never the number 0, which stands for none. Assumes nothing.
use Prim.Native.Nat.{ℕ}
use mathlib.Core.Path.{◌≡◌}
use mathlib.Core.List.{List}
use lib.ListN.{length, get_or}
use lib.Dec.{leb, ltb, eqb}
use native.Mathlib.Omega.{arith}
use Rattle.entries.proofs.Refusals.{Nonzero, some_of, by_cases, expect_gotten, on_gotten}
use Rattle.subtrees.specs.Model.{list_at, subtrees_at}
use Rattle.std.specs.Prelude.{Err, Result}
use Rattle.subtrees.specs.declared.Subtrees.{Subtrees}

-- the number in a refusal is not 0
abbrev pub Listed : Result Subtrees ℕ → Type 0
Listed l = Nonzero l

-- ---- the lists
list_gotten : (s : List ℕ) (from to tag : ℕ) → Nonzero (list_at s from to tag)
unfolding list_at
list_gotten s from to tag =
    by_cases Nonzero (ltb (length s) to)
    (λ z. omega arith)
    (by_cases Nonzero (leb to from) tt (by_cases Nonzero (eqb (get_or s from 0) tag) (expect_gotten s from to tag) tt))

pub lists_listed : (s : List ℕ) (from to : ℕ) → Listed (subtrees_at s from to)
unfolding subtrees_at
lists_listed s from to =
    on_gotten Listed (list_at s from to 160) (list_gotten s from to 160) (λ e h. h) (λ a b.
    on_gotten Listed (list_at s b to 161) (list_gotten s b to 161) (λ e h. h) (λ c d. tt))

pub lists_refused : (s : List ℕ) (from to e : ℕ) → subtrees_at s from to ≡ Err e → e ≡ 0 → ⊥
lists_refused s from to e h = some_of (lists_listed s from to) h
