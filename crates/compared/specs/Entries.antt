-- How many elements of a slice are read for the entries of a list: the tests of `crates/entries/specs/Model.antt` in the same order, and 1 for each element that the code beside it reads.
-- k is what is looked at afterwards.
use Rattle.std.specs.Prelude.{ℕ, ◌+◌, ◌-◌, ◌≤◌, ◌≡◌, List, [], ◌∷◌, Bool, cond, length, eqb, Err, Ok, Result}
use Rattle.refusal.specs.Refusals.{bad_der}
use Rattle.der.specs.Model.{expect_at, on_content}
use Rattle.der.specs.Places.{part}
use Rattle.der.specs.Loop.{walk}
use Rattle.looks.specs.Der.{nothing, value_looks}
use Rattle.names.specs.General.{dns_name, ip_address}
use Rattle.names.specs.Model.{general_name, name_is}
use Rattle.entries.specs.declared.Seen.{Seen}
use Rattle.entries.specs.Tally.{Tally, spend}
use Rattle.entries.specs.Model.{on_name, base_at, judged, unseen, entries}
use Rattle.compared.specs.Dns.{permitted_looks, excluded_looks}
use Rattle.compared.specs.Names.{match_subnet_looks}

-- `base_at`, and in it `general_name`: k of the base's kind and places
unfoldable pub base_looks : List ℕ → ℕ → ℕ → (ℕ → ℕ → ℕ → ℕ) → ℕ
base_looks s at to k =
    value_looks s at to + on_content (expect_at s at to 48 bad_der) nothing (λ a b.
    value_looks s a b + on_name (general_name s a b) nothing (λ kind start end. cond (eqb end b) (k kind start end) 0))

-- `compare`: directory names, URIs and the other kinds are not looked at
unfoldable pub compared_looks : Bool → ℕ → List ℕ → List ℕ → ℕ
compared_looks excluded kind p q =
    cond (eqb kind dns_name)
    (cond excluded (excluded_looks p q) (permitted_looks p q))
    (cond (eqb kind ip_address) (match_subnet_looks p q) 0)

-- `judge`: one entry against one name
unfoldable pub judged_looks : List ℕ → ℕ → Bool → ℕ → List ℕ → ℕ → ℕ
judged_looks s to excluded kind p at =
    base_looks s at to (λ base start end. cond (eqb base kind) (compared_looks excluded kind p (part s start end)) 0)

-- what is looked at after an entry
unfoldable pub after_step : Result (ℕ × Seen) ℕ → (ℕ → Seen → ℕ) → ℕ
after_step (Ok v) k = k v.0 v.1
after_step (Err e) k = 0

-- where `all` is: what was seen, and how many comparisons are left
pub record Going : Type 0 where
  pub seen : Seen
  pub left : ℕ

abbrev pub going : Seen → ℕ → Going
going seen left = record { seen = seen; left = left }

-- one turn of the loop of `all`
unfoldable pub turn_looks : List ℕ → ℕ → Bool → ℕ → List ℕ → ℕ → Going → (ℕ → Going → ℕ) → ℕ
turn_looks s to excluded kind p at x k =
    cond (eqb x.left 0)
    0
    (judged_looks s to excluded kind p at + after_step (judged s to excluded kind p at x.seen) (λ next seen. k next (going seen (x.left - 1))))

-- `all`
unfoldable pub all_looks : List ℕ → ℕ → ℕ → Bool → ℕ → List ℕ → ℕ → ℕ
all_looks s from to excluded kind p left = walk to (λ at x. 0) (turn_looks s to excluded kind p) from (going unseen left)

-- how many comparisons a check takes of what is left
unfoldable pub used : ℕ → Tally → ℕ
used left t = left - (spend left t).left

-- the places of a list at which an entry is looked for, where all before it were read
pub data Met (s : List ℕ) (from to : ℕ) : ℕ → Type 0 where
  first : Met s from to from
  later : (at base start end : ℕ) → Met s from to at → base_at s at to ≡ name_is base start end → Met s from to end

-- a list against a name, as `all` is given them
pub record Against : Type 0 where
  pub bytes : List ℕ
  pub from : ℕ
  pub to : ℕ
  pub excluded : Bool
  pub kind : ℕ
  pub name : List ℕ

-- one after the other, whatever they answer, each given what the one before it left
unfoldable pub row_looks : List Against → ℕ → ℕ
row_looks [] left = 0
row_looks (x ∷ xs) left =
    all_looks x.bytes x.from x.to x.excluded x.kind x.name left
    + row_looks xs (spend left (entries x.bytes x.from x.to x.excluded x.kind x.name)).left

-- no name is longer than m, and no entry that is met than n
unfoldable pub NoLonger : ℕ → ℕ → List Against → Type 0
NoLonger m n [] = Unit {0}
NoLonger m n (x ∷ xs) =
    (length x.name ≤ m)
    × ((at base start end : ℕ) → Met x.bytes x.from x.to at → base_at x.bytes at x.to ≡ name_is base start end → end - at ≤ n)
    × NoLonger m n xs
