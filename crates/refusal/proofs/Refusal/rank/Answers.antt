-- `Refusal::rank` meets its contract: the array is the ranks of the first 72 numbers, and past them every rank is 0. Assumes nothing.
use Prim.Native.Nat.{ℕ}
use mathlib.Core.Path.{◌≡◌, refl, sym, ap, ◌∙◌}
use mathlib.Core.Bool.{Bool, true, false}
use lib.ListN.{get_or, get_or-eq_default}
use lib.Dec.{ltb}
use native.Mathlib.Omega.{arith}
use borrow.Author.Tests.{ltb-true, ltb-false}
use Rattle.refusal.specs.Refusals.{rank_of}
use Rattle.refusal.proofs.Laws.{rank_past}
use Rattle.refusal.proofs.Table.{at, values}
use Rattle.refusal.proofs.Refusal.rank.Goals as goal

rank_at : (n : ℕ) → get_or (values rank_of 0 72) n 0 ≡ rank_of n
rank_at n = go (ltb n 72) refl
  where
    go : (t : Bool) → ltb n 72 ≡ t → get_or (values rank_of 0 72) n 0 ≡ rank_of n
    go true e = at rank_of 72 n (ltb-true n 72 e)
    go false e = get_or-eq_default (values rank_of 0 72) 0 (ltb-false n 72 e) ∙ sym (rank_past n (ltb-false n 72 e))

pub returns : goal.returns
unfolding rank_of
returns c =
    rw (c.unwrap_or.ensures, c.copied.ensures) (c.get.ensures.lookup.4 (omega arith) 0 ∙ rank_at c.number.result ∙ ap rank_of c.number.ensures)
