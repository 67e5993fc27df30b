use Prim.Native.Nat.{ℕ, ◌+◌, ◌<◌}
use mathlib.Core.Path.{◌∙◌}
use lib.ListN.{length, take}
use native.Mathlib.Omega.{arith}
use borrow.Author.Tests.{tests}
use Rattle.std.proofs.Common.{rules}
use Rattle.std.proofs.lemmas.Iterator.Adapters.{YieldsList-from_rev_slice}
use Rattle.std.proofs.lemmas.Iterator.Search.{any_from_yields_List}
use Rattle.rows.specs.Model.{outlined}
use Rattle.lent.specs.Lent.{readings, certificates}
use Rattle.lent.proofs.Laws.{some_upward}
use Rattle.candidate.specs.Model.{has_both_as, on_path_in}
use Rattle.candidate.proofs.on_path.Goals as goal

pub returns : goal.returns
unfolding on_path_in
returns c =
    let a = c.args in
    let l = a.lent.now in
    let both = λ (n : ℕ). has_both_as (outlined (readings l n)) a.s.now a.subject a.key (certificates l n) in
    let h : a.depth < length a.path = omega arith in
    any_from_yields_List both _ _ _ c.any.ensures.ran (YieldsList-from_rev_slice (take (a.depth + 1) a.path) (rw c.rev.ensures.source c.iter.ensures.rest)) (λ x b q k. search (rules, tests))
    ∙ some_upward both a.path a.depth h
