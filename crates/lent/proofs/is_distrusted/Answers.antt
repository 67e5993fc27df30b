use borrow.Author.Tests.{tests}
use Rattle.std.proofs.lemmas.Iterator.{YieldsList-from_slice}
use Rattle.std.proofs.lemmas.Iterator.Search.{any_from_yields_List}
use Rattle.std.proofs.Common.{rules, length}
use Rattle.parts.specs.Model.{same_parts}
use Rattle.lent.proofs.Laws.{listed_any}
use Rattle.lent.proofs.is_distrusted.Goals as goal

pub returns : goal.returns
returns c =
    let a = c.args in
    let r = any_from_yields_List (λ k. same_parts a.s.now a.from a.to k.now 0 (length k.now)) _ _ _ c.any.ensures.ran (YieldsList-from_slice a.distrusted.now cc) (λ x b q k. search (rules, tests)) in
    rw (← listed_any a.s.now a.from a.to a.distrusted.now) r
