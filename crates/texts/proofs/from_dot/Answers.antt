-- `texts::from_dot` meets its contract. Assumes nothing.
use mathlib.Core.Path.{sym, ◌∙◌}
use lib.Dec.{eqb}
use Rattle.std.specs.Prelude.{Some, None, length}
use Rattle.std.proofs.Common.{rules, tests}
use Rattle.std.proofs.lemmas.Iterator.{YieldsList-from_slice}
use Rattle.std.proofs.lemmas.Iterator.Search.{position_from_yields_List}
use native.Mathlib.Omega.{arith}
use Rattle.texts.specs.Bytes.{dot}
use Rattle.texts.proofs.Laws.{rest_all, past_end, dot_at}
use Rattle.texts.proofs.from_dot.Goals as goal

pub returns-in-Some : goal.returns-in-Some
returns-in-Some c =
    let p = position_from_yields_List (λ x. eqb x dot) _ _ c.position.result c.position.ensures.ran (YieldsList-from_slice c.args.h.now cc) (λ x b q k. search (rules, tests)) in
    rest_all c.args.h.now _ ∙ dot_at c.args.h.now (Some c.in-Some.at) (sym c.in-Some.is ∙ p)

pub returns-in-None : goal.returns-in-None
returns-in-None c =
    let p = position_from_yields_List (λ x. eqb x dot) _ _ c.position.result c.position.ensures.ran (YieldsList-from_slice c.args.h.now cc) (λ x b q k. search (rules, tests)) in
    sym (past_end c.args.h.now (length c.args.h.now) (omega arith)) ∙ dot_at c.args.h.now None (sym c.in-None.is ∙ p)
