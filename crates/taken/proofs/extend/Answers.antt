-- `taken::extend` meets its contract. Assumes nothing.
use Rattle.refusal.proofs.Laws.{outcome_ok, outcome_err}
use Rattle.machine.proofs.Moves.{extend_out, extend_deep, extend_refused, extend_goes}
use Rattle.machine.proofs.Lent.{outcome_not, checks_push}
use lib.ListN.{length}
use native.Mathlib.Omega.{arith}
use mathlib.Core.Path.{◌≡◌, sym, ◌∙◌}
use borrow.Author.Rules.{rules}
use Rattle.taken.proofs.extend.Goals as goal

pub returns-then-s-eq0 : goal.returns-then-s-eq0
returns-then-s-eq0 c deep walks W h = extend_out W c.args.s deep c.args.i walks c.if-s-eq0.true

pub returns-then-s-ge-MOST_INTERMEDIATES : goal.returns-then-s-ge-MOST_INTERMEDIATES
returns-then-s-ge-MOST_INTERMEDIATES c deep walks W h = extend_deep W c.args.s deep c.args.i walks c.if-s-eq0.false _ c.worse.ensures (omega arith)

pub returns-in-Err : goal.returns-in-Err
returns-in-Err c deep walks W h =
    let s = c.args.s in
    let long_path : length s.path ≡ 7 = search rules in
    let failed = sym c.check.ensures ∙ c.in-Err.is in
    extend_refused W s deep c.args.i walks c.if-s-eq0.false c.in-Err.e _ c.worse-in-Err.ensures (λ q. omega arith)
    (checks_push W _ _ _ _ _ _ _ _ h s.path s.depth c.args.i _ (omega arith) (sym (outcome_err _ _ failed)))
    (outcome_not _ _ failed)

pub returns : goal.returns
returns c deep walks W h =
    let s = c.args.s in
    let long_path : length s.path ≡ 7 = search rules in
    extend_goes W s deep c.args.i walks c.if-s-eq0.false long_path (search rules) (λ q. omega arith)
    (checks_push W _ _ _ _ _ _ _ _ h s.path s.depth c.args.i _ (omega arith) (sym (outcome_ok _ (sym c.check.ensures ∙ c.in_default.is))))
