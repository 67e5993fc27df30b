use Prim.Native.Nat.{ℕ}
use mathlib.Core.Path.{◌≡◌, ◌∙◌, ap, sym}
use mathlib.Core.List.{List}
use lib.ListN.{length}
use denote.Ref.{Bor}
use Rattle.std.specs.Prelude.{Some, None}
use Rattle.cert.specs.Model.{key_parts}
use native.Mathlib.Omega.{arith}
use Rattle.der.proofs.Laws.{handed_on, tests}
use Rattle.rows.specs.Model.{on_outline}
use Rattle.asked.specs.Model.{key_in}
use Rattle.asked.proofs.Laws.{key_lent, key_beyond}
use Rattle.asked.proofs.key_of.Goals as goal

pub returns-then-number-lent : goal.returns-then-number-lent
returns-then-number-lent c =
    let t = c.in_ok-t.t in
    let some : c.get.result ≡ Some t = grind arith in
    let found = rw some at c.get.ensures.lookup in
    c.parts.ensures
    ∙ ap (λ (x : Bor (List ℕ)). key_parts x.now 0 (length x.now)) (found.4 (omega arith) t.now)
    ∙ sym (key_lent _ _ _ c.args.keys.now _ _ (omega arith) t.now (omega arith))

pub returns-in_err-t : goal.returns-in_err-t
returns-in_err-t c =
    let none : c.get.result ≡ None = grind arith in
    let found = rw none at c.get.ensures.lookup in
    handed_on _ c.from_residual.ensures
    ∙ grind arith
    ∙ sym (key_beyond _ _ _ c.args.keys.now _ _ (omega arith) (omega arith))

pub returns-in_err-key : goal.returns-in_err-key
unfolding key_in on_outline
returns-in_err-key c = handed_on _ c.from_residual-in_err-key.ensures ∙ search (tests, ← c.in_err-key.ensures)

pub returns : goal.returns
unfolding key_in on_outline
returns c = search (tests, ← c.in_ok-key.ensures, ← c.certificate.ensures, c.parts-2.ensures)
