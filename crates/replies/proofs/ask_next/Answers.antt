-- `replies::ask_next` meets its contract. Assumes nothing.
use Rattle.machine.proofs.Moves.{out_on, asks_on, bare_next}
use Prim.Native.Nat.{ℕ, ◌-◌}
use mathlib.Core.Path.{ap, ◌∙◌}
use Rattle.replies.proofs.ask_next.Goals as goal

pub returns-then-s-eq0 : goal.returns-then-s-eq0
returns-then-s-eq0 c W a plain asks holds = let p = c.requires in out_on W c.args.s p.0 asks a holds (λ z. p.2 (p.1 ∙ z)) (bare_next W plain c.args.s) c.if-s-eq0.true

pub returns : goal.returns
returns c W a plain asks holds = let p = c.requires in asks_on W c.args.s p.0 asks a holds (c.args.place - 1) (ap (λ (n : ℕ). n - 1) p.1) (λ z. p.2 (p.1 ∙ z)) (bare_next W plain c.args.s) c.if-s-eq0.false
