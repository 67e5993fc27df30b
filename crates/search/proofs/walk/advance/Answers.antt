-- `search::walk::advance` meets its contract. Assumes nothing.
use Rattle.dialogue.specs.Dialogue.{follow}
use Rattle.machine.specs.World.{world_by}
use Rattle.machine.specs.Machine.{Ran, move}
use mathlib.Core.Path.{refl, sym, subst, ◌∙◌}
use Prim.Native.Nat.{ℕ, suc}
use mathlib.Core.List.{List, append-nil}
use native.Mathlib.Omega.{arith}
use Rattle.search.proofs.walk.advance.Goals as goal

pub loop-t-init : goal.loop-t-init
loop-t-init c = (c.requires, record { same = refl; most = omega arith; ran = λ s₀ said n h. (n, h) })

pub loop-t-smaller : goal.loop-t-smaller
loop-t-smaller c = c.move_on-t.ensures.less

pub loop-t-preserved : goal.loop-t-preserved
loop-t-preserved c =
    let m = c.move_on-t.ensures in
    let i = c.loop-t.invariant.1 in (
      m.deep,
      record {
        same = m.same ∙ i.same;
        most = omega (arith, m.less, i.most);
        ran = λ s₀ said n h. let k = i.ran s₀ said n h in (suc k.0, move k.1 m);
      },
    )

pub returns : goal.returns
unfolding follow
returns c =
    let i = c.loop-t.invariant in
    record {
      same = i.1.same;
      deep = i.0;
      most = i.1.most;
      halts = c.in_default.not-Walk;
      ran = λ s₀ said n h. let k = i.1.ran s₀ said n h in (k.0, subst (λ (l : List ℕ). Ran (world_by c.args.request.now) s₀ c.loop-t.t l k.0) (sym (append-nil said)) k.1);
    }
