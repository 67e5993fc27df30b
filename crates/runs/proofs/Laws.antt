-- A search goes on from answer to answer. Assumes nothing.
use Prim.Native.Nat.{ℕ, suc, ◌+◌, ◌<◌}
use mathlib.Core.Path.{◌≡◌, sym, ◌∙◌, ap, subst}
use mathlib.Core.List.{List, [], ◌∷◌, ◌++◌}
use native.Mathlib.Omega.{arith}
use lib.ListN.{length, get_or, take}
use lib.Seq.{take-suc}
use Rattle.dialogue.specs.Model.{World, Tree, search}
use Rattle.dialogue.specs.Dialogue.{give, follow}
use Rattle.dialogue.proofs.Answers.{follow_more}
use Rattle.machine.specs.declared.State.{State}
use Rattle.machine.specs.Machine.{begun, Came, Answered}

-- one more answer
pub take_more : (l : List ℕ) (i : ℕ) → i < length l → take (i + 1) l ≡ take i l ++ (get_or l i 0 ∷ [])
take_more l i h =
    let e : i + 1 ≡ suc i = omega arith in
    ap (λ (j : ℕ). take j l) e ∙ take-suc l i 0 h

module _ (W : World) (end s b n : ℕ) where
  pub goes_on : (said then : List ℕ) (u r : State) (a : ℕ) → then ≡ said ++ (a ∷ []) → Came W end s b n said u
      → Answered W u a r → Came W end s b n then r
  unfolding follow
  goes_on said then u r a e g h =
      let k = h g.deep g.halts in
      let m = k.ran (begun W end s b n) said g.moves g.ran in
      subst (λ (l : List ℕ). Came W end s b n l r) (sym e) record {
        same = k.same ∙ ap (λ (t : Tree). give t a) g.same ∙ sym (follow_more (search W end s b n) said a);
        deep = k.deep;
        halts = k.halts;
        moves = m.0;
        ran = m.1;
      }

  pub came : (said all : List ℕ) (r : State) → said ≡ all → Came W end s b n said r → Came W end s b n all r
  came said all r e = subst (λ (l : List ℕ). Came W end s b n l r) e
