-- A whole run of the machine, all its moves and answers together: it decides, and its moves are bounded. Assumes nothing.
use Prim.Native.Nat.{ℕ, zero, suc, ◌+◌, ◌*◌, ◌≤◌}
use mathlib.Core.Path.{◌≡◌, refl, sym, ◌∙◌, ap, subst}
use mathlib.Core.List.{List, [], ◌∷◌, ◌++◌, append-nil}
use native.Mathlib.Omega.{arith}
use Rattle.refusal.specs.Refusals.{unknown_issuer}
use Rattle.refusal.specs.Model.{worse_of}
use Rattle.machine.specs.declared.State.{State}
use Rattle.machine.specs.declared.Phase.TheVariants.{Walk, Refused}
use Rattle.dialogue.specs.Model.{World, Event, Outcome, Tree, done, events, run, search}
use Rattle.dialogue.specs.Dialogue.{give, follow, talk}
use Rattle.dialogue.specs.Work.{paid}
use Rattle.dialogue.specs.Decided.{Decided}
use Rattle.machine.specs.Machine.{left, phase_tree, tree_of, phase_effort, effort, Stands, Heard, Halted, Came, Ran, begin, move, reply, first_phase, begun_in, begun}
use Rattle.dialogue.proofs.Answers.{followed, follow_more}
use Rattle.machine.proofs.Levels.{events_start, events_refused}
use Rattle.dialogue.proofs.Work.{all_events}
use Rattle.dialogue.proofs.Decided.{decided}

module _ (W : World) where
  -- ---- the start
  module _ (end s b n : ℕ) where
    starts : W.check (end ∷ []) ≡ 0 → Stands W (begun_in end s b n Walk) (search W end s b n) (suc W.candidates * suc b)
    unfolding search phase_tree phase_effort
    starts h =
        let list : events W end ≡ left W (begun_in end s b n Walk) = events_start W end (begun_in end s b n Walk).path (begun_in end s b n Walk).next h refl refl in
        let same : paid (events W end) b ≡ paid (left W (begun_in end s b n Walk)) b = ap (λ (l : List Event). paid l b) list in
        record {
          same = ap (λ (l : List Event). run W l s b n unknown_issuer) (sym list);
          deep = omega arith;
          most = omega (arith, all_events W end b);
        }

    starts_refused : (x : ℕ) → W.check (end ∷ []) ≡ x → (x ≡ 0 → ⊥) → Stands W (begun_in end s b n (Refused (worse_of unknown_issuer x))) (search W end s b n) (suc W.candidates * suc b)
    unfolding search phase_tree phase_effort run
    starts_refused x h z = record {
      same = ap (λ (l : List Event). run W l s b n unknown_issuer) (sym (events_refused W end x h z));
      deep = omega arith;
      most = omega arith;
    }

    begins : Stands W (begun W end s b n) (search W end s b n) (suc W.candidates * suc b)
    unfolding first_phase
    begins = by (W.check (end ∷ [])) refl
      where
        by : (x : ℕ) → W.check (end ∷ []) ≡ x → Stands W (begun_in end s b n (first_phase x)) (search W end s b n) (suc W.candidates * suc b)
        by zero h = starts h
        by (suc e) h = starts_refused (suc e) h (λ z. omega (arith, z))

  -- ---- on and on
  pub ran_same : {s r : State} {said : List ℕ} {moves : ℕ} → Ran W s r said moves → tree_of W r ≡ follow (tree_of W s) said
  unfolding follow
  ran_same begin = refl
  ran_same (move h m) = m.same ∙ ran_same h
  ran_same {s} (reply {said = said} a h m) = m.same ∙ ap (λ (u : Tree). give u a) (ran_same h) ∙ sym (follow_more (tree_of W s) said a)

  pub ran_bound : {s r : State} {said : List ℕ} {moves : ℕ} → Ran W s r said moves → moves + effort W r ≤ effort W s
  ran_bound begin = omega arith
  ran_bound (move h m) = omega (arith, ran_bound h, m.less)
  ran_bound (reply a h m) = omega (arith, ran_bound h, m.most)

  -- an answer, and the walk after it
  pub answered : (s t r : State) (a : ℕ) → Heard W s t (give (tree_of W s) a) (effort W s) → Halted W t r [] → Halted W s r (a ∷ [])
  unfolding follow
  answered s t r a m h = record {
    same = h.same ∙ m.same;
    deep = h.deep;
    most = omega (arith, h.most, m.most);
    halts = h.halts;
    ran = λ s₀ said n g.
        let k = h.ran s₀ (said ++ (a ∷ [])) n (reply a g m) in
        (k.0, subst (λ (l : List ℕ). Ran W s₀ r l k.0) (append-nil (said ++ (a ∷ []))) k.1);
  }

  -- an answer after which there is nothing to walk
  pub answered_at_once : (s t : State) (a : ℕ) → Heard W s t (give (tree_of W s) a) (effort W s) → (t.phase ≡ Walk → ⊥) → Halted W s t (a ∷ [])
  unfolding follow
  answered_at_once s t a m h = record {
    same = m.same;
    deep = m.deep;
    most = m.most;
    halts = h;
    ran = λ s₀ said n g. (n, reply a g m);
  }

  -- the start, and the walk after it
  module _ (end s b n : ℕ) where
    pub started : (r : State) → W.check (end ∷ []) ≡ 0 → Halted W (begun_in end s b n Walk) r [] → Came W end s b n [] r
    unfolding follow first_phase
    started r e h =
        let g : Halted W (begun W end s b n) r [] = rw e h in
        let k = g.ran (begun W end s b n) [] 0 begin in
        record { same = g.same ∙ (begins end s b n).same; deep = g.deep; halts = g.halts; moves = k.0; ran = k.1 }

    pub started_refused : (x e : ℕ) → W.check (end ∷ []) ≡ x → (x ≡ 0 → ⊥) → e ≡ worse_of unknown_issuer x → Came W end s b n [] (begun_in end s b n (Refused e))
    unfolding follow first_phase
    started_refused zero e h z w = absurd (z refl)
    started_refused (suc x) e h z w =
        rw w record {
          same = (starts_refused end s b n (suc x) h z).same;
          deep = omega arith;
          halts = λ q. let y : ◌≡◌ {A = ℕ} 0 1 = cc in omega arith;
          moves = 0;
          ran = rw h begin;
        }

  -- ---- and the end
  module _ (end s b n : ℕ) (r : State) (said : List ℕ) (moves : ℕ) (ran : Ran W (begun W end s b n) r said moves) where
    pub few_moves : moves + effort W r ≤ suc W.candidates * suc b
    few_moves = omega (arith, (begins end s b n).most, ran_bound ran)

    pub decides : (q : Outcome) → tree_of W r ≡ done q → Decided W end s b n (talk (search W end s b n) said) q
    decides q h =
        decided W end s b n (talk (search W end s b n) said) q
        (followed (search W end s b n) said q (ap (λ (u : Tree). follow u said) (sym (begins end s b n).same) ∙ sym (ran_same ran) ∙ h))
