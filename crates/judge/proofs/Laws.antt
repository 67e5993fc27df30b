-- Steps, the states they hold, and the dialogue: a state is shown as it is, and an answer goes on from it. Assumes nothing.
use Prim.Native.Nat.{ℕ, zero, suc, ◌+◌, ◌≤◌, ◌<◌}
use mathlib.Core.Path.{◌≡◌, refl, sym, ◌∙◌, ap, subst}
use mathlib.Core.Bool.{Bool, true, false, cond}
use mathlib.Core.List.{List, [], ◌∷◌, map}
use native.Mathlib.Omega.{arith}
use lib.Dec.{ltb, eqb}
use lib.ListN.{length, get_or, length-map, get_or-eq_default}
use denote.Ref.{Bor}
use borrow.Author.Tests.{le-ltb, ltb-false, ne_eqb}
use Rattle.refusal.specs.Refusals.{maximum_path_depth_exceeded}
use Rattle.cert.specs.declared.Certificate.{Certificate}
use Rattle.cert.specs.Model.{read_certificate, Reading}
use Rattle.asked.specs.Model.{question_in, question_of}
use Rattle.path.specs.Model.{on_reading}
use Rattle.table.specs.Model.{reading_in, Held}
use Rattle.table.proofs.Laws.{held_reading}
use Rattle.lent.specs.Lent.{readings_in}
use Rattle.lent.proofs.Laws.{held_readings}
use Rattle.dialogue.specs.Model.{World, Outcome, refused, Tree, done, ask, offer}
use Rattle.dialogue.specs.Dialogue.{give, follow}
use Rattle.machine.specs.declared.Numbers.{Numbers}
use Rattle.machine.specs.declared.State.{State}
use Rattle.machine.specs.declared.Phase.{Phase}
use Rattle.machine.specs.declared.Phase.TheVariants.{Walk, Ask, Offer, Found, Refused, Spent}
use Rattle.machine.specs.Machine.{phase_tree, tree_of, phase_effort, effort, key_at, cert_at, what_at, begin, Answered, Came}
use Rattle.machine.specs.World.{world_of, world_in}
use Rattle.machine.proofs.Lent.{world_held}
use Rattle.machine.proofs.Whole.{ran_bound, few_moves}
use Rattle.conditions.specs.Request.{Request, Budgets, end_of}
use Rattle.conditions.specs.Model.{name_of, named, closed, world_for, search_of, decision}
use Rattle.told.specs.declared.Asked.{Asked}
use Rattle.wanted.specs.Model.{name_by}
use Rattle.steps.specs.declared.Step.{Step}
use Rattle.steps.specs.Model.{phase_of, number_of, refusal_of, state_of, step_of, is_found, shown_as, ended_step}
use Rattle.judge.specs.Steps.{tree_from, At, ran, unread, read, moves_left, Run, Answered as AnsweredStep}
use Rattle.told.specs.Model.{asked_of}
use Rattle.std.specs.Prelude.{Ok, Err}

-- ---- a table that is held
module _ (T I : List (List ℕ)) (E : List ℕ) (h : Held T I E) where
  -- what it says of the end entity
  pub end_held : (n : ℕ) → n ≡ length I → reading_in T n E ≡ read_certificate E true
  end_held n q =
      let past : get_or I n E ≡ E = get_or-eq_default I E {n = n} (omega (arith, q)) in
      rw past at (held_reading T I E h n (omega (arith, q)))

  pub shown_held : (n : ℕ) → n ≡ length I → (kind : ℕ) (name : List ℕ) (s : State) (r : Step) → r ≡ shown_as (name_by (reading_in T n E) E kind name) s s.phase → r ≡ shown_as (name_of E kind name) s s.phase
  unfolding name_by name_of
  shown_held n q kind name s r e = e ∙ ap (λ (g : Reading). shown_as (name_by g E kind name) s s.phase) (end_held n q)

  -- what holds of the world that the machine sees holds of the bytes' own
  on_bytes {ℓ} : (P : World → Type ℓ) (S K C : List (List ℕ)) (B : List ℕ) (D : List (List ℕ)) (t : ℕ) (w : List ℕ) (m : Bool) (n : ℕ) → n ≡ length S → P (world_in (readings_in T I E n) I E S K C B D t w m) → P (world_of I E S K C B D t w m)
  on_bytes P S K C B D t w m n q p = subst P (world_held T I E S K C B D t w m n q h) p

  module _ (S K C : List (List ℕ)) (B : List ℕ) (D : List (List ℕ)) (t : ℕ) (w : List ℕ) (m : Bool) (n : ℕ) (q : n ≡ length S) where
    pub came_held : (k sg ex cm : ℕ) (said : List ℕ) (s : State) → Came (world_in (readings_in T I E n) I E S K C B D t w m) k sg ex cm said s → Came (world_of I E S K C B D t w m) k sg ex cm said s
    came_held k sg ex cm said s = on_bytes (λ W. Came W k sg ex cm said s) S K C B D t w m n q

    pub answered_held : (u s : State) (a : ℕ) → Answered (world_in (readings_in T I E n) I E S K C B D t w m) u a s → Answered (world_of I E S K C B D t w m) u a s
    answered_held u s a = on_bytes (λ W. Answered W u a s) S K C B D t w m n q

-- what is said of a name, by what is read of the end entity
pub name_read : (end : List ℕ) (kind : ℕ) (name : List ℕ) (r : Reading) (x : ℕ) → r ≡ read_certificate end true → x ≡ name_by r end kind name → x ≡ name_of end kind name
unfolding name_by name_of
name_read end kind name r x q e = e ∙ ap (λ (g : Reading). name_by g end kind name) q

-- as many are lent as there are references
pub counted : (S I : List (Bor (List ℕ))) → length S + length I ≡ length (map (λ x. x.now) S) + length (map (λ x. x.now) I)
counted S I = rw (length-map S (λ x. x.now), length-map I (λ x. x.now))

-- ---- the dialogue goes on the same, closed or not
pub closed_give : (e : ℕ) (t : Tree) (a : ℕ) → closed e (give t a) ≡ give (closed e t) a
unfolding closed give
closed_give e (done r) a = refl
closed_give e (ask key what t) a = refl
closed_give e (offer anchor path t) a = refl

pub closed_follow : (e : ℕ) (t : Tree) (said : List ℕ) → closed e (follow t said) ≡ follow (closed e t) said
unfolding follow
closed_follow e t [] = refl
closed_follow e t (a ∷ said) = closed_follow e (give t a) said ∙ ap (λ (u : Tree). follow u said) (closed_give e t a)

follow_done : (r : Outcome) (said : List ℕ) → follow (done r) said ≡ done r
unfolding follow give
follow_done r [] = refl
follow_done r (a ∷ said) = follow_done r said

-- ---- a step holds a state
abbrev in_phase : State → Phase → State
in_phase s p = record { path = s.path; next = s.next; depth = s.depth; at = s.at; list = s.list; anchor = s.anchor; signatures = s.signatures; extensions = s.extensions; comparisons = s.comparisons; best = s.best; phase = p }

abbrev held : State → Bool → Phase → State
held s long p = record { path = s.path; next = s.next; depth = cond long 0 s.depth; at = s.at; list = s.list; anchor = s.anchor; signatures = s.signatures; extensions = s.extensions; comparisons = s.comparisons; best = s.best; phase = cond long (Refused maximum_path_depth_exceeded) p }

state_of_step : (s : State) (n e : ℕ) → s.depth < 7 → state_of (step_of s n e) ≡ in_phase s (phase_of n e)
unfolding state_of
state_of_step s n e l = ap (λ (b : Bool). held s b (phase_of n e)) (le-ltb 6 s.depth (omega (arith, l)))

-- a state that a search can be in, from any step
pub fair : (t : Step) → ((state_of t).depth < 7) × ((state_of t).phase ≡ Walk → ⊥)
unfolding state_of phase_of
fair t = by (ltb 6 t.depth) refl
  where
    no : (b c d e : Bool) → cond b Ask (cond c Offer (cond d Found (cond e (Spent t.refusal) (Refused t.refusal)))) ≡ Walk → ⊥
    no true c d e h = let z : ◌≡◌ {A = ℕ} 0 1 = cc in omega arith
    no false true d e h = let z : ◌≡◌ {A = ℕ} 0 1 = cc in omega arith
    no false false true e h = let z : ◌≡◌ {A = ℕ} 0 1 = cc in omega arith
    no false false false true h = let z : ◌≡◌ {A = ℕ} 0 1 = cc in omega arith
    no false false false false h = let z : ◌≡◌ {A = ℕ} 0 1 = cc in omega arith

    by : (b : Bool) → ltb 6 t.depth ≡ b → (cond b 0 t.depth < 7) × (cond b (Refused maximum_path_depth_exceeded) (phase_of t.phase t.refusal) ≡ Walk → ⊥)
    by true q = (omega arith, λ h. let z : ◌≡◌ {A = ℕ} 0 1 = cc in omega arith)
    by false q = (omega (arith, ltb-false 6 t.depth q), no (eqb t.phase 1) (eqb t.phase 2) (eqb t.phase 3) (eqb t.phase 5))

module _ (R : Request) where
  abbrev naming : ℕ
  naming = name_of R.end R.kind R.name

  -- a step that holds s, and shows its phase
  plain : (s : State) (p : Phase) → s.depth < 7 → s.phase ≡ p → phase_of (number_of p) (refusal_of p) ≡ p → state_of (step_of s (number_of p) (refusal_of p)) ≡ s
  plain s p l h k = state_of_step s (number_of p) (refusal_of p) l ∙ ap (in_phase s) (k ∙ sym h)

  stands : (s : State) (r : Step) → state_of r ≡ s → tree_from R r ≡ closed naming (tree_of (world_for R) s)
  unfolding tree_from
  stands s r h = ap (λ (u : State). closed naming (tree_of (world_for R) u)) h

  no_more : {u s : State} → u ≡ s → effort (world_for R) u ≤ effort (world_for R) s
  no_more h = omega (arith, ap (λ (u : State). effort (world_for R) u) h)

  -- what a state is shown as, by its phase
  by_phase : (s : State) (p : Phase) (e : ℕ) → naming ≡ e → s.depth < 7 → s.phase ≡ p → (p ≡ Walk → ⊥) → At R (closed e (phase_tree (world_for R) s p)) (shown_as e s p)
  unfolding shown_as is_found phase_tree closed named phase_of number_of refusal_of tree_from
  by_phase s Walk e n l h w = absurd (w refl)
  by_phase s Ask e n l h w =
      let k = plain s Ask l h refl in
      record { sees = (refl, ap (λ (u : State). key_at u) k, ap (λ (u : State). what_at u) k); stands = stands s (step_of s 1 0) k ∙ ap (λ (q : Phase). closed naming (phase_tree (world_for R) s q)) h ∙ ap (λ (x : ℕ). closed x (phase_tree (world_for R) s Ask)) n }
  by_phase s Offer e n l h w =
      let k = plain s Offer l h refl in
      record { sees = (refl, refl, refl); stands = stands s (step_of s 2 0) k ∙ ap (λ (q : Phase). closed naming (phase_tree (world_for R) s q)) h ∙ ap (λ (x : ℕ). closed x (phase_tree (world_for R) s Offer)) n }
  by_phase s Found zero n l h w =
      let k = plain s Found l h refl in
      record { sees = (refl, refl, refl); stands = stands s (step_of s 3 0) k ∙ ap (λ (q : Phase). closed naming (phase_tree (world_for R) s q)) h ∙ ap (λ (x : ℕ). closed x (phase_tree (world_for R) s Found)) n }
  by_phase s Found (suc e) n l h w =
      subst (λ (b : Bool). At R (done (refused (suc e))) (cond b (step_of s 3 0) (step_of s 4 (suc e)))) (sym (ne_eqb (suc e) 0 (λ q. omega (arith, q))))
      record { sees = (refl, refl); stands = ap (λ (u : State). closed naming (tree_of (world_for R) u)) (state_of_step s 4 (suc e) l) }
  by_phase s (Refused x) e n l h w =
      let k = plain s (Refused x) l h refl in
      record { sees = (refl, refl); stands = stands s (step_of s 4 x) k ∙ ap (λ (q : Phase). closed naming (phase_tree (world_for R) s q)) h ∙ ap (λ (y : ℕ). closed y (phase_tree (world_for R) s (Refused x))) n }
  by_phase s (Spent x) e n l h w =
      let k = plain s (Spent x) l h refl in
      record { sees = (refl, refl); stands = stands s (step_of s 5 x) k ∙ ap (λ (q : Phase). closed naming (phase_tree (world_for R) s q)) h ∙ ap (λ (y : ℕ). closed y (phase_tree (world_for R) s (Spent x))) n }

  pub shown_at : (s : State) → s.depth < 7 → (s.phase ≡ Walk → ⊥) → At R (closed naming (tree_of (world_for R) s)) (shown_as naming s s.phase)
  shown_at s l w = by_phase s s.phase naming refl l refl w

  -- no more moves can follow a step than the state that it shows
  shown_left : (s : State) (p : Phase) (e : ℕ) → s.depth < 7 → s.phase ≡ p → (p ≡ Walk → ⊥) → moves_left R (shown_as e s p) ≤ effort (world_for R) s
  unfolding shown_as is_found phase_effort phase_of number_of refusal_of
  shown_left s Walk e l h w = absurd (w refl)
  shown_left s Ask e l h w = no_more (plain s Ask l h refl)
  shown_left s Offer e l h w = no_more (plain s Offer l h refl)
  shown_left s Found zero l h w = no_more (plain s Found l h refl)
  shown_left s Found (suc e) l h w = rw (ne_eqb (suc e) 0 (λ q. omega (arith, q)), state_of_step s 4 (suc e) l) (omega arith)
  shown_left s (Refused x) e l h w = no_more (plain s (Refused x) l h refl)
  shown_left s (Spent x) e l h w = no_more (plain s (Spent x) l h refl)

  -- ---- an answer, and an end entity that cannot be read
  pub answer_at : (t r : Step) (s : State) (a : ℕ) → r ≡ shown_as naming s s.phase → Answered (world_for R) (state_of t) a s → AnsweredStep R t a r
  unfolding tree_from follow
  answer_at t r s a e h =
      let f = fair t in
      let g = h f.0 f.1 in
      let k = g.ran (state_of t) [] 0 begin in
      subst (λ (w : Step). AnsweredStep R t a w) (sym e) record {
        at = subst (λ (v : Tree). At R v (shown_as naming s s.phase)) (ap (closed naming) g.same ∙ closed_give naming (tree_of (world_for R) (state_of t)) a) (shown_at s g.deep g.halts);
        moves = k.0;
        made = ran k.1;
        few = omega (arith, ran_bound (world_for R) k.1, shown_left s s.phase naming g.deep refl g.halts);
      }

  module _ (B : Budgets) where
    read_decision : (c : Certificate) → read_certificate R.end true ≡ Ok c → closed naming (search_of R B) ≡ decision R B
    unfolding decision on_reading
    read_decision c e = sym (rw e)

    unread_at : (e : ℕ) → read_certificate R.end true ≡ Err e → (r : Step) (a b c : ℕ) → r ≡ ended_step e a b c → At R (decision R B) r
    unfolding decision on_reading tree_from state_of phase_of phase_tree closed named
    unread_at e q r a b c h = rw (q, h) record { sees = (refl, refl); stands = refl }

-- ---- a whole run
module _ (R : Request) (B : Budgets) where
  pub went : (said : List ℕ) (s : State) (r : Step) (c : Certificate) → read_certificate R.end true ≡ Ok c → (n : ℕ) → n ≡ end_of R
      → Came (world_for R) n B.signatures B.extensions B.comparisons said s → r ≡ shown_as (name_of R.end R.kind R.name) s s.phase → Run R B said r
  unfolding world_of
  went said s r c q n m k e =
      let g : Came (world_for R) (end_of R) B.signatures B.extensions B.comparisons said s = subst (λ (j : ℕ). Came (world_for R) j B.signatures B.extensions B.comparisons said s) m k in
      subst (λ (w : Step). Run R B said w) (sym e) record {
        at = subst (λ (v : Tree). At R v (shown_as (name_of R.end R.kind R.name) s s.phase))
            (ap (closed (naming R)) g.same ∙ closed_follow (naming R) (search_of R B) said ∙ ap (λ (v : Tree). follow v said) (read_decision R B c q))
            (shown_at R s g.deep g.halts);
        moves = g.moves;
        made = read (ran g.ran);
        few = omega (arith, few_moves (world_for R) _ _ _ _ _ _ _ g.ran, shown_left R s s.phase (naming R) g.deep refl g.halts);
      }

  pub not_read : (said : List ℕ) (e : ℕ) → read_certificate R.end true ≡ Err e → (r : Step) (a b c : ℕ) → r ≡ ended_step e a b c → Run R B said r
  unfolding decision on_reading state_of phase_of phase_effort
  not_read said e q r a b c h = record {
    at = subst (λ (v : Tree). At R v r) (rw q (sym (follow_done (refused e) said))) (unread_at R B e q r a b c h);
    moves = 0;
    made = unread e q;
    few = rw h (omega arith);
  }

-- ---- what a question is about
abbrev numbers_of : State → Numbers
numbers_of s = record { key = key_at s; certificate = cert_at s; list = s.list }

pub question_told : (T I : List (List ℕ)) (E : List ℕ) (K : List (List ℕ)) (n : ℕ) (t : Step) (u : State) (q : Numbers) (r : Asked)
    → u ≡ state_of t → q ≡ record { key = key_at u; certificate = cert_at u; list = u.list } → r ≡ asked_of q.key q.certificate (question_in (readings_in T I E n) I E K n q.key q.certificate)
    → Held T I E → r ≡ asked_of (key_at (state_of t)) (cert_at (state_of t)) (question_of I E K n (key_at (state_of t)) (cert_at (state_of t)))
question_told T I E K n t u q r a b d h =
    d ∙ ap (λ (g : ℕ → Reading). asked_of q.key q.certificate (question_in g I E K n q.key q.certificate)) (held_readings T I E n h)
    ∙ ap (λ (m : Numbers). asked_of m.key m.certificate (question_of I E K n m.key m.certificate)) (b ∙ ap numbers_of a)
