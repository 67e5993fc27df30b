-- DECIDES and ACCOUNTS: of every sequence of calls, by the log that the caller sees. Assumes nothing.
use Prim.Native.Nat.{ℕ, zero, suc, ◌+◌, ◌*◌, ◌≤◌, ◌<◌}
use mathlib.Core.Path.{◌≡◌, refl, sym, ◌∙◌, ap, subst}
use mathlib.Core.Bool.{Bool, true, false}
use mathlib.Core.Logic.{⊎_elim}
use mathlib.Core.List.Memᴰ
use mathlib.Core.List.{List, [], ◌∷◌, ◌++◌, append_assoc, Memᴰ}
use lib.ListN.{length}
use lib.Dec.{eqb}
use native.Mathlib.Omega.{arith}
use borrow.Author.Tests.{eqb-true, eqb-false}
use Rattle.cert.specs.declared.Certificate.{Certificate}
use Rattle.cert.specs.Model.{read_certificate, Reading}
use Rattle.machine.specs.World.{world_of}
use Rattle.dialogue.specs.Log.{What, Turn, answer, word, asked, offered, SaidYes, yeses, EndsWith}
use Rattle.dialogue.specs.Model.{Path, Outcome, accepted, refused, spent, Tree, done, ask, offer}
use Rattle.dialogue.specs.Dialogue.{give, turn, follow, talk}
use Rattle.dialogue.proofs.Answers.{follow_more, talk_more, follow_done}
use Rattle.dialogue.proofs.Ends.{Room, search_room, along}
use Rattle.conditions.specs.Request.{Request, Budgets, end_of}
use Rattle.conditions.specs.Model.{name_of, named, closed, world_for, search_of, decision}
use Rattle.conditions.specs.Conditions.{Lends}
use Rattle.conditions.specs.Meets.{Stands}
use Rattle.conditions.specs.Decided.{Decided}
use Rattle.conditions.proofs.Accepts.{accepts}
use Rattle.conditions.proofs.Closed.{follow_closed, talk_closed, decision_is, decision_none}
use Rattle.conditions.proofs.Room.{too_small}
use Rattle.conditions.proofs.Decided.{answered, found_stands, found_closes}
use Rattle.steps.specs.declared.Step.{Step}
use Rattle.judge.specs.Steps.{Sees, At}
use Rattle.judge.specs.Decides.{path_of, Decides}
use Rattle.judge.specs.Accounts.{Accounts}
use Rattle.judge.specs.Calls.{CallsDecideType, calls_accept_type, SameEnd, EndStaysType, answers_in, JudgeDecidesType}
use Rattle.judge.proofs.Calls.{other_phase, calls_came}
use Rattle.std.specs.Prelude.{Ok, Err}

-- ---- logs
long : (l : List Turn) → length l ≡ asked l + offered l
unfolding asked offered
long [] = omega arith
long (answer k w a ∷ l) = omega (arith, long l)
long (word k p a ∷ l) = omega (arith, long l)

last_off : (xs ys : List Turn) (x : Turn) → xs ++ (x ∷ []) ≡ ys ++ (x ∷ []) → xs ≡ ys
last_off [] [] x e = refl
last_off [] (y ∷ []) x e = absurd (let z : ◌≡◌ {A = ℕ} 1 2 = ap length e in omega arith)
last_off [] (y ∷ (w ∷ ys)) x e = absurd (let z : 1 ≡ suc (suc (length (ys ++ (x ∷ [])))) = ap length e in omega arith)
last_off (y ∷ []) [] x e = absurd (let z : ◌≡◌ {A = ℕ} 2 1 = ap length e in omega arith)
last_off (y ∷ (w ∷ xs)) [] x e = absurd (let z : suc (suc (length (xs ++ (x ∷ [])))) ≡ 1 = ap length e in omega arith)
last_off (a ∷ xs) (b ∷ ys) x e =
    let h : a ≡ b = cc in
    let t : xs ++ (x ∷ []) ≡ ys ++ (x ∷ []) = cc in
    ap (λ (c : Turn). c ∷ xs) h ∙ ap (λ (l : List Turn). b ∷ l) (last_off xs ys x t)

before_word : (key : ℕ) (what : What) (a k : ℕ) (p : List ℕ) (b : ℕ) (l : List Turn) → Memᴰ (answer key what a) (l ++ (word k p b ∷ [])) → Memᴰ (answer key what a) l
before_word key what a k p b [] h = ⊎_elim (λ (e : answer key what a ≡ word k p b). let z : ◌≡◌ {A = ℕ} 0 1 = cc in absurd (omega arith)) (λ m. absurd (Memᴰ.not-nil m)) (Memᴰ.cases_cons h)
before_word key what a k p b (x ∷ l) h = ⊎_elim (λ e. Memᴰ.head e) (λ m. Memᴰ.tail (before_word key what a k p b l m)) (Memᴰ.cases_cons h)

-- ---- what a step shows
phase_five : (r : Step) (t : Tree) → Sees r t → (1 ≤ r.phase) × (r.phase ≤ 5)
phase_five r (ask k w t) s = (omega (arith, s.0), omega (arith, s.0))
phase_five r (offer k p t) s = (omega (arith, s.0), omega (arith, s.0))
phase_five r (done (accepted k p)) s = (omega (arith, s.0), omega (arith, s.0))
phase_five r (done (refused e)) s = (omega (arith, s.0), omega (arith, s.0))
phase_five r (done (spent e)) s = (omega (arith, s.0), omega (arith, s.0))

found_at : (r : Step) (t : Tree) → Sees r t → r.phase ≡ 3 → t ≡ done (accepted r.anchor (path_of r))
found_at r (ask k w t) s h = other_phase r 1 3 s.0 h (λ z. omega (arith, z))
found_at r (offer k p t) s h = other_phase r 2 3 s.0 h (λ z. omega (arith, z))
found_at r (done (accepted k p)) s h = rw (s.1, s.2)
found_at r (done (refused e)) s h = other_phase r 4 3 s.0 h (λ z. omega (arith, z))
found_at r (done (spent e)) s h = other_phase r 5 3 s.0 h (λ z. omega (arith, z))

refused_at : (r : Step) (t : Tree) → Sees r t → r.phase ≡ 4 → t ≡ done (refused r.refusal)
refused_at r (ask k w t) s h = other_phase r 1 4 s.0 h (λ z. omega (arith, z))
refused_at r (offer k p t) s h = other_phase r 2 4 s.0 h (λ z. omega (arith, z))
refused_at r (done (accepted k p)) s h = other_phase r 3 4 s.0 h (λ z. omega (arith, z))
refused_at r (done (refused e)) s h = rw s.1
refused_at r (done (spent e)) s h = other_phase r 5 4 s.0 h (λ z. omega (arith, z))

spent_at : (r : Step) (t : Tree) → Sees r t → r.phase ≡ 5 → t ≡ done (spent r.refusal)
spent_at r (ask k w t) s h = other_phase r 1 5 s.0 h (λ z. omega (arith, z))
spent_at r (offer k p t) s h = other_phase r 2 5 s.0 h (λ z. omega (arith, z))
spent_at r (done (accepted k p)) s h = other_phase r 3 5 s.0 h (λ z. omega (arith, z))
spent_at r (done (refused e)) s h = other_phase r 4 5 s.0 h (λ z. omega (arith, z))
spent_at r (done (spent e)) s h = rw s.1

ended_at : (r : Step) (t : Tree) → Sees r t → 3 ≤ r.phase → (q : Outcome) × (t ≡ done q)
ended_at r (ask k w t) s h = absurd (omega (arith, s.0, h))
ended_at r (offer k p t) s h = absurd (omega (arith, s.0, h))
ended_at r (done q) s h = (q, refl)

ended : (r : Step) (q : Outcome) → Sees r (done q) → 3 ≤ r.phase
ended r (accepted k p) s = omega (arith, s.0)
ended r (refused x) s = omega (arith, s.0)
ended r (spent x) s = omega (arith, s.0)

-- ---- questions and offers that are left
record Left (S : ℕ) (log : List Turn) (r : Step) : Type 0 where
  questions : asked log ≤ S
  offers : offered log ≤ asked log
  question_left : r.phase ≡ 1 → asked log < S
  offer_left : r.phase ≡ 2 → offered log < asked log

left_at : (S : ℕ) (log : List Turn) (r : Step) (e left more : ℕ) (f : Tree) → Room left more f → Sees r (closed e f) → asked log + left ≤ S → offered log + more ≤ asked log → Left S log r
unfolding Room closed
left_at S log r e left more f ro s a b = record { questions = omega (arith, a); offers = omega (arith, b); question_left = one f ro s; offer_left = two f ro s }
  where
    one : (f : Tree) → Room left more f → Sees r (closed e f) → r.phase ≡ 1 → asked log < S
    one (ask k w t) ro s h = omega (arith, a, ro.1)
    one (offer k p t) ro s h = other_phase r 2 1 s.0 h (λ z. omega (arith, z))
    one (done q) ro s h = absurd (omega (arith, ended r (named e q) s, h))

    two : (f : Tree) → Room left more f → Sees r (closed e f) → r.phase ≡ 2 → offered log < asked log
    two (ask k w t) ro s h = other_phase r 1 2 s.0 h (λ z. omega (arith, z))
    two (offer k p t) ro s h = omega (arith, b, ro.1)
    two (done q) ro s h = absurd (omega (arith, ended r (named e q) s, h))

at_least : (n : ℕ) → 1 ≤ n → (n ≡ 1 → ⊥) → (n ≡ 2 → ⊥) → 3 ≤ n
at_least zero a x y = absurd (omega arith)
at_least (suc zero) a x y = absurd (x refl)
at_least (suc (suc zero)) a x y = absurd (y refl)
at_least (suc (suc (suc n))) a x y = omega arith

ends_at : (S : ℕ) (log : List Turn) (r : Step) → Left S log r → 1 ≤ r.phase → 2 * S ≤ length log → 3 ≤ r.phase
ends_at S log r l p h = go (eqb r.phase 1) refl (eqb r.phase 2) refl
  where
    go : (a : Bool) → eqb r.phase 1 ≡ a → (b : Bool) → eqb r.phase 2 ≡ b → 3 ≤ r.phase
    go true e b f = let x = l.question_left (eqb-true _ _ e) in absurd (omega (arith, x, l.offers, h, long log))
    go false e true f = let x = l.offer_left (eqb-true _ _ f) in absurd (omega (arith, x, l.questions, h, long log))
    go false e false f = at_least r.phase p (eqb-false _ _ e) (eqb-false _ _ f)

-- ---- an offer: answered with content, the search accepts the path
record Offered (R : Request) (log : List Turn) (r : Step) : Type 0 where
  stands : Stands R (SaidYes log) r.anchor (path_of r)
  closes : EndsWith log (yeses r.anchor (path_of r))

give_offer : (f : Tree) (k : ℕ) (p : Path) (u : ℕ → Tree) → f ≡ offer k p u → (give f 0 ≡ u 0) × (turn f 0 ≡ word k p 0 ∷ [])
unfolding give turn
give_offer f k p u e = (rw e, rw e)

module _ (R : Request) (lends : Lends R) (B : Budgets) (said : List ℕ) (r : Step) where
  abbrev searched : Tree
  searched = follow (search_of R B) said

  abbrev search_log : List Turn
  search_log = talk (search_of R B) said

  offered_at : (e left more : ℕ) (f : Tree) → searched ≡ f → Room left more f → Sees r (closed e f) → r.phase ≡ 2 → Offered R search_log r
  unfolding Room closed
  offered_at e left more (ask k w t) is ro s h = other_phase r 1 2 s.0 h (λ z. omega (arith, z))
  offered_at e left more (done q) is ro s h = absurd (omega (arith, ended r (named e q) s, h))
  offered_at e left more (offer k p u) is ro s h =
      let g = give_offer searched k p u is in
      let found : follow (search_of R B) (said ++ (0 ∷ [])) ≡ done (accepted k p) = follow_more (search_of R B) said 0 ∙ g.0 ∙ ro.2 in
      let longer : talk (search_of R B) (said ++ (0 ∷ [])) ≡ search_log ++ (word k p 0 ∷ []) = talk_more (search_of R B) said 0 ∙ ap (λ (l : List Turn). search_log ++ l) g.1 in
      let x = found_stands R lends B (said ++ (0 ∷ [])) k p found (SaidYes search_log) (λ key what y. before_word key what 0 k p 0 search_log (rw longer at y)) in
      let y = found_closes R lends B (said ++ (0 ∷ [])) k p found in
      let z : EndsWith search_log (yeses k p) = (y.0, last_off search_log (y.0 ++ yeses k p) (word k p 0) (sym longer ∙ y.1 ∙ sym (append_assoc y.0 (yeses k p) (word k p 0 ∷ [])))) in
      record { stands = rw (s.1, s.2) x; closes = rw (s.1, s.2) z }

-- ---- all of it, for the answers one after the other
module _ (R : Request) (lends : Lends R) (B : Budgets) (said : List ℕ) (r : Step) (at : At R (follow (decision R B) said) r) where
  abbrev log : List Turn
  log = talk (decision R B) said

  outcome : (q : Outcome) → follow (decision R B) said ≡ done q → Decided R B log q
  outcome = answered R lends B said

  record Rest : Type 0 where
    left : Left B.signatures log r
    offered_so : r.phase ≡ 2 → Offered R log r

  rest_read : (c : Certificate) → read_certificate R.end true ≡ Ok c → Rest
  unfolding world_of
  rest_read c read =
      let e = name_of R.end R.kind R.name in
      let d = decision_is R B c read in
      let t : log ≡ talk (search_of R B) said = ap (λ (u : Tree). talk u said) d ∙ talk_closed e (search_of R B) said in
      let s : Sees r (closed e (follow (search_of R B) said)) = subst (λ (u : Tree). Sees r u) (ap (λ (u : Tree). follow u said) d ∙ follow_closed e (search_of R B) said) at.sees in
      let x = along (search_of R B) said B.signatures 0 (search_room (world_for R) (end_of R) B.signatures B.extensions B.comparisons) in
      record {
        left = rw t (left_at B.signatures (talk (search_of R B) said) r e x.left x.more (follow (search_of R B) said) x.room s x.questions (omega (arith, x.offers)));
        offered_so = λ h. rw t (offered_at R lends B said r e x.left x.more (follow (search_of R B) said) refl x.room s h);
      }

  rest_unread : (x : ℕ) → read_certificate R.end true ≡ Err x → Rest
  unfolding asked offered
  rest_unread x e =
      let d = follow_done (refused x) said in
      let n = decision_none R B x e in
      let t : log ≡ [] = ap (λ (u : Tree). talk u said) n ∙ d.1 in
      let s : Sees r (done (refused x)) = subst (λ (u : Tree). Sees r u) (ap (λ (u : Tree). follow u said) n ∙ d.0) at.sees in
      record {
        left = rw t (record { questions = omega arith; offers = omega arith; question_left = λ h. other_phase r 4 1 s.0 h (λ z. omega (arith, z)); offer_left = λ h. other_phase r 4 2 s.0 h (λ z. omega (arith, z)) });
        offered_so = λ h. other_phase r 4 2 s.0 h (λ z. omega (arith, z));
      }

  rest : Rest
  rest = by (read_certificate R.end true) refl
    where
      by : (g : Reading) → read_certificate R.end true ≡ g → Rest
      by (Ok c) e = rest_read c e
      by (Err x) e = rest_unread x e

  abbrev tree : Tree
  tree = follow (decision R B) said

  decides : Decides R B log r
  decides =
      let x = rest in
      let l = x.left in
      let p = phase_five r tree at.sees in
      record {
        yes = λ h. (outcome (accepted r.anchor (path_of r)) (found_at r tree at.sees h)).yes r.anchor (path_of r) refl;
        yes_closes = λ h. (outcome (accepted r.anchor (path_of r)) (found_at r tree at.sees h)).closing r.anchor (path_of r) refl;
        no = λ h. (outcome (refused r.refusal) (refused_at r tree at.sees h)).no r.refusal refl;
        offer = λ h. (x.offered_so h).stands;
        offer_closes = λ h. (x.offered_so h).closes;
        used_up = λ h. too_small R lends B log r.refusal ((outcome (spent r.refusal) (spent_at r tree at.sees h)).used_up r.refusal refl);
        phases = p;
        questions = l.questions;
        offers = l.offers;
        question_left = l.question_left;
        offer_left = l.offer_left;
        ends = ends_at B.signatures log r l p.0;
      }

  accounts : Accounts R B log r
  accounts =
      let no : r.phase ≡ 4 → Decided R B log (refused r.refusal) = λ h. outcome (refused r.refusal) (refused_at r tree at.sees h) in
      let out : r.phase ≡ 5 → Decided R B log (spent r.refusal) = λ h. outcome (spent r.refusal) (spent_at r tree at.sees h) in
      record {
        which = λ h. (no h).which r.refusal refl;
        no_budget = λ h. (no h).not_fatal r.refusal refl;
        used_up = λ h. (out h).used_up r.refusal refl;
        budget = λ h. (out h).fatal r.refusal refl;
        work = λ h. let q = ended_at r tree at.sees h in (outcome q.0 q.1).work;
      }

-- THEOREM: of every sequence of calls
pub calls_decide : CallsDecideType
calls_decide R lends B table log r c =
    let i = calls_came R B table log r c in
    rw i.is (decides R lends B i.said r i.at, accounts R lends B i.said r i.at)

-- THEOREM: 6.1 accepts what is found or offered
pub calls_accept : calls_accept_type
calls_accept R lends B table log r c h W t =
    let d = (calls_decide R lends B table log r c).0 in
    accepts R W (SaidYes log) t r.anchor (path_of r) (⊎_elim (λ e. d.offer e) (λ e. (d.yes e).stands) h)

-- ---- an end stays
both_end : (s r : Step) (q : Outcome) → Sees s (done q) → Sees r (done q) → SameEnd s r
both_end s r (accepted k p) x y = record { phase_is = y.0 ∙ sym x.0; found = λ h. (y.1 ∙ sym x.1, y.2 ∙ sym x.2); refused = λ h. absurd (omega (arith, x.0, h)) }
both_end s r (refused e) x y = record { phase_is = y.0 ∙ sym x.0; found = λ h. other_phase s 4 3 x.0 h (λ z. omega (arith, z)); refused = λ h. y.1 ∙ sym x.1 }
both_end s r (spent e) x y = record { phase_is = y.0 ∙ sym x.0; found = λ h. other_phase s 5 3 x.0 h (λ z. omega (arith, z)); refused = λ h. y.1 ∙ sym x.1 }

-- THEOREM
pub end_stays : EndStaysType
unfolding give
end_stays R B table log s r a c h g =
    let i = calls_came R B table log s c in
    let e = ended_at s (follow (decision R B) i.said) i.at.sees h in
    both_end s r e.0 (rw e.1 at i.at.sees) (rw (i.at.stands ∙ e.1) at (g i.held).at.sees)

-- ---- `pathjudge_judge`: the log has the answers as they were given
answers_first : (t : Tree) (said : List ℕ) → (rest : List ℕ) × (said ≡ answers_in (talk t said) ++ rest)
unfolding talk give turn answers_in
answers_first t [] = ([], refl)
answers_first (done q) (a ∷ said) = (a ∷ said, ap (λ (l : List Turn). answers_in l ++ (a ∷ said)) (sym (follow_done q said).1))
answers_first (ask k w t) (a ∷ said) = let r = answers_first (t a) said in (r.0, ap (λ (l : List ℕ). a ∷ l) r.1)
answers_first (offer k p t) (a ∷ said) = let r = answers_first (t a) said in (r.0, ap (λ (l : List ℕ). a ∷ l) r.1)

-- THEOREM
pub judge_decides : JudgeDecidesType
judge_decides R lends B answers r run = (
  talk (decision R B) answers,
  answers_first (decision R B) answers,
  decides R lends B answers r run.at,
  accounts R lends B answers r run.at,
)
