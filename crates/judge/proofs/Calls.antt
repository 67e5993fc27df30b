-- CALLS: the log that a caller sees is the talk of the dialogue, and the step is where the dialogue is. Assumes nothing.
use Prim.Native.Nat.{ℕ, ◌≤◌}
use mathlib.Core.Path.{◌≡◌, refl, sym, ◌∙◌, ap, subst}
use mathlib.Core.List.{List, [], ◌∷◌, ◌++◌, append-nil}
use native.Mathlib.Omega.{arith}
use Rattle.told.specs.declared.Asked.{Asked}
use Rattle.told.specs.Model.{keyed_of, asked_of}
use Rattle.machine.specs.Machine.{key_at, cert_at}
use Rattle.dialogue.specs.Log.{What, of_certificate, Turn, answer, word}
use Rattle.dialogue.specs.Model.{Tree, done, ask, offer, accepted, refused, spent}
use Rattle.dialogue.specs.Dialogue.{give, turn, follow, talk}
use Rattle.dialogue.proofs.Answers.{follow_more, talk_more}
use Rattle.dialogue.proofs.Questions.{Questions}
use Rattle.conditions.specs.Request.{Request, Budgets}
use Rattle.conditions.specs.Model.{decision}
use Rattle.steps.specs.declared.Step.{Step}
use Rattle.steps.specs.Model.{state_of}
use Rattle.judge.specs.Steps.{tree_from, Sees, At}
use Rattle.judge.specs.Decides.{path_of}
use Rattle.judge.specs.Calls.{TableHeld, Calls, begin, reply, content, over}
use Rattle.judge.proofs.Questions.{OfCertificate, state_asks, asks_certificates}
use Rattle.std.specs.Prelude.{Err, Ok, Result}
use Rattle.cert.specs.declared.key.Key.{Key}
use Rattle.asked.specs.declared.Question.{Question}

-- ---- what a step shows is the turn that an answer makes
pub other_phase {ℓ} : {P : Type ℓ} (s : Step) (m n : ℕ) → s.phase ≡ m → s.phase ≡ n → (m ≡ n → ⊥) → P
other_phase s m n h k d = absurd (d (sym h ∙ k))

at_question : (s : Step) (t : Tree) (a : ℕ) → Questions (OfCertificate (λ key n. Unit {0})) t → Sees s t → s.phase ≡ 1 → turn t a ≡ answer (key_at (state_of s)) (of_certificate (cert_at (state_of s))) a ∷ []
unfolding turn Questions
at_question s (ask key what u) a q h p =
    let c = state_asks (λ k n. Unit {0}) (state_of s) (rw (h.1, h.2) q.0) in
    ap (λ (w : What). answer key w a ∷ []) (sym h.2 ∙ c.1) ∙ ap (λ (k : ℕ). answer k (of_certificate (cert_at (state_of s))) a ∷ []) (sym h.1)
at_question s (offer anchor path u) a q h p = other_phase s 2 1 h.0 p (λ z. omega (arith, z))
at_question s (done (accepted anchor path)) a q h p = other_phase s 3 1 h.0 p (λ z. omega (arith, z))
at_question s (done (refused e)) a q h p = other_phase s 4 1 h.0 p (λ z. omega (arith, z))
at_question s (done (spent e)) a q h p = other_phase s 5 1 h.0 p (λ z. omega (arith, z))

at_offer : (s : Step) (t : Tree) (a : ℕ) → Sees s t → s.phase ≡ 2 → turn t a ≡ word s.anchor (path_of s) a ∷ []
unfolding turn
at_offer s (ask key what u) a h p = other_phase s 1 2 h.0 p (λ z. omega (arith, z))
at_offer s (offer anchor path u) a h p = rw (h.1, h.2)
at_offer s (done (accepted anchor path)) a h p = other_phase s 3 2 h.0 p (λ z. omega (arith, z))
at_offer s (done (refused e)) a h p = other_phase s 4 2 h.0 p (λ z. omega (arith, z))
at_offer s (done (spent e)) a h p = other_phase s 5 2 h.0 p (λ z. omega (arith, z))

at_end : (s : Step) (t : Tree) (a : ℕ) → Sees s t → 3 ≤ s.phase → turn t a ≡ []
unfolding turn
at_end s (ask key what u) a h p = absurd (omega (arith, h.0, p))
at_end s (offer anchor path u) a h p = absurd (omega (arith, h.0, p))
at_end s (done r) a h p = refl

keyed_numbers : (key what : ℕ) (q : Question) (k : Result Key ℕ) → ((keyed_of key what q k).key ≡ key) × ((keyed_of key what q k).certificate ≡ what)
unfolding keyed_of
keyed_numbers key what q (Ok v) = (refl, refl)
keyed_numbers key what q (Err e) = (refl, refl)

asked_numbers : (key what : ℕ) (q : Result Question ℕ) → ((asked_of key what q).key ≡ key) × ((asked_of key what q).certificate ≡ what)
unfolding asked_of
asked_numbers key what (Ok q) = keyed_numbers key what q q.key
asked_numbers key what (Err e) = (refl, refl)

-- ---- calls, one after the other
pub record Came (R : Request) (B : Budgets) (table : List (List ℕ)) (log : List Turn) (r : Step) : Type 0 where
  pub held : TableHeld R B table
  pub said : List ℕ
  pub at : At R (follow (decision R B) said) r
  pub is : log ≡ talk (decision R B) said

module _ (R : Request) (B : Budgets) (table : List (List ℕ)) where
  more : (log : List Turn) (s r : Step) (a : ℕ) (last : List Turn) → (c : Came R B table log s) → At R (give (tree_from R s) a) r → turn (follow (decision R B) c.said) a ≡ last → Came R B table (log ++ last) r
  more log s r a last c g e =
      record {
        held = c.held;
        said = c.said ++ (a ∷ []);
        at = subst (λ (u : Tree). At R u r) (ap (λ (u : Tree). give u a) c.at.stands ∙ sym (follow_more (decision R B) c.said a)) g;
        is = ap (λ (l : List Turn). l ++ last) c.is ∙ ap (λ (l : List Turn). talk (decision R B) c.said ++ l) (sym e) ∙ sym (talk_more (decision R B) c.said a);
      }

  pub calls_came : (log : List Turn) (r : Step) → Calls R B table log r → Came R B table log r
  unfolding follow talk
  calls_came log r (begin h) = record { held = h.0; said = []; at = h.1.at; is = refl }
  calls_came whole r (reply {log} {s} q a c p t g) =
      let i = calls_came log s c in
      let k = asked_numbers (key_at (state_of s)) (cert_at (state_of s)) _ in
      let e : q.key ≡ key_at (state_of s) = ap (λ (x : Asked). x.key) (t i.held) ∙ k.0 in
      let f : q.certificate ≡ cert_at (state_of s) = ap (λ (x : Asked). x.certificate) (t i.held) ∙ k.1 in
      more log s r a _ i (g i.held).at (at_question s (follow (decision R B) i.said) a (asks_certificates R B i.said) i.at.sees p ∙ rw (e, f))
  calls_came whole r (content {log} {s} a c p g) =
      let i = calls_came log s c in
      more log s r a _ i (g i.held).at (at_offer s (follow (decision R B) i.said) a i.at.sees p)
  calls_came whole r (over {log} {s} a c p g) =
      let i = calls_came log s c in
      let m = more log s r a [] i (g i.held).at (at_end s (follow (decision R B) i.said) a i.at.sees p) in
      record { held = m.held; said = m.said; at = m.at; is = sym (append-nil log) ∙ m.is }
