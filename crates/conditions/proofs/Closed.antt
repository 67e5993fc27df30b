-- How a dialogue with a request came to its outcome: through the search, or by the end entity alone; and that the wanted name changes no question. Assumes nothing.
use Prim.Native.Nat.{ℕ, zero, suc}
use mathlib.Core.Path.{◌≡◌, refl, sym, ◌∙◌, ap}
use mathlib.Core.Bool.{true}
use mathlib.Core.List.{List, [], ◌∷◌, ◌++◌}
use Rattle.cert.specs.declared.Certificate.{Certificate}
use Rattle.cert.specs.Model.{read_certificate, Reading}
use Rattle.path.specs.Model.{on_reading}
use Rattle.dialogue.specs.Model.{Path, Outcome, accepted, refused, spent, Tree, done, ask, offer}
use Rattle.dialogue.specs.Log.{What, Turn}
use Rattle.dialogue.specs.Dialogue.{Leads, give, turn, follow, talk}
use Rattle.dialogue.proofs.Questions.{Questions, along_questions}
use Rattle.conditions.specs.Request.{Request, Budgets}
use Rattle.conditions.specs.Model.{name_of, named, closed, search_of, decision}
use Rattle.std.specs.Prelude.{Ok, Err}

-- a dialogue with the closed tree is one with the tree
unclosed : (e : ℕ) (t : Tree) (turns : List Turn) (r : Outcome) → Leads (closed e t) turns r → (q : Outcome) × Leads t turns q × (r ≡ named e q)
unfolding Leads closed
unclosed e (done q) turns r h = (q, (h.0, refl), sym h.1)
unclosed e (ask key what t) turns r h = let x = unclosed e (t h.0) h.1 r h.3 in (x.0, (h.0, h.1, h.2, x.1), x.2)
unclosed e (offer anchor path t) turns r h = let x = unclosed e (t h.0) h.1 r h.3 in (x.0, (h.0, h.1, h.2, x.1), x.2)

module _ (R : Request) (B : Budgets) (turns : List Turn) (r : Outcome) where
  pub data Came : Type 0 where
    unread : (x : ℕ) → read_certificate R.end true ≡ Err x → turns ≡ [] → r ≡ refused x → Came
    found : (anchor : ℕ) (path : Path) → Leads (search_of R B) turns (accepted anchor path) → name_of R.end R.kind R.name ≡ 0 → r ≡ accepted anchor path → Came
    misnamed : (anchor : ℕ) (path : Path) (e : ℕ) → Leads (search_of R B) turns (accepted anchor path) → name_of R.end R.kind R.name ≡ suc e → r ≡ refused (suc e) → Came
    none : (x : ℕ) → Leads (search_of R B) turns (refused x) → r ≡ refused x → Came
    out : (x : ℕ) → Leads (search_of R B) turns (spent x) → r ≡ spent x → Came

  searched : (e : ℕ) → name_of R.end R.kind R.name ≡ e → (q : Outcome) → Leads (search_of R B) turns q → r ≡ named e q → Came
  unfolding named
  searched zero n (accepted k p) h z = found k p h n z
  searched (suc e) n (accepted k p) h z = misnamed k p e h n z
  searched e n (refused x) h z = none x h z
  searched e n (spent x) h z = out x h z

  pub came : Leads (decision R B) turns r → Came
  unfolding decision on_reading Leads
  came h = by (read_certificate R.end true) refl h
    where
      by : (g : Reading) → read_certificate R.end true ≡ g
          → Leads (on_reading g (λ e. done (refused e)) (λ c. closed (name_of R.end R.kind R.name) (search_of R B))) turns r → Came
      by (Ok c) e h =
          let x = unclosed (name_of R.end R.kind R.name) (search_of R B) turns r h in
          searched (name_of R.end R.kind R.name) refl x.0 x.1 x.2
      by (Err x) e h = unread x e h.0 (sym h.1)

-- ---- the wanted name changes no question
give_closed : (e : ℕ) (t : Tree) (a : ℕ) → give (closed e t) a ≡ closed e (give t a)
unfolding give closed
give_closed e (done r) a = refl
give_closed e (ask k w t) a = refl
give_closed e (offer k p t) a = refl

turn_closed : (e : ℕ) (t : Tree) (a : ℕ) → turn (closed e t) a ≡ turn t a
unfolding turn closed
turn_closed e (done r) a = refl
turn_closed e (ask k w t) a = refl
turn_closed e (offer k p t) a = refl

pub follow_closed : (e : ℕ) (t : Tree) (said : List ℕ) → follow (closed e t) said ≡ closed e (follow t said)
unfolding follow
follow_closed e t [] = refl
follow_closed e t (a ∷ said) = ap (λ (u : Tree). follow u said) (give_closed e t a) ∙ follow_closed e (give t a) said

pub talk_closed : (e : ℕ) (t : Tree) (said : List ℕ) → talk (closed e t) said ≡ talk t said
unfolding talk
talk_closed e t [] = refl
talk_closed e t (a ∷ said) = ap (λ (l : List Turn). l ++ talk (give (closed e t) a) said) (turn_closed e t a) ∙ ap (λ (u : Tree). turn t a ++ talk u said) (give_closed e t a) ∙ ap (λ (l : List Turn). turn t a ++ l) (talk_closed e (give t a) said)

pub decision_is : (R : Request) (B : Budgets) (c : Certificate) → read_certificate R.end true ≡ Ok c → decision R B ≡ closed (name_of R.end R.kind R.name) (search_of R B)
unfolding decision on_reading
decision_is R B c e = rw e

pub decision_none : (R : Request) (B : Budgets) (x : ℕ) → read_certificate R.end true ≡ Err x → decision R B ≡ done (refused x)
unfolding decision on_reading
decision_none R B x e = rw e

-- ---- what holds of every question of the search holds of every question of the dialogue
module _ (Q : ℕ → What → Type 0) where
  closed_questions : (e : ℕ) (t : Tree) → Questions Q t → Questions Q (closed e t)
  unfolding closed Questions
  closed_questions e (done r) q = tt
  closed_questions e (ask k w t) q = (q.0, λ a. closed_questions e (t a) (q.1 a))
  closed_questions e (offer k p t) q = λ a. closed_questions e (t a) (q a)

  -- of a request: those of its search
  pub request_questions : (R : Request) (B : Budgets) → Questions Q (search_of R B) → (said : List ℕ) → Questions Q (follow (decision R B) said)
  unfolding decision on_reading Questions
  request_questions R B q said = along_questions Q (decision R B) said (by (read_certificate R.end true))
    where
      by : (g : Reading) → Questions Q (on_reading g (λ e. done (refused e)) (λ c. closed (name_of R.end R.kind R.name) (search_of R B)))
      by (Ok c) = closed_questions (name_of R.end R.kind R.name) (search_of R B) q
      by (Err x) = tt
