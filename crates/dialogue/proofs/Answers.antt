-- Answers, one after the other, make a dialogue. Assumes nothing.
use Prim.Native.Nat.{ℕ}
use mathlib.Core.Path.{◌≡◌, refl, sym, ◌∙◌, ap}
use mathlib.Core.List.{List, [], ◌∷◌, ◌++◌, append_assoc, append-nil}
use native.Mathlib.Omega.{arith}
use Rattle.dialogue.specs.Model.{Outcome, Tree, done, ask, offer}
use Rattle.dialogue.specs.Log.{Turn}
use Rattle.dialogue.specs.Dialogue.{Leads, give, turn, follow, talk}

-- answers that come to an outcome one after the other are a dialogue
pub followed : (t : Tree) (said : List ℕ) (r : Outcome) → follow t said ≡ done r → Leads t (talk t said) r
unfolding follow talk give turn Leads
followed (done q) [] r h = (refl, cc)
followed (done q) (a ∷ said) r h = followed (done q) said r h
followed (ask k w t) [] r h = let z : ◌≡◌ {A = ℕ} 0 1 = cc in absurd (omega arith)
followed (ask k w t) (a ∷ said) r h = (a, talk (t a) said, refl, followed (t a) said r h)
followed (offer k p t) [] r h = let z : ◌≡◌ {A = ℕ} 0 1 = cc in absurd (omega arith)
followed (offer k p t) (a ∷ said) r h = (a, talk (t a) said, refl, followed (t a) said r h)

pub follow_more : (t : Tree) (said : List ℕ) (a : ℕ) → follow t (said ++ (a ∷ [])) ≡ give (follow t said) a
unfolding follow
follow_more t [] a = refl
follow_more t (x ∷ said) a = follow_more (give t x) said a

pub talk_more : (t : Tree) (said : List ℕ) (a : ℕ) → talk t (said ++ (a ∷ [])) ≡ talk t said ++ turn (follow t said) a
unfolding talk follow
talk_more t [] a = append-nil (turn t a)
talk_more t (x ∷ said) a = ap (λ (l : List Turn). turn t x ++ l) (talk_more (give t x) said a) ∙ sym (append_assoc (turn t x) (talk (give t x) said) (turn (follow (give t x) said) a))

-- after an end nothing changes
pub follow_done : (q : Outcome) (said : List ℕ) → (follow (done q) said ≡ done q) × (talk (done q) said ≡ [])
unfolding follow talk give turn
follow_done q [] = (refl, refl)
follow_done q (a ∷ said) = follow_done q said
