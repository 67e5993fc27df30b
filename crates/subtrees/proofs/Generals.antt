-- Laws of lists of general names: of each, of some, and of those of one kind. Assumes nothing.
use mathlib.Core.Path.{◌≡◌, refl}
use mathlib.Core.List.{List, [], ◌∷◌}
use mathlib.Core.Bool.{Bool, true, false}
use mathlib.Core.Logic.{◌⊎◌, inl, inr}
use lib.Dec.{eqb}
use borrow.Author.Tests.{eqb-true, eqb-false}
use Rattle.names.specs.General.{General, Each}
use Rattle.subtrees.specs.Rfc5280Names.{Some, OfKind}

pub some_to : (P Q : General → Type 0) → ((e : General) → P e → Q e) → (es : List General) → Some P es → Some Q es
unfolding Some
some_to P Q f (e ∷ es) (inl h) = inl (f e h)
some_to P Q f (e ∷ es) (inr h) = inr (some_to P Q f es h)
some_to P Q f [] h = h

pub each_to : (P Q : General → Type 0) → ((e : General) → P e → Q e) → (es : List General) → Each P es → Each Q es
unfolding Each
each_to P Q f [] h = tt
each_to P Q f (e ∷ es) h = (f e h.0, each_to P Q f es h.1)

pub each_two : (P Q S : General → Type 0) → ((e : General) → P e → Q e → S e) → (es : List General) → Each P es → Each Q es → Each S es
unfolding Each
each_two P Q S f [] h k = tt
each_two P Q S f (e ∷ es) h k = (f e h.0 k.0, each_two P Q S f es h.1 k.1)

pub each_if : (P : General → Type 0) (Q : Type 0) (es : List General) → (Some P es → Q) → Each (λ e. P e → Q) es
unfolding Each Some
each_if P Q [] f = tt
each_if P Q (e ∷ es) f = (λ p. f (inl p), each_if P Q es (λ s. f (inr s)))

pub some_two : (P Q S : General → Type 0) → ((e : General) → P e → Q e → S e) → (es : List General) → Some P es → Each Q es → Some S es
unfolding Some Each
some_two P Q S f (e ∷ es) (inl h) k = inl (f e h k.0)
some_two P Q S f (e ∷ es) (inr h) k = inr (some_two P Q S f es h k.1)
some_two P Q S f [] h k = h

pub some_one : {A : Type 0} (P : General → Type 0) (es : List General) → Some P es → ((e : General) → P e → A) → A
unfolding Some
some_one P (e ∷ es) (inl h) f = f e h
some_one P (e ∷ es) (inr h) f = some_one P es h f
some_one P [] h f = absurd h

pub none_some : (n : General) (es : List General) → Each (λ e. OfKind n e → ⊥) es → Some (OfKind n) es → ⊥
unfolding Some Each
none_some n (e ∷ es) k (inl h) = k.0 h
none_some n (e ∷ es) k (inr h) = none_some n es k.1 h
none_some n [] k h = h

-- some are of the kind, or none
pub kinds_of : (n : General) (es : List General) → Some (OfKind n) es ⊎ Each (λ e. OfKind n e → ⊥) es
unfolding Some Each
kinds_of n [] = inr tt
kinds_of n (e ∷ es) = go (eqb e.kind n.kind) refl (kinds_of n es)
  where
    go : (x : Bool) → eqb e.kind n.kind ≡ x → Some (OfKind n) es ⊎ Each (λ e. OfKind n e → ⊥) es → Some (OfKind n) (e ∷ es) ⊎ Each (λ e. OfKind n e → ⊥) (e ∷ es)
    go true h k = inl (inl (eqb-true _ _ h))
    go false h (inl k) = inl (inr k)
    go false h (inr k) = inr (eqb-false _ _ h, k)
