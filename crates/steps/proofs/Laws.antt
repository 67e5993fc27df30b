-- What a state is shown as, by its phase and by what is said of the name. Assumes nothing.
use Prim.Native.Nat.{ℕ}
use mathlib.Core.Path.{◌≡◌, sym, ◌∙◌, ap}
use mathlib.Core.Bool.{Bool, true}
use mathlib.Core.List.{List}
use borrow.Author.Tests.{eq-eqb, ne_eqb}
use Rattle.machine.specs.declared.State.{State}
use Rattle.wanted.specs.Model.{name_by}
use Rattle.steps.specs.declared.Step.{Step}
use Rattle.steps.specs.Model.{is_found, step_of, shown_as}
use Rattle.cert.specs.Model.{Reading}

-- what is said of the name, by what is known of the end entity
pub named_by : (r g : Reading) (end : List ℕ) (kind : ℕ) (name : List ℕ) (x : ℕ) → r ≡ g → x ≡ name_by r end kind name → x ≡ name_by g end kind name
named_by r g end kind name x q e = e ∙ ap (λ (y : Reading). name_by y end kind name) q

-- the step that a found state is shown as: for another name, and for the wanted one
module _ (s : State) (r : Step) (b : Bool) (e x : ℕ) (is : b ≡ is_found s.phase) where
  pub shown_misnamed : b ≡ true → x ≡ e → (x ≡ 0 → ⊥) → r ≡ step_of s 4 x → r ≡ shown_as e s s.phase
  unfolding shown_as
  shown_misnamed f q n h = h ∙ ap (step_of s 4) q ∙ rw (sym is ∙ f, ne_eqb e 0 (λ z. n (q ∙ z)))

  pub shown_found : b ≡ true → x ≡ e → x ≡ 0 → r ≡ step_of s 3 0 → r ≡ shown_as e s s.phase
  unfolding shown_as
  shown_found f q z h = h ∙ rw (sym is ∙ f, eq-eqb e 0 (sym q ∙ z))
