-- The one way to each accepted answer of the model. Assumes nothing.
use Prim.Native.Nat.{ℕ}
use mathlib.Core.Path.{◌≡◌, refl}
use mathlib.Core.List.{List}
use mathlib.Core.Bool.{Bool, true, false, cond}
use borrow.Author.Tests.{eq-eqb, ne_eqb}
use Rattle.refusal.specs.Refusals.{bad_der, trailing_certificate_extensions, trailing_extension, unsupported_critical_extension}
use Rattle.der.specs.declared.Span.{Span}
use Rattle.der.specs.Model.{expect_at, on_content}
use Rattle.values.specs.Model.{read_bool, truth_is}
use Rattle.extensions.specs.declared.Known.{Known}
use Rattle.extensions.specs.declared.Extension.{Extension}
use Rattle.extensions.specs.Model.{Next, kind_of, slot_of, set_slot, on_truth, extension_in, content_of, passed_over, remembered, on_parsed, on_kept, taken, gathered, extensions_at}
use Rattle.std.specs.Prelude.{Ok, Err}

module _ (s : List ℕ) where
  pub extension_case : (from to : ℕ) {p q : Span} {critical : Bool} {next : ℕ} → expect_at s from to 6 bad_der ≡ Ok p → read_bool s p.end to ≡ truth_is critical next → expect_at s next to 4 bad_der ≡ Ok q
      → extension_in s from to ≡ Ok (record { identifier = p; critical = critical; value = q })
  unfolding extension_in on_truth on_content
  extension_case from to e f g = simp (e, f, g)

  pub remembered_case : (x : Extension) (known : Known) (strict : Bool) {kind : ℕ} {p : Span} → kind_of s x.identifier.start x.identifier.end ≡ kind → (kind ≡ 0 → ⊥)
      → (slot_of known kind).known ≡ false → content_of s kind x.value ≡ Ok p
      → remembered s x known strict ≡ Ok (set_slot known kind (record { known = true; start = p.start; end = p.end }))
  unfolding remembered on_content
  remembered_case x known strict e n f g = simp (e, ne_eqb _ _ n, f, g)

  pub passed_case : (x : Extension) (known : Known) (strict : Bool) → kind_of s x.identifier.start x.identifier.end ≡ 0 → (strict ≡ true → x.critical ≡ true → ⊥)
      → remembered s x known strict ≡ Ok known
  unfolding remembered passed_over
  passed_case x known strict e h = rw e (go strict x.critical h)
    where
      go : (b c : Bool) → (b ≡ true → c ≡ true → ⊥) → cond b (cond c (Err unsupported_critical_extension) (Ok known)) (Ok known) ≡ Ok known
      go true true h = absurd (h refl refl)
      go true false h = refl
      go false c h = refl

  pub usage_case : (value : Span) → content_of s 15 value ≡ Ok value
  unfolding content_of
  usage_case value = refl

  pub content_case : (kind : ℕ) (value : Span) {p : Span} → (kind ≡ 15 → ⊥) → expect_at s value.start value.end 48 bad_der ≡ Ok p → p.end ≡ value.end → content_of s kind value ≡ Ok p
  unfolding content_of on_content
  content_case kind value n e h = simp (ne_eqb _ _ n, e, eq-eqb _ _ h)

  pub taken_case : (at to : ℕ) (known : Known) (strict : Bool) {p : Span} {x : Extension} {now : Known} → expect_at s at to 48 trailing_extension ≡ Ok p → extension_in s p.start p.end ≡ Ok x
      → remembered s x known strict ≡ Ok now → x.value.end ≡ p.end → taken s at to known strict ≡ Next p.end now
  unfolding taken on_parsed on_kept on_content
  taken_case at to known strict e f g h = simp (e, f, g, eq-eqb _ _ h)

  pub extensions_case : (from to : ℕ) (strict : Bool) {p q : Span} {known : Known} → (from ≡ to → ⊥) → expect_at s from to 163 trailing_certificate_extensions ≡ Ok p
      → expect_at s p.start p.end 48 trailing_extension ≡ Ok q → gathered s q.start q.end strict ≡ Ok known → q.end ≡ p.end → p.end ≡ to
      → extensions_at s from to strict ≡ Ok known
  unfolding extensions_at on_kept on_content
  extensions_case from to strict n e f g h i = simp (ne_eqb _ _ n, e, f, g, eq-eqb _ _ h, eq-eqb _ _ i)
