-- Extensions that are as RFC 5280 demands are accepted. Assumes nothing.
use Prim.Native.Nat.{ℕ, ◌+◌, ◌≤◌}
use mathlib.Core.Path.{◌≡◌, refl, sym, ◌∙◌}
use mathlib.Core.List.{List, [], ◌∷◌}
use mathlib.Core.Bool.{Bool, true, false, cond}
use mathlib.Core.Logic.{◌⊎◌, inl, inr, ⊎_elim}
use native.Mathlib.Omega.{arith}
use Rattle.parts.specs.Lists.{Every}
use Rattle.parts.proofs.Equal.{same_true}
use Rattle.extensions.specs.Rfc5280.{Extension, Extensions, listed, id_ce, is_number, sequence}
use Rattle.extensions.specs.Conforming.{ConformingExtension, Distinct, ConformingExtensions}
use Rattle.extensions.specs.Conforming as conforming
use Rattle.extensions.specs.Accepted.{KnownNumber, key_usage, subject_alt_name, basic_constraints, name_constraints, crl_distribution_points, ext_key_usage, occurs}
use Rattle.extensions.specs.Accepted.{Taken, usage, known, other, Each, none, more, Recognized}
use Rattle.extensions.proofs.Numbers.{numbers, false_true}
use Rattle.extensions.proofs.Complete.{number_is}

-- ---- each
number_of : (n : ℕ) (x : Extension) → is_number n x ≡ true → x.identifier ≡ id_ce n
unfolding is_number
number_of n x e = same_true _ _ e

abbrev Known : Extension → Type 0
Known x = (n : ℕ) × KnownNumber n × (x.identifier ≡ id_ce n)

known_or_not : (x : Extension) → Known x ⊎ ((n : ℕ) → KnownNumber n → is_number n x ≡ false)
known_or_not x =
    try key_usage (λ a. try subject_alt_name (λ b. try basic_constraints (λ c. try name_constraints (λ d. try crl_distribution_points (λ e. try ext_key_usage (λ f.
    inr (numbers (λ n. is_number n x ≡ false) a b c d e f)))))))
  where
    go : {n : ℕ} {R : Type 0} (b : Bool) → is_number n x ≡ b → KnownNumber n → (is_number n x ≡ false → Known x ⊎ R) → Known x ⊎ R
    go true e k f = inl (_, k, number_of _ x e)
    go false e k f = f e

    try : {n : ℕ} {R : Type 0} → KnownNumber n → (is_number n x ≡ false → Known x ⊎ R) → Known x ⊎ R
    try {n} k f = go (is_number n x) refl k f

taken_known : (strict : Bool) (x : Extension) → ConformingExtension x → (n : ℕ) → KnownNumber n → x.identifier ≡ id_ce n → Taken strict x
unfolding sequence
taken_known strict x c n key_usage is = usage is
taken_known strict x c n subject_alt_name is = let v = c.value 17 48 1 conforming.subject_alt_name is in known 17 subject_alt_name (λ e. omega arith) is v.content v.is
taken_known strict x c n basic_constraints is = let v = c.value 19 48 0 conforming.basic_constraints is in known 19 basic_constraints (λ e. omega arith) is v.content v.is
taken_known strict x c n name_constraints is = let v = c.value 30 48 1 conforming.name_constraints is in known 30 name_constraints (λ e. omega arith) is v.content v.is
taken_known strict x c n crl_distribution_points is = let v = c.value 31 48 1 conforming.crl_distribution_points is in known 31 crl_distribution_points (λ e. omega arith) is v.content v.is
taken_known strict x c n ext_key_usage is = let v = c.value 37 48 1 conforming.ext_key_usage is in known 37 ext_key_usage (λ e. omega arith) is v.content v.is

not_number : (n : ℕ) (x : Extension) → x.identifier ≡ id_ce n → is_number n x ≡ false → ⊥
not_number n x e f = false_true (sym f ∙ number_is n x e)

taken_one : (strict : Bool) (x : Extension) → ConformingExtension x → (strict ≡ true → Recognized x) → Taken strict x
taken_one strict x c r =
    ⊎_elim (λ k. taken_known strict x c k.0 k.1 k.2)
    (λ never. other never (λ s e. let k = r s e in not_number k.0 x k.2 (never k.0 k.1)))
    (known_or_not x)

each_taken : (strict : Bool) (xs : List Extension) → Every ConformingExtension xs → (strict ≡ true → Every Recognized xs) → Each strict xs
unfolding Every
each_taken strict [] c r = none
each_taken strict (x ∷ xs) c r = more (taken_one strict x c.0 (λ s. (r s).0)) (each_taken strict xs c.1 (λ s. (r s).1))

-- ---- once
occurs_not : (n : ℕ) (x : Extension) (xs : List Extension) → x.identifier ≡ id_ce n → Every (λ y. y.identifier ≡ x.identifier → ⊥) xs → occurs n xs ≡ 0
unfolding occurs Every
occurs_not n x [] is d = refl
occurs_not n x (y ∷ ys) is d = go (is_number n y) refl (occurs_not n x ys is d.1)
  where
    go : (b : Bool) → is_number n y ≡ b → occurs n ys ≡ 0 → cond b 1 0 + occurs n ys ≡ 0
    go true e h = absurd (d.0 (number_of n y e ∙ sym is))
    go false e h = omega arith

pub occurs_once : (n : ℕ) (xs : List Extension) → Distinct xs → occurs n xs ≤ 1
unfolding occurs Distinct
occurs_once n [] d = omega arith
occurs_once n (x ∷ xs) d = go (is_number n x) refl (occurs_once n xs d.1)
  where
    go : (b : Bool) → is_number n x ≡ b → occurs n xs ≤ 1 → cond b 1 0 + occurs n xs ≤ 1
    go true e h = omega (arith, occurs_not n x xs (number_of n x e) d.0)
    go false e h = omega arith

-- ---- all
pub conforming_taken : (strict : Bool) (es : Extensions) → ConformingExtensions es → (strict ≡ true → Every Recognized (listed es))
    → Each strict (listed es) × ((n : ℕ) → KnownNumber n → occurs n (listed es) ≤ 1)
conforming_taken strict es c r = (each_taken strict (listed es) c.each r, λ n k. occurs_once n (listed es) c.once)
