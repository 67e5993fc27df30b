-- What extensions say is written in one way by DER: there is one, and no other. Assumes nothing.
use Prim.Native.Nat.{ℕ}
use mathlib.Core.Path.{◌≡◌, refl, sym, ap}
use mathlib.Core.List.{List, [], ◌∷◌, map}
use mathlib.Core.Bool.{Bool, true, false, cond}
use native.Mathlib.Omega.{arith}
use Rattle.parts.specs.Lists.{Every}
use Rattle.extensions.specs.Rfc5280.{Criticality, unwritten, written, is_critical, Extension, Extensions, missing, present, listed}
use Rattle.extensions.specs.Meaning.{Said, said_by, said, DerCriticality, DerExtensions}
use Rattle.extensions.proofs.Numbers.{false_true}
use Rattle.extensions.proofs.Unique.{same_extension}

-- ---- no other
critical_one : (c c' : Criticality) → DerCriticality c → DerCriticality c' → is_critical c ≡ is_critical c' → c ≡ c'
unfolding is_critical
critical_one unwritten unwritten d d' e = refl
critical_one unwritten (written true) d d' e = absurd (false_true e)
critical_one unwritten (written false) d d' e = absurd (d' refl)
critical_one (written true) unwritten d d' e = absurd (false_true (sym e))
critical_one (written false) unwritten d d' e = absurd (d refl)
critical_one (written b) (written b') d d' e = ap written e

extension_one : (x x' : Extension) → DerCriticality x.critical → DerCriticality x'.critical → said_by x ≡ said_by x' → x ≡ x'
unfolding said_by
extension_one x x' d d' e =
    same_extension (ap (λ (s : Said). s.identifier) e) (critical_one x.critical x'.critical d d' (ap (λ (s : Said). s.critical) e)) (ap (λ (s : Said). s.value) e)

no_list : {A : Type 0} {x : A} {xs : List A} → [] ≡ x ∷ xs → ⊥
no_list e = let z : ◌≡◌ {A = ℕ} 0 1 = cc in omega arith

list_one : (xs xs' : List Extension) → Every (λ x. DerCriticality x.critical) xs → Every (λ x. DerCriticality x.critical) xs' → map said_by xs ≡ map said_by xs' → xs ≡ xs'
unfolding Every
list_one [] [] d d' e = refl
list_one [] (x ∷ xs) d d' e = absurd (no_list e)
list_one (x ∷ xs) [] d d' e = absurd (no_list (sym e))
list_one (x ∷ xs) (x' ∷ xs') d d' e =
    let p : x ≡ x' = extension_one x x' d.0 d'.0 (cc) in
    let q : xs ≡ xs' = list_one xs xs' d.1 d'.1 (cc) in
    cc

pub extensions_one : (es es' : Extensions) → DerExtensions es → DerExtensions es' → said es ≡ said es' → es ≡ es'
unfolding said listed
extensions_one missing missing d d' e = refl
extensions_one missing (present []) d d' e = absurd (d'.size refl)
extensions_one missing (present (x ∷ xs)) d d' e = absurd (no_list e)
extensions_one (present []) missing d d' e = absurd (d.size refl)
extensions_one (present (x ∷ xs)) missing d d' e = absurd (no_list (sym e))
extensions_one (present xs) (present xs') d d' e = ap present (list_one xs xs' d.each d'.each e)

-- ---- one
abbrev der_criticality : Bool → Criticality
der_criticality b = cond b (written true) unwritten

abbrev der_of : Extension → Extension
der_of x = record { identifier = x.identifier; critical = der_criticality (is_critical x.critical); value = x.value }

abbrev field : List Extension → Extensions
field [] = missing
field (x ∷ xs) = present (x ∷ xs)

not-false : (b : Bool) → DerCriticality (der_criticality b)
not-false true e = let t : true ≡ false = cc in false_true (sym t)
not-false false e = let z : ◌≡◌ {A = ℕ} 0 1 = cc in omega arith

same_truth : (b : Bool) → is_critical (der_criticality b) ≡ b
unfolding is_critical
same_truth true = refl
same_truth false = refl

each_der : (xs : List Extension) → Every (λ x. DerCriticality x.critical) (map der_of xs)
unfolding Every
each_der [] = tt
each_der (x ∷ xs) = (not-false (is_critical x.critical), each_der xs)

each_said : (xs : List Extension) → map said_by (map der_of xs) ≡ map said_by xs
unfolding said_by
each_said [] = refl
each_said (x ∷ xs) = rw (same_truth (is_critical x.critical), each_said xs)

field_listed : (xs : List Extension) → listed (field xs) ≡ xs
unfolding listed
field_listed [] = refl
field_listed (x ∷ xs) = refl

field_some : (xs : List Extension) → field xs ≡ present [] → ⊥
field_some [] e = let z : ◌≡◌ {A = ℕ} 0 1 = cc in omega arith
field_some (x ∷ xs) e = let l : [] ≡ x ∷ xs = cc in no_list l

pub has_der : (es : Extensions) → (es' : Extensions) × DerExtensions es' × (said es' ≡ said es)
unfolding said
has_der es =
    let xs = map der_of (listed es) in (
      field xs,
      record { each = rw (field_listed xs) (each_der (listed es)); size = field_some xs },
      rw (field_listed xs) (each_said (listed es)),
    )
