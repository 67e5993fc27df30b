-- Two lists of extensions with one encoding are the same. Assumes nothing.
use Prim.Native.Nat.{ℕ, ◌%◌, ◌<◌}
use mathlib.Core.Path.{◌≡◌, refl, sym, ap, ◌∙◌}
use mathlib.Core.List.{List, [], ◌∷◌, ◌++◌, append-nil}
use mathlib.Core.Bool.{Bool, true, false}
use lib.ListN.{length, length-append}
use lib.Dec.{eqb}
use native.Mathlib.Omega.{arith}
use Rattle.refusal.specs.Refusals.{bad_der}
use Rattle.der.specs.declared.Span.{Span}
use Rattle.der.specs.Places.{part, LIMIT}
use Rattle.der.specs.X690.{encoding, truth}
use Rattle.extensions.specs.Rfc5280.{Criticality, unwritten, written, Extension, Extensions, missing, present, octet_string, object_identifier, sequence, explicit, boolean, criticality, extension_content, extension, extension_list, extensions}
use Rattle.extensions.specs.Layout.{place_of}
use Rattle.der.proofs.Parts.{part_whole}
use Rattle.extensions.proofs.Value.{encoded_length, Found, find}
use Rattle.std.specs.Prelude.{Ok}

-- ---- one value before others: its content and what comes after it are determined
found_once : (s : List ℕ) (tag : ℕ) (x x' rest rest' : List ℕ) → Found s 0 (length s) tag x rest → Found s 0 (length s) tag x' rest' → (x ≡ x') × (rest ≡ rest')
found_once s tag x x' rest rest' f g =
    let c : Ok (place_of 0 x) ≡ Ok (place_of 0 x') = sym (f.found bad_der) ∙ g.found bad_der in
    let p : place_of 0 x ≡ place_of 0 x' = cc in
    (sym f.content ∙ ap (λ (q : Span). part s q.start q.end) p ∙ g.content, sym f.left ∙ ap (λ (q : Span). part s q.end (length s)) p ∙ g.left)

pub encoding_once : (tag : ℕ) (x x' rest rest' : List ℕ) → eqb (tag % 32) 31 ≡ false → length x < LIMIT → length x' < LIMIT → encoding tag x ++ rest ≡ encoding tag x' ++ rest'
    → (x ≡ x') × (rest ≡ rest')
encoding_once tag x x' rest rest' low h h' e =
    let s = encoding tag x ++ rest in
    found_once s tag x x' rest rest'
    (find s 0 (length s) tag x rest low h (omega arith) (omega arith) (part_whole s))
    (find s 0 (length s) tag x' rest' low h' (omega arith) (omega arith) (part_whole s ∙ e))

-- in a list that is itself short, so is what is left
pub once_in : (tag : ℕ) (x x' rest rest' : List ℕ) → eqb (tag % 32) 31 ≡ false → length (encoding tag x ++ rest) < LIMIT → encoding tag x ++ rest ≡ encoding tag x' ++ rest'
    → (x ≡ x') × (rest ≡ rest') × (length x < LIMIT) × (length rest < LIMIT)
once_in tag x x' rest rest' low h e =
    let a = length-append (encoding tag x) rest in
    let b = length-append (encoding tag x') rest' in
    let n = encoded_length tag x in
    let m = encoded_length tag x' in
    let l = ap length e in
    let r = encoding_once tag x x' rest rest' low (omega arith) (omega arith) e in
    (r.0, r.1, omega arith, omega arith)

pub last_in : (tag : ℕ) (x x' : List ℕ) → eqb (tag % 32) 31 ≡ false → length (encoding tag x) < LIMIT → encoding tag x ≡ encoding tag x' → (x ≡ x') × (length x < LIMIT)
last_in tag x x' low h e =
    let n = append-nil (encoding tag x) in
    let m = append-nil (encoding tag x') in
    let r = once_in tag x x' [] [] low (omega (arith, ap length n)) (n ∙ e ∙ sym m) in
    (r.0, r.2)

-- ---- extensions
no_value : (tag : ℕ) (x rest : List ℕ) → [] ≡ encoding tag x ++ rest → ⊥
unfolding encoding
no_value tag x rest e = let z : ◌≡◌ {A = ℕ} 0 1 = cc in omega arith

one_four : (x rest y : List ℕ) → encoding 1 x ++ rest ≡ encoding 4 y → ⊥
unfolding encoding
one_four x rest y e = let z : ◌≡◌ {A = ℕ} 1 4 = cc in omega arith

truth_once : (b b' : Bool) → truth b ≡ truth b' → b ≡ b'
truth_once true true e = refl
truth_once true false e = absurd (let z : ◌≡◌ {A = ℕ} 255 0 = cc in omega arith)
truth_once false true e = absurd (let z : ◌≡◌ {A = ℕ} 0 255 = cc in omega arith)
truth_once false false e = refl

critical_once : (c c' : Criticality) (v v' : List ℕ) → length (criticality c ++ octet_string v) < LIMIT → criticality c ++ octet_string v ≡ criticality c' ++ octet_string v' → (c ≡ c') × (v ≡ v')
unfolding criticality octet_string boolean
critical_once unwritten unwritten v v' h e = (refl, (last_in 4 v v' refl h e).0)
critical_once unwritten (written b) v v' h e = absurd (one_four _ _ v (sym e))
critical_once (written b) unwritten v v' h e = absurd (one_four _ _ v' e)
critical_once (written b) (written b') v v' h e =
    let r = once_in 1 _ _ (encoding 4 v) (encoding 4 v') refl h e in
    (ap written (truth_once b b' r.0), (last_in 4 v v' refl r.3 r.1).0)

pub same_extension : {i i' v v' : List ℕ} {c c' : Criticality} → i ≡ i' → c ≡ c' → v ≡ v'
    → ◌≡◌ {A = Extension} (record { identifier = i; critical = c; value = v }) (record { identifier = i'; critical = c'; value = v' })
same_extension p q r = rw (p, q, r)

extension_once : (x x' : Extension) → length (extension_content x) < LIMIT → extension_content x ≡ extension_content x' → x ≡ x'
unfolding extension_content object_identifier
extension_once x x' h e =
    let r = once_in 6 x.identifier x'.identifier _ _ refl h e in
    let c = critical_once x.critical x'.critical x.value x'.value r.3 r.1 in
    same_extension r.0 c.0 c.1

list_once : (xs xs' : List Extension) → length (extension_list xs) < LIMIT → extension_list xs ≡ extension_list xs' → xs ≡ xs'
unfolding extension_list extension sequence
list_once [] [] h e = refl
list_once [] (x ∷ xs) h e = absurd (no_value 48 _ _ e)
list_once (x ∷ xs) [] h e = absurd (no_value 48 _ _ (sym e))
list_once (x ∷ xs) (x' ∷ xs') h e =
    let r = once_in 48 (extension_content x) (extension_content x') (extension_list xs) (extension_list xs') refl h e in
    let p : x ≡ x' = extension_once x x' r.2 r.0 in
    let q : xs ≡ xs' = list_once xs xs' r.3 r.1 in
    cc

pub extensions_once : (es es' : Extensions) → length (extensions es) < LIMIT → extensions es ≡ extensions es' → es ≡ es'
unfolding extensions explicit sequence
extensions_once missing missing h e = refl
extensions_once missing (present xs) h e = absurd (no_value 163 _ [] (e ∙ sym (append-nil _)))
extensions_once (present xs) missing h e = absurd (no_value 163 _ [] (sym e ∙ sym (append-nil _)))
extensions_once (present xs) (present xs') h e =
    let r = last_in 163 _ _ refl h e in
    let t = last_in 48 (extension_list xs) (extension_list xs') refl r.1 r.0 in
    ap present (list_once xs xs' t.1 t.0)
