-- The criticality of an extension and its encoding, both ways. Assumes nothing.
use Prim.Native.Nat.{ℕ, suc, ◌+◌, ◌-◌, ◌≤◌, ◌<◌}
use mathlib.Core.Path.{◌≡◌, refl, sym, ap, ◌∙◌}
use mathlib.Core.List.{List, ◌∷◌, ◌++◌}
use mathlib.Core.Bool.{Bool, true, false}
use mathlib.Core.Logic.{inr, ⊎_elim}
use lib.ListN.{length, get_or}
use native.Mathlib.Omega.{arith}
use Rattle.der.specs.Places.{Bytes, part}
use Rattle.der.specs.X690.{encoding, truth}
use Rattle.values.specs.Model.{read_bool, truth_is}
use Rattle.der.proofs.Parts.{part_length, part_cons, part_none, part_front}
use Rattle.values.proofs.SmallValues.{There, true_is, false_is, is_bool, absent_bool}
use Rattle.extensions.specs.Rfc5280.{boolean, octet_string, Criticality, unwritten, written, is_critical, criticality}
use Rattle.extensions.proofs.Value.{encoded_length}

-- the part of one byte or more that begins with a byte
pub part_first : (s : List ℕ) (a b : ℕ) (x : ℕ) (xs : List ℕ) → a ≤ b → b ≤ length s → part s a b ≡ x ∷ xs → (a < b) × (get_or s a 0 ≡ x) × (part s (a + 1) b ≡ xs)
part_first s a b x xs h l e =
    let n : b - a ≡ suc (length xs) = sym (part_length s a b l) ∙ ap length e in
    let q : get_or s a 0 ∷ part s (a + 1) b ≡ x ∷ xs = sym (part_cons s a b (omega arith) (omega arith)) ∙ e in
    (omega arith, cc, cc)

-- ---- criticality
-- what was read as a criticality, and how it is written
pub record CriticalHere (s : List ℕ) (from : ℕ) (b : Bool) (next : ℕ) : Type 0 where
  pub form : Criticality
  pub is : b ≡ is_critical form
  pub ordered : from ≤ next
  pub length_is : next ≡ from + length (criticality form)
  pub bytes : part s from next ≡ criticality form

not_written : (s : List ℕ) (from next : ℕ) → next ≡ from → CriticalHere s from false next
unfolding criticality is_critical
not_written s from next n =
    record {
      form = unwritten;
      is = refl;
      ordered = omega arith;
      length_is = omega arith;
      bytes = rw n (part_none s from);
    }

one_written : (s : List ℕ) (from to : ℕ) (b : Bool) (next : ℕ) → There s from to next (encoding 1 (truth b)) → CriticalHere s from b next
unfolding criticality is_critical boolean
one_written s from to b next t =
    let n : length (encoding 1 (truth b)) ≡ next - from = sym (ap length t.bytes) ∙ part_length s from next (omega (arith, t.inside, t.within)) in
    let k = encoded_length 1 (truth b) in
    record {
      form = written b;
      is = refl;
      ordered = omega arith;
      length_is = omega arith;
      bytes = t.bytes;
    }

pub critical_here : (s : List ℕ) → Bytes s → (from to : ℕ) (b : Bool) (next : ℕ) → read_bool s from to ≡ truth_is b next → CriticalHere s from b next
critical_here s w from to true next e = one_written s from to true next (true_is s w from to next e)
critical_here s w from to false next e =
    ⊎_elim (λ h. not_written s from next h.0) (λ t. one_written s from to false next t) (false_is s w from to next e)

written_found : (s : List ℕ) (from to : ℕ) (b : Bool) (rest : List ℕ) → from ≤ to → to ≤ length s → part s from to ≡ boolean b ++ rest
    → (read_bool s from to ≡ truth_is b (from + length (boolean b))) × (from + length (boolean b) ≤ to) × (part s (from + length (boolean b)) to ≡ rest)
unfolding boolean
written_found s from to b rest h l e =
    let f = part_front s from to (encoding 1 (truth b)) rest h l e in
    (is_bool s from to (from + length (encoding 1 (truth b))) b (record { within = l; inside = f.0; bytes = f.1 }), f.0, f.2)

-- a criticality before a value is read back
pub critical_found : (s : List ℕ) (from to : ℕ) (form : Criticality) (value : List ℕ) → from ≤ to → to ≤ length s → part s from to ≡ criticality form ++ octet_string value
    → (read_bool s from to ≡ truth_is (is_critical form) (from + length (criticality form))) × (from + length (criticality form) ≤ to) × (part s (from + length (criticality form)) to ≡ octet_string value)
unfolding criticality is_critical octet_string encoding
critical_found s from to unwritten value h l e =
    let t = part_first s from to 4 _ h l e in
    let n : from + 0 ≡ from = omega arith in
    (absent_bool s from to l (inr (λ o. omega (arith, t.1))) ∙ ap (λ (x : ℕ). truth_is false x) (sym n), omega arith, rw n e)
critical_found s from to (written b) value h l e = written_found s from to b (octet_string value) h l e
