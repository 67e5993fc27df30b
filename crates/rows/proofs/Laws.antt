-- Laws of rows: what is noted of a certificate is read back, and an outline that was gone on from. Assumes nothing.
use Prim.Native.Nat.{ℕ}
use mathlib.Core.Path.{◌≡◌, refl, ap, ◌∙◌}
use mathlib.Core.List.{[], ◌∷◌}
use mathlib.Core.Bool.{Bool, true, false, cond, not}
use lib.Dec.{eqb}
use Rattle.extensions.specs.declared.Slot.{Slot}
use Rattle.cert.specs.declared.Certificate.{Certificate}
use Rattle.rows.specs.declared.Outline.{Outline}
use Rattle.rows.specs.Model.{outline_of, outlined, on_outline, span_in, slot_in, known_in, certificate_in, row_reading}
use Rattle.std.specs.Prelude.{Ok, Err}
use Rattle.cert.specs.Model.{Reading}

-- a flag that was written is read
flag_back : (b : Bool) → not (eqb (cond b 1 0) 0) ≡ b
flag_back true = refl
flag_back false = refl

slot_back : (x : Slot) (f : ℕ) → f ≡ cond x.known 1 0 → record { known = not (eqb f 0); start = x.start; end = x.end } ≡ x
slot_back x f e = ap (λ (b : Bool). record { known = b; start = x.start; end = x.end }) (ap (λ (g : ℕ). not (eqb g 0)) e ∙ flag_back x.known)

-- the row that holds a certificate's places says that it was accepted, with these places
module _ (c : Certificate) (u n b l d p : ℕ) (e₁ : u ≡ cond c.known.key_usage.known 1 0) (e₂ : n ≡ cond c.known.alternative_name.known 1 0) (e₃ : b ≡ cond c.known.basic_constraints.known 1 0) (e₄ : l ≡ cond c.known.name_constraints.known 1 0) (e₅ : d ≡ cond c.known.distribution_points.known 1 0) (e₆ : p ≡ cond c.known.key_purposes.known 1 0) where
  pub row_accepted : row_reading (0 ∷ c.signed.start ∷ c.signed.end ∷ c.algorithm.start ∷ c.algorithm.end ∷ c.signature.start ∷ c.signature.end ∷ c.serial.start ∷ c.serial.end ∷ c.inner_algorithm.start ∷ c.inner_algorithm.end ∷ c.issuer.start ∷ c.issuer.end ∷ c.validity.start ∷ c.validity.end ∷ c.subject.start ∷ c.subject.end ∷ c.key.start ∷ c.key.end ∷ u ∷ c.known.key_usage.start ∷ c.known.key_usage.end ∷ n ∷ c.known.alternative_name.start ∷ c.known.alternative_name.end ∷ b ∷ c.known.basic_constraints.start ∷ c.known.basic_constraints.end ∷ l ∷ c.known.name_constraints.start ∷ c.known.name_constraints.end ∷ d ∷ c.known.distribution_points.start ∷ c.known.distribution_points.end ∷ p ∷ c.known.key_purposes.start ∷ c.known.key_purposes.end ∷ []) ≡ Ok c
  unfolding row_reading certificate_in known_in span_in slot_in
  row_accepted = λ i. Ok (record {
    signed = c.signed;
    algorithm = c.algorithm;
    signature = c.signature;
    serial = c.serial;
    inner_algorithm = c.inner_algorithm;
    issuer = c.issuer;
    validity = c.validity;
    subject = c.subject;
    key = c.key;
    known = record {
      key_usage = slot_back c.known.key_usage u e₁ i;
      alternative_name = slot_back c.known.alternative_name n e₂ i;
      basic_constraints = slot_back c.known.basic_constraints b e₃ i;
      name_constraints = slot_back c.known.name_constraints l e₄ i;
      distribution_points = slot_back c.known.distribution_points d e₅ i;
      key_purposes = slot_back c.known.key_purposes p e₆ i;
    };
  })

-- an outline that was gone on from
pub on_outline_lem : {R : Type 0} {r : R} (g : Reading) (other : ℕ → R) (k : Outline → R) → on_outline (outlined g) other k ≡ r → ((e : ℕ) → other e ≡ r → ⊥) → (c : Certificate) × (g ≡ Ok c) × (k (outline_of c) ≡ r)
unfolding on_outline outlined
on_outline_lem (Ok c) other k e n = (c, refl, e)
on_outline_lem (Err x) other k e n = absurd (n x e)
