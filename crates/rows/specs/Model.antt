-- Rows of numbers, and what they say was read of a certificate.
use Rattle.std.specs.Prelude.{ℕ, ◌+◌, ◌-◌, List, cond, not, get_or, ltb, eqb, Ok, Err, Result}
use Rattle.refusal.specs.Refusals.{bad_der}
use Rattle.der.specs.declared.Span.{Span}
use Rattle.extensions.specs.declared.Slot.{Slot}
use Rattle.extensions.specs.declared.Known.{Known}
use Rattle.cert.specs.declared.Certificate.{Certificate}
use Rattle.rows.specs.declared.Outline.{Outline}
use Rattle.cert.specs.Model.{Reading}

unfoldable pub span_in : List ℕ → ℕ → Span
span_in row k = record { start = get_or row k 0; end = get_or row (k + 1) 0 }

unfoldable pub slot_in : List ℕ → ℕ → Slot
slot_in row k = record { known = not (eqb (get_or row k 0) 0); start = get_or row (k + 1) 0; end = get_or row (k + 2) 0 }

unfoldable pub known_in : List ℕ → Known
known_in row =
    record {
      key_usage = slot_in row 19;
      alternative_name = slot_in row 22;
      basic_constraints = slot_in row 25;
      name_constraints = slot_in row 28;
      distribution_points = slot_in row 31;
      key_purposes = slot_in row 34;
    }

unfoldable pub certificate_in : List ℕ → Certificate
certificate_in row =
    record {
      signed = span_in row 1;
      algorithm = span_in row 3;
      signature = span_in row 5;
      serial = span_in row 7;
      inner_algorithm = span_in row 9;
      issuer = span_in row 11;
      validity = span_in row 13;
      subject = span_in row 15;
      key = span_in row 17;
      known = known_in row;
    }

-- what a row says: its first number is 0 where the certificate was accepted, and otherwise the refusal and one more
unfoldable pub row_reading : List ℕ → Reading
row_reading row =
    cond (eqb (get_or row 0 0) 0)
    (Ok (certificate_in row))
    (cond (ltb 65535 (get_or row 0 0 - 1)) (Err bad_der) (Err (get_or row 0 0 - 1)))

-- the parts of a reading that the search uses
abbrev pub outline_of : Certificate → Outline
outline_of c = record {
  signed = c.signed;
  algorithm = c.algorithm;
  signature = c.signature;
  issuer = c.issuer;
  subject = c.subject;
  key = c.key;
  constrained = c.known.name_constraints.known;
}

unfoldable pub outlined : Reading → Result Outline ℕ
outlined (Ok c) = Ok (outline_of c)
outlined (Err e) = Err e

unfoldable pub on_outline : {R : Type 0} → Result Outline ℕ → (ℕ → R) → (Outline → R) → R
on_outline (Ok o) other k = k o
on_outline (Err e) other k = other e
