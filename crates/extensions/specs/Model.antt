-- What the code answers, as functions of the bytes: the same tests in the same order.
use Rattle.std.specs.Prelude.{ℕ, ◌+◌, ◌-◌, List, Bool, true, false, cond, length, get_or, ltb, eqb, Option, None, Some, Ok, Err, Result}
use Rattle.refusal.specs.Refusals.{bad_der, trailing_certificate_tbs_certificate, trailing_certificate_extensions, trailing_extension, unsupported_critical_extension, extension_value_invalid}
use Rattle.der.specs.declared.Span.{Span}
use Rattle.der.specs.Model.{expect_at, on_content}
use Rattle.values.specs.Model.{read_bool}
use Rattle.der.specs.Loop.{walk}
use Rattle.extensions.specs.declared.Slot.{Slot}
use Rattle.extensions.specs.declared.Known.{Known}
use Rattle.extensions.specs.declared.Extension.{Extension}
use Rattle.extensions.specs.declared.Find.{Find}
use Rattle.extensions.specs.declared.Kind.{Kind}
use Rattle.extensions.specs.declared.Kind.TheVariants.{KeyUsage, AlternativeName, BasicConstraints, NameConstraints, DistributionPoints, KeyPurposes}

abbrev pub span : ℕ → ℕ → Span
span a b = record { start = a; end = b }

-- the last number of a kind's identifier, and 0 for no kind
unfoldable pub number : Kind → ℕ
number KeyUsage = 15
number AlternativeName = 17
number BasicConstraints = 19
number NameConstraints = 30
number DistributionPoints = 31
number KeyPurposes = 37

unfoldable pub number_of : Option Kind → ℕ
number_of (Some kind) = number kind
number_of None = 0

-- the known kinds: the last number of an identifier under id-ce; 0 for every other identifier
unfoldable pub known_kind : ℕ → ℕ
known_kind n =
    cond (eqb n 15)
    n
    (cond (eqb n 17)
    n
    (cond (eqb n 19) n (cond (eqb n 30) n (cond (eqb n 31) n (cond (eqb n 37) n 0)))))

unfoldable pub kind_of : List ℕ → ℕ → ℕ → ℕ
kind_of s from to =
    cond (ltb (length s) to)
    0
    (cond (ltb to from)
    0
    (cond (eqb (to - from) 3)
    (cond (eqb (get_or s from 0) 85)
    (cond (eqb (get_or s (from + 1) 0) 29) (known_kind (get_or s (from + 2) 0)) 0)
    0)
    0))

abbrev pub absent : Slot
absent = record { known = false; start = 0; end = 0 }

abbrev pub there : ℕ → ℕ → Slot
there start end = record { known = true; start = start; end = end }

unfoldable pub slot_of : Known → ℕ → Slot
slot_of k n =
    cond (eqb n 15)
    k.key_usage
    (cond (eqb n 17)
    k.alternative_name
    (cond (eqb n 19)
    k.basic_constraints
    (cond (eqb n 30)
    k.name_constraints
    (cond (eqb n 31) k.distribution_points (cond (eqb n 37) k.key_purposes absent)))))

unfoldable pub put : ℕ → ℕ → Slot → Slot → Slot
put own kind new old = cond (eqb kind own) new old

unfoldable pub set_slot : Known → ℕ → Slot → Known
set_slot k n new =
    record {
      key_usage = put 15 n new k.key_usage;
      alternative_name = put 17 n new k.alternative_name;
      basic_constraints = put 19 n new k.basic_constraints;
      name_constraints = put 30 n new k.name_constraints;
      distribution_points = put 31 n new k.distribution_points;
      key_purposes = put 37 n new k.key_purposes;
    }

unfoldable pub none_known : Known
none_known =
    record {
      key_usage = absent;
      alternative_name = absent;
      basic_constraints = absent;
      name_constraints = absent;
      distribution_points = absent;
      key_purposes = absent;
    }

unfoldable pub on_truth : {R : Type 0} → Result (Bool × ℕ) ℕ → (ℕ → R) → (Bool → ℕ → R) → R
on_truth (Ok v) other k = k v.0 v.1
on_truth (Err e) other k = other e

unfoldable pub extension_in : List ℕ → ℕ → ℕ → Result Extension ℕ
extension_in s from to =
    on_content (expect_at s from to 6 bad_der) Err (λ a b.
    on_truth (read_bool s b to) Err (λ critical next.
    on_content (expect_at s next to 4 bad_der) Err (λ c d.
    Ok (record { identifier = span a b; critical = critical; value = span c d }))))

unfoldable pub content_of : List ℕ → ℕ → Span → Result Span ℕ
content_of s kind value =
    cond (eqb kind 15)
    (Ok value)
    (on_content (expect_at s value.start value.end 48 bad_der) Err (λ a b.
    cond (eqb b value.end) (Ok (span a b)) (Err bad_der)))

-- an extension of an unknown kind
unfoldable pub passed_over : Bool → Bool → Known → Result Known ℕ
passed_over strict critical known =
    cond strict (cond critical (Err unsupported_critical_extension) (Ok known)) (Ok known)

unfoldable pub remembered : List ℕ → Extension → Known → Bool → Result Known ℕ
remembered s x known strict =
    let kind = kind_of s x.identifier.start x.identifier.end in
    cond (eqb kind 0)
    (passed_over strict x.critical known)
    (cond (slot_of known kind).known
    (Err extension_value_invalid)
    (on_content (content_of s kind x.value) Err (λ a b.
    Ok (set_slot known kind (there a b)))))

-- the slots with what was found beside these
unfoldable pub with_find : Known → Option Find → Known
with_find known None = known
with_find known (Some f) = set_slot known (number f.kind) (there f.start f.end)

-- the slots after a ruling that was given beside these
unfoldable pub ruled : Known → Result (Option Find) ℕ → Result Known ℕ
ruled known (Ok find) = Ok (with_find known find)
ruled known (Err e) = Err e

unfoldable pub on_parsed : {R : Type 0} → Result Extension ℕ → (ℕ → R) → (Extension → R) → R
on_parsed (Ok x) other k = k x
on_parsed (Err e) other k = other e

unfoldable pub on_kept : {R : Type 0} → Result Known ℕ → (ℕ → R) → (Known → R) → R
on_kept (Ok x) other k = k x
on_kept (Err e) other k = other e

-- where the next extension begins and the slots by then, or why there is none
pub data Move : Type 0 where
  Next : ℕ → Known → Move
  Stop : ℕ → Move

unfoldable pub taken : List ℕ → ℕ → ℕ → Known → Bool → Move
taken s at to known strict =
    on_content (expect_at s at to 48 trailing_extension) Stop (λ a b.
    on_parsed (extension_in s a b) Stop (λ x.
    on_kept (remembered s x known strict) Stop (λ now.
    cond (eqb x.value.end b) (Next b now) (Stop trailing_extension))))

-- what a step says beside the slots that it was taken with
unfoldable pub moved : Known → Result (ℕ × Option Find) ℕ → Move
moved known (Ok step) = Next step.0 (with_find known step.1)
moved known (Err e) = Stop e

unfoldable pub go_on : Move → (ℕ → Known → Result Known ℕ) → Result Known ℕ
go_on (Next at known) k = k at known
go_on (Stop e) k = Err e

unfoldable pub all_kept : ℕ → Known → Result Known ℕ
all_kept at known = Ok known

unfoldable pub gathered : List ℕ → ℕ → ℕ → Bool → Result Known ℕ
gathered s from to strict =
    walk to all_kept (λ at known. go_on (taken s at to known strict)) from none_known

unfoldable pub extensions_at : List ℕ → ℕ → ℕ → Bool → Result Known ℕ
extensions_at s from to strict =
    cond (eqb from to)
    (Ok none_known)
    (on_content (expect_at s from to 163 trailing_certificate_extensions) Err (λ a b.
    on_content (expect_at s a b 48 trailing_extension) Err (λ c d.
    on_kept (gathered s c d strict) Err (λ known.
    cond (eqb d b)
    (cond (eqb b to) (Ok known) (Err trailing_certificate_tbs_certificate))
    (Err trailing_certificate_extensions)))))
