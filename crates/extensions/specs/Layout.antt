-- Where extensions lie in their encoding: each place by adding up the lengths of what comes before it.
use Rattle.std.specs.Prelude.{ℕ, ◌+◌, ◌-◌, List, [], ◌∷◌, true, false, cond, length, get_or, ltb, eqb}
use Rattle.der.specs.declared.Span.{Span}
use Rattle.der.specs.X690.{length_bytes}
use Rattle.extensions.specs.declared.Slot.{Slot}
use Rattle.extensions.specs.declared.Known.{Known}
use Rattle.extensions.specs.Rfc5280.{Extension, Extensions, missing, present, sequence, criticality, extension_content, extension, extension_list, is_number}

-- the content of a value that is encoded at `at`
unfoldable pub place_of : ℕ → List ℕ → Span
place_of at content =
    let start = at + 1 + length (length_bytes (length content)) in
    record { start = start; end = start + length content }

abbrev pub absent : Slot
absent = record { known = false; start = 0; end = 0 }

abbrev pub there : ℕ → ℕ → Slot
there start end = record { known = true; start = start; end = end }

-- ---- X.690, 8.1.3: how many octets of an encoding come before its contents, by the first octet of the length
unfoldable pub header : List ℕ → ℕ
header octets = cond (ltb (get_or octets 1 0) 128) 2 (2 + (get_or octets 1 0 - 128))

-- the value of extension x, which is encoded at `at`
unfoldable pub value_of : ℕ → Extension → Span
value_of at x =
    let content = place_of at (extension_content x) in
    let identifier = place_of content.start x.identifier in
    place_of (identifier.end + length (criticality x.critical)) x.value

-- what is kept of extension n: of key usage the value, of another the contents of the SEQUENCE that is the value
unfoldable pub kept_of : ℕ → ℕ → Extension → Slot
kept_of n at x =
    let value = value_of at x in
    there (cond (eqb n 15) value.start (value.start + header x.value)) value.end

-- extension n in a list that is encoded at `at`
unfoldable pub slot_for : ℕ → ℕ → List Extension → Slot
slot_for n at [] = absent
slot_for n at (x ∷ xs) = cond (is_number n x) (kept_of n at x) (slot_for n (at + length (extension x)) xs)

unfoldable pub slots : ℕ → List Extension → Known
slots at xs =
    record {
      key_usage = slot_for 15 at xs;
      alternative_name = slot_for 17 at xs;
      basic_constraints = slot_for 19 at xs;
      name_constraints = slot_for 30 at xs;
      distribution_points = slot_for 31 at xs;
      key_purposes = slot_for 37 at xs;
    }

-- extensions that are encoded at `at`
unfoldable pub known_at : ℕ → Extensions → Known
known_at at missing = slots 0 []
known_at at (present xs) =
    let field = place_of at (sequence (extension_list xs)) in
    let list = place_of field.start (extension_list xs) in
    slots list.start xs
