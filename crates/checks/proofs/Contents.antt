-- The contents that the places of a certificate cut out of its bytes. Assumes nothing.
use Prim.Native.Nat.{ℕ}
use mathlib.Core.Path.{◌≡◌}
use mathlib.Core.List.{List}
use mathlib.Core.Bool.{Bool, true, cond}
use Rattle.der.specs.declared.Span.{Span}
use Rattle.der.specs.Places.{part}
use Rattle.cert.specs.declared.Certificate.{Certificate}
use Rattle.extensions.specs.declared.Slot.{Slot}
use Rattle.cert.specs.Model.{read_certificate}
use Rattle.checks.specs.Conditions.{Optional, absent, present, Contents}
use Rattle.std.specs.Prelude.{Ok}

abbrev pub at : List ℕ → Span → List ℕ
at s p = part s p.start p.end

-- an extension's content, where it is there
abbrev pub found : Bool → List ℕ → Optional
found there content = cond there (present content) absent

abbrev pub slot_at : List ℕ → Slot → Optional
slot_at s p = found p.known (part s p.start p.end)

abbrev pub contents_of : List ℕ → Certificate → Contents
contents_of s c =
    record {
      issuer = at s c.issuer;
      validity = at s c.validity;
      subject = at s c.subject;
      key = at s c.key;
      basic_constraints = slot_at s c.known.basic_constraints;
      ext_key_usage = slot_at s c.known.key_purposes;
      subject_alt_name = slot_at s c.known.alternative_name;
      name_constraints = slot_at s c.known.name_constraints;
    }

-- the bytes are a certificate with these contents
abbrev pub Reads : List ℕ → Contents → Type 0
Reads s o = (c : Certificate) × (read_certificate s true ≡ Ok c) × (contents_of s c ≡ o)
