-- The one way to each accepted answer of the model. Assumes nothing.
use Prim.Native.Nat.{ℕ}
use mathlib.Core.Path.{◌≡◌}
use mathlib.Core.List.{List}
use mathlib.Core.Bool.{Bool}
use borrow.Author.Tests.{eq-eqb}
use Rattle.refusal.specs.Refusals.{bad_der}
use Rattle.der.specs.declared.Span.{Span}
use Rattle.der.specs.Model.{expect_at, on_content}
use Rattle.bits.specs.Model.{bits_at}
use Rattle.envelope.specs.declared.Envelope.{Envelope}
use Rattle.envelope.specs.declared.Beginning.{Beginning}
use Rattle.cert.specs.declared.Fields.{Fields}
use Rattle.extensions.specs.declared.Known.{Known}
use Rattle.extensions.specs.Model.{on_kept, extensions_at}
use Rattle.envelope.specs.Model.{on_parts, opened, begun, on_begun}
use Rattle.cert.specs.Model.{fields_at, on_found, whole_of, read_certificate, key_parts, key_is}
use Rattle.std.specs.Prelude.{Ok}

module _ (s : List ℕ) where
  pub fields_case : (from to : ℕ) {p q r t : Span} → expect_at s from to 48 bad_der ≡ Ok p → expect_at s p.end to 48 bad_der ≡ Ok q → expect_at s q.end to 48 bad_der ≡ Ok r → expect_at s r.end to 48 bad_der ≡ Ok t
      → fields_at s from to ≡ Ok (record { issuer = p; validity = q; subject = r; key = t })
  unfolding fields_at on_content
  fields_case from to e f g h = simp (e, f, g, h)

  pub read_case : (strict : Bool) {v : Envelope} {b : Beginning} {f : Fields} {known : Known} → opened s ≡ Ok v → begun s v.content.start v.content.end v.algorithm ≡ Ok b
      → fields_at s b.algorithm.end v.content.end ≡ Ok f → extensions_at s f.key.end v.content.end strict ≡ Ok known
      → read_certificate s strict ≡ Ok (whole_of v b f known)
  unfolding read_certificate on_parts on_begun on_found on_kept
  read_case strict e f g h = simp (e, f, g, h)

  pub key_case : (from to : ℕ) {p q : Span} → expect_at s from to 48 bad_der ≡ Ok p → bits_at s p.end to ≡ Ok q → q.end ≡ to → key_parts s from to ≡ key_is p q
  unfolding key_parts on_content
  key_case from to e f h = simp (e, f, eq-eqb _ _ h)
