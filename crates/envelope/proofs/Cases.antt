-- The one way to each accepted answer of the model. Assumes nothing.
use Prim.Native.Nat.{ℕ}
use mathlib.Core.Path.{◌≡◌}
use mathlib.Core.List.{List}
use mathlib.Core.Bool.{true}
use lib.ListN.{length}
use borrow.Author.Tests.{eq-eqb}
use Rattle.refusal.specs.Refusals.{bad_der, trailing_signed_data, unsupported_cert_version}
use Rattle.der.specs.declared.Span.{Span}
use Rattle.der.specs.Model.{expect_at, on_content}
use Rattle.parts.specs.Model.{same_parts}
use Rattle.bits.specs.Model.{bits_at}
use Rattle.values.specs.Model.{read_small, number_is}
use Rattle.envelope.specs.declared.Envelope.{Envelope}
use Rattle.extensions.specs.Model.{span}
use Rattle.envelope.specs.Model.{parts_in, on_parts, opened, is_version, version_at, begun}
use Rattle.std.specs.Prelude.{Ok}

module _ (s : List ℕ) where
  pub parts_case : (from to : ℕ) {p q r : Span} → expect_at s from to 48 bad_der ≡ Ok p → expect_at s p.end to 48 bad_der ≡ Ok q → bits_at s q.end to ≡ Ok r → r.end ≡ to
      → parts_in s from to ≡ Ok (record { signed = span from p.end; content = p; algorithm = q; signature = r })
  unfolding parts_in on_content
  parts_case from to e f g h = simp (e, f, g, eq-eqb _ _ h)

  pub opened_case : {p : Span} {v : Envelope} → expect_at s 0 (length s) 48 trailing_signed_data ≡ Ok p → parts_in s p.start p.end ≡ Ok v → p.end ≡ length s → opened s ≡ Ok v
  unfolding opened on_parts on_content
  opened_case e f h = simp (e, f, eq-eqb _ _ h)

  pub version_case : (from to : ℕ) {p : Span} {next : ℕ} → expect_at s from to 160 unsupported_cert_version ≡ Ok p → read_small s p.start p.end ≡ number_is 2 next → next ≡ p.end
      → version_at s from to ≡ Ok p
  unfolding version_at is_version on_content
  version_case from to e f h = simp (e, f, eq-eqb _ _ h)

  pub begun_case : (from to : ℕ) (outer : Span) {p q r : Span} → version_at s from to ≡ Ok p → expect_at s p.end to 2 bad_der ≡ Ok q → expect_at s q.end to 48 bad_der ≡ Ok r
      → same_parts s r.start r.end s outer.start outer.end ≡ true → begun s from to outer ≡ Ok (record { serial = q; algorithm = r })
  unfolding begun on_content
  begun_case from to outer e f g h = simp (e, f, g, h)
