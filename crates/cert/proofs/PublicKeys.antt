-- The reader of a key's two parts: sound and complete. Assumes nothing.
use Prim.Native.Nat.{ℕ, suc, ◌+◌, ◌-◌, ◌≤◌, ◌<◌}
use mathlib.Core.Path.{◌≡◌, refl, sym, ap, ◌∙◌}
use mathlib.Core.List.{List}
use mathlib.Core.Logic.{⊎_elim}
use lib.ListN.{length, get_or}
use lib.Dec.{ltb, leb, eqb}
use native.Mathlib.Omega.{arith}
use borrow.Author.Tests.{leb-false}
use Rattle.refusal.specs.Refusals.{bad_der, trailing_bit_string}
use Rattle.der.specs.declared.Span.{Span}
use Rattle.der.specs.Places.{Bytes, part, LIMIT}
use Rattle.der.specs.Model.{expect_at}
use Rattle.bits.specs.Model.{whole_octets, bits_at}
use Rattle.der.proofs.Invert.{peel}
use Rattle.der.proofs.Parts.{part_length}
use Rattle.values.proofs.SmallValues.{content_inv}
use Rattle.cert.specs.Model.{key_parts, key_is}
use Rattle.extensions.specs.Rfc5280.{sequence}
use Rattle.cert.specs.Rfc5280.{bit_string, key_content}
use Rattle.extensions.specs.Layout.{place_of}
use Rattle.cert.specs.Layout.{bits_of}
use Rattle.cert.proofs.Cases.{key_case}
use Rattle.extensions.proofs.Inversion.{chosen}
use Rattle.cert.proofs.Inversion.{key_inv}
use Rattle.extensions.proofs.Value.{here, here_split, find}
use Rattle.cert.proofs.Small.{bits_here, bits_found}
use Rattle.extensions.proofs.Slots.{Within}
use Rattle.std.specs.Prelude.{Ok, Err}

pub record KeyHere (s : List ℕ) (from to : ℕ) (p q : Span) : Type 0 where
  pub bytes : part s from to ≡ key_content (part s p.start p.end) (part s q.start q.end)
  pub algorithm : p ≡ place_of from (part s p.start p.end)
  pub bits : q ≡ bits_of (place_of from (part s p.start p.end)).end (part s q.start q.end)
  pub algorithm_within : Within s p.start p.end
  pub bits_within : Within s q.start q.end
  pub algorithm_short : length (part s p.start p.end) < LIMIT
  pub bits_short : suc (length (part s q.start q.end)) < LIMIT

no_got : {e : ℕ} {p : Span} → Err e ≡ Ok p → ⊥
no_got h = let z : ◌≡◌ {A = ℕ} 0 1 = cc in omega arith

-- the octets, and the one before them, are shorter than the limit
bits_limit : (s : List ℕ) → Bytes s → (from to : ℕ) (q : Span) → bits_at s from to ≡ Ok q → suc (q.end - q.start) < LIMIT
unfolding bits_at whole_octets
bits_limit s b from to q e =
    ⊎_elim
    (λ g.
    let a = g.0 in
    let h = here s b from to 3 trailing_bit_string a g.1 in
    let u = peel (ltb (length s) a.end) g.2 no_got in
    let v = peel (leb a.end a.start) u.1 no_got in
    let w = chosen (eqb (get_or s a.start 0) 0) v.1 no_got in
    let is : ◌≡◌ {A = Span} (record { start = a.start + 1; end = a.end }) q = cc w.1 in
    rw (← is) (omega (arith, h.small, leb-false a.end a.start v.0)))
    (λ g. absurd (no_got g.2))
    (content_inv (expect_at s from to 3 trailing_bit_string) Err (whole_octets s) e)

-- SOUND: the bytes are the encoding of the two parts
pub key_sound : (s : List ℕ) → Bytes s → (from to : ℕ) (p q : Span) → key_parts s from to ≡ key_is p q → KeyHere s from to p q
unfolding key_content sequence
key_sound s b from to p q e =
    let i = key_inv s from to p q e in
    let a = here s b from to 48 bad_der p i.algorithm in
    let g = bits_here s b p.end to q i.bits in
    let last : part s p.end to ≡ bit_string (part s q.start q.end) = sym (ap (λ (n : ℕ). part s p.end n) i.all) ∙ g.bytes in
    record {
      bytes = here_split s from to 48 p a ∙ rw last;
      algorithm = a.place;
      bits = g.place ∙ ap (λ (x : Span). bits_of x.end (part s q.start q.end)) a.place;
      algorithm_within = record { ordered = a.ordered; inside = omega (arith, a.inside, a.within) };
      bits_within = record { ordered = g.ordered; inside = omega (arith, g.inside, g.within) };
      algorithm_short = omega (arith, a.small, part_length s p.start p.end (omega (arith, a.inside, a.within)));
      bits_short = omega (arith, bits_limit s b p.end to q i.bits, part_length s q.start q.end (omega (arith, g.inside, g.within)));
    }

-- COMPLETE: the encoding of two parts, each as long as a reader takes, is read, with their places
pub key_complete : (s : List ℕ) (from to : ℕ) (algorithm bits : List ℕ) → from ≤ to → to ≤ length s → length algorithm < LIMIT → suc (length bits) < LIMIT
    → part s from to ≡ key_content algorithm bits → key_parts s from to ≡ key_is (place_of from algorithm) (bits_of (place_of from algorithm).end bits)
unfolding key_content sequence
key_complete s from to algorithm bits h l short shorter e =
    let a = find s from to 48 algorithm (bit_string bits) refl short h l e in
    let p = place_of from algorithm in
    let g = bits_found s p.end to bits shorter l a.left in
    key_case s from to (a.found bad_der) g.0 g.1
