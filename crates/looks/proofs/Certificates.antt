-- THEOREMS: how much of a certificate is looked at when it is read: each byte once, but for two looks at the version and one at each extension. Assumes nothing.
use Prim.Native.Nat.{ℕ, ◌+◌, ◌-◌, ◌*◌, ◌≤◌}
use mathlib.Core.Path.{◌≡◌}
use mathlib.Core.List.{List, [], ◌∷◌}
use mathlib.Core.Bool.{Bool, true, cond}
use lib.ListN.{length}
use lib.Dec.{eqb}
use native.Mathlib.Omega.{arith}
use Rattle.refusal.specs.Refusals.{bad_der, trailing_signed_data, unsupported_cert_version}
use Rattle.der.specs.declared.Span.{Span}
use Rattle.der.specs.Model.{on_content}
use Rattle.parts.specs.Model.{same_parts}
use Rattle.bits.specs.Model.{bits_at}
use Rattle.extensions.specs.Model.{span}
use Rattle.envelope.specs.Model.{version_at}
use Rattle.envelope.proofs.Inversion.{version_inv}
use Rattle.looks.specs.Der.{value_looks, same_looks}
use Rattle.looks.specs.Values.{bits_looks}
use Rattle.looks.specs.Certificates.{parts_looks, opened_looks, version_looks, begun_looks, fields_looks, read_looks, key_looks, fill_looks, lent_bytes}
use Rattle.looks.proofs.Der.{value_few, same_few, expect_cost, content_then, expect_then, test_then}
use Rattle.looks.proofs.Values.{small_for_six, bits_few, bits_wide}
use Rattle.looks.proofs.Extensions.{extensions_few}
use Rattle.std.specs.Prelude.{Ok}

-- ---- the outer SEQUENCE
-- what may be looked at in the signed content and in the algorithm beside it
abbrev Inner : (Span → Span → ℕ) → Type 0
Inner k = (a b c d : ℕ) → 6 * k (span a b) (span c d) ≤ 7 * (b - a) + 7 + 6 * (d - c)

-- at least six bytes are neither, and are looked at once
parts_few : (s : List ℕ) (from to : ℕ) (k : Span → Span → ℕ) → Inner k → 6 * parts_looks s from to k ≤ 7 * (to - from) + 1
unfolding parts_looks
parts_few s from to k inner =
    let most = 7 * (to - from) + 1 in
    let v = value_few s from to in
    expect_then s from to 48 bad_der _ (λ n. 6 * (value_looks s from to + n) ≤ most) (omega arith) (λ a b h.
    let w = value_few s b to in
    expect_then s b to 48 bad_der _ (λ n. 6 * (value_looks s from to + (value_looks s b to + n)) ≤ most) (omega (arith, h.cost, h.ordered, h.inside)) (λ c d i.
    let z : 6 * (value_looks s from to + (value_looks s b to + bits_looks s d to)) ≤ most = omega (arith, bits_few s d to, h.cost, h.ordered, i.cost, i.ordered, i.inside) in
    content_then (bits_at s d to) _ (λ n. 6 * (value_looks s from to + (value_looks s b to + (bits_looks s d to + n))) ≤ most) (omega arith) (λ p e.
    test_then (eqb p.end to) _ (λ n. 6 * (value_looks s from to + (value_looks s b to + (bits_looks s d to + n))) ≤ most) (omega arith) (λ f.
    omega (arith, inner a b c d, bits_few s d to, bits_wide s d to p e, h.cost, h.after, h.ordered, i.cost, i.after, i.ordered, i.inside)))))

opened_few : (s : List ℕ) (k : Span → Span → ℕ) → Inner k → 6 * opened_looks s k ≤ 7 * length s
unfolding opened_looks
opened_few s k inner =
    let v = value_few s 0 (length s) in
    expect_then s 0 (length s) 48 trailing_signed_data _ (λ n. 6 * (value_looks s 0 (length s) + n) ≤ 7 * length s) (omega arith) (λ a b h.
    omega (arith, parts_few s a b (λ content algorithm. cond (eqb b (length s)) (k content algorithm) 0) (λ c d e f. test_then (eqb b (length s)) (k (span c d) (span e f)) (λ n. 6 * n ≤ 7 * (d - c) + 7 + 6 * (f - e)) (omega arith) (λ g. inner c d e f)), h.cost, h.after, h.ordered, h.inside))

-- ---- the signed content
version_few : (s : List ℕ) (from to : ℕ) → 6 * version_looks s from to ≤ 7 * (to - from) + 7
unfolding version_looks
version_few s from to =
    let v = value_few s from to in
    expect_then s from to 160 unsupported_cert_version _ (λ n. 6 * (value_looks s from to + n) ≤ 7 * (to - from) + 7) (omega arith) (λ a b h. omega (arith, small_for_six s a b))

record VersionFor (s : List ℕ) (from to : ℕ) (p : Span) : Type 0 where
  pub cost : 6 * version_looks s from to + 7 * from ≤ 7 * p.end + 7
  pub ordered : from ≤ p.end
  pub inside : p.end ≤ to

version_cost : (s : List ℕ) (from to : ℕ) (p : Span) → version_at s from to ≡ Ok p → VersionFor s from to p
unfolding version_looks on_content
version_cost s from to p e =
    let i = version_inv s from to p e in
    let h = expect_cost s from to 160 unsupported_cert_version p i.field in
    record {
      cost = rw i.field (omega (arith, small_for_six s p.start p.end));
      ordered = omega arith;
      inside = h.inside;
    }

begun_few : (s : List ℕ) (from to : ℕ) (outer : Span) (k : ℕ → ℕ) → ((at : ℕ) → 6 * k at ≤ 7 * (to - at))
    → 6 * begun_looks s from to outer k ≤ 7 * (to - from) + 7 + 6 * (outer.end - outer.start)
unfolding begun_looks
begun_few s from to outer k after =
    let most = 7 * (to - from) + 7 + 6 * (outer.end - outer.start) in
    let n = version_few s from to in
    content_then (version_at s from to) _ (λ n. 6 * (version_looks s from to + n) ≤ most) (omega arith) (λ p e.
    let v = version_cost s from to p e in
    let w = p.end in
    let f = value_few s w to in
    expect_then s w to 2 bad_der _ (λ n. 6 * (version_looks s from to + (value_looks s w to + n)) ≤ most) (omega (arith, v.cost, v.ordered, v.inside)) (λ a b h.
    let g = value_few s b to in
    expect_then s b to 48 bad_der _ (λ n. 6 * (version_looks s from to + (value_looks s w to + (value_looks s b to + n))) ≤ most)
    (omega (arith, v.cost, v.ordered, h.cost, h.ordered, h.inside)) (λ c d i.
    let l = same_few s c d s outer.start outer.end in
    test_then (same_parts s c d s outer.start outer.end) _
    (λ n. 6 * (version_looks s from to + (value_looks s w to + (value_looks s b to + (same_looks s c d s outer.start outer.end + n)))) ≤ most)
    (omega (arith, v.cost, v.ordered, h.cost, h.ordered, i.cost, i.ordered, i.inside))
    (λ j. omega (arith, after d, v.cost, v.ordered, h.cost, h.ordered, i.cost, i.ordered, i.inside)))))

-- four headers have eight bytes or more, and are looked at once: enough for the six that extensions may cost beside seven for six
fields_few : (s : List ℕ) (from to : ℕ) (k : ℕ → ℕ) → ((at : ℕ) → 6 * k at ≤ 7 * (to - at) + 6) → 6 * fields_looks s from to k ≤ 7 * (to - from)
unfolding fields_looks
fields_few s from to k after =
    let most = 7 * (to - from) in
    let v = value_few s from to in
    expect_then s from to 48 bad_der _ (λ n. 6 * (value_looks s from to + n) ≤ most) (omega arith) (λ a b h.
    let w = value_few s b to in
    expect_then s b to 48 bad_der _ (λ n. 6 * (value_looks s from to + (value_looks s b to + n)) ≤ most) (omega (arith, h.cost, h.ordered, h.inside)) (λ c d i.
    let x = value_few s d to in
    expect_then s d to 48 bad_der _ (λ n. 6 * (value_looks s from to + (value_looks s b to + (value_looks s d to + n))) ≤ most) (omega (arith, h.cost, h.ordered, i.cost, i.ordered, i.inside)) (λ e f j.
    let y = value_few s f to in
    expect_then s f to 48 bad_der _ (λ n. 6 * (value_looks s from to + (value_looks s b to + (value_looks s d to + (value_looks s f to + n)))) ≤ most)
    (omega (arith, h.cost, h.ordered, i.cost, i.ordered, j.cost, j.ordered, j.inside)) (λ g l q.
    omega (arith, after l, h.cost, h.after, h.ordered, i.cost, i.after, i.ordered, j.cost, j.after, j.ordered, q.cost, q.after, q.ordered, q.inside)))))

-- ---- the whole
-- no more than seven looks for six bytes
pub seven_for_six : (s : List ℕ) (strict : Bool) → 6 * read_looks s strict ≤ 7 * length s
unfolding read_looks
seven_for_six s strict =
    opened_few s _ (λ a b c d. begun_few s a b (span c d) _ (λ at. fields_few s at b _ (λ next. extensions_few s next b strict)))

-- no more than two for each byte
pub few_looks : (s : List ℕ) (strict : Bool) → read_looks s strict ≤ 2 * length s
few_looks s strict = omega (arith, seven_for_six s strict)

-- all certificates of a request, each read once
pub few_in_all : (issuers : List (List ℕ)) (end : List ℕ) → 6 * fill_looks issuers end ≤ 7 * lent_bytes issuers end
unfolding fill_looks lent_bytes
few_in_all [] end = seven_for_six end true
few_in_all (s ∷ issuers) end = omega (arith, seven_for_six s true, few_in_all issuers end)

-- the parts of a key: each byte once
pub few_key_looks : (s : List ℕ) (from to : ℕ) → key_looks s from to ≤ to - from
unfolding key_looks
few_key_looks s from to =
    let v = value_few s from to in
    expect_then s from to 48 bad_der _ (λ n. value_looks s from to + n ≤ to - from) (omega arith) (λ a b h. omega (arith, bits_few s b to))
