-- EXPORTS: what the functions about one certificate say of it, by their contracts. Assumes that what is lent are bytes.
use Prim.Native.Nat.{ℕ}
use mathlib.Core.Path.{◌≡◌, refl, sym, ap, ◌∙◌}
use mathlib.Core.List.{List, []}
use mathlib.Core.Bool.{Bool, true, false, cond}
use lib.ListN.{get_or}
use lib.Dec.{lit<, eqb}
use native.Mathlib.Omega.{arith}
use Rattle.refusal.specs.Refusals.{bad_der, unsupported_cert_version}
use Rattle.der.specs.Places.{Bytes, part}
use Rattle.extensions.specs.Rfc5280.{sequence, listed}
use Rattle.cert.specs.Rfc5280.{Skeleton}
use Rattle.cert.specs.declared.Certificate.{Certificate}
use Rattle.cert.specs.Model.{read_certificate, anchor_of, read_anchor, Reading}
use Rattle.cert.specs.Layout.{places}
use Rattle.cert.proofs.Refusals.{ReadingFair, reading_not, read_fair}
use Rattle.cert.proofs.Sound.{sound}
use Rattle.cert.proofs.Laws.{read_inside}
use Rattle.cert.proofs.Complete.{complete}
use Rattle.cert.proofs.Anchors.{taken, anchor_complete}
use Rattle.checks.specs.Conditions.{Optional, absent, present}
use Rattle.checks.specs.Skeletons.{value_in, InSequence}
use Rattle.checks.proofs.Skeletons.{laid}
use Rattle.told.specs.declared.Trusted.{Trusted}
use Rattle.told.specs.Model.{trusted_of}
use Rattle.conditions.specs.Conditions.{Lends}
use Rattle.conditions.proofs.Names.{good_named, named_good}
use Rattle.judge.specs.Steps.{fault_of}
use Rattle.judge.proofs.Asks.{within}
use Rattle.judge.specs.Exports.{Encodes, ReadType, ConstraintsTold, unbound, bound, AnchorTold, AnchorType, for_name, NameType}
use Rattle.std.specs.Prelude.{Ok, Err}

-- ---- `pathjudge_read`
no_fault : (g : Reading) → ReadingFair g → fault_of g ≡ 0 → (c : Certificate) × (g ≡ Ok c)
unfolding fault_of
no_fault (Ok c) f e = (c, refl)
no_fault (Err x) (reading_not f) e = absurd (omega (arith, f.0))

encodes : (s : List ℕ) → Bytes s → (strict : Bool) (c : Certificate) → read_certificate s strict ≡ Ok c → (k : Skeleton) × Encodes strict s k
encodes s b strict c e = let z = sound s b strict c e in (z.k, record { bytes = z.bytes; rules = z.rules })

reads : (s : List ℕ) (k : Skeleton) → Encodes true s k → fault_of (read_certificate s true) ≡ 0
unfolding fault_of
reads s k x = rw (x.bytes, complete true k x.rules)

-- THEOREM
pub read_exactly : ReadType
read_exactly s b r h = (
  λ e. let a = no_fault (read_certificate s true) (read_fair s true) (sym h ∙ e) in encodes s b true a.0 a.1,
  λ x. h ∙ reads s x.0 x.1,
)

-- ---- `pathjudge_anchor`
anchored : (g : Reading) → ReadingFair g → (trusted_of (anchor_of g)).refusal ≡ 0 → (c : Certificate) × (g ≡ Ok c)
unfolding anchor_of trusted_of
anchored (Ok c) f e = (c, refl)
anchored (Err x) (reading_not f) e = absurd (go (eqb x unsupported_cert_version) e)
  where
    go : (b : Bool) → (trusted_of (cond b (Err bad_der) (Err x))).refusal ≡ 0 → ⊥
    go true e = omega arith
    go false e = omega (arith, f.0)

-- an extension whose value is a SEQUENCE, by its flag and its content
flagged : (s : List ℕ) (k : Skeleton) (r : Trusted) (known : Bool) (v : Optional) → value_in 30 (listed k.extensions) ≡ v → r.bound ≡ cond known 1 0
    → InSequence v (cond known (present (part s r.constraints_start r.constraints_end)) absent) → ConstraintsTold s k r
flagged s k r true absent e f q = absurd (let z : ◌≡◌ {A = ℕ} 0 1 = cc in omega arith)
flagged s k r true (present v) e f q = let c : q.0 ≡ part s r.constraints_start r.constraints_end = cc in bound f (e ∙ ap present (q.1 ∙ ap sequence c))
flagged s k r false absent e f q = unbound f e
flagged s k r false (present v) e f q = absurd (let z : ◌≡◌ {A = ℕ} 0 1 = cc in omega arith)

anchor_told : (s : List ℕ) → Bytes s → (k : Skeleton) → Encodes false s k → (r : Trusted) → r ≡ trusted_of (taken (places k)) → AnchorTold s k r
unfolding trusted_of
anchor_told s b k x r e =
    let i = read_inside s b false (places k) (rw x.bytes (complete false k x.rules)) in
    let d = laid s k x.bytes x.rules in
    let n = (places k).known.name_constraints in
    record {
      refusal_is = ap (λ (t : Trusted). t.refusal) e;
      subject_is = rw e (sym d.subject);
      key_is = rw e (sym d.key);
      constraints_is = rw e (flagged s k (trusted_of (taken (places k))) n.known _ refl refl d.name_constraints);
      subject_in = rw e (within s _ _ i.subject);
      key_in = rw e (within s _ _ i.key);
      constraints_in = rw e (within s _ _ i.known.name_constraints);
    }

-- THEOREM
pub anchor_exactly : AnchorType
unfolding read_anchor
anchor_exactly s b r h = (
  λ e. let a = anchored (read_certificate s false) (read_fair s false) (sym (ap (λ (t : Trusted). t.refusal) h) ∙ e) in encodes s b false a.0 a.1,
  λ k x. anchor_told s b k x r (h ∙ ap trusted_of (rw x.bytes (anchor_complete k x.rules))),
)

-- ---- `pathjudge_name`
no_bytes : (i : ℕ) → Bytes (get_or [] i [])
no_bytes i j = lit< tt

lends : (end : List ℕ) → Bytes end → (kind : ℕ) (name : List ℕ) → Lends (for_name end kind name)
lends end b kind name = record { issuers = no_bytes; end = b; keys = no_bytes; constraints = no_bytes }

-- THEOREM
pub name_exactly : NameType
name_exactly end b kind name r h =
    let l = lends end b kind name in
    (λ e. good_named (for_name end kind name) l (sym h ∙ e), λ x. h ∙ named_good (for_name end kind name) l x)
