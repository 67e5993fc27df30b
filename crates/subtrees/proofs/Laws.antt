-- Laws of the model that the functions' proofs cite: each turn of the loop over the names, a cut, and a certificate. Assumes nothing.
use Prim.Native.Nat.{ℕ, ◌-◌, min}
use mathlib.Core.Path.{◌≡◌}
use mathlib.Core.List.{List}
use lib.ListN.{length, take, drop, length-drop}
use native.Mathlib.Omega.{arith}
use Rattle.der.specs.Places.{part}
use Rattle.entries.specs.Tally.{Tally, tally, after}
use Rattle.entries.specs.Model.{on_name}
use Rattle.subtrees.specs.declared.Subtrees.{Subtrees}
use Rattle.subtrees.specs.Model.{name, next_name, alternatives, on_read, certificate_as}
use Rattle.subtrees.specs.Noted.{Noted}
use Rattle.refusal.specs.Refusals.{bad_der}
use Rattle.cert.specs.declared.Certificate.{Certificate}
use Rattle.std.specs.Prelude.{Err, Ok, Result}
use Rattle.std.proofs.lemmas.List.{take_min}
use Rattle.names.specs.Model.{name_is}
use Rattle.names.specs.declared.general.Name.{Name}

-- ---- the loop over the names
pub next_found : (s : List ℕ) (lists : Subtrees) (t : List ℕ) {n : Result Name ℕ} {kind start end : ℕ} → n ≡ name_is kind start end → (k : ℕ → Unit {0} → Tally)
    → next_name s lists t n k ≡ after (name s lists kind (part t start end)) (k end tt)
unfolding next_name on_name
next_found s lists t e k = rw e

pub next_broken : (s : List ℕ) (lists : Subtrees) (t : List ℕ) {n : Result Name ℕ} {e : ℕ} → n ≡ Err e → (k : ℕ → Unit {0} → Tally) → next_name s lists t n k ≡ tally 0 e
unfolding next_name on_name
next_broken s lists t h k = rw h

-- ---- a cut up to the end of what there is
pub cut_short : (s : List ℕ) (a b m : ℕ) → m ≡ min b (length s) → take (m - a) (drop a s) ≡ part s a b
unfolding part
cut_short s a b m e = let n : m - a ≡ min (b - a) (length (drop a s)) = simp length-drop (omega arith) in rw n (take_min (b - a) (drop a s))

-- ---- one certificate
module _ (s : List ℕ) (lists : Subtrees) (t : Noted) where
  pub certificate_is : (c : Certificate) → t.reading ≡ Ok c
      → certificate_as s lists t ≡ after (alternatives s lists t.bytes c.known.alternative_name.start c.known.alternative_name.end) (name s lists 164 (part t.bytes c.subject.start c.subject.end))
  unfolding certificate_as on_read
  certificate_is c e = rw e

  pub certificate_unread : (e : ℕ) → t.reading ≡ Err e → certificate_as s lists t ≡ tally 0 bad_der
  unfolding certificate_as on_read
  certificate_unread e h = rw h
