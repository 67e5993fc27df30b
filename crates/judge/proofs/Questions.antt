-- Every question is about a certificate, and no list. Assumes nothing.
use Prim.Native.Nat.{ℕ, ◌-◌}
use mathlib.Core.Path.{◌≡◌, refl}
use mathlib.Core.Bool.{Bool, true, false, cond}
use mathlib.Core.List.{List, [], ◌∷◌, Memᴰ}
use lib.Dec.{eqb}
use Rattle.machine.specs.declared.State.{State}
use Rattle.machine.specs.World.{world_of}
use Rattle.machine.specs.Machine.{key_at, cert_at, what_at}
use Rattle.dialogue.specs.Log.{What, of_certificate, of_list}
use Rattle.dialogue.specs.Model.{Path, staged, try, events, search}
use Rattle.dialogue.specs.Dialogue.{follow}
use Rattle.dialogue.proofs.Questions.{Questions, Each, run_questions}
use Rattle.conditions.specs.Request.{Request, Budgets, end_of}
use Rattle.conditions.specs.Model.{world_for, search_of, decision}
use Rattle.conditions.proofs.Closed.{request_questions}

-- ---- about certificates
abbrev pub OfCertificate : (ℕ → ℕ → Type 0) → ℕ → What → Type 0
OfCertificate Q key (of_certificate n) = Q key n
OfCertificate Q key (of_list j) = ⊥

-- of each certificate of a path and the key above it
unfoldable pub Down : (ℕ → ℕ → Type 0) → ℕ → Path → Type 0
Down Q key [] = Unit {0}
Down Q key (n ∷ ns) = Q key n × Down Q n ns

-- no list is asked about
down_each : (Q : ℕ → ℕ → Type 0) (R : Request) (key : ℕ) (path : Path) → Down Q key path → Each (OfCertificate Q) (staged (world_for R) key path)
unfolding staged world_of Each Down
down_each Q R key [] d = tt
down_each Q R key (n ∷ ns) d = (d.0, down_each Q R n ns d.1)

pub search_asks : (Q : ℕ → ℕ → Type 0) (R : Request) (B : Budgets) → ((k : ℕ) (p : Path) → Memᴰ (try k p) (events (world_for R) (end_of R)) → Down Q k p) → Questions (OfCertificate Q) (search_of R B)
unfolding search
search_asks Q R B t =
    run_questions (OfCertificate Q) (world_for R) (events (world_for R) (end_of R)) (λ k p m. down_each Q R k p (t k p m)) B.signatures B.extensions B.comparisons _

-- a question is what the state says that it is: about a certificate, no list
pub state_asks : (Q : ℕ → ℕ → Type 0) (s : State) → OfCertificate Q (key_at s) (what_at s) → Q (key_at s) (cert_at s) × (what_at s ≡ of_certificate (cert_at s))
state_asks Q s = by (eqb s.list 0)
  where
    by : (b : Bool) → OfCertificate Q (key_at s) (cond b (of_certificate (cert_at s)) (of_list (s.list - 1))) → Q (key_at s) (cert_at s) × (cond b (of_certificate (cert_at s)) (of_list (s.list - 1)) ≡ of_certificate (cert_at s))
    by true q = (q, refl)
    by false q = absurd q

-- of every request: of each question no more than that it is about a certificate
plain : (key : ℕ) (path : Path) → Down (λ k n. Unit {0}) key path
unfolding Down
plain key [] = tt
plain key (n ∷ ns) = (tt, plain n ns)

pub asks_certificates : (R : Request) (B : Budgets) (said : List ℕ) → Questions (OfCertificate (λ key n. Unit {0})) (follow (decision R B) said)
asks_certificates R B = request_questions (OfCertificate (λ key n. Unit {0})) R B (search_asks (λ key n. Unit {0}) R B (λ k p m. plain k p))
