-- ASKS: every question is about a certificate that can be read and a key of the request, and what is told of it cuts out what the standard says. Assumes nothing.
use Prim.Native.Nat.{ℕ, ◌≤◌, ◌<◌}
use mathlib.Core.Path.{◌≡◌, refl, ◌∙◌, ap}
use mathlib.Core.Bool.{true}
use mathlib.Core.List.{List, [], ◌∷◌}
use lib.ListN.{length}
use native.Mathlib.Omega.{arith}
use Rattle.der.specs.declared.Span.{Span}
use Rattle.asked.specs.Model.{key_of, question_of, question_in, reply_in, reply_for, question_is}
use Rattle.rows.specs.Model.{outlined, on_outline}
use Rattle.told.specs.declared.Asked.{Asked}
use Rattle.told.specs.Model.{keyed_of, asked_of}
use Rattle.asked.specs.Questions.{Signed, Opens}
use Rattle.extensions.proofs.Slots.{Within}
use Rattle.cert.proofs.Laws.{read_inside}
use Rattle.asked.proofs.Questions.{question_sound, KeyFair, key_not, key_fair, key_parted, reply_complete}
use Rattle.dialogue.proofs.Questions.{Questions}
use Rattle.conditions.proofs.Closed.{request_questions}
use Rattle.checks.proofs.Contents.{at}
use Rattle.conditions.proofs.Lent.{bytes}
use Rattle.judge.specs.Asks.{Lie, KeyTold, Asks, AsksType}
use Rattle.checks.proofs.Skeletons.{certificate_reads}
use Rattle.checks.specs.Conditions.{Contents}
use Rattle.checks.specs.Skeletons.{IsCertificate}
use Rattle.machine.specs.Machine.{key_at, cert_at}
use Rattle.dialogue.specs.Model.{accepted, refused, spent, Tree, done, ask, offer}
use Rattle.dialogue.specs.Dialogue.{follow}
use Rattle.dialogue.proofs.Events.{tried_grown}
use Rattle.conditions.specs.Request.{Request, Budgets, end_of}
use Rattle.conditions.specs.Model.{world_for, search_of, decision}
use Rattle.conditions.specs.Conditions.{Lends, bytes_of, Numbers, Readable}
use Rattle.conditions.proofs.Paths.{grown_read, anchor_below}
use Rattle.steps.specs.declared.Step.{Step}
use Rattle.steps.specs.Model.{state_of}
use Rattle.judge.specs.Steps.{Sees, At}
use Rattle.judge.proofs.Calls.{other_phase, calls_came}
use Rattle.judge.proofs.Questions.{OfCertificate, Down, search_asks, state_asks}
use Rattle.std.specs.Prelude.{Err, Ok, Result}
use Rattle.cert.specs.declared.key.Key.{Key}

-- ---- what a question of a search is about
pub record About (R : Request) (key what : ℕ) : Type 0 where
  pub whose : key < end_of R
  pub first : length R.subjects ≤ what
  pub last : what ≤ end_of R
  pub contents : Contents
  pub readable : IsCertificate (bytes_of R what) contents

seen : (R : Request) (r : Step) (f : Tree) → Questions (OfCertificate (About R)) f → Sees r f → r.phase ≡ 1 → About R (key_at (state_of r)) (cert_at (state_of r))
unfolding Questions
seen R r (ask k w t) q s h = (state_asks (About R) (state_of r) (rw (s.1, s.2) q.0)).0
seen R r (offer k p t) q s h = other_phase r 2 1 s.0 h (λ z. omega (arith, z))
seen R r (done (accepted k p)) q s h = other_phase r 3 1 s.0 h (λ z. omega (arith, z))
seen R r (done (refused x)) q s h = other_phase r 4 1 s.0 h (λ z. omega (arith, z))
seen R r (done (spent x)) q s h = other_phase r 5 1 s.0 h (λ z. omega (arith, z))

module _ (R : Request) (lends : Lends R) where
  down : (key : ℕ) (path : List ℕ) (os : List Contents) → key < end_of R → Numbers R path → Readable R path os → Down (About R) key path
  unfolding Numbers Readable Down
  down key [] os k n r = tt
  down key (m ∷ ns) [] k n r = absurd r
  down key (m ∷ []) (o ∷ os) k n r = (record { whose = k; first = omega (arith, n); last = omega (arith, n); contents = o; readable = r.0 }, tt)
  down key (m ∷ (i ∷ ns)) (o ∷ os) k n r = (record { whose = k; first = n.0; last = omega (arith, n.1); contents = o; readable = r.0 }, down m (i ∷ ns) os n.1 n.2 r.1)

  search_questions : (B : Budgets) → Questions (OfCertificate (About R)) (search_of R B)
  search_questions B =
      search_asks (About R) R B
      (λ k p m.
      let t = tried_grown (world_for R) (end_of R) k p m in
      let g = grown_read R lends p t.grown in
      let a = anchor_below R lends p k t.anchored in
      down k p g.1.0 (omega (arith, a)) g.0 g.1.1)

  -- at phase 1
  about : (B : Budgets) (said : List ℕ) (r : Step) → At R (follow (decision R B) said) r → r.phase ≡ 1 → About R (key_at (state_of r)) (cert_at (state_of r))
  about B said r at h = seen R r (follow (decision R B) said) (request_questions (OfCertificate (About R)) R B (search_questions B) said) at.sees h

-- ---- the places that are told
pub within : (s : List ℕ) (a b : ℕ) → Within s a b → Lie s a b
within s a b w = (w.ordered, w.inside)

module _ (R : Request) (lends : Lends R) (key what : ℕ) (x : About R key what) where
  abbrev key_here : Result Key ℕ
  key_here = key_of R.issuers R.end R.keys (length R.subjects) key

  record Told : Type 0 where
    signed : Span
    algorithm : Span
    signature : Span
    is : question_of R.issuers R.end R.keys (length R.subjects) key what ≡ question_is signed algorithm signature key_here
    signed_in : Lie (bytes_of R what) signed.start signed.end
    algorithm_in : Lie (bytes_of R what) algorithm.start algorithm.end
    signature_in : Lie (bytes_of R what) signature.start signature.end

  told : Told
  unfolding question_in on_outline outlined
  told =
      let r = certificate_reads (bytes_of R what) x.contents x.readable in
      let i = read_inside (bytes_of R what) (bytes R lends what) true r.0 r.1 in
      record {
        signed = r.0.signed;
        algorithm = r.0.algorithm;
        signature = r.0.signature;
        is = rw r.1;
        signed_in = within _ _ _ i.signed;
        algorithm_in = within _ _ _ i.algorithm;
        signature_in = within _ _ _ i.signature;
      }

  shut : (e : ℕ) → key_here ≡ Err e → (e ≡ 0 → ⊥) → Opens R.issuers R.end R.keys (length R.subjects) key → ⊥
  unfolding reply_in reply_for
  shut e k n o =
      let z = reply_complete R.issuers R.end R.keys (length R.subjects) key (bytes R lends key) o in
      n (rw k at z)

  -- what is told of the key does not change what is told of the certificate
  abbrev KeySaid : Asked → Type 0
  KeySaid q = (q.key_refusal ≡ 0 → KeyTold R q) × ((q.key_refusal ≡ 0 → ⊥) → Opens R.issuers R.end R.keys (length R.subjects) q.key → ⊥)

  abbrev asking : Result Key ℕ → Asked
  asking k = asked_of key what (question_is told.signed told.algorithm told.signature k)

  key_said : (k : Result Key ℕ) → key_here ≡ k → KeyFair k → KeySaid (asking k)
  unfolding asked_of keyed_of
  key_said (Ok v) e f =
      let d = key_parted R.issuers R.end R.keys (length R.subjects) key (lends.keys key) (bytes R lends key) v.algorithm v.bits e in
      (λ h. record { key = d.key; is = d.is; algorithm = _; bits = _; content = d.content; algorithm_is = refl; bits_is = refl; algorithm_in = within _ _ _ d.algorithm_within; bits_in = within _ _ _ d.bits_within }, λ h o. h refl)
  key_said (Err n) e (key_not f) = (λ h. absurd (omega (arith, f.0, h)), λ h. shut n e h)

  asks_of : (k : Result Key ℕ) → KeySaid (asking k) → Asks R (asking k)
  unfolding asked_of keyed_of
  asks_of k s = by k s
    where
      z : Signed (bytes_of R what) told.signed told.algorithm told.signature
      z = (question_sound R.issuers R.end R.keys (length R.subjects) key what (bytes R lends what) told.signed told.algorithm told.signature key_here told.is).0

      by : (k : Result Key ℕ) → KeySaid (asking k) → Asks R (asking k)
      by (Ok v) s =
          record {
            what = (x.first, x.last);
            k = z.k;
            bytes = z.bytes;
            rules = z.rules;
            told = refl;
            signed_is = z.signed_is;
            algorithm_is = z.algorithm_is;
            signature_is = z.signature_is;
            signed_in = told.signed_in;
            algorithm_in = told.algorithm_in;
            signature_in = told.signature_in;
            whose = x.whose;
            key_told = s.0;
            key_shut = s.1;
          }
      by (Err n) s =
          record {
            what = (x.first, x.last);
            k = z.k;
            bytes = z.bytes;
            rules = z.rules;
            told = refl;
            signed_is = z.signed_is;
            algorithm_is = z.algorithm_is;
            signature_is = z.signature_is;
            signed_in = told.signed_in;
            algorithm_in = told.algorithm_in;
            signature_in = told.signature_in;
            whose = x.whose;
            key_told = s.0;
            key_shut = s.1;
          }

-- THEOREM
pub asks : AsksType
asks R lends B table log s c h q t =
    let i = calls_came R B table log s c in
    let x = about R lends B i.said s i.at h in
    let key = key_at (state_of s) in
    let what = cert_at (state_of s) in
    let e = t i.held ∙ ap (asked_of key what) (told R lends key what x).is in
    rw e (asks_of R lends key what x _ (key_said R lends key what x _ refl (key_fair R.issuers R.end R.keys (length R.subjects) key)))
