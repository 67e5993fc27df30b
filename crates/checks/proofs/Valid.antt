-- The check of a validity finds nothing exactly if it includes the time. Assumes nothing.
use Prim.Native.Nat.{ℕ, ◌+◌, ◌≤◌}
use mathlib.Core.Path.{◌≡◌, refl}
use mathlib.Core.List.{List}
use mathlib.Core.Logic.{⊎_elim}
use lib.ListN.{length}
use lib.Dec.{ltb, eqb}
use native.Mathlib.Omega.{arith}
use borrow.Author.Tests.{ltb-false, eqb-true}
use Rattle.der.specs.Places.{Bytes, part}
use Rattle.der.proofs.Laws.{tests}
use Rattle.der.proofs.Invert.{peel, either}
use Rattle.der.proofs.Parts.{part_split, part_front}
use Rattle.moment.specs.Calendar.{utc, generalized}
use Rattle.moment.specs.Model.{time_at, time_is}
use Rattle.moment.proofs.Sound.{time_places, accepted_is_time}
use Rattle.moment.proofs.Complete.{time_is_accepted}
use Rattle.checks.specs.Conditions.{IsMoment, InValidity}
use Rattle.checks.specs.Model.{in_time, on_time, itself, valid_at}
use Rattle.checks.proofs.Refusals.{TimeFair, time_said, time_not, time_fair}
use Rattle.std.specs.Prelude.{Err, Ok, Result}

record Within (start last time next to : ℕ) : Type 0 where
  pub begun : start ≤ time
  pub lasting : time ≤ last
  pub all : next ≡ to

within : (start last time next to : ℕ) → in_time start last time next to ≡ 0 → Within start last time next to
unfolding in_time
within start last time next to e =
    let p = peel (ltb last start) e (λ q. omega arith) in
    let q = peel (ltb time start) p.1 (λ q. omega arith) in
    let r = peel (ltb last time) q.1 (λ q. omega arith) in
    record {
      begun = ltb-false _ _ q.0;
      lasting = ltb-false _ _ r.0;
      all = ⊎_elim (λ w. eqb-true _ _ w.0) (λ w. absurd (let z = w.1 in omega arith)) (either (eqb next to) r.1);
    }

-- a time that was gone on from
timed : (g : Result (ℕ × ℕ) ℕ) (k : ℕ → ℕ → ℕ) → TimeFair g → on_time g itself k ≡ 0 → (n : ℕ) × (next : ℕ) × (g ≡ time_is n next) × (k n next ≡ 0)
unfolding on_time
timed (Ok v) k (time_said a b) e = (v.0, v.1, refl, e)
timed (Err x) k (time_not f) e = absurd (omega arith)

pub valid_sound : (s : List ℕ) → Bytes s → (from to time : ℕ) → valid_at s from to time ≡ 0 → InValidity (part s from to) time
unfolding valid_at
valid_sound s b from to time e =
    let p = timed (time_at s from to) _ (time_fair s from to) e in
    let q = timed (time_at s p.1 to) _ (time_fair s p.1 to) p.3 in
    let w = within p.0 q.0 time q.1 to q.3 in
    let m = time_places s from to p.0 p.1 p.2 in
    let f = accepted_is_time s b p.1 to q.0 q.1 q.2 in
    record {
      first = part s from p.1;
      second = part s p.1 to;
      whole = part_split s from p.1 to (omega (arith, m.after)) m.inside;
      not_before = p.0;
      not_after = q.0;
      begins = accepted_is_time s b from to p.0 p.1 p.2;
      ends = rw w.all at f;
      begun = w.begun;
      lasting = w.lasting;
    }

found : (s : List ℕ) (from to n next : ℕ) → next ≤ to → to ≤ length s → IsMoment (part s from next) n → time_at s from to ≡ time_is n next
found s from to n next h l m =
    ⊎_elim (time_is_accepted utc s from to n next h l) (time_is_accepted generalized s from to n next h l) m

pub valid_complete : (s : List ℕ) (from to time : ℕ) → from ≤ to → to ≤ length s → InValidity (part s from to) time → valid_at s from to time ≡ 0
unfolding valid_at on_time in_time
valid_complete s from to time h l v =
    let f = part_front s from to v.first v.second h l v.whole in
    let middle = from + length v.first in
    let a : time_at s from to ≡ time_is v.not_before middle = found s from to v.not_before middle f.0 l (rw f.1 v.begins) in
    let c : time_at s middle to ≡ time_is v.not_after to = found s middle to v.not_after to (omega arith) l (rw f.2 v.ends) in
    let lo : v.not_before ≤ time = v.begun in
    let hi : time ≤ v.not_after = v.lasting in
    let lohi : v.not_before ≤ v.not_after = omega arith in
    let same : to ≡ to = refl in
    search (tests, a, c)
