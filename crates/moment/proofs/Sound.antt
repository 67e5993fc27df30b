-- SOUND: what is accepted is the encoding of a time, with its moment. Assumes nothing.
use Prim.Native.Nat.{ℕ, ◌+◌, ◌≤◌, ◌<◌}
use mathlib.Core.Path.{◌≡◌, sym, ap, ◌∙◌}
use mathlib.Core.List.{List}
use mathlib.Core.Logic.{◌⊎◌, inl, inr, ⊎_elim}
use lib.ListN.{length}
use lib.Dec.{ltb}
use native.Mathlib.Omega.{arith}
use borrow.Author.Tests.{ltb-false}
use Rattle.der.specs.Places.{part, Bytes}
use Rattle.der.specs.X690.{encoding}
use Rattle.der.proofs.Invert.{peel, ok_pair_parts}
use Rattle.der.proofs.Theorems.{accepted_is_encoded, value_places}
use Rattle.moment.specs.Calendar.{seconds_to, Kind, utc, generalized, tag_of, IsTime}
use Rattle.moment.specs.Model.{time_at, time_is}
use Rattle.moment.proofs.Fronts.{size, Front, fate, fronted}
use Rattle.moment.proofs.Values.{From, from_value}
use Rattle.std.specs.Prelude.{Err}

refused_at : {e n next : ℕ} → Err e ≡ time_is n next → ⊥
refused_at e = let z : ◌≡◌ {A = ℕ} 0 1 = cc in omega arith

from_accepted : (s : List ℕ) (from to n next : ℕ) → time_at s from to ≡ time_is n next → From utc s from to (time_is n next) ⊎ From generalized s from to (time_is n next)
from_accepted s from to n next e = from_value (time_is n next) refused_at s from to e

-- where an accepted time lies: what callers go by
pub record TimePlaces (s : List ℕ) (from to next : ℕ) : Type 0 where
  pub within : to ≤ length s
  pub after : from < next
  pub inside : next ≤ to

-- an accepted content is a text, with nothing after it
record Accepted (kind : Kind) (s : List ℕ) (from to start end n next : ℕ) : Type 0 where
  pub front : Front kind s start end
  pub whole : end ≡ start + size kind
  pub count : seconds_to front.date ≡ n
  pub end_is : next ≡ end
  pub places : TimePlaces s from to next

accepted : (kind : Kind) (s : List ℕ) (from to n next : ℕ) (v : From kind s from to (time_is n next)) → Accepted kind s from to v.start v.end n next
unfolding fate
accepted kind s from to n next v =
    let p = value_places s from to (tag_of kind) v.start v.end v.found in
    let f = fronted (time_is n next) refused_at kind s v.start v.end (omega arith) v.answer in
    let q = peel (ltb (v.start + size kind) v.end) f.fate_is refused_at in
    let used_up : v.end ≤ v.start + size kind = ltb-false _ _ q.0 in
    let room = f.front.room in
    let same = ok_pair_parts q.1 in
    let end_is : next ≡ v.end = sym same.1 in
    record {
      front = f.front;
      whole = omega arith;
      count = same.0;
      end_is = end_is;
      places = record { within = p.within; after = omega arith; inside = omega arith };
    }

pub time_places : (s : List ℕ) (from to n next : ℕ) → time_at s from to ≡ time_is n next → TimePlaces s from to next
time_places s from to n next e =
    ⊎_elim (λ v. (accepted utc s from to n next v).places) (λ v. (accepted generalized s from to n next v).places) (from_accepted s from to n next e)

is_time : (kind : Kind) (s : List ℕ) → Bytes s → (from to n next : ℕ) → From kind s from to (time_is n next) → IsTime kind (part s from next) n
is_time kind s b from to n next v =
    let a = accepted kind s from to n next v in
    let f = a.front in
    record {
      date = f.date;
      real = f.real;
      since = f.since;
      writes = f.writes;
      encoded =
          ap (part s from) a.end_is
          ∙ accepted_is_encoded s b from to (tag_of kind) v.start v.end v.found
          ∙ ap (encoding (tag_of kind)) (ap (part s v.start) a.whole ∙ f.said);
      count = a.count;
    }

pub accepted_is_time : (s : List ℕ) → Bytes s → (from to n next : ℕ) → time_at s from to ≡ time_is n next → IsTime utc (part s from next) n ⊎ IsTime generalized (part s from next) n
accepted_is_time s b from to n next e =
    ⊎_elim (λ v. inl (is_time utc s b from to n next v)) (λ v. inr (is_time generalized s b from to n next v)) (from_accepted s from to n next e)
