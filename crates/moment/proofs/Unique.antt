-- UNIQUE: a moment has at most one encoding of each kind. Assumes nothing.
use Prim.Native.Nat.{ℕ}
use mathlib.Core.Path.{◌≡◌, sym, ap, ◌∙◌}
use mathlib.Core.List.{List}
use mathlib.Core.Logic.{◌⊎◌, inl, inr}
use lib.ListN.{get_or}
use native.Mathlib.Omega.{arith}
use Rattle.der.specs.Places.{part, Bytes}
use Rattle.der.specs.X690.{encoding}
use Rattle.der.proofs.Parts.{part_cons}
use Rattle.moment.specs.Calendar.{Date, Kind, utc, generalized, tag_of, text, IsTime}
use Rattle.moment.specs.Model.{time_at, time_is}
use Rattle.moment.proofs.Order.{one_date}
use Rattle.moment.proofs.Sound.{accepted_is_time, time_places, TimePlaces}

pub one_text : (kind : Kind) (b c : List ℕ) (n : ℕ) → IsTime kind b n → IsTime kind c n → b ≡ c
one_text kind b c n t u =
    t.encoded
    ∙ ap (λ (d : Date). encoding (tag_of kind) (text kind d)) (one_date t.date u.date t.real u.real t.since u.since (t.count ∙ sym u.count))
    ∙ sym u.encoded

first_byte : (kind : Kind) (s : List ℕ) (from to n next : ℕ) → TimePlaces s from to next → IsTime kind (part s from next) n → get_or s from 0 ≡ tag_of kind
unfolding encoding
first_byte kind s from to n next p t =
    cc (part_cons s from next p.after (omega (arith, p.after, p.inside, p.within)), t.encoded)

pub one_encoding : (s s' : List ℕ) → Bytes s → Bytes s' → (from to from' to' n next next' : ℕ)
    → time_at s from to ≡ time_is n next → time_at s' from' to' ≡ time_is n next' → get_or s from 0 ≡ get_or s' from' 0
    → part s from next ≡ part s' from' next'
unfolding tag_of
one_encoding s s' b b' from to from' to' n next next' e e' same =
    go (accepted_is_time s b from to n next e) (accepted_is_time s' b' from' to' n next' e')
  where
    p : TimePlaces s from to next
    p = time_places s from to n next e

    q : TimePlaces s' from' to' next'
    q = time_places s' from' to' n next' e'

    go : IsTime utc (part s from next) n ⊎ IsTime generalized (part s from next) n → IsTime utc (part s' from' next') n ⊎ IsTime generalized (part s' from' next') n
        → part s from next ≡ part s' from' next'
    go (inl t) (inl u) = one_text utc _ _ n t u
    go (inl t) (inr u) = absurd (omega (arith, first_byte utc s from to n next p t, first_byte generalized s' from' to' n next' q u))
    go (inr t) (inl u) = absurd (omega (arith, first_byte generalized s from to n next p t, first_byte utc s' from' to' n next' q u))
    go (inr t) (inr u) = one_text generalized _ _ n t u
