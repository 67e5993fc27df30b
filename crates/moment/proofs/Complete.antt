-- COMPLETE: the encoding of a time is accepted, with its moment. Assumes nothing.
use Prim.Native.Nat.{ℕ, ◌+◌, ◌-◌, ◌≤◌, ◌<◌}
use mathlib.Core.Path.{◌≡◌, refl, sym, ap, ◌∙◌}
use mathlib.Core.List.{List}
use mathlib.Core.Bool.{false}
use lib.ListN.{length}
use lib.Dec.{lit<}
use native.Mathlib.Omega.{arith}
use borrow.Author.Tests.{le-ltb}
use Rattle.der.specs.Places.{part}
use Rattle.der.specs.Model.{high_tag}
use Rattle.der.proofs.Parts.{part_length}
use Rattle.moment.specs.Calendar.{Date, seconds_to, Kind, utc, generalized, tag_of, text, IsTime}
use Rattle.moment.specs.Model.{time_at, time_is}
use Rattle.moment.proofs.Contents.{encoded_at}
use Rattle.moment.proofs.Fronts.{size, text_length, Front, fate, goes_on}
use Rattle.moment.proofs.Values.{value_answers}

low_tag : (kind : Kind) → high_tag (tag_of kind) ≡ false
unfolding high_tag tag_of
low_tag utc = refl
low_tag generalized = refl

short_text : (kind : Kind) → size kind < 65535
unfolding size
short_text utc = lit< tt
short_text generalized = lit< tt

nothing_after : (d : Date) (at end : ℕ) → end ≤ at → fate d at end ≡ time_is (seconds_to d) end
unfolding fate
nothing_after d at end h = rw (le-ltb at end h)

pub time_is_accepted : (kind : Kind) (s : List ℕ) (from to n next : ℕ) → next ≤ to → to ≤ length s → IsTime kind (part s from next) n → time_at s from to ≡ time_is n next
time_is_accepted kind s from to n next h l t =
    let d = t.date in
    let long = text_length kind d in
    let e = encoded_at s from to next (tag_of kind) (text kind d) (low_tag kind) (omega (arith, short_text kind)) h l t.encoded in
    let start = e.start in
    let whole : next - start ≡ size kind = sym (part_length s start next (omega arith)) ∙ ap length e.content_is ∙ long in
    let ordered = e.ordered in
    let end : next ≡ start + size kind = omega arith in
    let f : Front kind s start next =
    record { date = d; real = t.real; since = t.since; writes = t.writes; room = omega arith; said = ap (part s start) (sym end) ∙ e.content_is } in
    value_answers kind s from to start next e.found
    ∙ goes_on kind s start next (omega arith) f
    ∙ nothing_after d (start + size kind) next (omega arith)
    ∙ ap (λ m. time_is m next) t.count
