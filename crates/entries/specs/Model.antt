-- What the code answers of one list with no budget in mind, as functions of the bytes: the same tests in the same order.
use Rattle.std.specs.Prelude.{ℕ, List, Bool, true, false, cond, eqb, Ok, Err, Result}
use Rattle.refusal.specs.Refusals.{bad_der, trailing_general_name, name_constraint_violation}
use Rattle.der.specs.Model.{expect_at, on_content}
use Rattle.der.specs.Places.{part}
use Rattle.der.specs.Loop.{walk}
use Rattle.names.specs.General.{dns_name, ip_address}
use Rattle.dns.specs.Model.{match_permitted, match_excluded}
use Rattle.names.specs.Model.{general_name, name_is}
use Rattle.ip.specs.Model.{match_subnet}
use Rattle.entries.specs.declared.Seen.{Seen}
use Rattle.entries.specs.Kinds.{directory_name}
use Rattle.entries.specs.Tally.{Tally, tally, after}
use Rattle.names.specs.declared.general.Name.{Name}

-- the place of the next entry, and what was seen so far
abbrev pub next_is : ℕ → Seen → Result (ℕ × Seen) ℕ
next_is at seen = Ok (at, seen)

unfoldable pub on_name : {R : Type 0} → Result Name ℕ → (ℕ → R) → (ℕ → ℕ → ℕ → R) → R
on_name (Ok v) other k = k v.kind v.start v.end
on_name (Err e) other k = other e

-- ---- one entry against one name
unfoldable pub base_at : List ℕ → ℕ → ℕ → Result Name ℕ
base_at s at to =
    on_content (expect_at s at to 48 bad_der) Err (λ a b.
    on_name (general_name s a b) Err (λ kind start end.
    cond (eqb end b) (name_is kind start end) (Err trailing_general_name)))

abbrev uniform_resource_identifier : ℕ
uniform_resource_identifier = 134

unfoldable pub compared : Bool → ℕ → List ℕ → List ℕ → Result Bool ℕ
compared excluded kind p q =
    cond (eqb kind dns_name)
    (cond excluded (match_excluded p q) (match_permitted p q))
    (cond (eqb kind ip_address)
    (match_subnet p q)
    (cond (eqb kind directory_name)
    (cond excluded (Ok true) (Ok false))
    (cond (eqb kind uniform_resource_identifier) (cond excluded (Ok true) (Ok false)) (Err name_constraint_violation))))

unfoldable pub settled : Bool → Seen → ℕ → Result Bool ℕ → Result (ℕ × Seen) ℕ
settled excluded seen next (Ok true) =
    cond excluded (Err name_constraint_violation) (next_is next (record { hit = true; miss = seen.miss }))
settled excluded seen next (Ok false) = cond excluded (next_is next seen) (next_is next (record { hit = seen.hit; miss = true }))
settled excluded seen next (Err e) = Err e

unfoldable pub on_base : {R : Type 0} → Result Name ℕ → (ℕ → R) → (ℕ → ℕ → ℕ → R) → R
on_base (Ok v) other k = k v.kind v.start v.end
on_base (Err e) other k = other e

unfoldable pub judged : List ℕ → ℕ → Bool → ℕ → List ℕ → ℕ → Seen → Result (ℕ × Seen) ℕ
judged s to excluded kind p at seen =
    on_base (base_at s at to) Err (λ base start end.
    cond (eqb base kind)
    (settled excluded seen end (compared excluded kind p (part s start end)))
    (next_is end seen))

-- ---- a list of entries against one name
abbrev pub unseen : Seen
unseen = record { hit = false; miss = false }

unfoldable pub closed : Seen → ℕ
closed seen = cond seen.hit 0 (cond seen.miss name_constraint_violation 0)

unfoldable pub ended : ℕ → Seen → Tally
ended at seen = tally 0 (closed seen)

unfoldable pub go_on : Result (ℕ × Seen) ℕ → (ℕ → Seen → Tally) → Tally
go_on (Ok v) k = after (tally 1 0) (k v.0 v.1)
go_on (Err e) k = tally 1 e

unfoldable pub entries : List ℕ → ℕ → ℕ → Bool → ℕ → List ℕ → Tally
entries s from to excluded kind p = walk to ended (λ at seen. go_on (judged s to excluded kind p at seen)) from unseen
