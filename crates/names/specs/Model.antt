-- What the code answers, as functions of the bytes: the same tests in the same order.
use Rattle.std.specs.Prelude.{ℕ, List, Bool, false, cond, eqb, Ok, Err, None, Some, Result, ⊤, Option}
use Rattle.refusal.specs.Refusals.{bad_der, cert_not_valid_for_name, malformed_dns_identifier}
use Rattle.der.specs.Model.{read_value}
use Rattle.der.specs.Places.{part}
use Rattle.der.specs.Loop.{walk}
use Rattle.labels.specs.Model.{valid_wanted}
use Rattle.dns.specs.Model.{match_wanted}
use Rattle.ip.specs.Model.{same_address}
use Rattle.names.specs.General.{dns_name, ip_address, among, choices}
use Rattle.names.specs.declared.general.Tried.TheVariants.{Good, Next}
use Rattle.names.specs.declared.general.Name.{Name}
use Rattle.names.specs.declared.general.Tried.{Tried}
use Rattle.der.specs.declared.Value.{Value}

-- a general name: its kind, and the places of its content
abbrev pub name_is : ℕ → ℕ → ℕ → Result Name ℕ
name_is kind start end = Ok (record { kind = kind; start = start; end = end })

unfoldable pub is_kind : ℕ → Bool
is_kind t = among t choices

unfoldable pub of_kind : Option Value → Result Name ℕ
of_kind (Some v) = cond (is_kind v.tag) (name_is v.tag v.start v.end) (Err bad_der)
of_kind None = Err bad_der

unfoldable pub general_name : List ℕ → ℕ → ℕ → Result Name ℕ
general_name s from to = of_kind (read_value s from to)

unfoldable pub is_yes : Result Bool ℕ → Bool
is_yes (Ok b) = b
is_yes (Err e) = false

-- whether a content of a kind is good for what is looked for, of the kind `sought`
unfoldable pub fits : ℕ → List ℕ → ℕ → List ℕ → Bool
fits kind content sought wanted =
    cond (eqb kind sought)
    (cond (eqb kind dns_name) (is_yes (match_wanted content wanted)) (same_address content wanted))
    false

unfoldable pub is_wanted : List ℕ → ℕ → ℕ → ℕ → ℕ → List ℕ → Bool
is_wanted s kind start end sought wanted = fits kind (part s start end) sought wanted

unfoldable pub on_found : List ℕ → ℕ → List ℕ → Result Name ℕ → Result Tried ℕ
on_found s sought wanted (Ok v) = cond (is_wanted s v.kind v.start v.end sought wanted) (Ok Good) (Ok (Next v.end))
on_found s sought wanted (Err e) = Err e

unfoldable pub try_name : List ℕ → ℕ → ℕ → ℕ → List ℕ → Result Tried ℕ
try_name s at to sought wanted = on_found s sought wanted (general_name s at to)

unfoldable pub on_tried : Result Tried ℕ → (ℕ → Unit {0} → Result ⊤ ℕ) → Result ⊤ ℕ
on_tried (Ok Good) go = Ok tt
on_tried (Ok (Next at)) go = go at tt
on_tried (Err e) go = Err e

unfoldable pub good_for : List ℕ → ℕ → ℕ → ℕ → List ℕ → Result ⊤ ℕ
good_for s from to sought wanted =
    walk to (λ at u. Err cert_not_valid_for_name) (λ at u. on_tried (try_name s at to sought wanted)) from tt

unfoldable pub good_for_dns : List ℕ → ℕ → ℕ → List ℕ → Result ⊤ ℕ
good_for_dns s from to wanted =
    cond (valid_wanted wanted) (good_for s from to dns_name wanted) (Err malformed_dns_identifier)

unfoldable pub good_for_ip : List ℕ → ℕ → ℕ → List ℕ → Result ⊤ ℕ
good_for_ip s from to wanted = good_for s from to ip_address wanted
