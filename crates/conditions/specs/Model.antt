-- The dialogue that a request is: the end entity is read, a path is searched, and the end entity must be good for the name.
use Rattle.std.specs.Prelude.{ℕ, true, cond, List, eqb, Ok, Err, Result, ⊤}
use Rattle.refusal.specs.Refusals.{cert_not_valid_for_name}
use Rattle.cert.specs.declared.Certificate.{Certificate}
use Rattle.cert.specs.Model.{read_certificate}
use Rattle.names.specs.Model.{good_for_dns, good_for_ip}
use Rattle.path.specs.Model.{on_reading}
use Rattle.dialogue.specs.Model.{World, Outcome, accepted, refused, spent, Tree, done, ask, offer, unless, search}
use Rattle.machine.specs.World.{world_of}
use Rattle.conditions.specs.Request.{Request, Budgets, end_of}

-- ---- the name: a refusal or none
unfoldable pub refusal_in : Result ⊤ ℕ → ℕ
refusal_in (Ok tt) = 0
refusal_in (Err e) = e

-- no certificate is good for a name of an unknown kind
unfoldable pub name_in : List ℕ → ℕ → List ℕ → Certificate → ℕ
name_in end kind name c =
    let from = c.known.alternative_name.start in
    let to = c.known.alternative_name.end in
    cond (eqb kind 0)
    0
    (cond (eqb kind 1)
    (refusal_in (good_for_dns end from to name))
    (cond (eqb kind 2) (refusal_in (good_for_ip end from to name)) cert_not_valid_for_name))

unfoldable pub name_of : List ℕ → ℕ → List ℕ → ℕ
name_of end kind name = on_reading (read_certificate end true) (λ e. e) (name_in end kind name)

-- ---- a path is accepted only for a good name
unfoldable pub named : ℕ → Outcome → Outcome
named e (accepted anchor path) = unless e (accepted anchor path) refused
named e (refused x) = refused x
named e (spent x) = spent x

unfoldable pub closed : ℕ → Tree → Tree
closed e (done r) = done (named e r)
closed e (ask key what t) = ask key what (λ a. closed e (t a))
closed e (offer anchor path t) = offer anchor path (λ a. closed e (t a))

-- ---- the request
abbrev pub world_for : Request → World
world_for R =
    world_of R.issuers R.end R.subjects R.keys R.constraints R.bound R.distrusted R.time R.purpose R.demanded

abbrev pub search_of : Request → Budgets → Tree
search_of R B = search (world_for R) (end_of R) B.signatures B.extensions B.comparisons

unfoldable pub decision : Request → Budgets → Tree
decision R B =
    on_reading (read_certificate R.end true) (λ e. done (refused e)) (λ c. closed (name_of R.end R.kind R.name) (search_of R B))
