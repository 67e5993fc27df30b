-- What the code answers with no budget in mind, as functions of the bytes and of what is known of a certificate: the same tests in the same
-- order. One certificate has an abbreviation for the case that what is known is what is read of the bytes.
use Rattle.std.specs.Prelude.{ℕ, List, true, false, cond, length, get_or, ltb, leb, eqb, Ok, Err, Result}
use Rattle.refusal.specs.Refusals.{bad_der}
use Rattle.der.specs.Model.{expect_at, on_content}
use Rattle.der.specs.Places.{part}
use Rattle.der.specs.Loop.{walk}
use Rattle.cert.specs.declared.Certificate.{Certificate}
use Rattle.names.specs.Model.{general_name}
use Rattle.entries.specs.Kinds.{directory_name}
use Rattle.entries.specs.Tally.{Tally, tally, clean, after}
use Rattle.entries.specs.Model.{on_name, entries}
use Rattle.subtrees.specs.declared.Subtrees.{Subtrees}
use Rattle.subtrees.specs.Noted.{Noted, lent}
use Rattle.der.specs.declared.Span.{Span}
use Rattle.cert.specs.Model.{Reading}
use Rattle.names.specs.declared.general.Name.{Name}

-- ---- both lists
unfoldable pub list_at : List ℕ → ℕ → ℕ → ℕ → Result Span ℕ
list_at s from to tag =
    cond (ltb (length s) to)
    (Err bad_der)
    (cond (leb to from)
    (Ok (record { start = from; end = from }))
    (cond (eqb (get_or s from 0) tag)
    (expect_at s from to tag bad_der)
    (Ok (record { start = from; end = from }))))

unfoldable pub subtrees_at : List ℕ → ℕ → ℕ → Result Subtrees ℕ
subtrees_at s from to =
    on_content (list_at s from to 160) Err (λ a b.
    on_content (list_at s b to 161) Err (λ c d.
    Ok (record { permitted = record { start = a; end = b }; excluded = record { start = c; end = d } })))

unfoldable pub name : List ℕ → Subtrees → ℕ → List ℕ → Tally
name s lists kind p =
    after
    (entries s lists.permitted.start lists.permitted.end false kind p)
    (entries s lists.excluded.start lists.excluded.end true kind p)

-- ---- one certificate
unfoldable pub next_name : List ℕ → Subtrees → List ℕ → Result Name ℕ → (ℕ → Unit {0} → Tally) → Tally
next_name s lists t n k =
    on_name n (tally 0) (λ kind start end. after (name s lists kind (part t start end)) (k end tt))

unfoldable pub alternatives : List ℕ → Subtrees → List ℕ → ℕ → ℕ → Tally
alternatives s lists t from to =
    walk to (λ at u. clean) (λ at u. next_name s lists t (general_name t at to)) from tt

unfoldable pub on_read : {R : Type 0} → Reading → R → (Certificate → R) → R
on_read (Ok c) other k = k c
on_read (Err e) other k = other

-- none that cannot be read stands in a path: a search reads it first
abbrev pub unread : Tally
unread = tally 0 bad_der

unfoldable pub certificate_as : List ℕ → Subtrees → Noted → Tally
certificate_as s lists t =
    on_read t.reading unread (λ c.
    after
    (alternatives s lists t.bytes c.known.alternative_name.start c.known.alternative_name.end)
    (name s lists directory_name (part t.bytes c.subject.start c.subject.end)))

abbrev pub certificate : List ℕ → Subtrees → List ℕ → Tally
certificate s lists t = certificate_as s lists (lent t)
