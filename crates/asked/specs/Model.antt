-- What a signature question is about and what an answer comes to, by what is known of each certificate: the same tests in the same order as the code. Each has an
-- abbreviation for the case that what is known is what is read of the bytes.
use Rattle.std.specs.Prelude.{ℕ, List, [], cond, length, get_or, ltb, eqb, Err, Ok, Result}
use Rattle.refusal.specs.Refusals.{bad_der, unsupported_signature_algorithm}
use Rattle.cert.specs.Model.{key_parts, Reading}
use Rattle.rows.specs.Model.{outlined, on_outline}
use Rattle.lent.specs.Lent.{certificate_of, readings_of}
use Rattle.cert.specs.declared.key.Key.{Key}
use Rattle.asked.specs.declared.Question.{Question}
use Rattle.der.specs.declared.Span.{Span}

-- what a question is about
abbrev pub question_is : Span → Span → Span → Result Key ℕ → Result Question ℕ
question_is signed algorithm signature key =
    Ok (record { signed = signed; algorithm = algorithm; signature = signature; key = key })

unfoldable pub key_in : (ℕ → Reading) → List (List ℕ) → List ℕ → List (List ℕ) → ℕ → ℕ → Result Key ℕ
key_in known issuers end keys anchors n =
    let s = certificate_of issuers end anchors n in
    cond (ltb n anchors)
    (cond (ltb n (length keys)) (key_parts (get_or keys n []) 0 (length (get_or keys n []))) (Err bad_der))
    (on_outline (outlined (known n)) Err (λ c. key_parts s c.key.start c.key.end))

abbrev pub key_of : List (List ℕ) → List ℕ → List (List ℕ) → ℕ → ℕ → Result Key ℕ
key_of issuers end keys anchors = key_in (readings_of issuers end anchors) issuers end keys anchors

unfoldable pub question_in : (ℕ → Reading) → List (List ℕ) → List ℕ → List (List ℕ) → ℕ → ℕ → ℕ → Result Question ℕ
question_in known issuers end keys anchors key n =
    on_outline (outlined (known n)) Err (λ c. question_is c.signed c.algorithm c.signature (key_in known issuers end keys anchors key))

abbrev pub question_of : List (List ℕ) → List ℕ → List (List ℕ) → ℕ → ℕ → ℕ → Result Question ℕ
question_of issuers end keys anchors = question_in (readings_of issuers end anchors) issuers end keys anchors

unfoldable pub reply_for : ℕ → Result Key ℕ → ℕ
reply_for answer (Ok v) = answer
reply_for answer (Err e) = e

unfoldable pub reply_in : (ℕ → Reading) → List (List ℕ) → List ℕ → List (List ℕ) → ℕ → ℕ → ℕ → ℕ
reply_in known issuers end keys anchors key answer =
    cond (eqb answer unsupported_signature_algorithm) answer (reply_for answer (key_in known issuers end keys anchors key))

abbrev pub reply_of : List (List ℕ) → List ℕ → List (List ℕ) → ℕ → ℕ → ℕ → ℕ
reply_of issuers end keys anchors = reply_in (readings_of issuers end anchors) issuers end keys anchors
