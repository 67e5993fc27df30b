-- ONE MEANING, ONE ENCODING: what a certificate says is written in one way by DER. Assumes nothing.
use mathlib.Core.Path.{◌≡◌, ap}
use Rattle.extensions.proofs.Meaning.{extensions_one, has_der}
use Rattle.cert.specs.Rfc5280.{Skeleton, certificate}
use Rattle.cert.specs.Meaning.{Meaning, meaning, Der}
use Rattle.cert.proofs.Unique.{same_skeleton}

-- two skeletons of DER that say the same are one
pub one_meaning : (k k' : Skeleton) → Der k → Der k' → meaning k ≡ meaning k' → k ≡ k'
unfolding meaning
one_meaning k k' d d' e =
    same_skeleton
    (ap (λ (m : Meaning). m.serial) e)
    (ap (λ (m : Meaning). m.algorithm) e)
    (ap (λ (m : Meaning). m.issuer) e)
    (ap (λ (m : Meaning). m.validity) e)
    (ap (λ (m : Meaning). m.subject) e)
    (ap (λ (m : Meaning). m.key) e)
    (extensions_one k.extensions k'.extensions d d' (ap (λ (m : Meaning). m.extensions) e))
    (ap (λ (m : Meaning). m.signature) e)

-- hence their encodings are the same bytes
pub one_encoding : (k k' : Skeleton) → Der k → Der k' → meaning k ≡ meaning k' → certificate k ≡ certificate k'
one_encoding k k' d d' e = ap certificate (one_meaning k k' d d' e)

-- and whatever a skeleton says, there is one of DER that says it
pub some_encoding : (k : Skeleton) → (k' : Skeleton) × Der k' × (meaning k' ≡ meaning k)
unfolding meaning
some_encoding k =
    let x = has_der k.extensions in (
      record {
        serial = k.serial;
        algorithm = k.algorithm;
        issuer = k.issuer;
        validity = k.validity;
        subject = k.subject;
        key = k.key;
        extensions = x.0;
        signature = k.signature;
      },
      x.1,
      rw x.2,
    )
