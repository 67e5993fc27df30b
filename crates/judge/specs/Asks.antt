-- The bytes of a question: what `pathjudge_question` tells at phase 1 cuts the signed part, the algorithm and the signature out of the certificate, and the
-- algorithm and the bits out of the key. RFC 5280, 4.1.1.1 to 4.1.1.3, 4.1.2.7, 6.1.3 (a) (1). No model and no search is named in `Asks`.
use Rattle.std.specs.Prelude.{ℕ, ◌≤◌, ◌<◌, ◌≡◌, List, [], true, cond, ltb, length, get_or}
use Rattle.der.specs.Places.{part}
use Rattle.cert.specs.Accepted.{Readable}
use Rattle.cert.specs.Rfc5280.{Skeleton, certificate, tbs_certificate, key_content}
use Rattle.asked.specs.Questions.{KeyOf, Opens}
use Rattle.told.specs.declared.Asked.{Asked}
use Rattle.dialogue.specs.Log.{Turn}
use Rattle.conditions.specs.Request.{Request, Budgets, end_of}
use Rattle.conditions.specs.Conditions.{Lends, bytes_of}
use Rattle.steps.specs.declared.Step.{Step}
use Rattle.judge.specs.Calls.{Calls, Tells}

-- two places in the bytes, in order
abbrev pub Lie : List ℕ → ℕ → ℕ → Type 0
Lie s start end = (start ≤ end) × (end ≤ length s)

module _ (R : Request) (q : Asked) where
  -- what holds the key: an anchor's key itself, or the certificate that it is of
  abbrev pub holder : List ℕ
  holder = cond (ltb q.key (length R.subjects)) (get_or R.keys q.key []) (bytes_of R q.key)

  -- the key can be read: its two parts
  pub record KeyTold : Type 0 where
    pub key : List ℕ
    pub is : KeyOf R.issuers R.end R.keys (length R.subjects) q.key key
    pub algorithm : List ℕ
    pub bits : List ℕ
    pub content : key ≡ key_content algorithm bits
    pub algorithm_is : part holder q.key_algorithm_start q.key_algorithm_end ≡ algorithm
    pub bits_is : part holder q.key_bits_start q.key_bits_end ≡ bits
    pub algorithm_in : Lie holder q.key_algorithm_start q.key_algorithm_end
    pub bits_in : Lie holder q.key_bits_start q.key_bits_end

  pub record Asks : Type 0 where
    -- it is about a certificate of the request, no anchor, which can be read
    pub what : (length R.subjects ≤ q.certificate) × (q.certificate ≤ end_of R)
    pub k : Skeleton
    pub bytes : bytes_of R q.certificate ≡ certificate k
    pub rules : Readable true k
    pub told : q.refusal ≡ 0
    pub signed_is : part (bytes_of R q.certificate) q.signed_start q.signed_end ≡ tbs_certificate k
    pub algorithm_is : part (bytes_of R q.certificate) q.algorithm_start q.algorithm_end ≡ k.algorithm
    pub signature_is : part (bytes_of R q.certificate) q.signature_start q.signature_end ≡ k.signature
    pub signed_in : Lie (bytes_of R q.certificate) q.signed_start q.signed_end
    pub algorithm_in : Lie (bytes_of R q.certificate) q.algorithm_start q.algorithm_end
    pub signature_in : Lie (bytes_of R q.certificate) q.signature_start q.signature_end
    -- and about a key of the request: an anchor's, or an intermediate's
    pub whose : q.key < end_of R
    pub key_told : q.key_refusal ≡ 0 → KeyTold
    -- or the key cannot be read, and then no answer is yes
    pub key_shut : (q.key_refusal ≡ 0 → ⊥) → Opens R.issuers R.end R.keys (length R.subjects) q.key → ⊥

-- ---- THEOREM
abbrev pub AsksType : Type 0
AsksType =
    (R : Request) → Lends R → (B : Budgets) (table : List (List ℕ)) (log : List Turn) (s : Step) → Calls R B table log s → s.phase ≡ 1
    → (q : Asked) → Tells R B table s q → Asks R q
