-- The exported functions about one certificate by itself: which bytes they take for a certificate, and what they tell of it. RFC 5280, 4.1 and 4.2. The contracts, word for
-- word, are the hypotheses of the theorems; their conclusions name no model.
use Rattle.std.specs.Prelude.{ℕ, ◌≡◌, List, [], Bool, true, false, ◌↔◌}
use Rattle.der.specs.Places.{Bytes, part}
use Rattle.extensions.specs.Rfc5280.{sequence, listed}
use Rattle.cert.specs.Rfc5280.{Skeleton, certificate}
use Rattle.cert.specs.Model.{read_certificate, read_anchor}
use Rattle.checks.specs.Conditions.{absent, present}
use Rattle.checks.specs.Skeletons.{value_in}
use Rattle.told.specs.declared.Trusted.{Trusted}
use Rattle.told.specs.Model.{trusted_of}
use Rattle.conditions.specs.Request.{Request}
use Rattle.conditions.specs.Conditions.{Named}
use Rattle.conditions.specs.Model.{name_of}
use Rattle.judge.specs.Steps.{request_of, fault_of}
use Rattle.judge.specs.Asks.{Lie}
use Rattle.cert.specs.Accepted.{Readable}

-- the bytes are the encoding of a certificate that a reader takes. A reader that is not strict also takes critical extensions that are not known
pub record Encodes (strict : Bool) (s : List ℕ) (k : Skeleton) : Type 0 where
  pub bytes : s ≡ certificate k
  pub rules : Readable strict k

-- ---- `pathjudge_read`
abbrev pub ReadSays : List ℕ → ℕ → Type 0
ReadSays s r = r ≡ fault_of (read_certificate s true)

-- the answer is 0 exactly if the bytes are such a certificate
abbrev pub ReadType : Type 0
ReadType = (s : List ℕ) → Bytes s → (r : ℕ) → ReadSays s r → (r ≡ 0) ↔ ((k : Skeleton) × Encodes true s k)

-- ---- `pathjudge_anchor`
abbrev pub AnchorSays : List ℕ → Trusted → Type 0
AnchorSays s r = r ≡ trusted_of (read_anchor s)

-- the flag is 1 where the extension name constraints is there, and 0 where it is not. Its value is a SEQUENCE (4.2.1.10), and the places are those of its content
pub data ConstraintsTold (s : List ℕ) (k : Skeleton) (r : Trusted) : Type 0 where
  unbound : r.bound ≡ 0 → value_in 30 (listed k.extensions) ≡ absent → ConstraintsTold s k r
  bound : r.bound ≡ 1 → value_in 30 (listed k.extensions) ≡ present (sequence (part s r.constraints_start r.constraints_end)) → ConstraintsTold s k r

-- what is told of a certificate: places that cut the contents of its subject and of its key, 4.1.2.6 and 4.1.2.7, out of the bytes, and its name constraints
pub record AnchorTold (s : List ℕ) (k : Skeleton) (r : Trusted) : Type 0 where
  pub refusal_is : r.refusal ≡ 0
  pub subject_is : part s r.subject_start r.subject_end ≡ k.subject
  pub key_is : part s r.key_start r.key_end ≡ k.key
  pub constraints_is : ConstraintsTold s k r
  pub subject_in : Lie s r.subject_start r.subject_end
  pub key_in : Lie s r.key_start r.key_end
  pub constraints_in : Lie s r.constraints_start r.constraints_end

-- the refusal is 0 exactly if the bytes are such a certificate, and then this is told of it. A trusted certificate may have critical extensions that are not known
abbrev pub AnchorType : Type 0
AnchorType =
    (s : List ℕ) → Bytes s → (r : Trusted) → AnchorSays s r
    → (r.refusal ≡ 0 → (k : Skeleton) × Encodes false s k) × ((k : Skeleton) → Encodes false s k → AnchorTold s k r)

-- ---- `pathjudge_name`
abbrev pub NameSays : List ℕ → ℕ → List ℕ → ℕ → Type 0
NameSays end kind name r = r ≡ name_of end kind name

-- a request that has this end entity and this name, and nothing else
abbrev pub for_name : List ℕ → ℕ → List ℕ → Request
for_name end kind name = request_of [] end [] [] [] [] [] 0 [] 0 kind name

-- the answer is 0 exactly if the bytes are a certificate that is good for the name
abbrev pub NameType : Type 0
NameType = (end : List ℕ) → Bytes end → (kind : ℕ) (name : List ℕ) (r : ℕ) → NameSays end kind name r → (r ≡ 0) ↔ Named (for_name end kind name)
