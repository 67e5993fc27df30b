-- The conditions on one certificate in its place, its key among them, and on a path, on the contents of the fields: RFC 5280, 6.1.3 (a). No reader is
-- named here.
use Rattle.std.specs.Prelude.{ℕ, ◌≡◌, Bool, length}
use mathlib.Core.List.{List, [], ◌∷◌, Memᴰ}
use Rattle.checks.specs.Conditions.{Contents, Role, end_entity, issuer, InValidity, InRole, ForPurpose}

-- ---- one certificate
abbrev pub Trusted : List (List ℕ) → List ℕ → Type 0
Trusted distrusted key = (k : List ℕ) → Memᴰ k distrusted → key ≡ k → ⊥

pub record Fit (distrusted : List (List ℕ)) (time : ℕ) (wanted : List ℕ) (demanded : Bool) (role : Role) (o : Contents) : Type 0 where
  pub trusted : Trusted distrusted o.key
  pub valid : InValidity o.validity time
  pub placed : InRole role o.basic_constraints
  pub purposed : ForPurpose wanted demanded o.ext_key_usage

-- ---- a path, the newest certificate first
-- the role of the newest
abbrev pub role_of : List ℕ → Role
role_of [] = end_entity
role_of (n ∷ []) = end_entity
role_of (n ∷ (m ∷ ns)) = issuer (length ns)

-- 6.1.3 (a) (4): the issuer of one is the subject of the next; byte for byte, not as 7.1 compares names (stricter, D29)
abbrev pub Chained : Contents → List ℕ → Type 0
Chained o subject = subject ≡ o.issuer

-- the same subject and the same key
abbrev pub Same : Contents → Contents → Type 0
Same o p = (o.subject ≡ p.subject) × (o.key ≡ p.key)
