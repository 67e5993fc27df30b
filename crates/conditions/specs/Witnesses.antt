-- What a witness is that RFC 5280, 6.1, refuses what is accepted here. No reader, no model and no search is named here.
use Rattle.std.specs.Prelude.{ℕ, ◌≡◌, List, [], ◌∷◌, ◌++◌, map}
use Rattle.der.specs.X690.{encoding, Natural}
use Rattle.extensions.specs.Rfc5280.{sequence, listed}
use Rattle.checks.specs.Conditions.{Optional, absent, present, Contents}
use Rattle.checks.specs.Skeletons.{value_in}
use Rattle.names.specs.General.{General, Named, Each}
use Rattle.subtrees.specs.Rfc5280Names.{subtrees}
use Rattle.conditions.specs.Request.{Request}
use Rattle.conditions.specs.Conditions.{bytes_of}
use Rattle.conditions.specs.Exactly.{ExactlyMet}
use Rattle.conditions.specs.Meets.{Stands}
use Rattle.conditions.specs.Rfc5280Path.{Certificate, World, Inputs, Validates}
use Rattle.dialogue.specs.Log.{What}

-- a path from anchor 0 stands for a caller who says yes to every question; there are worlds of this kind, and in none of them does 6.1 validate certificates with the
-- bytes of this path
pub record Weaker (R : Request) (path : List ℕ) (Kind : World → Type 0) : Type 1 where
  pub world : World
  pub has_kind : Kind world
  pub stands : (Yes : ℕ → What → Type 0) → ((key : ℕ) (what : What) → Yes key what) → Stands R Yes 0 path
  pub fails : (W : World) → Kind W → (I : Inputs) (cs : List Certificate) → map (λ (c : Certificate). c.bytes) cs ≡ map (bytes_of R) path → Validates W I cs → ⊥

-- ---- policies: what follows from 6.1.3 (e) and (f) and 6.1.4 (i) (1), whatever else is meant
-- 4.2.1.11: PolicyConstraints ::= SEQUENCE { requireExplicitPolicy [0] SkipCerts OPTIONAL, .. } with a SkipCerts, which is an INTEGER, of 0
abbrev pub AtOnce : Optional → Type 0
AtOnce absent = ⊥
AtOnce (present value) = (content : List ℕ) × (rest : List ℕ) × Natural 0 content × (value ≡ sequence (encoding 128 content ++ rest))

-- where an issuer says so, the certificate below it has the extension certificate policies: without it the policy tree is NULL (e), and it must not be (f)
unfoldable pub ExplicitPolicy : List Certificate → Type 0
ExplicitPolicy [] = Unit {0}
ExplicitPolicy (c ∷ []) = Unit {0}
ExplicitPolicy (c ∷ (d ∷ ds)) =
    (AtOnce (value_in 36 (listed c.skeleton.extensions)) → value_in 32 (listed d.skeleton.extensions) ≡ absent → ⊥) × ExplicitPolicy (d ∷ ds)

-- ---- 4.2.1.10: GeneralSubtrees ::= SEQUENCE SIZE (1..MAX) OF GeneralSubtree: a list that is there has an entry; and one list or more is there
pub data Filled (tag : ℕ) (ns : List General) (bytes : List ℕ) : Type 0 where
  left_out : ns ≡ [] → bytes ≡ [] → Filled tag ns bytes
  there : (ns ≡ [] → ⊥) → bytes ≡ encoding tag (subtrees ns) → Filled tag ns bytes

pub record Sized (content : List ℕ) (permitted excluded : List General) : Type 0 where
  pub first : List ℕ
  pub second : List ℕ
  pub is : content ≡ first ++ second
  pub permitted_is : Filled 160 permitted first
  pub excluded_is : Filled 161 excluded second
  pub named : Each Named permitted × Each Named excluded
  pub some : content ≡ [] → ⊥

-- a content that has not this form, and that is accepted over every certificate without alternative names
pub record Unsized (content : List ℕ) : Type 0 where
  pub met : (o : Contents) → o.subject_alt_name ≡ absent → ExactlyMet (present content) (o ∷ [])
  pub fails : (permitted excluded : List General) → Sized content permitted excluded → ⊥
