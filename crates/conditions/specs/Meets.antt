-- The conditions on a path for a request, in two parts: what holds of every path that is offered, and what the wanted name and the caller add. No model and no
-- search is named here.
use Rattle.std.specs.Prelude.{ℕ, suc, ◌≤◌, ◌<◌, List, [], length, get_or}
use Rattle.lent.specs.Lent.{most_intermediates}
use Rattle.checks.specs.Conditions.{Contents, InValidity, ForPurpose}
use Rattle.path.specs.Conditions.{Trusted}
use Rattle.candidate.specs.Candidates.{Whole}
use Rattle.dialogue.specs.Log.{What}
use Rattle.conditions.specs.Request.{Request}
use Rattle.conditions.specs.Conditions.{Each, InPlace, Chain, Apart, Numbers, Readable, Signed, Named}
use Rattle.conditions.specs.Exactly.{ExactlyMet, constraints_of}

module _ (R : Request) where
  -- `Yes key what`: asked whether that key signed that certificate, the caller says yes. A path is a list of numbers, the highest certificate first and
  -- the end entity last
  pub record Stands (Yes : ℕ → What → Type 0) (anchor : ℕ) (path : List ℕ) : Type 0 where
    -- the end entity, none to six intermediates (stricter, D50), and a trust anchor, which has a key, and name constraints where its flag is set
    pub numbers : Numbers R path
    pub few : length path ≤ suc most_intermediates
    pub anchored : anchor < length R.subjects
    pub keyed : anchor < length R.keys
    pub whole : Whole R.constraints R.bound anchor
    -- each can be read, and its issuer is the subject of the one above it: for the highest, of the anchor
    pub contents : List Contents
    pub readable : Readable R path contents
    pub chained : Chain (get_or R.subjects anchor []) contents
    -- 1. none has a distrusted key, nor has the anchor (stricter, D57)
    pub trusted : Each (λ o. Trusted R.distrusted o.key) contents
    pub anchor_trusted : Trusted R.distrusted (get_or R.keys anchor [])
    -- 2. the time lies in the validity of each
    pub valid : Each (λ o. InValidity o.validity R.time) contents
    -- 3. the end entity is no CA; every other one is, with a path length that allows the intermediates below it
    pub placed : InPlace contents
    -- 4. each is good for the purpose
    pub purposed : Each (λ o. ForPurpose R.purpose R.demanded o.ext_key_usage) contents
    -- 5. no two have the same subject and the same key (stricter, D56)
    pub apart : Apart contents
    -- the signatures, from the anchor's key down
    pub signed : Signed R Yes anchor path
    -- the name constraints, the anchor's included
    pub constrained : ExactlyMet (constraints_of R anchor) contents

  -- and the end entity is good for the wanted name, and the caller has nothing against the path
  pub record Meets (Yes : ℕ → What → Type 0) (Content : ℕ → List ℕ → Type 0) (anchor : ℕ) (path : List ℕ) : Type 0 where
    pub stands : Stands Yes anchor path
    pub named : Named R
    pub content : Content anchor path
