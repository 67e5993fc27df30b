-- EMPTY LISTS (docs/DIFFERENCES.md, D22): contents that RFC 5280, 4.2.1.10, does not allow, and that restrict nothing. Assumes nothing.
use Prim.Native.Nat.{ℕ}
use mathlib.Core.Path.{◌≡◌, refl, ◌∙◌}
use mathlib.Core.List.{List, [], ◌∷◌}
use lib.Dec.{lit<}
use Rattle.der.specs.X690.{length_bytes, encoding}
use Rattle.names.specs.General.{General, encoded, Each}
use Rattle.subtrees.specs.Rfc5280Names.{subtrees, Field, absent, present, NameConstraints, Some}
use Rattle.subtrees.proofs.Once.{constraints_once}
use Rattle.checks.specs.Conditions.{absent as unsaid, present as said, Contents}
use Rattle.conditions.specs.Conditions.{content_in, Each as EachOf}
use Rattle.conditions.specs.Exactly.{Issuers, ExactlyMet}
use Rattle.conditions.specs.Witnesses.{Filled, left_out, there, Sized, Unsized}

-- a list that has an entry, or is left out, is a list
filled : (tag : ℕ) (ns : List General) (bytes : List ℕ) → Filled tag ns bytes → Field tag ns bytes
filled tag ns bytes (left_out n e) = absent n e
filled tag ns bytes (there n e) = present e

no_bytes : (tag : ℕ) (ns : List General) (bytes : List ℕ) → ns ≡ [] → Filled tag ns bytes → bytes ≡ []
no_bytes tag ns bytes e (left_out n b) = b
no_bytes tag ns bytes e (there n b) = absurd (n e)

-- a content with no entry in either list
module _ (content : List ℕ) (is : NameConstraints content [] []) where
  not_sized : (permitted excluded : List General) → Sized content permitted excluded → ⊥
  not_sized p e s =
      let f = filled 160 p s.first s.permitted_is in
      let g = filled 161 e s.second s.excluded_is in
      let c : NameConstraints content p e = record { first = s.first; second = s.second; is = s.is; permitted_is = f; excluded_is = g; named = s.named } in
      let one = constraints_once content p e [] [] c is in
      let a = no_bytes 160 p s.first one.0 s.permitted_is in
      let b = no_bytes 161 e s.second one.1 s.excluded_is in
      s.some (s.is ∙ rw (a, b) refl)

  unrestricted : (o : Contents) → o.subject_alt_name ≡ unsaid → ExactlyMet (said content) (o ∷ [])
  unfolding Issuers EachOf Each Some encoded content_in subtrees
  unrestricted o h =
      record {
        anchor_met =
            record {
              permitted = [];
              excluded = [];
              is = is;
              short = (lit< tt, lit< tt);
              rule = (record { alternative = []; is = rw h refl; named = tt; conform = tt; subject = record { comparable = (tt, tt); within = λ s. absurd s; without = tt } }, tt);
            };
        issuers_met = tt;
      }

  unsized : Unsized content
  unsized = record { met = unrestricted; fails = not_sized }

-- THEOREM: a000, a100, both, and no content
pub d22 : Unsized (160 ∷ 0 ∷ []) × Unsized (161 ∷ 0 ∷ []) × Unsized (160 ∷ 0 ∷ 161 ∷ 0 ∷ []) × Unsized []
unfolding subtrees encoding length_bytes Each
d22 = (
  unsized (160 ∷ 0 ∷ []) (record { first = 160 ∷ 0 ∷ []; second = []; is = refl; permitted_is = present refl; excluded_is = absent refl refl; named = (tt, tt) }),
  unsized (161 ∷ 0 ∷ []) (record { first = []; second = 161 ∷ 0 ∷ []; is = refl; permitted_is = absent refl refl; excluded_is = present refl; named = (tt, tt) }),
  unsized (160 ∷ 0 ∷ 161 ∷ 0 ∷ []) (record { first = 160 ∷ 0 ∷ []; second = 161 ∷ 0 ∷ []; is = refl; permitted_is = present refl; excluded_is = present refl; named = (tt, tt) }),
  unsized [] (record { first = []; second = []; is = refl; permitted_is = absent refl refl; excluded_is = absent refl refl; named = (tt, tt) }),
)
