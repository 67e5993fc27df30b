-- What a presented name stands for, and the subtrees of names: RFC 1034, 3.1, and RFC 4343; RFC 9525, 6.3 (RFC 6125, 6.4); RFC 5280, 4.2.1.10. Where these
-- leave a choice, it is said at the definition. No reader is named here.
use Rattle.std.specs.Prelude.{ℕ, ◌+◌, ◌≡◌, List, [], ◌∷◌, ◌++◌, map, true, false, cond, ◌⊎◌, drop}
use Rattle.labels.specs.Names.{capital, Labels, good_label, starred}

-- ---- which names
-- RFC 1034, 3.1, and RFC 4343: the case of ASCII letters does not count
unfoldable pub small : ℕ → ℕ
small b = cond (capital b) (b + 32) b

unfoldable pub lowered : Labels → Labels
lowered ls = map (map small) ls

abbrev pub Same : Labels → Labels → Type 0
Same ls ms = lowered ls ≡ lowered ms

-- RFC 9525, 6.3: a star stands for exactly one label
pub record Starred (p n : Labels) : Type 0 where
  pub label : List ℕ
  pub after : Labels
  pub is_starred : starred p ≡ true
  pub good : good_label label ≡ true
  pub is : n ≡ label ∷ after
  pub same : Same (drop 1 p) after

abbrev pub StandsFor : Labels → Labels → Type 0
StandsFor p n = ((starred p ≡ false) × Same p n) ⊎ Starred p n

-- ---- the subtrees of RFC 5280, 4.2.1.10: a name and what is below it, or, after a dot, only what is below it
pub record Within (x n : Labels) : Type 0 where
  pub front : Labels
  pub is : lowered n ≡ front ++ lowered x

pub record Below (x n : Labels) : Type 0 where
  pub first : List ℕ
  pub front : Labels
  pub is : lowered n ≡ first ∷ (front ++ lowered x)

-- by the labels of the entry's text. RFC 5280 does not say what a dot before a DNS name means: here, as for a URI's host, strictly below.
-- A text that begins with a dot has an empty first label; so has no text, which is the root: all names are below it
unfoldable pub InSubtree : Labels → Labels → Type 0
InSubtree [] n = ⊥
InSubtree ([] ∷ x) n = Below x n
InSubtree ((b ∷ l) ∷ x) n = Within ((b ∷ l) ∷ x) n

-- for a presented name that may have a star: all that it stands for is in the subtree; something is
abbrev pub AllIn : Labels → Labels → Type 0
AllIn p e = (n : Labels) → StandsFor p n → InSubtree e n

pub record SomeIn (p e : Labels) : Type 0 where
  pub name : Labels
  pub stands : StandsFor p name
  pub inside : InSubtree e name
