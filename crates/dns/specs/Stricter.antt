-- The one place where a comparison with a name is more than RFC 5280, 4.2.1.10, asks (stricter, D18): an excluded entry that begins with a dot, `.l.x`, is met by the presented
-- `*.x`, though none of the names that this stands for is below `l.x`.
use Rattle.std.specs.Prelude.{◌≡◌, List, [], ◌∷◌, true, drop, ℕ}
use Rattle.labels.specs.Names.{Labels, starred}
use Rattle.dns.specs.Names.{Same}

pub record Stricter (p e : Labels) : Type 0 where
  pub label : List ℕ
  pub after : Labels
  pub is_starred : starred p ≡ true
  pub is : e ≡ [] ∷ (label ∷ after)
  pub same : Same (drop 1 p) after
