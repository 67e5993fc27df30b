-- A request: what a caller lends and asks.
use Rattle.std.specs.Prelude.{ℕ, ◌+◌, Bool, List, length}

pub record Request : Type 0 where
  -- the intermediates, and the end entity
  pub issuers : List (List ℕ)
  pub end : List ℕ
  -- the anchors: anchor i has the subject and the key number i and, where bound i is there and not 0, the name constraints number i. Where the list of keys,
  -- or then that of name constraints, is too short for it, it is never used. These, and distrusted keys, are contents: without the tag and the length of
  -- their SEQUENCE
  pub subjects : List (List ℕ)
  pub keys : List (List ℕ)
  pub constraints : List (List ℕ)
  pub bound : List ℕ
  pub distrusted : List (List ℕ)
  -- seconds since the beginning of 1970
  pub time : ℕ
  -- the content of a purpose's object identifier, and whether a certificate must list it
  pub purpose : List ℕ
  pub demanded : Bool
  -- the name that the end entity must be good for: kind 0 none, 1 a DNS name as text, 2 an IP address of 4 or 16 bytes; for any other kind it is good for none
  pub kind : ℕ
  pub name : List ℕ

-- the number of the end entity: anchors come first, then intermediates
abbrev pub end_of : Request → ℕ
end_of R = length R.subjects + length R.issuers

-- how many signature questions, extensions of a path and comparisons of names are allowed
pub record Budgets : Type 0 where
  pub signatures : ℕ
  pub extensions : ℕ
  pub comparisons : ℕ
