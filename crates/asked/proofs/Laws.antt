-- Laws of an anchor's key. Assumes nothing.
use Prim.Native.Nat.{ℕ, ◌≤◌, ◌<◌}
use mathlib.Core.Path.{◌≡◌}
use mathlib.Core.List.{List, [], map}
use lib.ListN.{length, get_or, length-map}
use borrow.Author.Tests.{lt-ltb, le-ltb}
use denote.Ref.{Bor}
use Rattle.refusal.specs.Refusals.{bad_der}
use Rattle.cert.specs.Model.{key_parts, Reading}
use Rattle.table.proofs.Laws.{behind}
use Rattle.asked.specs.Model.{key_in}
use Rattle.std.specs.Prelude.{Err}

-- ---- an anchor's key
module _ (known : ℕ → Reading) (issuers : List (List ℕ)) (end : List ℕ) (keys : List (Bor (List ℕ))) (anchors n : ℕ) (h : n < anchors) where
  pub key_lent : (d : Bor (List ℕ)) → n < length keys → key_in known issuers end (map (λ x. x.now) keys) anchors n ≡ key_parts (get_or keys n d).now 0 (length (get_or keys n d).now)
  unfolding key_in
  key_lent d l = rw (lt-ltb n anchors h, length-map keys (λ x. x.now), lt-ltb n (length keys) l, behind keys n d [] l)

  pub key_beyond : length keys ≤ n → key_in known issuers end (map (λ x. x.now) keys) anchors n ≡ Err bad_der
  unfolding key_in
  key_beyond l = rw (lt-ltb n anchors h, length-map keys (λ x. x.now), le-ltb n (length keys) l)
