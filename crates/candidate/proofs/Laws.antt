-- Laws of candidates by what is known, for paths kept in arrays. Assumes nothing.
use Prim.Native.Nat.{ℕ, ◌≤◌, ◌<◌}
use mathlib.Core.Path.{◌≡◌}
use mathlib.Core.List.{List, [], map}
use mathlib.Core.Bool.{Bool, true, false}
use lib.ListN.{length, get_or, length-map}
use native.Mathlib.Omega.{arith}
use borrow.Author.Tests.{lt-ltb, le-ltb, le-leb, lt-leb}
use denote.Ref.{Bor}
use Rattle.der.specs.declared.Span.{Span}
use Rattle.refusal.specs.Refusals.{unknown_issuer, maximum_path_depth_exceeded}
use Rattle.rows.specs.declared.Outline.{Outline}
use Rattle.rows.specs.Model.{outlined, on_outline}
use Rattle.table.proofs.Laws.{behind}
use Rattle.candidate.specs.declared.Verdict.TheVariants.{Pass}
use Rattle.lent.specs.Lent.{certificate_of, pre, newest}
use Rattle.path.specs.Model.{depth_of}
use Rattle.candidate.specs.Model.{has_both_as, anchor_verdict, is_whole, anchor_at, issuer_verdict_in, verdict_in}
use Rattle.lent.proofs.Laws.{lower_length}
use Rattle.std.specs.Prelude.{Ok, Err, Result}
use Rattle.cert.specs.Model.{Reading}

-- ---- an anchor
module _ (subjects keys : List (Bor (List ℕ))) (constraints : List (List ℕ)) (bound : List ℕ) (distrusted : List (List ℕ)) (head : List ℕ) (issuer : Span) (i : ℕ) where
  pub anchor_lent : (d e : Bor (List ℕ)) → i < length subjects → i < length keys → is_whole constraints bound i ≡ true
      → anchor_at (map (λ x. x.now) subjects) (map (λ x. x.now) keys) constraints bound distrusted head issuer i ≡ anchor_verdict (get_or subjects i d).now (get_or keys i e).now distrusted head issuer
  unfolding anchor_at
  anchor_lent d e h k w = rw (length-map keys (λ x. x.now), lt-ltb i (length keys) k, w, behind subjects i d [] h, behind keys i e [] k)

  pub anchor_lacking : i < length keys → is_whole constraints bound i ≡ false → anchor_at (map (λ x. x.now) subjects) (map (λ x. x.now) keys) constraints bound distrusted head issuer i ≡ Pass unknown_issuer
  unfolding anchor_at
  anchor_lacking k w = rw (length-map keys (λ x. x.now), lt-ltb i (length keys) k, w)

  pub anchor_keyless : length keys ≤ i → anchor_at (map (λ x. x.now) subjects) (map (λ x. x.now) keys) constraints bound distrusted head issuer i ≡ Pass unknown_issuer
  unfolding anchor_at
  anchor_keyless k = rw (length-map keys (λ x. x.now), le-ltb i (length keys) k)

-- ---- a path in an array
module _ (known : ℕ → Reading) (issuers : List (List ℕ)) (end : List ℕ) (path : List ℕ) (d : ℕ) where
  module _ (subjects keys constraints : List (List ℕ)) (bound : List ℕ) (distrusted : List (List ℕ)) (i : ℕ) where
    pub verdict_deep : 6 < d → Pass maximum_path_depth_exceeded ≡ verdict_in known issuers end subjects keys constraints bound distrusted (pre path d) i
    unfolding verdict_in depth_of
    verdict_deep h = simp (lower_length path d, le-leb 7 d h)

    module _ {anchors n : ℕ} {s : List ℕ} (count : anchors ≡ length subjects) (few : d ≤ 6) (at : n ≡ get_or path d 0) (is : s ≡ certificate_of issuers end anchors n) where
      reads : {x : Result Outline ℕ} → outlined (known n) ≡ x → outlined (known (get_or path d 0)) ≡ x
      reads e = rw (← at) e

      pub verdict_refused : {e : ℕ} → outlined (known n) ≡ Err e → Pass e ≡ verdict_in known issuers end subjects keys constraints bound distrusted (pre path d) i
      unfolding verdict_in newest depth_of on_outline
      verdict_refused r = simp (lower_length path d, lt-leb 7 d (omega arith), reads r)

      pub verdict_anchor : {o : Outline} → outlined (known n) ≡ Ok o → i < anchors
          → anchor_at subjects keys constraints bound distrusted s o.issuer i ≡ verdict_in known issuers end subjects keys constraints bound distrusted (pre path d) i
      unfolding verdict_in newest depth_of on_outline
      verdict_anchor r h =
          let l : i < length subjects = omega arith in
          simp (is, at, count, lower_length path d, lt-leb 7 d (omega arith), reads r, lt-ltb i (length subjects) l)

      pub verdict_issuer : {o : Outline} {t : List ℕ} {g : Result Outline ℕ} → outlined (known n) ≡ Ok o → anchors ≤ i → t ≡ certificate_of issuers end anchors i → g ≡ outlined (known i)
          → issuer_verdict_in known issuers end anchors (pre path d) s o.issuer t g ≡ verdict_in known issuers end subjects keys constraints bound distrusted (pre path d) i
      unfolding verdict_in newest depth_of on_outline
      verdict_issuer r h e g =
          let l : length subjects ≤ i = omega arith in
          simp (is, at, e, g, count, lower_length path d, lt-leb 7 d (omega arith), reads r, le-ltb i (length subjects) l)

-- whether a certificate of the path has both, by what is known of it
pub both_at : (known : ℕ → Reading) (issuers : List (List ℕ)) (end : List ℕ) (anchors : ℕ) (s : List ℕ) (subject key : Span) (n : ℕ) {t : List ℕ} {o : Result Outline ℕ} {v : Bool} → t ≡ certificate_of issuers end anchors n → o ≡ outlined (known n)
    → has_both_as o s subject key t ≡ v → has_both_as (outlined (known n)) s subject key (certificate_of issuers end anchors n) ≡ v
both_at known issuers end anchors s subject key n b g e = rw (← b, ← g) e
