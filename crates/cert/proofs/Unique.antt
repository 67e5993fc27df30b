-- UNIQUE: two skeletons with one encoding are the same. Assumes nothing.
use Prim.Native.Nat.{ℕ, ◌<◌}
use mathlib.Core.Path.{◌≡◌, refl, sym, ◌∙◌}
use mathlib.Core.List.{List, [], ◌∷◌, append-nil}
use lib.ListN.{length}
use Rattle.der.specs.X690.{encoding}
use Rattle.der.specs.Places.{LIMIT}
use Rattle.extensions.proofs.Unique.{encoding_once, once_in, last_in, extensions_once}
use Rattle.extensions.specs.Rfc5280.{Extensions, sequence, explicit}
use Rattle.cert.specs.Rfc5280.{Skeleton, integer, bit_string, version, tbs_content, tbs_certificate, certificate_content, certificate}

-- ---- the signed content
tbs_once : (k k' : Skeleton) → length (tbs_content k) < LIMIT → tbs_content k ≡ tbs_content k'
    → (k.serial ≡ k'.serial) × (k.algorithm ≡ k'.algorithm) × (k.issuer ≡ k'.issuer) × (k.validity ≡ k'.validity) × (k.subject ≡ k'.subject) × (k.key ≡ k'.key)
    × (k.extensions ≡ k'.extensions)
unfolding tbs_content version explicit integer sequence
tbs_once k k' h e =
    let v = once_in 160 _ _ _ _ refl h e in
    let n = once_in 2 k.serial k'.serial _ _ refl v.3 v.1 in
    let a = once_in 48 k.algorithm k'.algorithm _ _ refl n.3 n.1 in
    let i = once_in 48 k.issuer k'.issuer _ _ refl a.3 a.1 in
    let p = once_in 48 k.validity k'.validity _ _ refl i.3 i.1 in
    let u = once_in 48 k.subject k'.subject _ _ refl p.3 p.1 in
    let y = once_in 48 k.key k'.key _ _ refl u.3 u.1 in
    (n.0, a.0, i.0, p.0, u.0, y.0, extensions_once k.extensions k'.extensions y.3 y.1)

bits_once : (x x' : List ℕ) → length (bit_string x) < LIMIT → bit_string x ≡ bit_string x' → x ≡ x'
unfolding bit_string
bits_once x x' h e =
    let r = (last_in 3 (0 ∷ x) (0 ∷ x') refl h e).0 in
    cc

pub same_skeleton : {a a' b b' c c' d d' e e' f f' g g' : List ℕ} {x x' : Extensions} → a ≡ a' → b ≡ b' → c ≡ c' → d ≡ d' → e ≡ e' → f ≡ f' → x ≡ x' → g ≡ g'
    → ◌≡◌ {A = Skeleton}
    (record { serial = a; algorithm = b; issuer = c; validity = d; subject = e; key = f; extensions = x; signature = g })
    (record { serial = a'; algorithm = b'; issuer = c'; validity = d'; subject = e'; key = f'; extensions = x'; signature = g' })
same_skeleton p q r s t u v w = rw (p, q, r, s, t, u, v, w)

content_once : (k k' : Skeleton) → length (certificate_content k) < LIMIT → certificate_content k ≡ certificate_content k' → k ≡ k'
unfolding certificate_content tbs_certificate sequence
content_once k k' h e =
    let t = once_in 48 (tbs_content k) (tbs_content k') _ _ refl h e in
    let a = once_in 48 k.algorithm k'.algorithm _ _ refl t.3 t.1 in
    let f = tbs_once k k' t.2 t.0 in
    let g : k.signature ≡ k'.signature = bits_once k.signature k'.signature a.3 a.1 in
    same_skeleton f.0 f.1 f.2 f.3 f.4 f.5 f.6 g

-- UNIQUE: one encoding, one skeleton
pub unique : (k k' : Skeleton) → length (certificate_content k) < LIMIT → length (certificate_content k') < LIMIT → certificate k ≡ certificate k' → k ≡ k'
unfolding certificate sequence
unique k k' h h' e =
    let n = append-nil (encoding 48 (certificate_content k)) in
    let m = append-nil (encoding 48 (certificate_content k')) in
    let r = encoding_once 48 (certificate_content k) (certificate_content k') [] [] refl h h' (n ∙ e ∙ sym m) in
    content_once k k' h r.0
