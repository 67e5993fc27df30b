-- EXACT, one entry: what the comparison with an entry of the name's kind answers, in the words of `ExactNames`. Assumes nothing.
use Prim.Native.Nat.{ℕ}
use mathlib.Core.Path.{◌≡◌, refl, sym, ◌∙◌}
use mathlib.Core.List.{List}
use mathlib.Core.Bool.{Bool, true, false, cond}
use mathlib.Core.Logic.{◌⊎◌, inl, inr, ⊎_elim}
use lib.Dec.{eqb}
use native.Mathlib.Omega.{arith}
use borrow.Author.Tests.{eqb-true, eqb-false}
use Rattle.refusal.specs.Refusals.{name_constraint_violation}
use Rattle.der.specs.Places.{Bytes}
use Rattle.dns.specs.Names.{SomeIn}
use Rattle.dns.specs.Stricter.{Stricter}
use Rattle.dns.specs.Model.{match_permitted, match_excluded}
use Rattle.dns.proofs.Laws.{yes_no, yes_refused, no_refused}
use Rattle.dns.proofs.Match.{permitted_decides, excluded_decides, presented_refused, entry_refused}
use Rattle.labels.specs.Names.{labels, presented_name, entry_name}
use Rattle.ip.specs.Model.{match_subnet}
use Rattle.ip.proofs.Subnet.{subnet_yes, subnet_no, in_subnet_yes}
use Rattle.ip.proofs.Masks.{Answered, address_comparable, comparable_address}
use Rattle.names.specs.General.{dns_name, ip_address, General}
use Rattle.entries.specs.Model.{compared}
use Rattle.subtrees.specs.ExactNames.{Comparable, host_names, addresses, Has, has_hosts, has_address, Hits, hits_host, hits_dotted, hits_address}
use Rattle.std.specs.Prelude.{Ok, Err, Result}

-- no name is of two kinds
pub different : {A : Type 0} (k : ℕ) → k ≡ dns_name → k ≡ ip_address → A
different k e f = absurd (let z : ◌≡◌ {A = ℕ} 130 135 = sym e ∙ f in omega arith)

-- ---- every kind
data Kind (kind : ℕ) (excluded : Bool) (p q : List ℕ) : Type 0 where
  dns : kind ≡ dns_name → compared excluded kind p q ≡ cond excluded (match_excluded p q) (match_permitted p q) → Kind kind excluded p q
  ip : kind ≡ ip_address → compared excluded kind p q ≡ match_subnet p q → Kind kind excluded p q
  shut : (kind ≡ dns_name → ⊥) → (kind ≡ ip_address → ⊥) → compared excluded kind p q ≡ cond excluded (Ok true) (Ok false) → Kind kind excluded p q
  unknown : (kind ≡ dns_name → ⊥) → (kind ≡ ip_address → ⊥) → compared excluded kind p q ≡ Err name_constraint_violation → Kind kind excluded p q

compared_by : (kind : ℕ) (excluded : Bool) (p q : List ℕ)
    → compared excluded kind p q
    ≡ cond (eqb kind 130)
    (cond excluded (match_excluded p q) (match_permitted p q))
    (cond (eqb kind 135) (match_subnet p q) (cond (eqb kind 164) (cond excluded (Ok true) (Ok false)) (cond (eqb kind 134) (cond excluded (Ok true) (Ok false)) (Err name_constraint_violation))))
unfolding compared
compared_by kind excluded p q = refl

kind_of_lem : (kind : ℕ) (excluded : Bool) (p q : List ℕ) → Kind kind excluded p q
kind_of_lem kind excluded p q = go (eqb kind 130) refl (eqb kind 135) refl (eqb kind 164) refl (eqb kind 134) refl
  where
    go : (a : Bool) → eqb kind 130 ≡ a → (b : Bool) → eqb kind 135 ≡ b → (c : Bool) → eqb kind 164 ≡ c → (d : Bool) → eqb kind 134 ≡ d → Kind kind excluded p q
    go true h b i c j d k = dns (eqb-true _ _ h) (compared_by kind excluded p q ∙ rw h)
    go false h true i c j d k = ip (eqb-true _ _ i) (compared_by kind excluded p q ∙ rw (h, i))
    go false h false i true j d k = shut (eqb-false _ _ h) (eqb-false _ _ i) (compared_by kind excluded p q ∙ rw (h, i, j))
    go false h false i false j true k = shut (eqb-false _ _ h) (eqb-false _ _ i) (compared_by kind excluded p q ∙ rw (h, i, j, k))
    go false h false i false j false k = unknown (eqb-false _ _ h) (eqb-false _ _ i) (compared_by kind excluded p q ∙ rw (h, i, j, k))

-- both texts are names, where there is an answer
names_formed : (p q : List ℕ) (excluded : Bool) → Answered (cond excluded (match_excluded p q) (match_permitted p q)) → (presented_name p ≡ true) × (entry_name q ≡ true)
names_formed p q excluded d = go (presented_name p) (entry_name q) refl refl excluded d
  where
    refused : {y : ℕ} {x : Result Bool ℕ} → x ≡ Err y → Answered x → ⊥
    refused r (inl y) = yes_refused (sym y ∙ r)
    refused r (inr y) = no_refused (sym y ∙ r)

    go : (s t : Bool) → presented_name p ≡ s → entry_name q ≡ t → (x : Bool) → Answered (cond x (match_excluded p q) (match_permitted p q)) → (presented_name p ≡ true) × (entry_name q ≡ true)
    go true true h k x d = (h, k)
    go true false h k true d = absurd (refused (entry_refused p q h k).1 d)
    go true false h k false d = absurd (refused (entry_refused p q h k).0 d)
    go false t h k true d = absurd (refused (presented_refused p q h).1 d)
    go false t h k false d = absurd (refused (presented_refused p q h).0 d)

module _ (n e : General) (bn : Bytes n.content) (be : Bytes e.content) where
  abbrev permits : Result Bool ℕ
  permits = compared false n.kind n.content e.content

  abbrev excludes : Result Bool ℕ
  excludes = compared true n.kind n.content e.content

  -- PERMITTED: yes just if the two can be compared, and the entry has the name
  pub yes_has : permits ≡ Ok true → Comparable n e × Has n e
  yes_has y = go (kind_of_lem n.kind false n.content e.content)
    where
      go : Kind n.kind false n.content e.content → Comparable n e × Has n e
      go (dns k c) =
          let f = names_formed n.content e.content false (inl (sym c ∙ y)) in
          (host_names k f.0 f.1, ⊎_elim (λ d. has_hosts k d.1) (λ d. absurd (yes_no (sym (sym c ∙ y) ∙ d.0))) (permitted_decides n.content e.content f.0 f.1))
      go (ip k c) =
          let f = address_comparable n.content e.content bn be (inl (sym c ∙ y)) in
          (addresses k f.0.0 f.0.1 f.1, has_address k (subnet_yes n.content e.content bn be (sym c ∙ y)))
      go (shut o i c) = absurd (yes_no (sym y ∙ c))
      go (unknown o i c) = absurd (yes_refused (sym y ∙ c))

  pub has_yes : Comparable n e → Has n e → permits ≡ Ok true
  has_yes c h = go (kind_of_lem n.kind false n.content e.content) c h
    where
      go : Kind n.kind false n.content e.content → Comparable n e → Has n e → permits ≡ Ok true
      go (dns k c) (host_names l a b) (has_hosts i h) = c ∙ ⊎_elim (λ d. d.0) (λ d. absurd (d.1 h)) (permitted_decides n.content e.content a b)
      go (dns k c) (host_names l a b) (has_address i h) = different n.kind k i
      go (dns k c) (addresses l a b x) h = different n.kind k l
      go (ip k c) (host_names l a b) h = different n.kind l k
      go (ip k c) (addresses l a b x) (has_hosts i h) = different n.kind i k
      go (ip k c) (addresses l a b x) (has_address i h) = c ∙ in_subnet_yes n.content e.content bn be a h
      go (shut o i c) (host_names l a b) h = absurd (o l)
      go (shut o i c) (addresses l a b x) h = absurd (i l)
      go (unknown o i c) (host_names l a b) h = absurd (o l)
      go (unknown o i c) (addresses l a b x) h = absurd (i l)

  -- an answer other than a refusal just if the two can be compared, but for directory names and URIs, which a permitted entry never has
  pub comparable_answered : Comparable n e → Answered permits
  comparable_answered c = go (kind_of_lem n.kind false n.content e.content) c
    where
      on : {x y : Result Bool ℕ} → x ≡ y → Answered y → Answered x
      on e (inl h) = inl (e ∙ h)
      on e (inr h) = inr (e ∙ h)

      go : Kind n.kind false n.content e.content → Comparable n e → Answered permits
      go (dns k c) (host_names l a b) = on c (⊎_elim (λ d. inl d.0) (λ d. inr d.0) (permitted_decides n.content e.content a b))
      go (dns k c) (addresses l a b x) = different n.kind k l
      go (ip k c) (host_names l a b) = different n.kind l k
      go (ip k c) (addresses l a b x) = on c (comparable_address n.content e.content bn be a b x)
      go (shut o i c) (host_names l a b) = absurd (o l)
      go (shut o i c) (addresses l a b x) = absurd (i l)
      go (unknown o i c) (host_names l a b) = absurd (o l)
      go (unknown o i c) (addresses l a b x) = absurd (i l)

  pub answered_comparable : (n.kind ≡ dns_name) ⊎ (n.kind ≡ ip_address) → Answered permits → Comparable n e
  answered_comparable known d = go (kind_of_lem n.kind false n.content e.content) d
    where
      on : {x y : Result Bool ℕ} → x ≡ y → Answered x → Answered y
      on e (inl h) = inl (sym e ∙ h)
      on e (inr h) = inr (sym e ∙ h)

      go : Kind n.kind false n.content e.content → Answered permits → Comparable n e
      go (dns k c) d = let f = names_formed n.content e.content false (on c d) in host_names k f.0 f.1
      go (ip k c) d = let f = address_comparable n.content e.content bn be (on c d) in addresses k f.0.0 f.0.1 f.1
      go (shut o i c) d = absurd (⊎_elim o i known)
      go (unknown o i c) d = absurd (⊎_elim o i known)

  -- EXCLUDED: no just if the two can be compared, and the entry has nothing of the name
  pub no_clear : excludes ≡ Ok false → Comparable n e × (Hits n e → ⊥)
  no_clear y = go (kind_of_lem n.kind true n.content e.content)
    where
      go : Kind n.kind true n.content e.content → Comparable n e × (Hits n e → ⊥)
      go (dns k c) =
          let f = names_formed n.content e.content true (inr (sym c ∙ y)) in
          (host_names k f.0 f.1, ⊎_elim (λ d. absurd (yes_no (sym d.0 ∙ (sym c ∙ y)))) (λ d. clear d.1) (excluded_decides n.content e.content f.0 f.1))
        where
          clear : (SomeIn (labels n.content) (labels e.content) ⊎ Stricter (labels n.content) (labels e.content) → ⊥) → Hits n e → ⊥
          clear h (hits_host i s) = h (inl s)
          clear h (hits_dotted i s) = h (inr s)
          clear h (hits_address i s) = different n.kind k i
      go (ip k c) =
          let f = address_comparable n.content e.content bn be (inr (sym c ∙ y)) in
          (addresses k f.0.0 f.0.1 f.1, clear)
        where
          clear : Hits n e → ⊥
          clear (hits_host i s) = different n.kind i k
          clear (hits_dotted i s) = different n.kind i k
          clear (hits_address i s) = subnet_no n.content e.content bn be (sym c ∙ y) s
      go (shut o i c) = absurd (yes_no (sym c ∙ y))
      go (unknown o i c) = absurd (no_refused (sym y ∙ c))

  pub clear_no : Comparable n e → (Hits n e → ⊥) → excludes ≡ Ok false
  clear_no c h = go (kind_of_lem n.kind true n.content e.content) c
    where
      go : Kind n.kind true n.content e.content → Comparable n e → excludes ≡ Ok false
      go (dns k c) (host_names l a b) =
          c ∙ ⊎_elim (λ d. absurd (⊎_elim (λ s. h (hits_host k s)) (λ s. h (hits_dotted k s)) d.1)) (λ d. d.0) (excluded_decides n.content e.content a b)
      go (dns k c) (addresses l a b x) = different n.kind k l
      go (ip k c) (host_names l a b) = different n.kind l k
      go (ip k c) (addresses l a b x) =
          c ∙ ⊎_elim (λ y. absurd (h (hits_address k (subnet_yes n.content e.content bn be y)))) (λ y. y) (comparable_address n.content e.content bn be a b x)
      go (shut o i c) (host_names l a b) = absurd (o l)
      go (shut o i c) (addresses l a b x) = absurd (i l)
      go (unknown o i c) (host_names l a b) = absurd (o l)
      go (unknown o i c) (addresses l a b x) = absurd (i l)
