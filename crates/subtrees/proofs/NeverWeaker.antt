-- NEVER WEAKER, one name: what meets the exact relation meets RFC 5280's. Assumes nothing.
use mathlib.Core.Path.{◌∙◌}
use mathlib.Core.List.{List}
use mathlib.Core.Logic.{inl, inr}
use Rattle.ip.specs.Addresses.{InMasked}
use Rattle.ip.proofs.Masks.{masked_in, twice}
use Rattle.names.specs.General.{General, Each}
use Rattle.subtrees.specs.Rfc5280Names.{Meaning, host, value, Means, Others, In, OfKind, Touches, Formed, Conforms}
use Rattle.subtrees.specs.ExactNames.{Comparable, host_names, addresses, Has, has_hosts, has_address, Hits, hits_host, hits_address, Exactly}
use Rattle.subtrees.proofs.Generals.{some_to, each_to, each_two, none_some}
use Rattle.subtrees.proofs.Exact.{different}

module _ (other : Others) (n e : General) (same : OfKind n e) where
  has_in : Has n e → (m : Meaning) → Means n m → In other e m
  unfolding Means In
  has_in (has_hosts k a) (host ls) s = a ls s.1
  has_in (has_hosts k a) (value v) s = absurd (s.0 k)
  has_in (has_address k a) (host ls) s = different n.kind s.0 k
  has_in (has_address k a) (value v) s = inl (same ∙ k, rw s.1 a)

  not_hit : Comparable n e → (Hits n e → ⊥) → (m : Meaning) → Means n m → Touches other e m → ⊥
  unfolding Means Touches
  not_hit (host_names k p q) h (host ls) s t = h (hits_host k (record { name = ls; stands = s.1; inside = t }))
  not_hit (host_names k p q) h (value v) s t = s.0 k
  not_hit (addresses k a i x) h (host ls) s t = different n.kind s.0 k
  not_hit (addresses k a i x) h (value v) s (inl t) =
      let u : InMasked n.content e.content = rw s.1 at t.1 in
      h (hits_address k (masked_in n.content e.content (x (twice n.content e.content u.address u.mask u.halves)) u))
  not_hit (addresses k a i x) h (value v) s (inr t) = t.0 (same ∙ k)

formed_by : (n e : General) → Comparable n e → Formed n e
formed_by n e (host_names k p q) = record { dns = λ h. (p, q); ip = λ h. different n.kind k h }
formed_by n e (addresses k a i x) = record { dns = λ h. different n.kind h k; ip = λ h. (a, i) }

module _ (other : Others) (permitted excluded : List General) where
  pub conforms : (n : General) → Exactly permitted excluded n → Conforms other permitted excluded n
  conforms n x =
      record {
        within = λ m s some. some_to (λ e. OfKind n e × Has n e) (λ e. OfKind n e × In other e m) (λ e h. (h.0, has_in other n e h.0 h.1 m s)) permitted (x.within some);
        without =
            λ m s.
            each_two (λ e. OfKind n e → Comparable n e) (λ e. OfKind n e → Hits n e → ⊥) (λ e. OfKind n e → Touches other e m → ⊥)
            (λ e c h k. not_hit other n e k (c k) (h k) m s) excluded x.comparable.1 x.without;
        formed = (
          each_to (λ e. OfKind n e → Comparable n e) (λ e. OfKind n e → Formed n e) (λ e c k. formed_by n e (c k)) permitted x.comparable.0,
          each_to (λ e. OfKind n e → Comparable n e) (λ e. OfKind n e → Formed n e) (λ e c k. formed_by n e (c k)) excluded x.comparable.1,
        );
      }

  -- what is of a kind with no entry conforms
  pub nothing : (n : General) → Each (λ e. OfKind n e → ⊥) permitted → Each (λ e. OfKind n e → ⊥) excluded → Conforms other permitted excluded n
  nothing n a b =
      record {
        within = λ m s some. absurd (none_some n permitted a some);
        without = λ m s. each_to (λ e. OfKind n e → ⊥) (λ e. OfKind n e → Touches other e m → ⊥) (λ e h k t. h k) excluded b;
        formed = (
          each_to (λ e. OfKind n e → ⊥) (λ e. OfKind n e → Formed n e) (λ e h k. absurd (h k)) permitted a,
          each_to (λ e. OfKind n e → ⊥) (λ e. OfKind n e → Formed n e) (λ e h k. absurd (h k)) excluded b,
        );
      }
