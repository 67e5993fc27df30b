-- EXACT, all: one issuer's constraints, the issuers, the path, the request. Assumes nothing.
use Prim.Native.Nat.{ℕ, ◌≤◌}
use mathlib.Core.Path.{◌≡◌, refl, sym, ap, ◌∙◌}
use mathlib.Core.List.{List, [], ◌∷◌, map}
use mathlib.Core.Bool.{Bool, true, false, cond, not}
use lib.ListN.{length, get_or}
use lib.Dec.{ltb, eqb}
use native.Mathlib.Omega.{arith}
use borrow.Author.Tests.{eqb-true, eqb-false, eq-eqb, lt-ltb}
use Rattle.refusal.specs.Refusals.{bad_der}
use Rattle.der.specs.Places.{Bytes, part}
use Rattle.der.proofs.Parts.{part_split, part_whole}
use Rattle.entries.specs.Tally.{Tally, tally, clean, after}
use Rattle.cert.specs.declared.Certificate.{Certificate}
use Rattle.cert.specs.Model.{read_certificate}
use Rattle.cert.proofs.Laws.{read_inside}
use Rattle.subtrees.specs.declared.Subtrees.{Subtrees}
use Rattle.subtrees.specs.Noted.{lent}
use Rattle.subtrees.specs.Model.{subtrees_at}
use Rattle.subtrees.proofs.Accepted.{both_pass}
use Rattle.subtrees.proofs.Refusals.{Listed, lists_listed}
use Rattle.constraints.specs.Cost.{EachBytes}
use Rattle.constraints.specs.Model.{below, constraints, own, anchored_in, issuers, issuers_in, path_constraints, path_constraints_in}
use Rattle.constraints.proofs.Turns.{constraints_are, constraints_none, own_bound, own_free}
use Rattle.checks.specs.Conditions.{absent, present, Contents}
use Rattle.checks.specs.Skeletons.{IsCertificate}
use Rattle.checks.proofs.Contents.{contents_of}
use Rattle.checks.proofs.Skeletons.{certificate_reads}
use Rattle.candidate.specs.Model.{is_flagged}
use Rattle.machine.specs.World.{is_bound, names_of}
use Rattle.conditions.specs.Request.{Request}
use Rattle.conditions.specs.Conditions.{bytes_of, Readable}
use Rattle.conditions.specs.Claims.{ExactlyType}
use Rattle.conditions.proofs.Lent.{all_bytes}
use Rattle.conditions.specs.Exactly.{Met, Own, Issuers, Passes, ExactlyMet, constraints_of}
use Rattle.subtrees.proofs.ExactLists.{permitted_in, excluded_in, after_passes}
use Rattle.subtrees.proofs.Fields.{subtrees_found, subtrees_read}
use Rattle.conditions.proofs.ExactPath.{Are', below_exact, below_read, below_clean}
use Rattle.std.specs.Prelude.{Ok, Err, Result}

-- ---- one issuer's constraints
module _ (s : List ℕ) (bytes : Bytes s) (from to : ℕ) (t : List ℕ) (ts : List (List ℕ)) (o : Contents) (os : List Contents) (bs : EachBytes (t ∷ ts)) (are : Are' (t ∷ ts) (o ∷ os)) where
  lists_met : (lists : Subtrees) → subtrees_at s from to ≡ Ok lists → lists.excluded.end ≡ to → (below s lists (t ∷ ts)).refusal ≡ 0 → Met Passes (part s from to) (o ∷ os)
  unfolding EachBytes Are'
  lists_met lists e h z =
      let l = subtrees_read s bytes from to lists e in
      let r = below_read s bytes lists t ts o bs.0 are.0 z in
      let f = l.first.field r.permitted_is in
      let g = l.second.field r.excluded_is in
      let w : lists.permitted.end ≤ to = omega (arith, l.second.later) in
      record {
        permitted = permitted_in s bytes lists;
        excluded = excluded_in s bytes lists;
        is = record {
          first = part s from lists.permitted.end;
          second = part s lists.permitted.end to;
          is = part_split s from lists.permitted.end to l.first.later w;
          permitted_is = f.0;
          excluded_is = rw (← h) g.0;
          named = (r.permitted_named, r.excluded_named);
        };
        short = (f.1, g.1);
        rule = below_exact s bytes lists (t ∷ ts) (o ∷ os) bs are z;
      }

  constraints_exact : (constraints s from to (t ∷ ts)).refusal ≡ 0 → Met Passes (part s from to) (o ∷ os)
  constraints_exact z = go (subtrees_at s from to) refl
    where
      by_end : (lists : Subtrees) → subtrees_at s from to ≡ Ok lists → (after (below s lists (t ∷ ts)) (cond (eqb lists.excluded.end to) clean (tally 0 bad_der))).refusal ≡ 0 → (x : Bool) → eqb lists.excluded.end to ≡ x → Met Passes (part s from to) (o ∷ os)
      by_end lists e y true h = lists_met lists e (eqb-true _ _ h) (both_pass _ _ y).first
      by_end lists e y false h = absurd (let q : bad_der ≡ 0 = rw h at (both_pass (below s lists (t ∷ ts)) (cond (eqb lists.excluded.end to) clean (tally 0 bad_der)) y).second in omega arith)

      go : (l : Result Subtrees ℕ) → subtrees_at s from to ≡ l → Met Passes (part s from to) (o ∷ os)
      go (Ok lists) e =
          let q = constraints_are s from to (map lent (t ∷ ts)) lists e in
          by_end lists e (ap (λ (x : Tally). x.refusal) (sym q) ∙ z) (eqb lists.excluded.end to) refl
      go (Err x) e =
          let n : Listed (Err x) = rw e at (lists_listed s from to) in
          absurd (n (ap (λ (y : Tally). y.refusal) (sym (constraints_none s from to (map lent (t ∷ ts)) x e)) ∙ z))

  constraints_clean : from ≤ to → to ≤ length s → Met Passes (part s from to) (o ∷ os) → (constraints s from to (t ∷ ts)).refusal ≡ 0
  constraints_clean a l m =
      let f = subtrees_found s bytes from to a l m.permitted m.excluded m.is m.short in
      let q = constraints_are s from to (map lent (t ∷ ts)) f.lists f.is in
      let e : (cond (eqb f.lists.excluded.end to) clean (tally 0 bad_der)).refusal ≡ 0 = rw (eq-eqb _ _ f.all) in
      ap (λ (y : Tally). y.refusal) q ∙ after_passes _ _ (below_clean s bytes f.lists m.permitted m.excluded f.both (t ∷ ts) (o ∷ os) bs are m.rule) e

-- ---- an issuer's own
module _ (t : List ℕ) (bt : Bytes t) (p : Contents) (isc : IsCertificate t p) (d : List ℕ) (ds : List (List ℕ)) (o : Contents) (os : List Contents) (bs : EachBytes (d ∷ ds)) (are : Are' (d ∷ ds) (o ∷ os)) where
  own_both : ((own t (d ∷ ds)).refusal ≡ 0 → Own Passes p.name_constraints (o ∷ os)) × (Own Passes p.name_constraints (o ∷ os) → (own t (d ∷ ds)).refusal ≡ 0)
  own_both = let r = certificate_reads t p isc in go r.0 r.1 r.2
    where
      go : (c : Certificate) → read_certificate t true ≡ Ok c → contents_of t c ≡ p → ((own t (d ∷ ds)).refusal ≡ 0 → Own Passes p.name_constraints (o ∷ os)) × (Own Passes p.name_constraints (o ∷ os) → (own t (d ∷ ds)).refusal ≡ 0)
      go c e f = by c.known.name_constraints.known refl
        where
          from : ℕ
          from = c.known.name_constraints.start

          by : (x : Bool) → c.known.name_constraints.known ≡ x → ((own t (d ∷ ds)).refusal ≡ 0 → Own Passes p.name_constraints (o ∷ os)) × (Own Passes p.name_constraints (o ∷ os) → (own t (d ∷ ds)).refusal ≡ 0)
          by true h =
              let q = own_bound (lent t) (map lent (d ∷ ds)) c e h in
              let n : p.name_constraints ≡ present (part t c.known.name_constraints.start c.known.name_constraints.end) = ap (λ (y : Contents). y.name_constraints) (sym f) ∙ rw h in
              let i = (read_inside t bt true c e).known.name_constraints in (
                λ z. rw n (constraints_exact t bt _ _ d ds o os bs are (ap (λ (y : Tally). y.refusal) (sym q) ∙ z)),
                λ m. ap (λ (y : Tally). y.refusal) q ∙ constraints_clean t bt _ _ d ds o os bs are i.ordered i.inside (rw n at m),
              )
          by false h =
              let q = own_free (lent t) (map lent (d ∷ ds)) c e h in
              let n : p.name_constraints ≡ absent = ap (λ (y : Contents). y.name_constraints) (sym f) ∙ rw h in
              (λ z. rw n tt, λ m. ap (λ (y : Tally). y.refusal) q)

-- ---- the issuers
issuers_exact : (ts : List (List ℕ)) (os : List Contents) → EachBytes ts → Are' ts os → (issuers ts).refusal ≡ 0 → Issuers Passes os
unfolding issuers_in EachBytes Are' Issuers
issuers_exact [] [] b a z = tt
issuers_exact [] (o ∷ os) b a z = absurd a
issuers_exact (t ∷ ts) [] b a z = absurd a
issuers_exact (t ∷ []) (o ∷ []) b a z = tt
issuers_exact (t ∷ []) (o ∷ (p ∷ os)) b a z = absurd a.1
issuers_exact (t ∷ (d ∷ ds)) (o ∷ []) b a z = absurd a.1
issuers_exact (t ∷ (d ∷ ds)) (o ∷ (p ∷ os)) b a z =
    let y = both_pass _ _ z in
    ((own_both t b.0 o a.0 d ds p os b.1 a.1).0 y.first, issuers_exact (d ∷ ds) (p ∷ os) b.1 a.1 y.second)

issuers_clean : (ts : List (List ℕ)) (os : List Contents) → EachBytes ts → Are' ts os → Issuers Passes os → (issuers ts).refusal ≡ 0
unfolding issuers_in EachBytes Are' Issuers
issuers_clean [] [] b a x = refl
issuers_clean [] (o ∷ os) b a x = absurd a
issuers_clean (t ∷ ts) [] b a x = absurd a
issuers_clean (t ∷ []) (o ∷ []) b a x = refl
issuers_clean (t ∷ []) (o ∷ (p ∷ os)) b a x = absurd a.1
issuers_clean (t ∷ (d ∷ ds)) (o ∷ []) b a x = absurd a.1
issuers_clean (t ∷ (d ∷ ds)) (o ∷ (p ∷ os)) b a x =
    after_passes _ _ ((own_both t b.0 o a.0 d ds p os b.1 a.1).1 x.0) (issuers_clean (d ∷ ds) (p ∷ os) b.1 a.1 x.1)

-- ---- the path
module _ (t : List ℕ) (ts : List (List ℕ)) (o : Contents) (os : List Contents) (bs : EachBytes (t ∷ ts)) (are : Are' (t ∷ ts) (o ∷ os)) (anchor : List ℕ) (ba : Bytes anchor) where
  bound_both : ((path_constraints anchor true (t ∷ ts)).refusal ≡ 0 → ExactlyMet (present anchor) (o ∷ os)) × (ExactlyMet (present anchor) (o ∷ os) → (path_constraints anchor true (t ∷ ts)).refusal ≡ 0)
  unfolding path_constraints_in anchored_in
  bound_both = (
    λ z.
        let b = both_pass (constraints anchor 0 (length anchor) (t ∷ ts)) (issuers (t ∷ ts)) z in
        let m : Met Passes (part anchor 0 (length anchor)) (o ∷ os) = constraints_exact anchor ba 0 (length anchor) t ts o os bs are b.first in
        record { anchor_met = rw (part_whole anchor) at m; issuers_met = issuers_exact (t ∷ ts) (o ∷ os) bs are b.second },
    λ x.
        let m : Met Passes (part anchor 0 (length anchor)) (o ∷ os) = rw (part_whole anchor) x.anchor_met in
        after_passes (constraints anchor 0 (length anchor) (t ∷ ts)) (issuers (t ∷ ts)) (constraints_clean anchor ba 0 (length anchor) t ts o os bs are (omega arith) (omega arith) m) (issuers_clean (t ∷ ts) (o ∷ os) bs are x.issuers_met),
  )

  free_both : ((path_constraints anchor false (t ∷ ts)).refusal ≡ 0 → ExactlyMet absent (o ∷ os)) × (ExactlyMet absent (o ∷ os) → (path_constraints anchor false (t ∷ ts)).refusal ≡ 0)
  unfolding path_constraints_in anchored_in
  free_both = (
    λ z. record { anchor_met = tt; issuers_met = issuers_exact (t ∷ ts) (o ∷ os) bs are (both_pass clean (issuers (t ∷ ts)) z).second },
    λ x. after_passes clean (issuers (t ∷ ts)) refl (issuers_clean (t ∷ ts) (o ∷ os) bs are x.issuers_met),
  )

-- ---- the request
all_are : (R : Request) (path : List ℕ) (os : List Contents) → Readable R path os → Are' (map (bytes_of R) path) os
unfolding Readable Are'
all_are R [] [] r = tt
all_are R [] (o ∷ os) r = absurd r
all_are R (n ∷ ns) [] r = absurd r
all_are R (n ∷ ns) (o ∷ os) r = (r.0, all_are R ns os r.1)

-- THEOREM
pub exactly : ExactlyType
unfolding names_of is_bound is_flagged constraints_of Readable
exactly R lends anchor n whole path [] r = absurd r
exactly R lends anchor n whole path (o ∷ os) r = by (eqb (get_or R.bound anchor 0) 0) refl
  where
    bs : EachBytes (map (bytes_of R) (n ∷ path))
    bs = all_bytes R lends (n ∷ path)

    are : Are' (map (bytes_of R) (n ∷ path)) (o ∷ os)
    are = all_are R (n ∷ path) (o ∷ os) r

    by : (x : Bool) → eqb (get_or R.bound anchor 0) 0 ≡ x
        → ((path_constraints (get_or R.constraints anchor []) (cond (not x) (ltb anchor (length R.constraints)) false) (map (bytes_of R) (n ∷ path))).refusal ≡ 0
        → ExactlyMet (cond x absent (present (get_or R.constraints anchor []))) (o ∷ os))
        × (ExactlyMet (cond x absent (present (get_or R.constraints anchor []))) (o ∷ os)
        → (path_constraints (get_or R.constraints anchor []) (cond (not x) (ltb anchor (length R.constraints)) false) (map (bytes_of R) (n ∷ path))).refusal ≡ 0)
    by true h = free_both (bytes_of R n) (map (bytes_of R) path) o os bs are (get_or R.constraints anchor []) (lends.constraints anchor)
    by false h =
        rw (lt-ltb anchor (length R.constraints) (whole (eqb-false _ _ h)))
        (bound_both (bytes_of R n) (map (bytes_of R) path) o os bs are (get_or R.constraints anchor []) (lends.constraints anchor))
