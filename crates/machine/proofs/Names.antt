-- No check of name constraints refuses with the number that says that a budget is used up: what such a number says is that the budget was. Assumes nothing.
use Prim.Native.Nat.{ℕ, zero, suc, ◌-◌, ◌*◌}
use mathlib.Core.Path.{◌≡◌}
use mathlib.Core.Bool.{Bool, true, false, cond}
use mathlib.Core.List.{List, [], ◌∷◌}
use native.Mathlib.Omega.{arith}
use lib.Dec.{ltb, leb, eqb}
use lib.ListN.{length, get_or, take, drop}
use Rattle.refusal.specs.Refusals.{bad_der, maximum_name_constraint_comparisons_exceeded}
use Rattle.refusal.proofs.Laws.{Mild}
use Rattle.der.specs.Loop.{run, walk}
use Rattle.der.specs.Model.{read_value, of_tag, expect_at, on_content}
use Rattle.der.specs.Places.{part}
use Rattle.cert.specs.declared.Certificate.{Certificate}
use Rattle.ip.specs.declared.Masked.{Masked}
use Rattle.ip.specs.declared.Masked.TheVariants.{Same, Differs, Broken}
use Rattle.labels.specs.Model.{valid_presented, valid_entry}
use Rattle.dns.specs.Model.{match_permitted, match_excluded}
use Rattle.ip.specs.Model.{neither, masked_byte, on_masked, subnet_from, match_subnet}
use Rattle.names.specs.Model.{is_kind, of_kind, general_name}
use Rattle.entries.specs.declared.Seen.{Seen}
use Rattle.entries.specs.Tally.{Tally, tally, clean, after}
use Rattle.entries.specs.Model.{on_name, base_at, compared, settled, on_base, judged, unseen, closed, ended, go_on, entries}
use Rattle.subtrees.specs.declared.Subtrees.{Subtrees}
use Rattle.subtrees.specs.Noted.{Noted}
use Rattle.subtrees.specs.Model.{list_at, subtrees_at, name, next_name, alternatives, on_read, certificate_as}
use Rattle.constraints.specs.Model.{below_in, on_lists, constraints_in, own_in, anchored_in, issuers_in, path_constraints_in}
use Rattle.dialogue.specs.Model.{Path}
use Rattle.rows.specs.Model.{outlined}
use Rattle.lent.specs.Lent.{some_of}
use Rattle.machine.specs.World.{is_bound, constrained_as, names_in}
use Rattle.std.specs.Prelude.{None, Ok, Err, Some, Option, Result}
use Rattle.der.specs.declared.Value.{Value}
use Rattle.der.specs.declared.Span.{Span}
use Rattle.cert.specs.Model.{Reading}
use Rattle.names.specs.declared.general.Name.{Name}

abbrev MildAnswer : Result Bool ℕ → Type 0
MildAnswer (Ok b) = Unit {0}
MildAnswer (Err e) = Mild e

abbrev MildName : Result Name ℕ → Type 0
MildName (Ok v) = Unit {0}
MildName (Err e) = Mild e

abbrev MildGot : Result Span ℕ → Type 0
MildGot (Ok p) = Unit {0}
MildGot (Err e) = Mild e

abbrev MildBase : Result Name ℕ → Type 0
MildBase (Ok v) = Unit {0}
MildBase (Err e) = Mild e

abbrev MildStep : Result (ℕ × Seen) ℕ → Type 0
MildStep (Ok v) = Unit {0}
MildStep (Err e) = Mild e

abbrev MildLists : Result Subtrees ℕ → Type 0
MildLists (Ok lists) = Unit {0}
MildLists (Err e) = Mild e

abbrev MildTally : Tally → Type 0
MildTally t = Mild t.refusal

both : {A : Type 0} (P : A → Type 0) (b : Bool) (x y : A) → P x → P y → P (cond b x y)
both P true x y p q = p
both P false x y p q = q

-- ---- reading
mild_expect : (s : List ℕ) (from to tag : ℕ) → MildGot (expect_at s from to tag bad_der)
unfolding expect_at of_tag
mild_expect s from to tag = by (read_value s from to)
  where
    by : (r : Option Value) → MildGot (of_tag tag bad_der r)
    by (Some v) = both MildGot (eqb v.tag tag) _ _ tt (omega arith)
    by None = omega arith

mild_name : (s : List ℕ) (from to : ℕ) → MildName (general_name s from to)
unfolding general_name of_kind
mild_name s from to = by (read_value s from to)
  where
    by : (r : Option Value) → MildName (of_kind r)
    by (Some v) = both MildName (is_kind v.tag) _ _ tt (omega arith)
    by None = omega arith

mild_content : {R : Type 0} (P : R → Type 0) (g : Result Span ℕ) (other : ℕ → R) (k : ℕ → ℕ → R) → MildGot g → ((e : ℕ) → Mild e → P (other e)) → ((a b : ℕ) → P (k a b)) → P (on_content g other k)
unfolding on_content
mild_content P (Ok p) other k m f h = h p.start p.end
mild_content P (Err e) other k m f h = f e m

mild_found : {R : Type 0} (P : R → Type 0) (g : Result Name ℕ) (other : ℕ → R) (k : ℕ → ℕ → ℕ → R) → MildName g → ((e : ℕ) → Mild e → P (other e)) → ((n a b : ℕ) → P (k n a b)) → P (on_name g other k)
unfolding on_name
mild_found P (Ok v) other k m f h = h v.kind v.start v.end
mild_found P (Err e) other k m f h = f e m

mild_base : (s : List ℕ) (at to : ℕ) → MildBase (base_at s at to)
unfolding base_at
mild_base s at to =
    mild_content MildBase (expect_at s at to 48 bad_der) _ _ (mild_expect s at to 48) (λ e m. m)
    (λ a b. mild_found MildBase (general_name s a b) _ _ (mild_name s a b) (λ e m. m)
    (λ n c d. both MildBase (eqb d b) _ _ tt (omega arith)))

-- ---- one comparison
mild_permitted : (p q : List ℕ) → MildAnswer (match_permitted p q)
unfolding match_permitted
mild_permitted p q =
    both MildAnswer (valid_presented p) _ _ (both MildAnswer (valid_entry q) _ _ tt (omega arith)) (omega arith)

mild_excluded : (p q : List ℕ) → MildAnswer (match_excluded p q)
unfolding match_excluded
mild_excluded p q =
    both MildAnswer (valid_presented p) _ _ (both MildAnswer (valid_entry q) _ _ tt (omega arith)) (omega arith)

mild_masked : (m : Masked) (a : Result Bool ℕ) → MildAnswer a → MildAnswer (on_masked m a)
unfolding on_masked
mild_masked Same a h = h
mild_masked Differs a h = tt
mild_masked Broken a h = omega arith

mild_from : (full : Bool) (p a ms : List ℕ) → MildAnswer (subnet_from full p a ms)
unfolding subnet_from
mild_from full [] a ms = tt
mild_from full (x ∷ p) [] ms = tt
mild_from full (x ∷ p) (y ∷ a) [] = tt
mild_from full (x ∷ p) (y ∷ a) (m ∷ ms) = mild_masked (masked_byte full m x y) _ (mild_from (eqb m 255) p a ms)

mild_subnet : (p q : List ℕ) → MildAnswer (match_subnet p q)
unfolding match_subnet
mild_subnet p q =
    both MildAnswer (neither (length p) 4 16) _ _ (omega arith)
    (both MildAnswer (neither (length q) 8 32) _ _ (omega arith)
    (both MildAnswer (eqb (length q) (length p * 2)) _ _ (mild_from true p (take (length p) q) (drop (length p) q)) tt))

mild_compared : (excluded : Bool) (kind : ℕ) (p q : List ℕ) → MildAnswer (compared excluded kind p q)
unfolding compared
mild_compared excluded kind p q =
    both MildAnswer (eqb kind 130) _ _ (both MildAnswer excluded _ _ (mild_excluded p q) (mild_permitted p q))
    (both MildAnswer (eqb kind 135) _ _ (mild_subnet p q)
    (both MildAnswer (eqb kind 164) _ _ (both MildAnswer excluded _ _ tt tt)
    (both MildAnswer (eqb kind 134) _ _ (both MildAnswer excluded _ _ tt tt) (omega arith))))

mild_settled : (excluded : Bool) (seen : Seen) (next : ℕ) (a : Result Bool ℕ) → MildAnswer a → MildStep (settled excluded seen next a)
unfolding settled
mild_settled excluded seen next (Ok true) m = both MildStep excluded _ _ (omega arith) tt
mild_settled excluded seen next (Ok false) m = both MildStep excluded _ _ tt tt
mild_settled excluded seen next (Err e) m = m

mild_on_base : (b : Result Name ℕ) (k : ℕ → ℕ → ℕ → Result (ℕ × Seen) ℕ) → MildBase b → ((n a d : ℕ) → MildStep (k n a d)) → MildStep (on_base b Err k)
unfolding on_base
mild_on_base (Ok v) k m h = h v.kind v.start v.end
mild_on_base (Err e) k m h = m

mild_judged : (s : List ℕ) (to : ℕ) (excluded : Bool) (kind : ℕ) (p : List ℕ) (at : ℕ) (seen : Seen) → MildStep (judged s to excluded kind p at seen)
unfolding judged
mild_judged s to excluded kind p at seen =
    mild_on_base (base_at s at to) _ (mild_base s at to)
    (λ n a d. both MildStep (eqb n kind) _ _ (mild_settled excluded seen d (compared excluded kind p (part s a d)) (mild_compared excluded kind p (part s a d))) tt)

-- ---- walks
module _ {S : Type 0} (to : ℕ) (done : ℕ → S → Tally) (step : ℕ → S → (ℕ → S → Tally) → Tally)
    (ends : (at : ℕ) (s : S) → MildTally (done at s))
    (goes : (at : ℕ) (s : S) (k : ℕ → S → Tally) → ((a : ℕ) (t : S) → MildTally (k a t)) → MildTally (step at s k)) where
  mild_run : (fuel at : ℕ) (s : S) → MildTally (run to done step fuel at s)
  unfolding run
  mild_run zero at s = ends at s
  mild_run (suc fuel) at s = both MildTally (ltb at to) _ _ (goes at s (run to done step fuel) (mild_run fuel)) (ends at s)

  mild_walk : (from : ℕ) (s : S) → MildTally (walk to done step from s)
  unfolding walk
  mild_walk from s = mild_run (to - from) from s

mild_after : (a b : Tally) → MildTally a → MildTally b → MildTally (after a b)
unfolding after
mild_after a b m n = both MildTally (eqb a.refusal 0) _ _ n m

mild_closed : (seen : Seen) → Mild (closed seen)
unfolding closed
mild_closed seen = both Mild seen.hit _ _ (omega arith) (both Mild seen.miss _ _ (omega arith) (omega arith))

mild_on : (x : Result (ℕ × Seen) ℕ) (k : ℕ → Seen → Tally) → MildStep x → ((a : ℕ) (t : Seen) → MildTally (k a t)) → MildTally (go_on x k)
unfolding go_on
mild_on (Ok v) k m h = mild_after (tally 1 0) (k v.0 v.1) (omega arith) (h v.0 v.1)
mild_on (Err e) k m h = m

mild_ended : (at : ℕ) (seen : Seen) → MildTally (ended at seen)
unfolding ended
mild_ended at seen = mild_closed seen

mild_entries : (s : List ℕ) (from to : ℕ) (excluded : Bool) (kind : ℕ) (p : List ℕ) → MildTally (entries s from to excluded kind p)
unfolding entries
mild_entries s from to excluded kind p =
    mild_walk to ended _ mild_ended (λ at seen k h. mild_on (judged s to excluded kind p at seen) k (mild_judged s to excluded kind p at seen) h) from unseen

mild_both : (s : List ℕ) (lists : Subtrees) (kind : ℕ) (p : List ℕ) → MildTally (name s lists kind p)
unfolding name
mild_both s lists kind p = mild_after _ _ (mild_entries s _ _ false kind p) (mild_entries s _ _ true kind p)

mild_next : (s : List ℕ) (lists : Subtrees) (t : List ℕ) (n : Result Name ℕ) (k : ℕ → Unit {0} → Tally) → MildName n → ((a : ℕ) (u : Unit {0}) → MildTally (k a u)) → MildTally (next_name s lists t n k)
unfolding next_name
mild_next s lists t n k m h =
    mild_found MildTally n _ _ m (λ e l. l) (λ kind a b. mild_after _ _ (mild_both s lists kind (part t a b)) (h b tt))

mild_alternatives : (s : List ℕ) (lists : Subtrees) (t : List ℕ) (from to : ℕ) → MildTally (alternatives s lists t from to)
unfolding alternatives
mild_alternatives s lists t from to =
    mild_walk to _ _ (λ at u. omega arith) (λ at u k h. mild_next s lists t (general_name t at to) k (mild_name t at to) h) from tt

-- ---- certificates and issuers
mild_read : (r : Reading) (k : Certificate → Tally) → ((c : Certificate) → MildTally (k c)) → MildTally (on_read r (tally 0 bad_der) k)
unfolding on_read
mild_read (Ok c) k h = h c
mild_read (Err e) k h = omega arith

mild_certificate : (s : List ℕ) (lists : Subtrees) (t : Noted) → MildTally (certificate_as s lists t)
unfolding certificate_as
mild_certificate s lists t =
    mild_read t.reading _ (λ c. mild_after _ _ (mild_alternatives s lists t.bytes _ _) (mild_both s lists 164 _))

mild_below : (s : List ℕ) (lists : Subtrees) (cs : List Noted) → MildTally (below_in s lists cs)
unfolding below_in
mild_below s lists [] = omega arith
mild_below s lists (c ∷ cs) = mild_after _ _ (mild_certificate s lists c) (mild_below s lists cs)

mild_list : (s : List ℕ) (from to tag : ℕ) → MildGot (list_at s from to tag)
unfolding list_at
mild_list s from to tag =
    both MildGot (ltb (length s) to) _ _ (omega arith)
    (both MildGot (leb to from) _ _ tt
    (both MildGot (eqb (get_or s from 0) tag) _ _ (mild_expect s from to tag) tt))

mild_subtrees : (s : List ℕ) (from to : ℕ) → MildLists (subtrees_at s from to)
unfolding subtrees_at
mild_subtrees s from to =
    mild_content MildLists (list_at s from to 160) _ _ (mild_list s from to 160) (λ e m. m)
    (λ a b. mild_content MildLists (list_at s b to 161) _ _ (mild_list s b to 161) (λ e m. m) (λ c d. tt))

mild_lists : (x : Result Subtrees ℕ) (k : Subtrees → Tally) → MildLists x → ((l : Subtrees) → MildTally (k l)) → MildTally (on_lists x (tally 0) k)
unfolding on_lists
mild_lists (Ok l) k m h = h l
mild_lists (Err e) k m h = m

mild_constraints : (s : List ℕ) (from to : ℕ) (cs : List Noted) → MildTally (constraints_in s from to cs)
unfolding constraints_in
mild_constraints s from to cs =
    mild_lists (subtrees_at s from to) _ (mild_subtrees s from to)
    (λ l. mild_after _ _ (mild_below s l cs) (both MildTally (eqb l.excluded.end to) clean (tally 0 bad_der) (omega arith) (omega arith)))

mild_own : (t : Noted) (cs : List Noted) → MildTally (own_in t cs)
unfolding own_in
mild_own t cs =
    mild_read t.reading _
    (λ c. both MildTally c.known.name_constraints.known (constraints_in t.bytes c.known.name_constraints.start c.known.name_constraints.end cs) clean (mild_constraints t.bytes _ _ cs) (omega arith))

mild_issuers : (cs : List Noted) → MildTally (issuers_in cs)
unfolding issuers_in
mild_issuers [] = omega arith
mild_issuers (c ∷ []) = omega arith
mild_issuers (c ∷ (d ∷ ds)) = mild_after _ _ (mild_own c (d ∷ ds)) (mild_issuers (d ∷ ds))

mild_anchored : (anchor : List ℕ) (bound : Bool) (cs : List Noted) → MildTally (anchored_in anchor bound cs)
unfolding anchored_in
mild_anchored anchor bound cs = both MildTally bound (constraints_in anchor 0 (length anchor) cs) clean (mild_constraints anchor 0 (length anchor) cs) (omega arith)

mild_path : (anchor : List ℕ) (bound : Bool) (cs : List Noted) → MildTally (path_constraints_in anchor bound cs)
unfolding path_constraints_in
mild_path anchor bound cs = mild_after _ _ (mild_anchored anchor bound cs) (mild_issuers cs)

pub never_spent : (R : ℕ → Reading) (I : List (List ℕ)) (E : List ℕ) (n : ℕ) (C : List (List ℕ)) (B : List ℕ) (k : ℕ) (p : Path) → (names_in R I E n C B k p).refusal ≡ maximum_name_constraint_comparisons_exceeded → ⊥
unfolding names_in
never_spent R I E n C B k p h =
    let m : Mild (names_in R I E n C B k p).refusal = both MildTally (is_bound C B k) _ _ (mild_path _ _ _) (both MildTally (some_of (λ n. constrained_as (outlined (R n))) p) _ _ (mild_path _ _ _) (omega arith)) in
    omega (arith, h)
