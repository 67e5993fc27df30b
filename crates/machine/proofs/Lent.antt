-- Laws of the world of a request that the functions' proofs cite. Assumes nothing.
use Prim.Native.Nat.{ℕ, zero, suc, ◌+◌, ◌-◌, ◌≤◌, ◌<◌}
use mathlib.Core.Path.{◌≡◌, refl, sym, ap, subst, ◌∙◌}
use mathlib.Core.Bool.{Bool, true, false, cond}
use mathlib.Core.Logic.{⊎_elim}
use mathlib.Core.List.{List, [], ◌∷◌, map}
use native.Mathlib.Omega.{arith}
use lib.Dec.{ltb, eqb}
use lib.ListN.{length, get_or, set, length-map}
use borrow.Author.Tests.{le-leb, ltb-true, eqb-true}
use Rattle.refusal.specs.Model.{outcome}
use Rattle.refusal.specs.Refusals.{bad_der, invalid_signature_for_public_key, unsupported_signature_algorithm, unsupported_signature_algorithm_for_public_key, maximum_name_constraint_comparisons_exceeded}
use Rattle.der.proofs.Laws.{lt_or_le}
use Rattle.lent.specs.declared.Lent.{Lent}
use Rattle.lent.specs.declared.Request.{Request}
use Rattle.lent.specs.Lent.{certificate_of, readings_of, readings_in, pre, some_of, each_now, readings, lent_of}
use Rattle.cert.specs.Model.{read_certificate, Reading}
use Rattle.rows.specs.Model.{outlined}
use Rattle.table.specs.Model.{Held}
use Rattle.asked.specs.Model.{reply_in}
use Rattle.path.specs.Model.{check_in}
use Rattle.candidate.specs.Model.{is_flagged, verdict_in}
use Rattle.lent.proofs.Laws.{held_readings}
use Rattle.entries.specs.Tally.{Spent, Tally, clean, after, spend}
use Rattle.entries.proofs.Spending.{enough, lacking}
use Rattle.subtrees.specs.Noted.{Noted, lent}
use Rattle.constraints.specs.Paths.{noted_of, cert_at, certs_at}
use Rattle.subtrees.specs.Model.{on_read}
use Rattle.constraints.specs.Model.{own_in, own, anchored_in, issuers_in, issuers as those_of, path_constraints_in, path_constraints}
use Rattle.dialogue.specs.Model.{Path, World}
use Rattle.machine.specs.World.{meaning_of, is_bound, names_of, constrained_as, names_in, world_of, world_in, Judges, checks_by, JudgesBy, end_by, world_by}
use Rattle.machine.proofs.Levels.{pre_push}
use Rattle.std.specs.Prelude.{Ok, Err}

-- ---- an outcome that is a refusal is not that of 0
pub outcome_not : (n e : ℕ) → outcome n ≡ Err e → e ≡ 0 → ⊥
unfolding outcome
outcome_not zero e h z = cc h
outcome_not (suc n) e h z = let q : suc n ≡ e = cc h in omega arith

-- ---- the checks of a path with one more certificate
pub checks_push : (W : World) (R : ℕ → Reading) (I : List (List ℕ)) (E : List ℕ) (n : ℕ) (D : List (List ℕ)) (t : ℕ) (w : List ℕ) (m : Bool) → ((p : Path) → W.check p ≡ check_in R I E n D t w m p)
    → (path : List ℕ) (d i x : ℕ) → d + 1 < length path → x ≡ check_in R I E n D t w m (pre (set path (d + 1) i) (d + 1)) → W.check (i ∷ pre path d) ≡ x
checks_push W R I E n D t w m h path d i x l e =
    h (i ∷ pre path d) ∙ ap (check_in R I E n D t w m) (sym (pre_push path d i l)) ∙ sym e

-- ---- 0 and nothing else is yes
pub only_yes : (a : ℕ) → meaning_of a ≡ 0 → a ≡ 0
unfolding meaning_of
only_yes a h = by (eqb a 0) refl (eqb a 2) (eqb a 3) (eqb a 4) h
  where
    by : (b : Bool) → eqb a 0 ≡ b → (c d e : Bool)
        → cond b 0 (cond c unsupported_signature_algorithm (cond d unsupported_signature_algorithm_for_public_key (cond e bad_der invalid_signature_for_public_key))) ≡ 0 → a ≡ 0
    by true q c d e z = eqb-true a 0 q
    by false q true d e z = absurd (omega arith)
    by false q false true e z = absurd (omega arith)
    by false q false false true z = absurd (omega arith)
    by false q false false false z = absurd (omega arith)

-- what an answer comes to, by the question that it answers and what it stands for
pub replied : (R : ℕ → Reading) (I : List (List ℕ)) (E : List ℕ) (K : List (List ℕ)) (n key key' m a x : ℕ) → x ≡ reply_in R I E K n key m → key ≡ key' → m ≡ meaning_of a → reply_in R I E K n key' (meaning_of a) ≡ x
replied R I E K n key key' m a x e k w = sym (e ∙ ap (λ (j : ℕ). reply_in R I E K n j m) k ∙ ap (reply_in R I E K n key') w)

-- ---- the name constraints of a path, by what a table says
module _ (T I : List (List ℕ)) (E : List ℕ) (anchors : ℕ) (C : List (List ℕ)) (B : List ℕ) (k : ℕ) (path : List ℕ) (d left : ℕ) (x : Spent) where
  pub names_bound : x ≡ spend left (path_constraints_in (get_or C k []) true (certs_at (cert_at T I E anchors) path d)) → is_bound C B k ≡ true → x ≡ spend left (names_in (readings_in T I E anchors) I E anchors C B k (pre path d))
  unfolding names_in certs_at
  names_bound e b = rw b e

  pub names_free : (other : List ℕ) → x ≡ spend left (path_constraints_in other false (certs_at (cert_at T I E anchors) path d)) → is_bound C B k ≡ false
      → some_of (λ n. constrained_as (outlined (readings_in T I E anchors n))) (pre path d) ≡ true → x ≡ spend left (names_in (readings_in T I E anchors) I E anchors C B k (pre path d))
  unfolding names_in certs_at path_constraints_in anchored_in
  names_free other e b c = rw (b, c) e

-- where nobody is known to have name constraints, nothing is taken and nothing refused
pub names_bare : (R : ℕ → Reading) (I : List (List ℕ)) (E : List ℕ) (anchors : ℕ) (C : List (List ℕ)) (B : List ℕ) (k : ℕ) (path : List ℕ) (left : ℕ) → is_bound C B k ≡ false → some_of (λ n. constrained_as (outlined (R n))) path ≡ false
    → record { left = left; refusal = 0 } ≡ spend left (names_in R I E anchors C B k path)
unfolding names_in spend
names_bare R I E anchors C B k path left b c = let z : left - 0 ≡ left = omega arith in rw (b, c, le-leb 0 left (omega arith), z)

-- an anchor that is bound has its constraints in the list
pub bound_there : (C : List (List ℕ)) (B : List ℕ) (k : ℕ) → is_bound C B k ≡ true → k < length C
unfolding is_bound
bound_there C B k e = by (is_flagged B k) e
  where
    by : (a : Bool) → cond a (ltb k (length C)) false ≡ true → k < length C
    by true e = ltb-true k (length C) e
    by false e = let z : ◌≡◌ {A = ℕ} 0 1 = cc in absurd (omega arith)

-- ---- what is left of the comparisons
module _ (n : ℕ) (t : Tally) (x : Spent) (e : x ≡ spend n t) where
  pub spent_out : (t.refusal ≡ maximum_name_constraint_comparisons_exceeded → ⊥) → x.refusal ≡ maximum_name_constraint_comparisons_exceeded → n < t.taken
  spent_out never h =
      ⊎_elim (λ (l : n < t.taken). l)
      (λ (l : t.taken ≤ n). absurd (never (sym (ap (λ (y : Spent). y.refusal) (e ∙ enough n t l)) ∙ h)))
      (lt_or_le n t.taken)

  pub spent_fits : (x.refusal ≡ maximum_name_constraint_comparisons_exceeded → ⊥) → t.taken ≤ n
  spent_fits h =
      ⊎_elim (λ (l : n < t.taken). absurd (h (ap (λ (y : Spent). y.refusal) (e ∙ lacking n t l))))
      (λ (l : t.taken ≤ n). l)
      (lt_or_le n t.taken)

  pub spent_left : (x.refusal ≡ maximum_name_constraint_comparisons_exceeded → ⊥) → x.left ≡ n - t.taken
  spent_left h = ap (λ (y : Spent). y.left) (e ∙ enough n t (spent_fits h))

  pub spent_refusal : (x.refusal ≡ maximum_name_constraint_comparisons_exceeded → ⊥) → t.refusal ≡ x.refusal
  spent_refusal h = sym (ap (λ (y : Spent). y.refusal) (e ∙ enough n t (spent_fits h)))

-- ---- a world's answers and names, where the anchors are counted
pub judges : (R : ℕ → Reading) (I : List (List ℕ)) (E : List ℕ) (S K C : List (List ℕ)) (B : List ℕ) (D : List (List ℕ)) (t : ℕ) (w : List ℕ) (m : Bool) (n : ℕ) → n ≡ length S
    → Judges (world_in R I E S K C B D t w m) R I E K C B n
unfolding world_in
judges R I E S K C B D t w m n e = record {
  after = λ key what below k. refl;
  reply = λ key what a. ap (λ (k : ℕ). reply_in R I E K k key (meaning_of a)) (sym e);
  cost = λ anchor path. ap (λ (k : ℕ). (names_in R I E k C B anchor path).taken) (sym e);
  named = λ anchor path. ap (λ (k : ℕ). (names_in R I E k C B anchor path).refusal) (sym e);
}

-- ---- the same of what a request lends
pub request_candidates : (r : Request) → (world_by r).candidates ≡ end_by r
unfolding world_in
request_candidates r = omega (arith, length-map r.anchors.subjects.now (λ x. x.now), length-map r.issuers.now (λ x. x.now))

pub request_checks : (r : Request) (l : Lent) → l ≡ lent_of r → (p : Path) → (world_by r).check p ≡ checks_by l r.policy p
unfolding world_in
request_checks r l e p =
    ap (λ (n : ℕ). check_in (readings (lent_of r)) (each_now r.issuers.now) r.end.now n (each_now r.policy.distrusted.now) r.policy.time r.policy.purpose.now r.policy.demanded p) (length-map r.anchors.subjects.now (λ x. x.now))
    ∙ ap (λ (m : Lent). checks_by m r.policy p) (sym e)

pub request_judges : (r : Request) (l : Lent) → l ≡ lent_of r → JudgesBy (world_by r) l (each_now r.anchors.keys.now) r.anchors
request_judges r l e =
    subst (λ (m : Lent). JudgesBy (world_by r) m (each_now r.anchors.keys.now) r.anchors) (sym e)
    (judges _ _ _ _ _ _ _ _ _ _ _ _ (sym (length-map r.anchors.subjects.now (λ x. x.now))))

-- ---- what is known and what is read
module _ (I : List (List ℕ)) (E : List ℕ) (a : ℕ) where
  own_none : (r : Reading) (s : List ℕ) (cs : List (List ℕ)) → read_certificate s true ≡ r → constrained_as (outlined r) ≡ false → own s cs ≡ clean
  unfolding own_in on_read constrained_as outlined
  own_none (Ok c) s cs e f = rw (e, f)
  own_none (Err x) s cs e f = let z : ◌≡◌ {A = ℕ} 0 1 = cc in absurd (omega arith)

  -- a path on which nobody has name constraints
  abbrev Bare : List ℕ → Type 0
  Bare p = some_of (λ n. constrained_as (outlined (readings_of I E a n))) p ≡ false

  bare_one : (n : ℕ) (ns : List ℕ) → Bare (n ∷ ns) → (constrained_as (outlined (readings_of I E a n)) ≡ false) × Bare ns
  unfolding some_of
  bare_one n ns h = by (constrained_as (outlined (readings_of I E a n))) refl h
    where
      by : (b : Bool) → constrained_as (outlined (readings_of I E a n)) ≡ b → cond b true (some_of (λ n. constrained_as (outlined (readings_of I E a n))) ns) ≡ false → (constrained_as (outlined (readings_of I E a n)) ≡ false) × Bare ns
      by true e z = let y : ◌≡◌ {A = ℕ} 0 1 = cc in absurd (omega arith)
      by false e z = (e, z)

  bare_clean : (p : List ℕ) → Bare p → those_of (map (certificate_of I E a) p) ≡ clean
  unfolding issuers_in after
  bare_clean [] h = refl
  bare_clean (n ∷ []) h = refl
  bare_clean (n ∷ (m ∷ ms)) h =
      let q = bare_one n (m ∷ ms) h in
      rw (own_none (readings_of I E a n) (certificate_of I E a n) (map (certificate_of I E a) (m ∷ ms)) refl q.0, bare_clean (m ∷ ms) q.1)

  known_read : (p : List ℕ) → map (noted_of (readings_of I E a) I E a) p ≡ map lent (map (certificate_of I E a) p)
  known_read [] = refl
  known_read (n ∷ ns) = ap (λ (l : List Noted). lent (certificate_of I E a n) ∷ l) (known_read ns)

  names_same : (C : List (List ℕ)) (B : List ℕ) (k : ℕ) (p : List ℕ) → names_in (readings_of I E a) I E a C B k p ≡ names_of I E a C B k p
  unfolding names_in names_of path_constraints_in anchored_in after
  names_same C B k p = rw (known_read p) (by (is_bound C B k) (some_of (λ n. constrained_as (outlined (readings_of I E a n))) p) refl)
    where
      by : (b v : Bool) → some_of (λ n. constrained_as (outlined (readings_of I E a n))) p ≡ v
          → cond b (path_constraints (get_or C k []) b (map (certificate_of I E a) p)) (cond v (path_constraints (get_or C k []) b (map (certificate_of I E a) p)) clean) ≡ path_constraints (get_or C k []) b (map (certificate_of I E a) p)
      by true v h = refl
      by false true h = refl
      by false false h = rw (bare_clean p h)

-- where a table is held, the world that the machine sees is the world of the bytes
pub world_held : (T I : List (List ℕ)) (E : List ℕ) (S K C : List (List ℕ)) (B : List ℕ) (D : List (List ℕ)) (t : ℕ) (w : List ℕ) (m : Bool) (n : ℕ) → n ≡ length S → Held T I E
    → world_in (readings_in T I E n) I E S K C B D t w m ≡ world_of I E S K C B D t w m
unfolding world_in world_of
world_held T I E S K C B D t w m n q h =
    ap (λ (R : ℕ → Reading). world_in R I E S K C B D t w m) (held_readings T I E n h ∙ ap (readings_of I E) q) ∙ same
  where
    same : world_in (readings_of I E (length S)) I E S K C B D t w m ≡ world_of I E S K C B D t w m
    same = λ i. record {
      candidates = length S + length I;
      verdict = verdict_in (readings_of I E (length S)) I E S K C B D;
      check = check_in (readings_of I E (length S)) I E (length S) D t w m;
      after = λ key what below k. [];
      reply = λ key what answer. reply_in (readings_of I E (length S)) I E K (length S) key (meaning_of answer);
      cost = λ anchor path. (names_same I E (length S) C B anchor path i).taken;
      named = λ anchor path. (names_same I E (length S) C B anchor path i).refusal;
    }
