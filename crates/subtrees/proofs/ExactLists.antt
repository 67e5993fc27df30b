-- EXACT, one name and both lists: no refusal just if the name conforms exactly. Assumes nothing.
use Prim.Native.Nat.{ℕ, zero, suc, ◌+◌, ◌-◌, ◌≤◌, ◌<◌}
use mathlib.Core.Path.{◌≡◌, refl, sym, ap, ◌∙◌}
use mathlib.Core.List.{List, [], ◌∷◌, ◌++◌, append-nil}
use mathlib.Core.Bool.{Bool, true, false, cond}
use mathlib.Core.Logic.{◌⊎◌, inl, inr, ⊎_elim}
use lib.ListN.{length, length-append}
use lib.Dec.{eqb}
use native.Mathlib.Omega.{arith}
use borrow.Author.Tests.{eqb-true, eqb-false, eq-eqb, ne_eqb, lt-ltb, le-ltb}
use Rattle.refusal.specs.Refusals.{bad_der, name_constraint_violation}
use Rattle.der.specs.Places.{Bytes, part, LIMIT}
use Rattle.der.specs.X690.{encoding}
use Rattle.der.specs.Model.{high_tag, on_content}
use Rattle.der.specs.Loop.{run, walk}
use Rattle.der.proofs.Laws.{value_expect}
use Rattle.der.proofs.Laid.{laid_read}
use Rattle.der.proofs.Parts.{part_front, part_length}
use Rattle.extensions.proofs.Value.{encoded_length}
use Rattle.names.specs.General.{dns_name, ip_address, General, Named, Each}
use Rattle.names.specs.Model.{general_name, name_is}
use Rattle.names.proofs.Rows.{read_name}
use Rattle.entries.specs.declared.Seen.{Seen}
use Rattle.entries.specs.Tally.{Tally, tally, after}
use Rattle.entries.specs.Model.{on_name, base_at, compared, settled, on_base, judged, unseen, closed, ended, go_on, entries, next_is}
use Rattle.subtrees.specs.Rfc5280Names.{subtrees, Some, OfKind}
use Rattle.subtrees.proofs.Accepted.{Gone, end, other, hit, miss, out, gone_hit, gone_out, both_pass, bases, entries_pass}
use Rattle.subtrees.specs.ExactNames.{Comparable, host_names, addresses, Has, Hits, Exactly}
use Rattle.subtrees.specs.declared.Subtrees.{Subtrees}
use Rattle.subtrees.specs.Model.{name}
use Rattle.subtrees.proofs.Generals.{some_to, each_to, each_two, each_if, some_two, some_one, none_some, kinds_of}
use Rattle.subtrees.proofs.Exact.{yes_has, has_yes, comparable_answered, answered_comparable, no_clear, clear_no}
use Rattle.ip.proofs.Masks.{Answered}
use Rattle.entries.specs.Kinds.{directory_name}
use Rattle.std.specs.Prelude.{Ok}

abbrev pub BytesIn : General → Type 0
BytesIn e = Bytes e.content

-- ---- from the lists gone through to the relation
gone_answered : (kind : ℕ) (p : List ℕ) {seen last : Seen} (es : List General) → Gone false kind p seen es last → Each (λ e. e.kind ≡ kind → Answered (compared false kind p e.content)) es
unfolding Each
gone_answered kind p [] g = tt
gone_answered kind p (e ∷ es) (other n g) = (λ k. absurd (n k), gone_answered kind p es g)
gone_answered kind p (e ∷ es) (hit x k q g) = (λ j. inl q, gone_answered kind p es g)
gone_answered kind p (e ∷ es) (miss x k q g) = (λ j. inr q, gone_answered kind p es g)
gone_answered kind p (e ∷ es) (out x k q g) = absurd (let y : ◌≡◌ {A = ℕ} 0 1 = cc in omega arith)

module _ (n : General) (bn : Bytes n.content) (permitted excluded : List General) (bp : Each BytesIn permitted) (bx : Each BytesIn excluded) where
  known : {e : General} → Comparable n e → (n.kind ≡ dns_name) ⊎ (n.kind ≡ ip_address)
  known (host_names k a b) = inl k
  known (addresses k a b x) = inr k

  pub lists_exact : {last last' : Seen} → Gone false n.kind n.content unseen permitted last → closed last ≡ 0 → Gone true n.kind n.content unseen excluded last' → Exactly permitted excluded n
  lists_exact g z h =
      let yeses : Some (OfKind n) permitted → Some (λ e. OfKind n e × (Comparable n e × Has n e)) permitted = λ s.
      some_two (λ e. (e.kind ≡ n.kind) × (compared false n.kind n.content e.content ≡ Ok true)) BytesIn (λ e. OfKind n e × (Comparable n e × Has n e)) (λ e y be. (y.0, yes_has n e bn be y.1)) permitted (gone_hit n.kind n.content permitted g z s) bp in
      let kinds : Each (λ e. OfKind n e → (n.kind ≡ dns_name) ⊎ (n.kind ≡ ip_address)) permitted =
      each_if (OfKind n) _ permitted (λ s. some_one (λ e. OfKind n e × (Comparable n e × Has n e)) permitted (yeses s) (λ e y. known y.1.0)) in
      let both : Each (λ e. OfKind n e → Answered (compared false n.kind n.content e.content) × ((n.kind ≡ dns_name) ⊎ (n.kind ≡ ip_address))) permitted =
      each_two _ _ _ (λ e a o k. (a k, o k)) permitted (gone_answered n.kind n.content permitted g) kinds in
      let clear : Each (λ e. OfKind n e → Comparable n e × (Hits n e → ⊥)) excluded = each_two _ _ _ (λ e f be k. no_clear n e bn be (f k)) excluded (gone_out n.kind n.content excluded h) bx in
      record {
        comparable = (
          each_two _ _ _ (λ e a be k. answered_comparable n e bn be (a k).1 (a k).0) permitted both bp,
          each_to _ _ (λ e f k. (f k).0) excluded clear,
        );
        within = λ s. some_to _ _ (λ e y. (y.0, y.1.1)) permitted (yeses s);
        without = each_to _ _ (λ e f k. (f k).1) excluded clear;
      }

-- ---- from the relation to the lists gone through
-- what is still wanted of a permitted list: a hit, or nothing of the kind at all
data Wanted (n : General) (seen : Seen) (es : List General) : Type 0 where
  had : seen.hit ≡ true → Wanted n seen es
  has : Some (λ e. OfKind n e × Has n e) es → Wanted n seen es
  none : seen.miss ≡ false → Each (λ e. OfKind n e → ⊥) es → Wanted n seen es

pub record Through (excluded : Bool) (n : General) (seen : Seen) (es : List General) : Type 0 where
  pub last : Seen
  pub gone : Gone excluded n.kind n.content seen es last
  pub closes : closed last ≡ 0

module _ (n : General) (bn : Bytes n.content) where
  through_permitted : (seen : Seen) (es : List General) → Each BytesIn es → Each (λ e. OfKind n e → Comparable n e) es → Wanted n seen es → Through false n seen es
  unfolding Each Some closed
  through_permitted seen [] b c w = record { last = seen; gone = end; closes = go w }
    where
      go : Wanted n seen [] → cond seen.hit 0 (cond seen.miss name_constraint_violation 0) ≡ 0
      go (had h) = rw h
      go (has h) = absurd h
      go (none h k) = by seen.hit seen.miss h
        where
          by : (x y : Bool) → y ≡ false → cond x 0 (cond y name_constraint_violation 0) ≡ 0
          by true y e = refl
          by false y e = rw e
  through_permitted seen (e ∷ es) b c w = go (λ s v. through_permitted s es b.1 c.1 v) (eqb e.kind n.kind) refl
    where
      skip : (OfKind n e → ⊥) → Wanted n seen (e ∷ es) → Wanted n seen es
      skip k (had h) = had h
      skip k (has (inl h)) = absurd (k h.0)
      skip k (has (inr h)) = has h
      skip k (none h f) = none h f.1

      missed : OfKind n e → compared false n.kind n.content e.content ≡ Ok false → Wanted n seen (e ∷ es) → Wanted n (record { hit = seen.hit; miss = true }) es
      missed k y (had h) = had h
      missed k y (has (inl h)) = absurd (let z : Ok true ≡ Ok false = sym (has_yes n e bn b.0 (c.0 k) h.1) ∙ y in let q : ◌≡◌ {A = ℕ} 0 1 = cc in omega arith)
      missed k y (has (inr h)) = has h
      missed k y (none h f) = absurd (f.0 k)

      go : ((s : Seen) → Wanted n s es → Through false n s es) → (x : Bool) → eqb e.kind n.kind ≡ x → Through false n seen (e ∷ es)
      go later false h =
          let r = later seen (skip (eqb-false _ _ h) w) in
          record { last = r.last; gone = other (eqb-false _ _ h) r.gone; closes = r.closes }
      go later true h =
          let k : OfKind n e = eqb-true _ _ h in
          ⊎_elim
          (λ y. let r = later (record { hit = true; miss = seen.miss }) (had refl) in record { last = r.last; gone = hit refl k y r.gone; closes = r.closes })
          (λ y. let r = later (record { hit = seen.hit; miss = true }) (missed k y w) in record { last = r.last; gone = miss refl k y r.gone; closes = r.closes })
          (comparable_answered n e bn b.0 (c.0 k))

  through_excluded : (es : List General) → Each BytesIn es → Each (λ e. OfKind n e → Comparable n e) es → Each (λ e. OfKind n e → Hits n e → ⊥) es → Through true n unseen es
  unfolding Each closed
  through_excluded [] b c h = record { last = unseen; gone = end; closes = refl }
  through_excluded (e ∷ es) b c h = go (eqb e.kind n.kind) refl (through_excluded es b.1 c.1 h.1)
    where
      go : (x : Bool) → eqb e.kind n.kind ≡ x → Through true n unseen es → Through true n unseen (e ∷ es)
      go false i r = record { last = r.last; gone = other (eqb-false _ _ i) r.gone; closes = r.closes }
      go true i r =
          let k : OfKind n e = eqb-true _ _ i in
          record { last = r.last; gone = out refl k (clear_no n e bn b.0 (c.0 k) (h.0 k)) r.gone; closes = r.closes }

  pub exact_through : (permitted excluded : List General) → Each BytesIn permitted → Each BytesIn excluded → Exactly permitted excluded n → Through false n unseen permitted × Through true n unseen excluded
  exact_through permitted excluded bp bx x = (
    through_permitted unseen permitted bp x.comparable.0 (⊎_elim (λ s. has (x.within s)) (λ s. none refl s) (kinds_of n permitted)),
    through_excluded excluded bx x.comparable.1 x.without,
  )

-- ---- a list in bytes that is gone through refuses nothing
record BaseRead (s : List ℕ) (at to : ℕ) (e : General) (rest : List ℕ) : Type 0 where
  start : ℕ
  next : ℕ
  is : base_at s at to ≡ name_is e.kind start next
  content : part s start next ≡ e.content
  after_is : part s next to ≡ rest
  later : at < next
  inside : next ≤ to

base_read : (s : List ℕ) (at to : ℕ) (e : General) (rest : List ℕ) → Named e → length (encoding e.kind e.content) < LIMIT → at ≤ to → to ≤ length s
    → part s at to ≡ encoding 48 (encoding e.kind e.content) ++ rest → BaseRead s at to e rest
unfolding base_at on_content on_name high_tag
base_read s at to e rest k small a l h =
    let whole = encoding 48 (encoding e.kind e.content) in
    let f = part_front s at to whole rest a l h in
    let next = at + length whole in
    let r = laid_read s at to 48 (encoding e.kind e.content) next refl small l f.0 f.1 in
    let x = value_expect s at to 48 bad_der r.start next r.read in
    let q : part s r.start next ≡ encoding e.kind e.content ++ [] = r.is ∙ sym (append-nil (encoding e.kind e.content)) in
    let w : next ≤ length s = omega (arith, f.0, l) in
    let m = read_name s r.start next e [] k r.ordered w q in
    let z : m.end ≡ next = all_read m.end next m.inside w m.after in
    let n : general_name s r.start next ≡ name_is e.kind m.start next = m.name ∙ ap (name_is e.kind m.start) z in
    record {
      start = m.start;
      next = next;
      is = rw (x, n, eq-eqb next next refl);
      content = ap (part s m.start) (sym z) ∙ m.content;
      after_is = f.2;
      later = omega (arith, r.place, r.ordered);
      inside = f.0;
    }
  where
    all_read : (b c : ℕ) → b ≤ c → c ≤ length s → part s b c ≡ [] → b ≡ c
    all_read b c h w q = let u : c - b ≡ 0 = sym (part_length s b c w) ∙ ap length q in omega arith

pub after_passes : (a b : Tally) → a.refusal ≡ 0 → b.refusal ≡ 0 → (after a b).refusal ≡ 0
unfolding after
after_passes a b h k = rw (eq-eqb _ _ h) k

subtree_short : (e : General) (es : List General) → length (subtrees (e ∷ es)) < LIMIT → (length (encoding e.kind e.content) < LIMIT) × (length (subtrees es) < LIMIT)
unfolding subtrees
subtree_short e es h =
    let l = length-append (encoding 48 (encoding e.kind e.content)) (subtrees es) in
    let m = encoded_length 48 (encoding e.kind e.content) in
    (omega (arith, l, m, h), omega (arith, l, m, h))

some_long : (e : General) (es : List General) → 0 < length (subtrees (e ∷ es))
unfolding subtrees
some_long e es = omega (arith, length-append (encoding 48 (encoding e.kind e.content)) (subtrees es), encoded_length 48 (encoding e.kind e.content))

module _ (s : List ℕ) (to : ℕ) (inside : to ≤ length s) (excluded : Bool) (n : General) where
  abbrev from_at : ℕ → ℕ → Seen → Tally
  from_at fuel at seen = run to ended (λ a x. go_on (judged s to excluded n.kind n.content a x)) fuel at seen

  judged_as : (at : ℕ) (seen : Seen) (e : General) (rest : List ℕ) (r : BaseRead s at to e rest)
      → judged s to excluded n.kind n.content at seen ≡ cond (eqb e.kind n.kind) (settled excluded seen r.next (compared excluded n.kind n.content e.content)) (next_is r.next seen)
  unfolding judged on_base
  judged_as at seen e rest r = rw (r.is, r.content)

  go_on_lem : (fuel at : ℕ) (seen seen' : Seen) (next : ℕ) → at < to → judged s to excluded n.kind n.content at seen ≡ next_is next seen' → (from_at fuel next seen').refusal ≡ 0 → (from_at (suc fuel) at seen).refusal ≡ 0
  unfolding run go_on
  go_on_lem fuel at seen seen' next h j z = rw (lt-ltb at to h, j) (after_passes (tally 1 0) (from_at fuel next seen') refl z)

  gone_nil : {seen last : Seen} → Gone excluded n.kind n.content seen [] last → closed last ≡ 0 → closed seen ≡ 0
  gone_nil end z = z

  one_on : (fuel at : ℕ) {seen last : Seen} (x : General) (es : List General) → Gone excluded n.kind n.content seen (x ∷ es) last → (r : BaseRead s at to x (subtrees es))
      → ((seen' : Seen) → Gone excluded n.kind n.content seen' es last → (from_at fuel r.next seen').refusal ≡ 0) → (from_at (suc fuel) at seen).refusal ≡ 0
  unfolding settled
  one_on fuel at {seen} x es (other d g) r on = go_on_lem fuel at seen seen r.next (omega (arith, r.later, r.inside)) (judged_as at seen x (subtrees es) r ∙ rw (ne_eqb _ _ d)) (on seen g)
  one_on fuel at {seen} x es (hit h d q g) r on =
      go_on_lem fuel at seen (record { hit = true; miss = seen.miss }) r.next (omega (arith, r.later, r.inside)) (judged_as at seen x (subtrees es) r ∙ rw (eq-eqb _ _ d, h, q)) (on _ g)
  one_on fuel at {seen} x es (miss h d q g) r on =
      go_on_lem fuel at seen (record { hit = seen.hit; miss = true }) r.next (omega (arith, r.later, r.inside)) (judged_as at seen x (subtrees es) r ∙ rw (eq-eqb _ _ d, h, q)) (on _ g)
  one_on fuel at {seen} x es (out h d q g) r on =
      go_on_lem fuel at seen seen r.next (omega (arith, r.later, r.inside)) (judged_as at seen x (subtrees es) r ∙ rw (eq-eqb _ _ d, h, q)) (on _ g)

  nothing_left : (fuel at : ℕ) (seen : Seen) → at ≤ to → part s at to ≡ [] → closed seen ≡ 0 → (from_at fuel at seen).refusal ≡ 0
  unfolding run ended
  nothing_left zero at seen a e z = z
  nothing_left (suc fuel) at seen a e z = let l : to - at ≡ 0 = sym (part_length s at to inside) ∙ ap length e in rw (le-ltb at to (omega arith)) z

  run_gone : (fuel at : ℕ) (seen last : Seen) (es : List General) → to - at ≤ fuel → at ≤ to → part s at to ≡ subtrees es → Each Named es → length (subtrees es) < LIMIT
      → Gone excluded n.kind n.content seen es last → closed last ≡ 0 → (from_at fuel at seen).refusal ≡ 0
  unfolding subtrees Each
  run_gone fuel at seen last [] f a e k b g z = nothing_left fuel at seen a e (gone_nil g z)
  run_gone zero at seen last (x ∷ es) f a e k b g z = absurd (let l : to - at ≡ length (subtrees (x ∷ es)) = sym (part_length s at to inside) ∙ ap length e in omega (arith, f, l, some_long x es))
  run_gone (suc fuel) at seen last (x ∷ es) f a e k b g z =
      let c = subtree_short x es b in
      let r = base_read s at to x (subtrees es) k.0 c.0 a inside e in
      one_on fuel at x es g r (λ seen' g'. run_gone fuel r.next seen' last es (omega (arith, r.later, f)) r.inside r.after_is k.1 c.1 g' z)

  pub entries_clean : (from : ℕ) (es : List General) → from ≤ to → part s from to ≡ subtrees es → Each Named es → length (subtrees es) < LIMIT → Through excluded n unseen es
      → (entries s from to excluded n.kind n.content).refusal ≡ 0
  unfolding entries walk
  entries_clean from es a e k b t = run_gone (to - from) from unseen t.last es (omega arith) a e k b t.gone t.closes

-- ---- the two lists where they lie
pub record ListAt (s : List ℕ) (from to : ℕ) (es : List General) : Type 0 where
  pub ordered : from ≤ to
  pub inside : to ≤ length s
  pub is : part s from to ≡ subtrees es
  pub named : Each Named es
  pub bytes_in : Each BytesIn es
  pub short : length (subtrees es) < LIMIT

pub record BothAt (s : List ℕ) (lists : Subtrees) (permitted excluded : List General) : Type 0 where
  pub first : ListAt s lists.permitted.start lists.permitted.end permitted
  pub second : ListAt s lists.excluded.start lists.excluded.end excluded

-- ---- one name
pub name_clean : (s : List ℕ) (lists : Subtrees) (permitted excluded : List General) → BothAt s lists permitted excluded → (n : General) → Bytes n.content → Exactly permitted excluded n → (name s lists n.kind n.content).refusal ≡ 0
unfolding name
name_clean s lists permitted excluded b n bn x =
    let t = exact_through n bn permitted excluded b.first.bytes_in b.second.bytes_in x in
    after_passes _ _
    (entries_clean s lists.permitted.end b.first.inside false n lists.permitted.start permitted b.first.ordered b.first.is b.first.named b.first.short t.0)
    (entries_clean s lists.excluded.end b.second.inside true n lists.excluded.start excluded b.second.ordered b.second.is b.second.named b.second.short t.1)

module _ (s : List ℕ) (bytes : Bytes s) (lists : Subtrees) where
  abbrev pub permitted_in : List General
  permitted_in = bases (lists.permitted.end - lists.permitted.start) s lists.permitted.start lists.permitted.end

  abbrev pub excluded_in : List General
  excluded_in = bases (lists.excluded.end - lists.excluded.start) s lists.excluded.start lists.excluded.end

  pub record ListsRead : Type 0 where
    pub permitted_is : part s lists.permitted.start lists.permitted.end ≡ subtrees permitted_in
    pub excluded_is : part s lists.excluded.start lists.excluded.end ≡ subtrees excluded_in
    pub permitted_named : Each Named permitted_in
    pub excluded_named : Each Named excluded_in

  pub name_exact : (n : General) → Bytes n.content → (name s lists n.kind n.content).refusal ≡ 0 → ListsRead × Exactly permitted_in excluded_in n
  unfolding name
  name_exact n bn z =
      let b = both_pass _ _ z in
      let l = entries_pass s bytes lists.permitted.end false n.kind n.content lists.permitted.start b.first in
      let r = entries_pass s bytes lists.excluded.end true n.kind n.content lists.excluded.start b.second in (
        record { permitted_is = l.is; excluded_is = r.is; permitted_named = l.named; excluded_named = r.named },
        lists_exact n bn permitted_in excluded_in l.small r.small l.gone l.closes r.gone,
      )

-- ---- a directory name: what it is does not matter
no_directory : (n e : General) → n.kind ≡ directory_name → Comparable n e → ⊥
no_directory n e k (host_names h a b) = let z : ◌≡◌ {A = ℕ} 164 130 = sym k ∙ h in omega arith
no_directory n e k (addresses h a b x) = let z : ◌≡◌ {A = ℕ} 164 135 = sym k ∙ h in omega arith

pub any_directory : (permitted excluded : List General) (n m : General) → n.kind ≡ directory_name → m.kind ≡ directory_name → Exactly permitted excluded n → Exactly permitted excluded m
any_directory permitted excluded n m k l x =
    let a : Each (λ e. OfKind m e → ⊥) permitted = each_to (λ e. OfKind n e → Comparable n e) (λ e. OfKind m e → ⊥) (λ e c h. no_directory n e k (c (h ∙ l ∙ sym k))) permitted x.comparable.0 in
    let b : Each (λ e. OfKind m e → ⊥) excluded = each_to (λ e. OfKind n e → Comparable n e) (λ e. OfKind m e → ⊥) (λ e c h. no_directory n e k (c (h ∙ l ∙ sym k))) excluded x.comparable.1 in
    record {
      comparable = (
        each_to (λ e. OfKind m e → ⊥) (λ e. OfKind m e → Comparable m e) (λ e f h. absurd (f h)) permitted a,
        each_to (λ e. OfKind m e → ⊥) (λ e. OfKind m e → Comparable m e) (λ e f h. absurd (f h)) excluded b,
      );
      within = λ s. absurd (none_some m permitted a s);
      without = each_to (λ e. OfKind m e → ⊥) (λ e. OfKind m e → Hits m e → ⊥) (λ e f h i. f h) excluded b;
    }
