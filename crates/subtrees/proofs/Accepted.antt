-- What no refusal says of one list, one name: the bytes are encodings, each entry was compared, and how often. Assumes nothing.
use Prim.Native.Nat.{ℕ, zero, suc, ◌+◌, ◌-◌, ◌≤◌, ◌<◌}
use mathlib.Core.Path.{◌≡◌, refl, ap, ◌∙◌}
use mathlib.Core.List.{List, [], ◌∷◌, ◌++◌, append-nil}
use mathlib.Core.Bool.{Bool, true, false, cond}
use mathlib.Core.Logic.{◌⊎◌, inl, inr, ⊎_elim}
use lib.ListN.{length, length-take, get_or-eq_default}
use lib.Dec.{ltb, eqb, lit<}
use native.Mathlib.Omega.{arith}
use borrow.Author.Tests.{ltb-false, eqb-true, eqb-false, eq-eqb}
use Rattle.refusal.specs.Refusals.{bad_der, name_constraint_violation}
use Rattle.der.specs.X690.{encoding}
use Rattle.der.specs.Places.{Bytes, part}
use Rattle.der.specs.Loop.{run, walk}
use Rattle.der.proofs.Laid.{expect_laid}
use Rattle.der.proofs.Parts.{part_split, part_at}
use Rattle.der.proofs.Laws.{lt_or_le}
use Rattle.der.proofs.Invert.{either}
use Rattle.names.specs.General.{General, Named, Each}
use Rattle.names.proofs.Rows.{named_at}
use Rattle.entries.specs.declared.Seen.{Seen}
use Rattle.entries.specs.Tally.{Tally, tally, after}
use Rattle.entries.specs.Model.{on_base, base_at, compared, settled, judged, unseen, closed, ended, go_on, entries, next_is}
use Rattle.entries.proofs.Laws.{base_inv, base_within, JudgedAs, judged_inv, not_next, same_next}
use Rattle.entries.proofs.Refusals.{Nonzero, judged_stepped}
use Rattle.subtrees.specs.Rfc5280Names.{subtrees, Some}
use Rattle.std.specs.Prelude.{Ok, Err, Result}
use Rattle.names.specs.Model.{name_is}

-- ---- one check after another
pub record BothPass (a b : Tally) : Type 0 where
  pub first : a.refusal ≡ 0
  pub second : b.refusal ≡ 0
  pub taken : (after a b).taken ≡ a.taken + b.taken

both_taken : (a b : Tally) → a.refusal ≡ 0 → (after a b).taken ≡ a.taken + b.taken
unfolding after
both_taken a b e = rw (eq-eqb _ _ e)

pub both_pass : (a b : Tally) → (after a b).refusal ≡ 0 → BothPass a b
unfolding after
both_pass a b e = go (eqb a.refusal 0) refl e
  where
    go : (x : Bool) → eqb a.refusal 0 ≡ x → (cond x (tally (a.taken + b.taken) b.refusal) a).refusal ≡ 0 → BothPass a b
    go true h z = record { first = eqb-true _ _ h; second = z; taken = both_taken a b (eqb-true _ _ h) }
    go false h z = absurd (eqb-false _ _ h z)

-- ---- general names and entries in bytes
pub part_empty : (s : List ℕ) (a b : ℕ) → b ≤ a → part s a b ≡ []
unfolding part
part_empty s a b h = let e : b - a ≡ 0 = omega arith in rw e

at_most : (s : List ℕ) (a b i : ℕ) → b - a ≤ i → length (part s a b) ≤ i
unfolding part
at_most s a b i l = simp length-take (omega arith)

-- bytes, between two places too
pub bytes_part : (s : List ℕ) (a b : ℕ) → Bytes s → Bytes (part s a b)
bytes_part s a b h i =
    ⊎_elim
    (λ (l : i < b - a). rw (part_at s a b i l) (h (a + i)))
    (λ (l : b - a ≤ i). rw (get_or-eq_default (part s a b) 0 (at_most s a b i l)) (lit< tt))
    (lt_or_le i (b - a))

module _ (s : List ℕ) (bytes : Bytes s) where
  -- an entry stands in its encoding
  pub record BaseHere (at to kind start end : ℕ) : Type 0 where
    pub is : part s at end ≡ encoding 48 (encoding kind (part s start end))
    pub later : at < end
    pub inside : end ≤ to
    pub named : Named (record { kind = kind; content = part s start end })

  pub base_here : (at to kind start end : ℕ) → base_at s at to ≡ name_is kind start end → BaseHere at to kind start end
  base_here at to kind start end e =
      let b = base_inv s at to kind start end e in
      let o = expect_laid s bytes at to 48 bad_der b.whole b.outer in
      let n = named_at s bytes b.whole.start b.whole.end kind start end b.inner in
      let rest : part s end b.whole.end ≡ [] = part_empty s end b.whole.end (omega (arith, b.all)) in
      let f : part s b.whole.start b.whole.end ≡ encoding kind (part s start end) =
      n.1.0 ∙ ap (λ (t : List ℕ). encoding kind (part s start end) ++ t) rest ∙ append-nil (encoding kind (part s start end)) in
      record {
        is = ap (part s at) b.all ∙ o.bytes ∙ ap (encoding 48) f;
        later = omega (arith, b.all, o.after, o.ordered);
        inside = omega (arith, b.all, o.inside);
        named = n.0;
      }

-- ---- the entries between two places, as far as they can be read
unfoldable pub bases : ℕ → List ℕ → ℕ → ℕ → List General
bases zero s at to = []
bases (suc fuel) s at to =
    cond (ltb at to) (on_base (base_at s at to) (λ e. []) (λ kind a b. record { kind = kind; content = part s a b } ∷ bases fuel s b to)) []

-- ---- entries gone through: each of the name's kind was compared
pub data Gone (excluded : Bool) (kind : ℕ) (p : List ℕ) : Seen → List General → Seen → Type 0 where
  end : {seen : Seen} → Gone excluded kind p seen [] seen
  other : {seen last : Seen} {e : General} {es : List General} → (e.kind ≡ kind → ⊥) → Gone excluded kind p seen es last → Gone excluded kind p seen (e ∷ es) last
  hit : {seen last : Seen} {e : General} {es : List General} → excluded ≡ false → e.kind ≡ kind → compared false kind p e.content ≡ Ok true
      → Gone excluded kind p (record { hit = true; miss = seen.miss }) es last → Gone excluded kind p seen (e ∷ es) last
  miss : {seen last : Seen} {e : General} {es : List General} → excluded ≡ false → e.kind ≡ kind → compared false kind p e.content ≡ Ok false
      → Gone excluded kind p (record { hit = seen.hit; miss = true }) es last → Gone excluded kind p seen (e ∷ es) last
  out : {seen last : Seen} {e : General} {es : List General} → excluded ≡ true → e.kind ≡ kind → compared true kind p e.content ≡ Ok false
      → Gone excluded kind p seen es last → Gone excluded kind p seen (e ∷ es) last

settled_gone : (excluded : Bool) (kind : ℕ) (p : List ℕ) (seen seen' last : Seen) (at : ℕ) (e : General) (es : List General) → e.kind ≡ kind → (a : Result Bool ℕ) → compared excluded kind p e.content ≡ a
    → settled excluded seen at a ≡ next_is at seen' → Gone excluded kind p seen' es last → Gone excluded kind p seen (e ∷ es) last
unfolding settled
settled_gone true kind p seen seen' last at e es k (Ok true) q h g = absurd (not_next _ h)
settled_gone false kind p seen seen' last at e es k (Ok true) q h g = hit refl k q (rw (same_next h).1 g)
settled_gone true kind p seen seen' last at e es k (Ok false) q h g = out refl k q (rw (same_next h).1 g)
settled_gone false kind p seen seen' last at e es k (Ok false) q h g = miss refl k q (rw (same_next h).1 g)
settled_gone excluded kind p seen seen' last at e es k (Err x) q h g = absurd (not_next _ h)

judged_gone : (s : List ℕ) (to : ℕ) (excluded : Bool) (kind : ℕ) (p : List ℕ) (at : ℕ) (seen : Seen) (at' : ℕ) (seen' last : Seen) (es : List General) (j : JudgedAs s to excluded kind p at seen at' seen')
    → Gone excluded kind p seen' es last → Gone excluded kind p seen (record { kind = j.base; content = part s j.start at' } ∷ es) last
judged_gone s to excluded kind p at seen at' seen' last es j g =
    ⊎_elim
    (λ h. settled_gone excluded kind p seen seen' last at' _ es (eqb-true _ _ h.0) _ refl h.1 g)
    (λ h. other (eqb-false _ _ h.0) (rw (same_next h.1).1 g))
    (either (eqb j.base kind) j.came)

-- a list that refuses nothing
pub record ListPassed (s : List ℕ) (at to : ℕ) (excluded : Bool) (kind : ℕ) (p : List ℕ) (seen : Seen) (es : List General) (taken : ℕ) : Type 0 where
  pub is : part s at to ≡ subtrees es
  pub named : Each Named es
  pub small : Each (λ e. Bytes e.content) es
  pub count : taken ≡ length es
  pub last : Seen
  pub gone : Gone excluded kind p seen es last
  pub closes : closed last ≡ 0

module _ (s : List ℕ) (bytes : Bytes s) (to : ℕ) (excluded : Bool) (kind : ℕ) (p : List ℕ) where
  abbrev gone_from : ℕ → ℕ → Seen → Tally
  gone_from fuel at seen = run to ended (λ a x. go_on (judged s to excluded kind p a x)) fuel at seen

  at_end : (at : ℕ) (seen : Seen) → to ≤ at → closed seen ≡ 0 → ListPassed s at to excluded kind p seen [] 0
  unfolding subtrees Each
  at_end at seen h z = record { is = part_empty s at to h; named = tt; small = tt; count = refl; last = seen; gone = end; closes = z }

  one_more : (at : ℕ) (seen : Seen) (at' : ℕ) (seen' : Seen) (es : List General) (n : ℕ) (j : JudgedAs s to excluded kind p at seen at' seen')
      → ListPassed s at' to excluded kind p seen' es n → ListPassed s at to excluded kind p seen (record { kind = j.base; content = part s j.start at' } ∷ es) (1 + n)
  unfolding subtrees Each
  one_more at seen at' seen' es n j r =
      let b = base_here s bytes at to j.base j.start at' j.is in
      record {
        is = part_split s at at' to (omega (arith, b.later)) b.inside ∙ rw (b.is, r.is);
        named = (b.named, r.named);
        small = (bytes_part s j.start at' bytes, r.small);
        count = omega (arith, r.count);
        last = r.last;
        gone = judged_gone s to excluded kind p at seen at' seen' r.last es j r.gone;
        closes = r.closes;
      }

  step_on : (fuel at : ℕ) (seen : Seen) (x : Result (ℕ × Seen) ℕ) → judged s to excluded kind p at seen ≡ x → to - at ≤ suc fuel → (go_on x (gone_from fuel)).refusal ≡ 0
      → ((at' : ℕ) (seen' : Seen) → to - at' ≤ fuel → (gone_from fuel at' seen').refusal ≡ 0 → ListPassed s at' to excluded kind p seen' (bases fuel s at' to) (gone_from fuel at' seen').taken)
      → ListPassed s at to excluded kind p seen (on_base (base_at s at to) (λ e. []) (λ k a b. record { kind = k; content = part s a b } ∷ bases fuel s b to)) (go_on x (gone_from fuel)).taken
  unfolding go_on on_base after
  step_on fuel at seen (Ok v) e h y rec =
      let j = judged_inv s to excluded kind p at seen v.0 v.1 e in
      let w = base_within s at to j.base j.start v.0 j.is in
      rw j.is (one_more at seen v.0 v.1 (bases fuel s v.0 to) (gone_from fuel v.0 v.1).taken j (rec v.0 v.1 (omega arith) y))
  step_on fuel at seen (Err x) e h y rec =
      let n : Nonzero {A = ℕ × Seen} (Err x) = rw e at (judged_stepped s to excluded kind p at seen) in
      absurd (n y)

  pub list_passed : (fuel at : ℕ) (seen : Seen) → to - at ≤ fuel → (gone_from fuel at seen).refusal ≡ 0 → ListPassed s at to excluded kind p seen (bases fuel s at to) (gone_from fuel at seen).taken
  unfolding run bases ended
  list_passed zero at seen h z = at_end at seen (omega arith) z
  list_passed (suc fuel) at seen h z = by_test (ltb at to) refl z (list_passed fuel)
    where
      by_test : (t : Bool) → ltb at to ≡ t
          → (cond t (go_on (judged s to excluded kind p at seen) (gone_from fuel)) (tally 0 (closed seen))).refusal ≡ 0
          → ((at' : ℕ) (seen' : Seen) → to - at' ≤ fuel → (gone_from fuel at' seen').refusal ≡ 0 → ListPassed s at' to excluded kind p seen' (bases fuel s at' to) (gone_from fuel at' seen').taken)
          → ListPassed s at to excluded kind p seen (cond t (on_base (base_at s at to) (λ e. []) (λ k a b. record { kind = k; content = part s a b } ∷ bases fuel s b to)) [])
          (cond t (go_on (judged s to excluded kind p at seen) (gone_from fuel)) (tally 0 (closed seen))).taken
      by_test true e y rec = step_on fuel at seen (judged s to excluded kind p at seen) refl h y rec
      by_test false e y rec = at_end at seen (ltb-false _ _ e) y

  pub entries_pass : (from : ℕ) → (entries s from to excluded kind p).refusal ≡ 0 → ListPassed s from to excluded kind p unseen (bases (to - from) s from to) (entries s from to excluded kind p).taken
  unfolding entries walk
  entries_pass from z = list_passed (to - from) from unseen (omega arith) z

-- ---- what going through comes to
-- an excluded list: no entry of the kind has the name
pub gone_out : (kind : ℕ) (p : List ℕ) {seen last : Seen} (es : List General) → Gone true kind p seen es last → Each (λ e. e.kind ≡ kind → compared true kind p e.content ≡ Ok false) es
unfolding Each
gone_out kind p [] g = tt
gone_out kind p (e ∷ es) (other n g) = (λ k. absurd (n k), gone_out kind p es g)
gone_out kind p (e ∷ es) (hit x k q g) = absurd (let z : ◌≡◌ {A = ℕ} 0 1 = cc in omega arith)
gone_out kind p (e ∷ es) (miss x k q g) = absurd (let z : ◌≡◌ {A = ℕ} 0 1 = cc in omega arith)
gone_out kind p (e ∷ es) (out x k q g) = (λ k'. q, gone_out kind p es g)

-- a permitted list: an entry has the name, or there is none of the kind
abbrev pub Hits : ℕ → List ℕ → List General → Type 0
Hits kind p es = Some (λ e. (e.kind ≡ kind) × (compared false kind p e.content ≡ Ok true)) es

data Inside (kind : ℕ) (p : List ℕ) (seen : Seen) (es : List General) : Type 0 where
  before : seen.hit ≡ true → Inside kind p seen es
  among : Hits kind p es → Inside kind p seen es
  none : seen.miss ≡ false → Each (λ e. e.kind ≡ kind → ⊥) es → Inside kind p seen es

closed_inv : (h m : Bool) → cond h 0 (cond m name_constraint_violation 0) ≡ 0 → (h ≡ true) ⊎ (m ≡ false)
closed_inv true m e = inl refl
closed_inv false true e = absurd (omega arith)
closed_inv false false e = inr refl

gone_in : (kind : ℕ) (p : List ℕ) {seen last : Seen} (es : List General) → Gone false kind p seen es last → closed last ≡ 0 → Inside kind p seen es
unfolding closed Each Some
gone_in kind p {seen} [] end z = ⊎_elim (λ h. before h) (λ h. none h tt) (closed_inv seen.hit seen.miss z)
gone_in kind p (e ∷ es) (other n g) z = go (gone_in kind p es g z)
  where
    go : {s : Seen} → Inside kind p s es → Inside kind p s (e ∷ es)
    go (before h) = before h
    go (among h) = among (inr h)
    go (none m h) = none m (n, h)
gone_in kind p (e ∷ es) (hit x k q g) z = among (inl (k, q))
gone_in kind p {seen} (e ∷ es) (miss x k q g) z = go (gone_in kind p es g z)
  where
    go : Inside kind p (record { hit = seen.hit; miss = true }) es → Inside kind p seen (e ∷ es)
    go (before h) = before h
    go (among h) = among (inr h)
    go (none m h) = absurd (let y : ◌≡◌ {A = ℕ} 0 1 = cc in omega arith)
gone_in kind p (e ∷ es) (out x k q g) z = absurd (let y : ◌≡◌ {A = ℕ} 0 1 = cc in omega arith)

some_none : (P : General → Type 0) (es : List General) → Some P es → Each (λ e. P e → ⊥) es → ⊥
unfolding Each Some
some_none P [] h n = h
some_none P (e ∷ es) (inl h) n = n.0 h
some_none P (e ∷ es) (inr h) n = some_none P es h n.1

pub gone_hit : (kind : ℕ) (p : List ℕ) {last : Seen} (es : List General) → Gone false kind p unseen es last → closed last ≡ 0 → Some (λ e. e.kind ≡ kind) es → Hits kind p es
gone_hit kind p es g z some = go (gone_in kind p es g z)
  where
    go : Inside kind p unseen es → Hits kind p es
    go (before h) = absurd (let y : ◌≡◌ {A = ℕ} 0 1 = cc in omega arith)
    go (among h) = h
    go (none m n) = absurd (some_none (λ e. e.kind ≡ kind) es some n)
