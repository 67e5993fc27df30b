-- The extension: its two lists are read where they lie, and lists that lie there are read. Assumes nothing.
use Prim.Native.Nat.{ℕ, zero, suc, ◌+◌, ◌-◌, ◌≤◌, ◌<◌}
use mathlib.Core.Path.{◌≡◌, refl, sym, ap, ◌∙◌}
use mathlib.Core.List.{List, [], ◌∷◌, ◌++◌, append-nil}
use mathlib.Core.Bool.{false, cond}
use mathlib.Core.Logic.{⊎_elim}
use lib.ListN.{length, get_or}
use lib.Dec.{ltb, leb, eqb}
use native.Mathlib.Omega.{arith}
use borrow.Author.Tests.{eq-eqb, ne_eqb, le-ltb, le-leb, lt-leb}
use Rattle.refusal.specs.Refusals.{bad_der}
use Rattle.der.specs.declared.Span.{Span}
use Rattle.der.specs.Places.{Bytes, part, LIMIT}
use Rattle.der.specs.X690.{encoding, length_bytes}
use Rattle.der.specs.Model.{high_tag, expect_at, on_content}
use Rattle.der.proofs.Laws.{value_expect}
use Rattle.der.proofs.Laid.{expect_laid, laid_read}
use Rattle.der.proofs.Parts.{part_length, part_front, part_at}
use Rattle.der.proofs.Invert.{peel, either}
use Rattle.extensions.proofs.Inversion.{on_content_lem}
use Rattle.names.specs.General.{General, Named, Each}
use Rattle.subtrees.specs.declared.Subtrees.{Subtrees}
use Rattle.subtrees.specs.Rfc5280Names.{subtrees, Field, absent as missing, present as given, NameConstraints}
use Rattle.subtrees.specs.Model.{list_at, subtrees_at}
use Rattle.subtrees.proofs.Accepted.{part_empty, bytes_part, bases}
use Rattle.subtrees.proofs.ExactLists.{BytesIn, ListAt, BothAt}
use Rattle.std.specs.Prelude.{Ok, Err, Result}

-- ---- bytes in entries
bytes_left : (xs ys : List ℕ) → Bytes (xs ++ ys) → Bytes xs
bytes_left [] ys b i = omega arith
bytes_left (x ∷ xs) ys b zero = b zero
bytes_left (x ∷ xs) ys b (suc i) = bytes_left xs ys (λ j. b (suc j)) i

bytes_right : (xs ys : List ℕ) → Bytes (xs ++ ys) → Bytes ys
bytes_right [] ys b = b
bytes_right (x ∷ xs) ys b = bytes_right xs ys (λ j. b (suc j))

bytes_content : (tag : ℕ) (content : List ℕ) → Bytes (encoding tag content) → Bytes content
unfolding encoding
bytes_content tag content b = bytes_right (length_bytes (length content)) content (λ j. b (suc j))

bytes_entries : (es : List General) → Bytes (subtrees es) → Each BytesIn es
unfolding subtrees Each
bytes_entries [] b = tt
bytes_entries (e ∷ es) b = (bytes_content e.kind e.content (bytes_content 48 (encoding e.kind e.content) (bytes_left (encoding 48 (encoding e.kind e.content)) (subtrees es) b)), bytes_entries es (bytes_right (encoding 48 (encoding e.kind e.content)) (subtrees es) b))

-- ---- a list that is read, and one that is there
no_content : {e : ℕ} {p : Span} → Err e ≡ Ok p → ⊥
no_content h = cc

abbrev bases_at : List ℕ → Span → List General
bases_at s p = bases (p.end - p.start) s p.start p.end

pub record FieldRead (s : List ℕ) (from to tag : ℕ) (p : Span) : Type 0 where
  pub later : from ≤ p.end
  pub field : part s p.start p.end ≡ subtrees (bases_at s p) → Field tag (bases_at s p) (part s from p.end) × (length (subtrees (bases_at s p)) < LIMIT)

no_bases : (s : List ℕ) (a b : ℕ) → b ≤ a → bases (b - a) s a b ≡ []
unfolding bases
no_bases s a b h = let e : b - a ≡ 0 = omega arith in rw e

field_read : (s : List ℕ) → Bytes s → (from to tag : ℕ) (p : Span) → list_at s from to tag ≡ Ok p → FieldRead s from to tag p
unfolding list_at subtrees
field_read s b from to tag p e =
    let x = peel (ltb (length s) to) e no_content in
    ⊎_elim
    (λ h. not_there h.1)
    (λ h. ⊎_elim (λ i. there i.1) (λ i. not_there i.1) (either (eqb (get_or s from 0) tag) h.1))
    (either (leb to from) x.1)
  where
    not_there : ◌≡◌ {A = Result Span ℕ} (Ok (record { start = from; end = from })) (Ok p) → FieldRead s from to tag p
    not_there q =
        let r : ◌≡◌ {A = Span} (record { start = from; end = from }) p = cc in
        let n = no_bases s from from (omega arith) in
        rw (← r) (record { later = omega arith; field = λ h. (missing n (part_empty s from from (omega arith)), rw n (omega arith)) })

    there : expect_at s from to tag bad_der ≡ Ok p → FieldRead s from to tag p
    there q =
        let l = expect_laid s b from to tag bad_der p q in
        record {
          later = omega (arith, l.after, l.ordered);
          field = λ h.
              let m : p.end - p.start ≡ length (subtrees (bases_at s p)) = sym (part_length s p.start p.end (omega (arith, l.inside, l.within))) ∙ ap length h in
              (given (l.bytes ∙ ap (encoding tag) h), omega (arith, l.small, m));
        }

-- what comes after does not begin with the tag
data Other (tag : ℕ) (rest : List ℕ) : Type 0 where
  nothing : rest ≡ [] → Other tag rest
  another : (x : ℕ) (l : List ℕ) → rest ≡ x ∷ l → (x ≡ tag → ⊥) → Other tag rest

record ListFound (s : List ℕ) (from to tag : ℕ) (es : List General) (rest : List ℕ) : Type 0 where
  place : Span
  is : list_at s from to tag ≡ Ok place
  list_is : ListAt s place.start place.end es
  after_is : part s place.end to ≡ rest
  inside : place.end ≤ to

module _ (s : List ℕ) (bytes : Bytes s) (from to tag : ℕ) (a : from ≤ to) (l : to ≤ length s) (low : high_tag tag ≡ false) where
  begins : (x : ℕ) (t : List ℕ) → part s from to ≡ x ∷ t → (from < to) × (get_or s from 0 ≡ x)
  begins x t e =
      let m : to - from ≡ suc (length t) = sym (part_length s from to l) ∙ ap length e in
      let z : from + 0 ≡ from = omega arith in
      (omega arith, ap (λ (i : ℕ). get_or s i 0) (sym z) ∙ sym (part_at s from to 0 (omega arith)) ∙ ap (λ (q : List ℕ). get_or q 0 0) e)

  list_missing : (rest : List ℕ) → part s from to ≡ rest → Other tag rest → ListFound s from to tag [] rest
  unfolding list_at subtrees Each
  list_missing rest e o =
      record {
        place = record { start = from; end = from };
        is = rw (le-ltb (length s) to l) (by o);
        list_is = record { ordered = omega arith; inside = omega arith; is = part_empty s from from (omega arith); named = tt; bytes_in = tt; short = omega arith };
        after_is = e;
        inside = a;
      }
    where
      by : Other tag rest → cond (leb to from) (Ok (record { start = from; end = from })) (cond (eqb (get_or s from 0) tag) (expect_at s from to tag bad_der) (Ok (record { start = from; end = from }))) ≡ Ok (record { start = from; end = from })
      by (nothing h) = let m : to - from ≡ 0 = sym (part_length s from to l) ∙ ap length (e ∙ h) in rw (le-leb to from (omega arith))
      by (another x t h n) = let b = begins x t (e ∙ h) in rw (lt-leb to from b.0, b.1, ne_eqb x tag n)

  list_given : (es : List General) (rest : List ℕ) → Each Named es → length (subtrees es) < LIMIT → part s from to ≡ encoding tag (subtrees es) ++ rest → ListFound s from to tag es rest
  unfolding list_at encoding
  list_given es rest k short e =
      let f = part_front s from to (encoding tag (subtrees es)) rest a l e in
      let end = from + length (encoding tag (subtrees es)) in
      let r = laid_read s from to tag (subtrees es) end low short l f.0 f.1 in
      let x = value_expect s from to tag bad_der r.start end r.read in
      let b = begins tag _ e in
      record {
        place = record { start = r.start; end = end };
        is = rw (le-ltb (length s) to l, lt-leb to from b.0, b.1, eq-eqb tag tag refl) x;
        list_is = record {
          ordered = r.ordered;
          inside = omega (arith, f.0, l);
          is = r.is;
          named = k;
          bytes_in = bytes_entries es (rw (← r.is) (bytes_part s r.start end bytes));
          short = short;
        };
        after_is = f.2;
        inside = f.0;
      }

  list_found : (es : List General) (first rest : List ℕ) → Field tag es first → Each Named es → length (subtrees es) < LIMIT → part s from to ≡ first ++ rest → Other tag rest → ListFound s from to tag es rest
  list_found es first rest (missing h i) k short e o = let q : part s from to ≡ rest = e ∙ ap (λ (t : List ℕ). t ++ rest) i in rw h (list_missing rest q o)
  list_found es first rest (given i) k short e o = list_given es rest k short (e ∙ ap (λ (t : List ℕ). t ++ rest) i)

-- ---- the extension
pub record SubtreesFound (s : List ℕ) (from to : ℕ) (permitted excluded : List General) : Type 0 where
  pub lists : Subtrees
  pub is : subtrees_at s from to ≡ Ok lists
  pub both : BothAt s lists permitted excluded
  pub all : lists.excluded.end ≡ to

begins_with : (tag : ℕ) (content : List ℕ) → encoding tag content ≡ tag ∷ (length_bytes (length content) ++ content)
unfolding encoding
begins_with tag content = refl

second_other : (excluded : List General) {second : List ℕ} → Field 161 excluded second → Other 160 second
second_other excluded (missing h i) = nothing i
second_other excluded (given i) = another 161 (length_bytes (length (subtrees excluded)) ++ subtrees excluded) (i ∙ begins_with 161 (subtrees excluded)) (λ z. omega (arith, z))

pub subtrees_found : (s : List ℕ) → Bytes s → (from to : ℕ) → from ≤ to → to ≤ length s → (permitted excluded : List General) → NameConstraints (part s from to) permitted excluded
    → (length (subtrees permitted) < LIMIT) × (length (subtrees excluded) < LIMIT) → SubtreesFound s from to permitted excluded
unfolding subtrees_at on_content high_tag
subtrees_found s bytes from to a l permitted excluded x short =
    let p = list_found s bytes from to 160 a l refl permitted x.first x.second x.permitted_is x.named.0 short.0 x.is (second_other excluded x.excluded_is) in
    let e : part s p.place.end to ≡ x.second ++ [] = p.after_is ∙ sym (append-nil x.second) in
    let q = list_found s bytes p.place.end to 161 p.inside l refl excluded x.second [] x.excluded_is x.named.1 short.1 e (nothing refl) in
    let m : to - q.place.end ≡ 0 = sym (part_length s q.place.end to l) ∙ ap length q.after_is in
    record {
      lists = record { permitted = p.place; excluded = q.place };
      is = rw (p.is, q.is);
      both = record { first = p.list_is; second = q.list_is };
      all = omega (arith, m, q.inside);
    }

no_lists : {l : Subtrees} (e : ℕ) → Err e ≡ Ok l → ⊥
no_lists e h = cc

pub record SubtreesRead (s : List ℕ) (from to : ℕ) (lists : Subtrees) : Type 0 where
  pub first : FieldRead s from to 160 lists.permitted
  pub second : FieldRead s lists.permitted.end to 161 lists.excluded

pub subtrees_read : (s : List ℕ) → Bytes s → (from to : ℕ) (lists : Subtrees) → subtrees_at s from to ≡ Ok lists → SubtreesRead s from to lists
unfolding subtrees_at
subtrees_read s b from to lists e =
    let p = on_content_lem (list_at s from to 160) Err _ e no_lists in
    let q = on_content_lem (list_at s p.0.end to 161) Err _ p.2 no_lists in
    let z : ◌≡◌ {A = Subtrees} (record { permitted = p.0; excluded = q.0 }) lists = cc q.2 in
    rw (← z) (record { first = field_read s b from to 160 p.0 p.1; second = field_read s b p.0.end to 161 q.0 q.1 })
