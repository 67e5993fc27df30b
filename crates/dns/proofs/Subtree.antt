-- SUBTREE: the comparison of texts from their ends is the relation on labels, whatever the texts. Assumes nothing.
use Prim.Native.Nat.{ℕ, suc, ◌+◌, ◌-◌, ◌≤◌, ◌<◌}
use mathlib.Core.Path.{◌≡◌, refl, sym, ap, ◌∙◌}
use mathlib.Core.List.{List, [], ◌∷◌, ◌++◌, map, append-nil, map-append}
use mathlib.Core.Bool.{Bool, true, false}
use mathlib.Core.Logic.{⊎_elim}
use lib.ListN.{length, get_or, take, drop, take-append-drop, length-append, length-map}
use lib.Seq.{split_at, drop-append_seam, drop-append-add, get_or-append_seam}
use lib.Dec.{eqb}
use native.Mathlib.Omega.{arith}
use borrow.Author.Tests.{eq-eqb, ne_eqb, eqb-true, lt-leb, le-leb}
use Rattle.der.proofs.Laws.{lt_or_le}
use Rattle.texts.specs.Bytes.{dot}
use Rattle.labels.specs.Names.{Labels, capital, labels}
use Rattle.dns.specs.Names.{small, lowered, Within, Below, InSubtree}
use Rattle.texts.specs.Model.{begins}
use Rattle.dns.specs.Model.{same_text, tail, in_subtree}
use Rattle.labels.proofs.Labels.{true_false, cut, labels_dot, cut_more, labels_append}
use Rattle.dns.proofs.Texts.{text, labels_inv, ends_with, small_keeps, lowered_labels, same_small, small_same}

-- ---- the test, case by case
module _ (p q : List ℕ) (some : 0 < length q) where
  at_most : length p ≤ length q → in_subtree p q ≡ same_text p q
  unfolding in_subtree
  at_most l = rw (ne_eqb (length q) 0 (omega arith), le-leb _ _ l)

  after_dot : length q < length p → begins q 46 ≡ true → in_subtree p q ≡ same_text (tail p q) q
  unfolding in_subtree
  after_dot l d = rw (ne_eqb (length q) 0 (omega arith), lt-leb _ _ l, d)

  at_dot : length q < length p → begins q 46 ≡ false → eqb (get_or p (length p - length q - 1) 0) 46 ≡ true → in_subtree p q ≡ same_text (tail p q) q
  unfolding in_subtree
  at_dot l d e = rw (ne_eqb (length q) 0 (omega arith), lt-leb _ _ l, d, e)

  no_dot : length q < length p → begins q 46 ≡ false → eqb (get_or p (length p - length q - 1) 0) 46 ≡ false → in_subtree p q ≡ false
  unfolding in_subtree
  no_dot l d e = rw (ne_eqb (length q) 0 (omega arith), lt-leb _ _ l, d, e)

-- ---- to labels
-- p ends with a dot and x, but for case
record Ends (p x : List ℕ) : Type 0 where
  front : List ℕ
  is : map small p ≡ front ++ (dot ∷ map small x)

ends_below : (p x : List ℕ) → Ends p x → Below (labels x) (labels p)
ends_below p x e =
    let c = cut e.front in
    record {
      first = c.first;
      front = c.more;
      is = lowered_labels p ∙ ap labels e.is ∙ labels_append e.front (map small x) ∙ rw (c.is, lowered_labels x);
    }

below_ends : (p x : List ℕ) → Below (labels x) (labels p) → Ends p x
below_ends p x b =
    record {
      front = text (b.first ∷ b.front);
      is = ends_with (map small p) (map small x) b.first b.front (sym (lowered_labels p) ∙ b.is ∙ rw (lowered_labels x));
    }

-- ---- a text after a dot of which another ends
small_dot : (x : List ℕ) → map small (dot ∷ x) ≡ dot ∷ map small x
unfolding small capital
small_dot x = refl

tail_ends : (p x : List ℕ) → same_text (tail p (dot ∷ x)) (dot ∷ x) ≡ true → Ends p x
tail_ends p x e =
    let k = length p - length (dot ∷ x) in
    record {
      front = map small (take k p);
      is = ap (map small) (sym (take-append-drop k p)) ∙ map-append small (take k p) (drop k p) ∙ rw (same_small (tail p (dot ∷ x)) (dot ∷ x) e, small_dot x);
    }

whole_ends : (p x : List ℕ) → same_text p (dot ∷ x) ≡ true → Ends p x
whole_ends p x e = record { front = []; is = same_small p (dot ∷ x) e ∙ small_dot x }

-- a text that is cut where its small letters are
record CutAt (p g : List ℕ) (b : ℕ) (h : List ℕ) : Type 0 where
  before : List ℕ
  byte : ℕ
  after : List ℕ
  is : p ≡ before ++ (byte ∷ after)
  before_is : map small before ≡ g
  byte_is : small byte ≡ b
  after_is : map small after ≡ h

cut_at : (p g : List ℕ) (b : ℕ) (h : List ℕ) → map small p ≡ g ++ (b ∷ h) → CutAt p g b h
cut_at [] [] b h e = absurd (let z : ◌≡◌ {A = ℕ} 0 1 = cc in omega arith)
cut_at [] (y ∷ ys) b h e = absurd (let z : ◌≡◌ {A = ℕ} 0 1 = cc in omega arith)
cut_at (x ∷ xs) [] b h e = record { before = []; byte = x; after = xs; is = refl; before_is = refl; byte_is = cc; after_is = cc }
cut_at (x ∷ xs) (y ∷ ys) b h e =
    let k : small x ≡ y = cc in
    let r = cut_at xs ys b h (cc) in
    record {
      before = x ∷ r.before;
      byte = r.byte;
      after = r.after;
      is = ap (λ (t : List ℕ). x ∷ t) r.is;
      before_is = rw (k, r.before_is);
      byte_is = r.byte_is;
      after_is = r.after_is;
    }

no_bytes : (h : List ℕ) → length h ≡ 0 → h ≡ []
no_bytes [] e = refl
no_bytes (x ∷ xs) e = absurd (omega arith)

-- an entry that begins with a dot
dot_sound : (p x : List ℕ) → in_subtree p (dot ∷ x) ≡ true → Ends p x
unfolding begins
dot_sound p x e = ⊎_elim (λ l. longer l) (λ l. shorter l) (lt_or_le (length (dot ∷ x)) (length p))
  where
    longer : length (dot ∷ x) < length p → Ends p x
    longer l = tail_ends p x (sym (after_dot p (dot ∷ x) (omega arith) l refl) ∙ e)

    shorter : length p ≤ length (dot ∷ x) → Ends p x
    shorter l = whole_ends p x (sym (at_most p (dot ∷ x) (omega arith) l) ∙ e)

byte_dot : (b : ℕ) → small b ≡ dot → eqb b dot ≡ true
byte_dot b e = sym (small_keeps b dot (omega arith)) ∙ eq-eqb (small b) dot e

-- where the text of small letters is cut, the text is
module _ (p x : List ℕ) (e : Ends p x) where
  cut_there : CutAt p e.front dot (map small x)
  cut_there = cut_at p e.front dot (map small x) e.is

  cut_length : length cut_there.after ≡ length x
  cut_length = sym (length-map cut_there.after small) ∙ ap length cut_there.after_is ∙ length-map x small

  cut_lengths : length p ≡ length cut_there.before + suc (length x)
  cut_lengths = ap length cut_there.is ∙ length-append cut_there.before (cut_there.byte ∷ cut_there.after) ∙ omega (arith, cut_length)

dot_complete : (p x : List ℕ) → Ends p x → in_subtree p (dot ∷ x) ≡ true
unfolding begins
dot_complete p x e = ⊎_elim (λ l. longer l) (λ l. shorter l) (lt_or_le (length (dot ∷ x)) (length p))
  where
    c : CutAt p e.front dot (map small x)
    c = cut_there p x e

    same_end : same_text (c.byte ∷ c.after) (dot ∷ x) ≡ true
    same_end = small_same (c.byte ∷ c.after) (dot ∷ x) (rw (c.byte_is, c.after_is) (sym (small_dot x)))

    n : length p - length (dot ∷ x) ≡ length c.before
    n = omega (arith, cut_lengths p x e)

    tail_is : tail p (dot ∷ x) ≡ c.byte ∷ c.after
    tail_is = ap (λ (k : ℕ). drop k p) n ∙ ap (λ (t : List ℕ). drop (length c.before) t) c.is ∙ drop-append_seam c.before (c.byte ∷ c.after)

    longer : length (dot ∷ x) < length p → in_subtree p (dot ∷ x) ≡ true
    longer l = after_dot p (dot ∷ x) (omega arith) l refl ∙ rw tail_is same_end

    none_before : length p ≤ length (dot ∷ x) → p ≡ c.byte ∷ c.after
    none_before l = c.is ∙ ap (λ (t : List ℕ). t ++ (c.byte ∷ c.after)) (no_bytes c.before (omega (arith, cut_lengths p x e)))

    shorter : length p ≤ length (dot ∷ x) → in_subtree p (dot ∷ x) ≡ true
    shorter l = at_most p (dot ∷ x) (omega arith) l ∙ ap (λ (t : List ℕ). same_text t (dot ∷ x)) (none_before l) ∙ same_end

-- ---- an entry that does not begin with a dot: the same, or it ends so
data Either (p q : List ℕ) : Type 0 where
  same : map small p ≡ map small q → Either p q
  ends : Ends p q → Either p q

other_sound : (p : List ℕ) (b : ℕ) (bs : List ℕ) → eqb b dot ≡ false → in_subtree p (b ∷ bs) ≡ true → Either p (b ∷ bs)
unfolding begins small capital
other_sound p b bs d e = ⊎_elim (λ l. longer l (eqb (get_or p (length p - length (b ∷ bs) - 1) 0) dot) refl) (λ l. shorter l) (lt_or_le (length (b ∷ bs)) (length p))
  where
    shorter : length p ≤ length (b ∷ bs) → Either p (b ∷ bs)
    shorter l = same (same_small p (b ∷ bs) (sym (at_most p (b ∷ bs) (omega arith) l) ∙ e))

    longer : length (b ∷ bs) < length p → (x : Bool) → eqb (get_or p (length p - length (b ∷ bs) - 1) 0) dot ≡ x → Either p (b ∷ bs)
    longer l false h = absurd (true_false e (no_dot p (b ∷ bs) (omega arith) l d h))
    longer l true h =
        let j = length p - length (b ∷ bs) - 1 in
        let s : p ≡ take j p ++ (get_or p j 0 ∷ drop (suc j) p) = split_at p j 0 (omega arith) in
        let n : suc j ≡ length p - length (b ∷ bs) = omega arith in
        let r : same_text (drop (suc j) p) (b ∷ bs) ≡ true = rw n (sym (at_dot p (b ∷ bs) (omega arith) l d h) ∙ e) in
        ends (record {
          front = map small (take j p);
          is = ap (map small) s ∙ map-append small (take j p) (get_or p j 0 ∷ drop (suc j) p) ∙ rw (eqb-true (get_or p j 0) dot h, same_small (drop (suc j) p) (b ∷ bs) r);
        })

other_complete : (p : List ℕ) (b : ℕ) (bs : List ℕ) → eqb b dot ≡ false → Either p (b ∷ bs) → in_subtree p (b ∷ bs) ≡ true
unfolding begins
other_complete p b bs d (same e) =
    let l : length p ≡ length (b ∷ bs) = sym (length-map p small) ∙ ap length e ∙ length-map (b ∷ bs) small in
    at_most p (b ∷ bs) (omega arith) (omega arith) ∙ small_same p (b ∷ bs) e
other_complete p b bs d (ends e) = at_dot p (b ∷ bs) (omega arith) more d dot_is ∙ rw tail_is (small_same c.after (b ∷ bs) c.after_is)
  where
    c : CutAt p e.front dot (map small (b ∷ bs))
    c = cut_there p (b ∷ bs) e

    more : length (b ∷ bs) < length p
    more = omega (arith, cut_lengths p (b ∷ bs) e)

    dot_is : eqb (get_or p (length p - length (b ∷ bs) - 1) 0) dot ≡ true
    dot_is =
        let n : length p - length (b ∷ bs) - 1 ≡ length c.before = omega (arith, cut_lengths p (b ∷ bs) e) in
        rw n (ap (λ (h : List ℕ). eqb (get_or h (length c.before) 0) dot) c.is ∙ rw (get_or-append_seam c.before c.byte c.after 0) (byte_dot c.byte c.byte_is))

    tail_is : tail p (b ∷ bs) ≡ c.after
    tail_is =
        let n : length p - length (b ∷ bs) ≡ length c.before + 1 = omega (arith, cut_lengths p (b ∷ bs) e) in
        ap (λ (k : ℕ). drop k p) n ∙ ap (λ (h : List ℕ). drop (length c.before + 1) h) c.is ∙ drop-append-add c.before (c.byte ∷ c.after) 1

either_within : (p q : List ℕ) → Either p q → Within (labels q) (labels p)
either_within p q (same e) = record { front = []; is = lowered_labels p ∙ ap labels e ∙ sym (lowered_labels q) }
either_within p q (ends e) = let b = ends_below p q e in record { front = b.first ∷ b.front; is = b.is }

within_either : (p q : List ℕ) → Within (labels q) (labels p) → Either p q
within_either p q w = go w.front w.is
  where
    go : (front : Labels) → lowered (labels p) ≡ front ++ lowered (labels q) → Either p q
    go [] e = same (labels_inv (map small p) (map small q) (sym (lowered_labels p) ∙ e ∙ lowered_labels q))
    go (l ∷ ls) e = ends (below_ends p q (record { first = l; front = ls; is = e }))

-- ---- by the entry's labels
root_all : (p : List ℕ) → Below [] (labels p)
unfolding lowered
root_all p = let c = cut p in record { first = map small c.first; front = lowered c.more; is = rw (c.is, append-nil) }

pub subtree_nil : (n : Labels) → InSubtree (labels []) n ≡ Below [] n
unfolding InSubtree labels
subtree_nil n = refl

pub subtree_dot : (b : ℕ) (x : List ℕ) (n : Labels) → eqb b dot ≡ true → InSubtree (labels (b ∷ x)) n ≡ Below (labels x) n
unfolding InSubtree
subtree_dot b x n e = rw (labels_dot b x e)

pub subtree_other : (b : ℕ) (x : List ℕ) (n : Labels) → eqb b dot ≡ false → InSubtree (labels (b ∷ x)) n ≡ Within (labels (b ∷ x)) n
unfolding InSubtree
subtree_other b x n e = rw (cut_more b x e)

-- SUBTREE, both ways
pub subtree_sound : (p q : List ℕ) → in_subtree p q ≡ true → InSubtree (labels q) (labels p)
subtree_sound p [] e = rw (subtree_nil (labels p)) (root_all p)
subtree_sound p (b ∷ bs) e = go (eqb b dot) refl
  where
    go : (x : Bool) → eqb b dot ≡ x → InSubtree (labels (b ∷ bs)) (labels p)
    go true d = rw (subtree_dot b bs (labels p) d) (ends_below p bs (dot_sound p bs (rw (eqb-true b dot d) at e)))
    go false d = rw (subtree_other b bs (labels p) d) (either_within p (b ∷ bs) (other_sound p b bs d e))

pub subtree_complete : (p q : List ℕ) → InSubtree (labels q) (labels p) → in_subtree p q ≡ true
unfolding in_subtree
subtree_complete p [] e = refl
subtree_complete p (b ∷ bs) e = go (eqb b dot) refl
  where
    go : (x : Bool) → eqb b dot ≡ x → in_subtree p (b ∷ bs) ≡ true
    go true d = ap (λ (k : ℕ). in_subtree p (k ∷ bs)) (eqb-true b dot d) ∙ dot_complete p bs (below_ends p bs (rw (subtree_dot b bs (labels p) d) at e))
    go false d = other_complete p b bs d (within_either p (b ∷ bs) (rw (subtree_other b bs (labels p) d) at e))
