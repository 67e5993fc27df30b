-- MATCH: what a comparison of names answers, on labels. Assumes nothing.
use Prim.Native.Nat.{ℕ, suc}
use mathlib.Core.Path.{◌≡◌, refl, sym, ap, ◌∙◌}
use mathlib.Core.List.{List, [], ◌∷◌, ◌++◌, map}
use mathlib.Core.Bool.{Bool, true, false, cond, not, ◌&&◌}
use mathlib.Core.Logic.{◌⊎◌, inl, inr, ⊎_elim}
use lib.ListN.{length, get_or, drop, length-map, length-append}
use lib.Dec.{eqb, leb, ltb}
use native.Mathlib.Omega.{arith}
use borrow.Author.Tests.{eqb-true, eq-eqb}
use Rattle.refusal.specs.Refusals.{malformed_dns_identifier, malformed_name_constraint}
use Rattle.der.proofs.Invert.{peel, either}
use Rattle.texts.specs.Bytes.{dot}
use Rattle.labels.specs.Names.{Labels, capital, digit, letter, label_byte, every, last_of, none, labels, good_label, host_name, relative, starred, wanted_name, presented_name, entry_name}
use Rattle.dns.specs.Names.{small, lowered, Same, Starred, StandsFor, Within, Below, InSubtree, AllIn, SomeIn}
use Rattle.dns.specs.Stricter.{Stricter}
use Rattle.dns.specs.Answers.{Decides}
use Rattle.texts.specs.Model.{begins, from_dot, relative_text}
use Rattle.labels.specs.Model.{valid_presented, valid_wanted}
use Rattle.dns.specs.Model.{same_text, stands_for, in_subtree, meets_subtree, match_wanted, match_permitted, match_excluded}
use Rattle.dns.proofs.Laws.{yes_no, yes_refused, no_refused}
use Rattle.labels.proofs.Labels.{labels_nil, true_false, cut, labels_dot, cut_more}
use Rattle.dns.proofs.Texts.{both, small_keeps, same_labels, labels_same, Dots, one, two, dots}
use Rattle.labels.proofs.Valid.{wanted_valid, presented_valid, entry_valid, labels_relative, star_dot, star_bad, no_star}
use Rattle.dns.proofs.Subtree.{subtree_nil, subtree_dot, subtree_other, subtree_sound, subtree_complete}
use Rattle.std.specs.Prelude.{Ok, Err, Result}

decides : (b : Bool) (P : Type 0) → (b ≡ true → P) → (P → b ≡ true) → Decides (Ok b) P
decides true P f g = inl (refl, f refl)
decides false P f g = inr (refl, λ h. true_false (g h) refl)

-- ---- what a valid text is
-- a presented name is plain, or a star, a dot and more
data Shown (p : List ℕ) : Type 0 where
  plain : starred (labels p) ≡ false → begins p 42 ≡ false → Shown p
  wild : (ys : List ℕ) → p ≡ 42 ∷ (46 ∷ ys) → Shown p

starred_nil : starred (labels []) ≡ false
unfolding starred labels
starred_nil = refl

no_more : (t : List ℕ) → valid_presented (42 ∷ t) ≡ true → begins t 46 ≡ true
unfolding valid_presented begins
no_more t v =
    let e = peel (ltb 253 (length (42 ∷ t))) v (λ h. true_false h refl) in
    ⊎_elim (λ h. h.0) (λ h. absurd (true_false h.1 refl)) (either (begins t 46) e.1)

begun : (t : List ℕ) (b : ℕ) → begins t b ≡ true → t ≡ b ∷ drop 1 t
unfolding begins
begun [] b e = absurd (true_false e refl)
begun (x ∷ xs) b e = rw (eqb-true x b e)

shown : (p : List ℕ) → presented_name p ≡ true → Shown p
unfolding begins
shown [] v = plain starred_nil refl
shown (x ∷ xs) v = go (eqb x 42) refl
  where
    go : (t : Bool) → eqb x 42 ≡ t → Shown (x ∷ xs)
    go true e =
        let m = no_more xs (rw (eqb-true x 42 e) at (presented_valid (x ∷ xs) ∙ v)) in
        wild (drop 1 xs) (rw (eqb-true x 42 e) (ap (λ (t : List ℕ). 42 ∷ t) (begun xs 46 m)))
    go false e = plain (no_star x xs e) e

-- the first label of a host name is good
host_first : (l : List ℕ) (ls : Labels) → host_name (l ∷ ls) ≡ true → good_label l ≡ true
unfolding host_name every
host_first l ls e =
    let a = both (good_label l && every good_label ls) (not (every digit (last_of [] (l ∷ ls)))) e in
    (both (good_label l) (every good_label ls) a.0).0

-- a wanted name without its dot
wanted_text : (q : List ℕ) → wanted_name q ≡ true → (labels (relative_text q) ≡ relative (labels q)) × (host_name (labels (relative_text q)) ≡ true)
unfolding wanted_name relative labels host_name every last_of none
wanted_text [] v = absurd (true_false v refl)
wanted_text (x ∷ xs) v = let e = labels_relative (x ∷ xs) (omega arith) in (e, rw e (both (leb (length (x ∷ xs)) 253) (host_name (relative (labels (x ∷ xs)))) v).1)

-- an entry that does not begin with a dot is a host name
entry_host : (b : ℕ) (bs : List ℕ) → eqb b dot ≡ false → entry_name (b ∷ bs) ≡ true → good_label (b ∷ (cut bs).first) ≡ true
unfolding entry_name none
entry_host b bs d v =
    let h = labels (b ∷ bs) in
    let e : host_name (cond (none (get_or h 0 [])) (drop 1 h) h) ≡ true = (both (leb (length (b ∷ bs)) 253) (host_name (cond (none (get_or h 0 [])) (drop 1 h) h)) v).1 in
    host_first (b ∷ (cut bs).first) (cut bs).more (rw (cut_more b bs d) at e)

-- ---- WANTED
wild_labels : (ys : List ℕ) → labels (42 ∷ (46 ∷ ys)) ≡ (42 ∷ []) ∷ labels ys
wild_labels ys = star_dot 46 ys refl

wild_starred : (s : Labels) → starred ((42 ∷ []) ∷ s) ≡ true
unfolding starred none
wild_starred s = refl

no_labels : (h : List ℕ) → Same (labels h) [] → ⊥
unfolding lowered
no_labels h e = let c = cut h in let q : map (map small) (c.first ∷ c.more) ≡ [] = rw c.is at e in let z : ◌≡◌ {A = ℕ} 0 1 = cc in omega arith

same_dots : (g h : List ℕ) → same_text (46 ∷ g) (46 ∷ h) ≡ same_text g h
unfolding same_text small capital
same_dots g h = refl

same_none : (g : List ℕ) → same_text (46 ∷ g) [] ≡ false
unfolding same_text
same_none g = refl

-- the rest of a name after its first label is the same, by its text from the first dot on
same_rest : (ys b : List ℕ) → same_text (46 ∷ ys) (from_dot b) ≡ true → (l : List ℕ) × ((t : List ℕ) × ((labels b ≡ l ∷ labels t) × Same (labels ys) (labels t)))
same_rest ys b e = go (dots b)
  where
    go : Dots b → (l : List ℕ) × ((t : List ℕ) × ((labels b ≡ l ∷ labels t) × Same (labels ys) (labels t)))
    go (one l f c) = absurd (true_false (rw f at e) (same_none ys))
    go (two l t f c) = (l, (t, (c, same_labels ys t (sym (same_dots ys t) ∙ (rw f at e)))))

rest_same : (ys b : List ℕ) (l : List ℕ) (x : Labels) → labels b ≡ l ∷ x → Same (labels ys) x → same_text (46 ∷ ys) (from_dot b) ≡ true
rest_same ys b l x c s = go (dots b)
  where
    go : Dots b → same_text (46 ∷ ys) (from_dot b) ≡ true
    go (one m f d) = let a : x ≡ [] = cc (c, d) in absurd (no_labels ys (rw a at s))
    go (two m t f d) = let a : x ≡ labels t = cc (c, d) in rw f (same_dots ys t ∙ labels_same ys t (rw a at s))

wild_sound : (ys r : List ℕ) → host_name (labels r) ≡ true → same_text (46 ∷ ys) (from_dot r) ≡ true → Starred ((42 ∷ []) ∷ labels ys) (labels r)
wild_sound ys r v e =
    let d = same_rest ys r e in
    record {
      label = d.0;
      after = labels d.1.0;
      is_starred = wild_starred (labels ys);
      good = host_first d.0 (labels d.1.0) (rw d.1.1.0 at v);
      is = d.1.1.0;
      same = d.1.1.1;
    }

wild_complete : (ys r : List ℕ) → Starred ((42 ∷ []) ∷ labels ys) (labels r) → same_text (46 ∷ ys) (from_dot r) ≡ true
wild_complete ys r s = rest_same ys r s.label s.after s.is s.same

plain_stands : (p r : List ℕ) → begins p 42 ≡ false → stands_for p r ≡ same_text p r
unfolding stands_for
plain_stands p r e = rw e

wild_stands : (ys r : List ℕ) → stands_for (42 ∷ (46 ∷ ys)) r ≡ same_text (46 ∷ ys) (from_dot r)
unfolding stands_for begins
wild_stands ys r = refl

stands_sound : (p r : List ℕ) → Shown p → host_name (labels r) ≡ true → stands_for p r ≡ true → StandsFor (labels p) (labels r)
stands_sound p r (plain s b) v e = inl (s, same_labels p r (sym (plain_stands p r b) ∙ e))
stands_sound p r (wild ys q) v e = inr (rw (q, wild_labels ys) (wild_sound ys r v (sym (wild_stands ys r) ∙ (rw q at e))))

stands_complete : (p r : List ℕ) → Shown p → StandsFor (labels p) (labels r) → stands_for p r ≡ true
stands_complete p r (plain s b) (inl x) = plain_stands p r b ∙ labels_same p r x.1
stands_complete p r (plain s b) (inr x) = absurd (true_false x.is_starred s)
stands_complete p r (wild ys q) (inl x) = absurd (true_false (wild_starred (labels ys)) (rw (q, wild_labels ys) at x.0))
stands_complete p r (wild ys q) (inr x) = rw q (wild_stands ys r ∙ wild_complete ys r (rw (q, wild_labels ys) at x))

valid_wanted_lem : (p q : List ℕ) → presented_name p ≡ true → wanted_name q ≡ true → match_wanted p q ≡ Ok (stands_for p (relative_text q))
unfolding match_wanted
valid_wanted_lem p q a b = rw (presented_valid p, a, wanted_valid q, b)

-- WANTED: yes if the presented name stands for the wanted one
pub wanted_decides : (p q : List ℕ) → presented_name p ≡ true → wanted_name q ≡ true → Decides (match_wanted p q) (StandsFor (labels p) (relative (labels q)))
wanted_decides p q a b =
    let t = wanted_text q b in
    rw (valid_wanted_lem p q a b, ← t.0) (decides (stands_for p (relative_text q)) _ (stands_sound p (relative_text q) (shown p a) t.1) (stands_complete p (relative_text q) (shown p a)))

-- ---- subtrees and the names that a star stands for
subtree_same : (e n m : Labels) → Same n m → InSubtree e n → InSubtree e m
unfolding InSubtree
subtree_same [] n m s h = h
subtree_same ([] ∷ x) n m s h = record { first = h.first; front = h.front; is = sym s ∙ h.is }
subtree_same ((b ∷ l) ∷ x) n m s h = record { front = h.front; is = sym s ∙ h.is }

-- below x whatever the first label is
below_swap : (x : Labels) (l m : List ℕ) (s t : Labels) → Same s t → Below x (l ∷ s) → Below x (m ∷ t)
unfolding lowered
below_swap x l m s t e b =
    let r : lowered s ≡ b.front ++ lowered x = cc b.is in
    record { first = map small m; front = b.front; is = ap (λ (ls : Labels). map small m ∷ ls) (sym e ∙ r) }

-- of a name and what is below it: the name itself, or below it whatever the first label is
within_swap : (x : Labels) (l m : List ℕ) (s t : Labels) → Same s t → Within x (l ∷ s) → Within x (m ∷ t) ⊎ Same (l ∷ s) x
unfolding lowered
within_swap x l m s t e w = go w.front w.is
  where
    go : (front : Labels) → lowered (l ∷ s) ≡ front ++ lowered x → Within x (m ∷ t) ⊎ Same (l ∷ s) x
    go [] h = inr h
    go (f ∷ fs) h =
        let r : lowered s ≡ fs ++ lowered x = cc in
        inl (record { front = map small m ∷ fs; is = ap (λ (ls : Labels). map small m ∷ ls) (sym e ∙ r) })

same_after : (l m : List ℕ) (s t : Labels) → Same (l ∷ s) (m ∷ t) → Same s t
unfolding lowered
same_after l m s t e = cc

-- a star is no label
small_star : small 42 ≡ 42
unfolding small capital
small_star = refl

star_not : (b : ℕ) (l : List ℕ) (s x : Labels) → Same ((42 ∷ []) ∷ s) ((b ∷ l) ∷ x) → good_label (b ∷ l) ≡ true → ⊥
unfolding lowered
star_not b l s x e g =
    let q : small 42 ≡ small b = cc in
    let k : b ≡ 42 = eqb-true b 42 (sym (small_keeps b 42 (omega arith)) ∙ eq-eqb (small b) 42 (sym q ∙ small_star)) in
    true_false (rw k at g) (star_bad l)

-- two labels
good_a : good_label (97 ∷ []) ≡ true
unfolding good_label every label_byte letter capital last_of
good_a = refl

good_b : good_label (98 ∷ []) ≡ true
unfolding good_label every label_byte letter capital last_of
good_b = refl

differ : (s t x : Labels) → Same ((97 ∷ []) ∷ s) x → Same ((98 ∷ []) ∷ t) x → ⊥
unfolding lowered small capital
differ s t x e f = let q : lowered ((97 ∷ []) ∷ s) ≡ lowered ((98 ∷ []) ∷ t) = e ∙ sym f in let z : ◌≡◌ {A = ℕ} 97 98 = cc in omega arith

-- a star stands for any good label
for_label : (l : List ℕ) (s : Labels) → good_label l ≡ true → Starred ((42 ∷ []) ∷ s) (l ∷ s)
for_label l s g = record { label = l; after = s; is_starred = wild_starred s; good = g; is = refl; same = refl }

-- an entry by its text: no name is in it but below x, or it is a host name and what is below
data Entry (q : List ℕ) : Type 1 where
  under : (x : Labels) → ((n : Labels) → InSubtree (labels q) n ≡ Below x n) → Entry q
  from : (b : ℕ) (bs l : List ℕ) (x : Labels) → q ≡ b ∷ bs → labels bs ≡ l ∷ x → good_label (b ∷ l) ≡ true → ((n : Labels) → InSubtree (labels q) n ≡ Within ((b ∷ l) ∷ x) n) → Entry q

entry : (q : List ℕ) → entry_name q ≡ true → Entry q
entry [] v = under [] (λ n. subtree_nil n)
entry (b ∷ bs) v = go (eqb b dot) refl
  where
    go : (t : Bool) → eqb b dot ≡ t → Entry (b ∷ bs)
    go true d = under (labels bs) (λ n. subtree_dot b bs n d)
    go false d = from b bs (cut bs).first (cut bs).more refl (cut bs).is (entry_host b bs d v) (λ n. subtree_other b bs n d ∙ rw (cut_more b bs d))

-- all that a star stands for is in the subtree, if it is with the star as a label
swap_all : (q : List ℕ) → Entry q → (s : Labels) → InSubtree (labels q) ((42 ∷ []) ∷ s) → (n : Labels) → Starred ((42 ∷ []) ∷ s) n → InSubtree (labels q) n
swap_all q (under x w) s h n m = rw (w n, m.is) (below_swap x (42 ∷ []) m.label s m.after m.same (rw (w ((42 ∷ []) ∷ s)) at h))
swap_all q (from b bs l x t c g w) s h n m =
    rw (w n, m.is)
    (⊎_elim
    (λ k. k)
    (λ k. absurd (star_not b l s x k g))
    (within_swap ((b ∷ l) ∷ x) (42 ∷ []) m.label s m.after m.same (rw (w ((42 ∷ []) ∷ s)) at h)))

-- and if all is, it is with the star as a label
all_swap : (q : List ℕ) → Entry q → (s : Labels) → ((n : Labels) → Starred ((42 ∷ []) ∷ s) n → InSubtree (labels q) n) → InSubtree (labels q) ((42 ∷ []) ∷ s)
all_swap q (under x w) s h =
    rw (w ((42 ∷ []) ∷ s)) (below_swap x (97 ∷ []) (42 ∷ []) s s refl (rw (w ((97 ∷ []) ∷ s)) at (h ((97 ∷ []) ∷ s) (for_label (97 ∷ []) s good_a))))
all_swap q (from b bs l x t c g w) s h =
    rw (w ((42 ∷ []) ∷ s))
    (⊎_elim
    (λ k. k)
    (λ j. ⊎_elim (λ k. k) (λ k. absurd (differ s s ((b ∷ l) ∷ x) j k)) (at_label (98 ∷ []) good_b))
    (at_label (97 ∷ []) good_a))
  where
    at_label : (m : List ℕ) → good_label m ≡ true → Within ((b ∷ l) ∷ x) ((42 ∷ []) ∷ s) ⊎ Same (m ∷ s) ((b ∷ l) ∷ x)
    at_label m k = within_swap ((b ∷ l) ∷ x) m (42 ∷ []) s s refl (rw (w (m ∷ s)) at (h (m ∷ s) (for_label m s k)))

-- ---- PERMITTED
permitted_sound : (p q : List ℕ) → Shown p → Entry q → InSubtree (labels q) (labels p) → AllIn (labels p) (labels q)
permitted_sound p q (plain s b) t h n (inl x) = subtree_same (labels q) (labels p) n x.1 h
permitted_sound p q (plain s b) t h n (inr x) = absurd (true_false x.is_starred s)
permitted_sound p q (wild ys e) t h n (inl x) = absurd (true_false (wild_starred (labels ys)) (rw (e, wild_labels ys) at x.0))
permitted_sound p q (wild ys e) t h n (inr x) = swap_all q t (labels ys) (rw (e, wild_labels ys) at h) n (rw (e, wild_labels ys) at x)

permitted_complete : (p q : List ℕ) → Shown p → Entry q → AllIn (labels p) (labels q) → InSubtree (labels q) (labels p)
permitted_complete p q (plain s b) t h = h (labels p) (inl (s, refl))
permitted_complete p q (wild ys e) t h = rw (e, wild_labels ys) (all_swap q t (labels ys) (λ n x. h n (inr (rw (e, wild_labels ys) x))))

valid_permitted : (p q : List ℕ) → presented_name p ≡ true → entry_name q ≡ true → match_permitted p q ≡ Ok (in_subtree p q)
unfolding match_permitted
valid_permitted p q a b = rw (presented_valid p, a, entry_valid q, b)

-- PERMITTED: yes if every name that the presented one stands for is in the subtree
pub permitted_decides : (p q : List ℕ) → presented_name p ≡ true → entry_name q ≡ true → Decides (match_permitted p q) (AllIn (labels p) (labels q))
permitted_decides p q a b =
    rw (valid_permitted p q a b)
    (decides (in_subtree p q) (AllIn (labels p) (labels q)) (λ e. permitted_sound p q (shown p a) (entry q b) (subtree_sound p q e)) (λ h. subtree_complete p q (permitted_complete p q (shown p a) (entry q b) h)))

-- ---- EXCLUDED
plain_meets : (p q : List ℕ) → begins p 42 ≡ false → meets_subtree p q ≡ in_subtree p q
unfolding meets_subtree
plain_meets p q e = go (in_subtree p q) refl
  where
    go : (x : Bool) → in_subtree p q ≡ x → meets_subtree p q ≡ x
    go true h = rw h
    go false h = rw (h, e)

inside_meets : (p q : List ℕ) → in_subtree p q ≡ true → meets_subtree p q ≡ true
unfolding meets_subtree
inside_meets p q e = rw e

star_meets : (ys q : List ℕ) → same_text (46 ∷ ys) (from_dot (drop 1 q)) ≡ true → meets_subtree (42 ∷ (46 ∷ ys)) q ≡ true
unfolding meets_subtree begins
star_meets ys q e = go (in_subtree (42 ∷ (46 ∷ ys)) q) refl
  where
    go : (x : Bool) → in_subtree (42 ∷ (46 ∷ ys)) q ≡ x → meets_subtree (42 ∷ (46 ∷ ys)) q ≡ true
    go true h = rw h
    go false h = rw (h, e)

meets_star : (ys q : List ℕ) → meets_subtree (42 ∷ (46 ∷ ys)) q ≡ true → (in_subtree (42 ∷ (46 ∷ ys)) q ≡ true) ⊎ (same_text (46 ∷ ys) (from_dot (drop 1 q)) ≡ true)
unfolding meets_subtree begins
meets_star ys q e = ⊎_elim (λ h. inl h.0) (λ h. inr h.1) (either (in_subtree (42 ∷ (46 ∷ ys)) q) e)

-- a star for the first label of an entry
star_first : (ys q : List ℕ) → entry_name q ≡ true → same_text (46 ∷ ys) (from_dot (drop 1 q)) ≡ true → SomeIn (labels (42 ∷ (46 ∷ ys))) (labels q) ⊎ Stricter (labels (42 ∷ (46 ∷ ys))) (labels q)
unfolding from_dot
star_first ys [] v e = absurd (true_false e (same_none ys))
star_first ys (b ∷ bs) v e = go (eqb b dot) refl (same_rest ys bs e)
  where
    go : (x : Bool) → eqb b dot ≡ x → (l : List ℕ) × ((t : List ℕ) × ((labels bs ≡ l ∷ labels t) × Same (labels ys) (labels t)))
        → SomeIn (labels (42 ∷ (46 ∷ ys))) (labels (b ∷ bs)) ⊎ Stricter (labels (42 ∷ (46 ∷ ys))) (labels (b ∷ bs))
    go true d r =
        inr (record {
          label = r.0;
          after = labels r.1.0;
          is_starred = rw (wild_labels ys) (wild_starred (labels ys));
          is = labels_dot b bs d ∙ rw r.1.1.0;
          same = rw (wild_labels ys) r.1.1.1;
        })
    go false d r =
        let c = cut bs in
        let m : c.more ≡ labels r.1.0 = cc (c.is, r.1.1.0) in
        inl (record {
          name = labels (b ∷ bs);
          stands = inr (record {
            label = b ∷ c.first;
            after = c.more;
            is_starred = rw (wild_labels ys) (wild_starred (labels ys));
            good = entry_host b bs d v;
            is = cut_more b bs d;
            same = rw (wild_labels ys, m) r.1.1.1;
          });
          inside = rw (subtree_other b bs (labels (b ∷ bs)) d) (record { front = []; is = refl });
        })

wild_some : (ys q : List ℕ) → entry_name q ≡ true → in_subtree (42 ∷ (46 ∷ ys)) q ≡ true → SomeIn (labels (42 ∷ (46 ∷ ys))) (labels q)
wild_some ys q v e =
    let h : InSubtree (labels q) ((42 ∷ []) ∷ labels ys) = rw (wild_labels ys) at (subtree_sound (42 ∷ (46 ∷ ys)) q e) in
    let f = for_label (97 ∷ []) (labels ys) good_a in
    record {
      name = (97 ∷ []) ∷ labels ys;
      stands = inr (rw (wild_labels ys) f);
      inside = swap_all q (entry q v) (labels ys) h ((97 ∷ []) ∷ labels ys) f;
    }

excluded_sound : (p q : List ℕ) → Shown p → entry_name q ≡ true → meets_subtree p q ≡ true → SomeIn (labels p) (labels q) ⊎ Stricter (labels p) (labels q)
excluded_sound p q (plain s b) v e =
    inl (record { name = labels p; stands = inl (s, refl); inside = subtree_sound p q (sym (plain_meets p q b) ∙ e) })
excluded_sound p q (wild ys k) v e =
    rw k (⊎_elim (λ h. inl (wild_some ys q v h)) (λ h. star_first ys q v h) (meets_star ys q (rw k at e)))

-- what a star stands for in the subtree: the whole is in it, or the entry is its text
some_wild : (ys q : List ℕ) → Entry q → (n : Labels) → Starred ((42 ∷ []) ∷ labels ys) n → InSubtree (labels q) n → meets_subtree (42 ∷ (46 ∷ ys)) q ≡ true
some_wild ys q (under x w) n m h =
    let i : Below x (m.label ∷ m.after) = rw (w n, m.is) at h in
    inside_meets (42 ∷ (46 ∷ ys)) q (subtree_complete (42 ∷ (46 ∷ ys)) q (rw (wild_labels ys, w ((42 ∷ []) ∷ labels ys)) (below_swap x m.label (42 ∷ []) m.after (labels ys) (sym m.same) i)))
some_wild ys q (from b bs l x t c g w) n m h =
    let i : Within ((b ∷ l) ∷ x) (m.label ∷ m.after) = rw (w n, m.is) at h in
    ⊎_elim
    (λ k. inside_meets (42 ∷ (46 ∷ ys)) q (subtree_complete (42 ∷ (46 ∷ ys)) q (rw (wild_labels ys, w ((42 ∷ []) ∷ labels ys)) k)))
    (λ k. star_meets ys q (rw t (rest_same ys bs l x c (m.same ∙ same_after m.label (b ∷ l) m.after x k))))
    (within_swap ((b ∷ l) ∷ x) m.label (42 ∷ []) m.after (labels ys) (sym m.same) i)

stricter_wild : (ys q : List ℕ) → Stricter ((42 ∷ []) ∷ labels ys) (labels q) → meets_subtree (42 ∷ (46 ∷ ys)) q ≡ true
stricter_wild ys [] s = absurd (let k : [] ∷ [] ≡ [] ∷ (s.label ∷ s.after) = sym labels_nil ∙ s.is in let z : ◌≡◌ {A = ℕ} 0 1 = cc in omega arith)
stricter_wild ys (b ∷ bs) s = go (eqb b dot) refl
  where
    go : (x : Bool) → eqb b dot ≡ x → meets_subtree (42 ∷ (46 ∷ ys)) (b ∷ bs) ≡ true
    go true d =
        let k : labels bs ≡ s.label ∷ s.after = cc (labels_dot b bs d, s.is) in
        star_meets ys (b ∷ bs) (rest_same ys bs s.label s.after k s.same)
    go false d = absurd (let k = sym (cut_more b bs d) ∙ s.is in let z : ◌≡◌ {A = ℕ} 0 1 = cc in omega arith)

excluded_complete : (p q : List ℕ) → Shown p → entry_name q ≡ true → SomeIn (labels p) (labels q) ⊎ Stricter (labels p) (labels q) → meets_subtree p q ≡ true
excluded_complete p q (plain s b) v (inl x) = plain_meets p q b ∙ subtree_complete p q (plain_some x.stands)
  where
    plain_some : StandsFor (labels p) x.name → InSubtree (labels q) (labels p)
    plain_some (inl y) = subtree_same (labels q) x.name (labels p) (sym y.1) x.inside
    plain_some (inr y) = absurd (true_false y.is_starred s)
excluded_complete p q (plain s b) v (inr x) = absurd (true_false x.is_starred s)
excluded_complete p q (wild ys k) v (inl x) = rw k (by_name x.stands)
  where
    by_name : StandsFor (labels p) x.name → meets_subtree (42 ∷ (46 ∷ ys)) q ≡ true
    by_name (inl y) = absurd (true_false (wild_starred (labels ys)) (rw (k, wild_labels ys) at y.0))
    by_name (inr y) = some_wild ys q (entry q v) x.name (rw (k, wild_labels ys) at y) x.inside
excluded_complete p q (wild ys k) v (inr x) = rw k (stricter_wild ys q (rw (k, wild_labels ys) at x))

valid_excluded : (p q : List ℕ) → presented_name p ≡ true → entry_name q ≡ true → match_excluded p q ≡ Ok (meets_subtree p q)
unfolding match_excluded
valid_excluded p q a b = rw (presented_valid p, a, entry_valid q, b)

-- EXCLUDED: yes if some name that the presented one stands for is in the subtree, or in the one stricter place
pub excluded_decides : (p q : List ℕ) → presented_name p ≡ true → entry_name q ≡ true → Decides (match_excluded p q) (SomeIn (labels p) (labels q) ⊎ Stricter (labels p) (labels q))
excluded_decides p q a b =
    rw (valid_excluded p q a b)
    (decides (meets_subtree p q) (SomeIn (labels p) (labels q) ⊎ Stricter (labels p) (labels q)) (excluded_sound p q (shown p a) b) (excluded_complete p q (shown p a) b))

-- ---- what is malformed is refused, the presented name first
pub wanted_refused : (p q : List ℕ) → (presented_name p && wanted_name q) ≡ false → match_wanted p q ≡ Err malformed_dns_identifier
unfolding match_wanted
wanted_refused p q e = go (presented_name p) (wanted_name q) (presented_valid p) (wanted_valid q) e
  where
    go : (a b : Bool) → valid_presented p ≡ a → valid_wanted q ≡ b → (a && b) ≡ false → match_wanted p q ≡ Err malformed_dns_identifier
    go true true h k f = absurd (true_false refl f)
    go true false h k f = rw (h, k)
    go false b h k f = rw h

pub presented_refused : (p q : List ℕ) → presented_name p ≡ false
    → (match_permitted p q ≡ Err malformed_dns_identifier) × (match_excluded p q ≡ Err malformed_dns_identifier)
unfolding match_permitted match_excluded
presented_refused p q a = (rw (presented_valid p, a), rw (presented_valid p, a))

pub entry_refused : (p q : List ℕ) → presented_name p ≡ true → entry_name q ≡ false
    → (match_permitted p q ≡ Err malformed_name_constraint) × (match_excluded p q ≡ Err malformed_name_constraint)
unfolding match_permitted match_excluded
entry_refused p q a b = (rw (presented_valid p, a, entry_valid q, b), rw (presented_valid p, a, entry_valid q, b))

-- an answer was given, so both were names
both_valid : (p q : List ℕ) (f : List ℕ → List ℕ → Result Bool ℕ) (x : Result Bool ℕ) → ((e : ℕ) → x ≡ Err e → ⊥)
    → (presented_name p ≡ false → f p q ≡ Err malformed_dns_identifier) → (presented_name p ≡ true → entry_name q ≡ false → f p q ≡ Err malformed_name_constraint)
    → f p q ≡ x → (presented_name p ≡ true) × (entry_name q ≡ true)
both_valid p q f x n a b e = go (presented_name p) (entry_name q) refl refl
  where
    go : (s t : Bool) → presented_name p ≡ s → entry_name q ≡ t → (presented_name p ≡ true) × (entry_name q ≡ true)
    go true true h k = (h, k)
    go true false h k = absurd (n malformed_name_constraint (sym e ∙ b h k))
    go false t h k = absurd (n malformed_dns_identifier (sym e ∙ a h))

-- PERMITTED says yes only if all that the presented name stands for is in the subtree, and EXCLUDED no only if nothing is
pub permitted_all : (p q : List ℕ) → match_permitted p q ≡ Ok true → AllIn (labels p) (labels q)
permitted_all p q e =
    let v = both_valid p q match_permitted (Ok true) (λ x. yes_refused) (λ a. (presented_refused p q a).0) (λ a b. (entry_refused p q a b).0) e in
    ⊎_elim (λ d. d.1) (λ d. absurd (yes_no (sym e ∙ d.0))) (permitted_decides p q v.0 v.1)

pub excluded_none : (p q : List ℕ) → match_excluded p q ≡ Ok false → (n : Labels) → StandsFor (labels p) n → InSubtree (labels q) n → ⊥
excluded_none p q e n s i =
    let v = both_valid p q match_excluded (Ok false) (λ x. no_refused) (λ a. (presented_refused p q a).1) (λ a b. (entry_refused p q a b).1) e in
    ⊎_elim (λ d. yes_no (sym d.0 ∙ e)) (λ d. d.1 (inl (record { name = n; stands = s; inside = i }))) (excluded_decides p q v.0 v.1)

-- ---- the one place is stricter: nothing that the presented name stands for is in the subtree
same_length : (s t : Labels) → Same s t → length s ≡ length t
unfolding lowered
same_length s t e = sym (length-map s (map small)) ∙ ap length e ∙ length-map t (map small)

lowered_length : (s : Labels) → length (lowered s) ≡ length s
unfolding lowered
lowered_length s = length-map s (map small)

pub stricter_none : (p e : Labels) → Stricter p e → SomeIn p e → ⊥
unfolding InSubtree
stricter_none p e s w = go w.stands (rw s.is at w.inside)
  where
    go : StandsFor p w.name → Below (s.label ∷ s.after) w.name → ⊥
    go (inl x) b = true_false s.is_starred x.0
    go (inr x) b =
        let n : length w.name ≡ suc (length x.after) = ap length x.is in
        let m : length w.name ≡ suc (length (b.front ++ lowered (s.label ∷ s.after))) = sym (lowered_length w.name) ∙ ap length b.is in
        let k = same_length (drop 1 p) s.after s.same in
        let i = same_length (drop 1 p) x.after x.same in
        omega (arith, n, m, k, i, length-append b.front (lowered (s.label ∷ s.after)), lowered_length (s.label ∷ s.after))
