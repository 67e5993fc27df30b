-- Laws of texts and their labels: a text is one with its labels, the case of letters, what is after a dot. Assumes nothing.
use Prim.Native.Nat.{ℕ, ◌+◌, ◌≤◌, ◌<◌}
use mathlib.Core.Path.{◌≡◌, refl, sym, ap, ◌∙◌}
use mathlib.Core.List.{List, [], ◌∷◌, ◌++◌, map, append_assoc}
use mathlib.Core.Bool.{Bool, true, false, cond, ◌&&◌}
use lib.Dec.{eqb, leb}
use native.Mathlib.Omega.{arith}
use borrow.Author.Tests.{eq-eqb, ne_eqb, eqb-true, leb-true}
use Rattle.std.specs.Char.{to_ascii_lowercase}
use Rattle.der.proofs.Laws.{tests}
use Rattle.texts.specs.Bytes.{dot}
use Rattle.labels.specs.Names.{Labels, capital, longer, labels}
use Rattle.dns.specs.Names.{small, lowered, Same}
use Rattle.texts.specs.Model.{from_dot}
use Rattle.dns.specs.Model.{same_text}
use Rattle.labels.proofs.Labels.{true_false, cut, labels_dot, labels_more}

-- ---- the text of labels
unfoldable pub dotted : Labels → List ℕ
dotted [] = []
dotted (l ∷ ls) = dot ∷ (l ++ dotted ls)

unfoldable pub text : Labels → List ℕ
text [] = []
text (l ∷ ls) = l ++ dotted ls

dotted_text : (l : List ℕ) (ls : Labels) → dotted (l ∷ ls) ≡ dot ∷ text (l ∷ ls)
unfolding dotted text
dotted_text l ls = refl

pub dotted_cut : (h : List ℕ) → dotted (labels h) ≡ dot ∷ text (labels h)
dotted_cut h = let c = cut h in rw c.is (dotted_text c.first c.more)

text_longer : (b : ℕ) (h : List ℕ) → text (longer b (labels h)) ≡ b ∷ text (labels h)
unfolding text longer
text_longer b h = let c = cut h in rw c.is

pub text_labels : (h : List ℕ) → text (labels h) ≡ h
unfolding labels text dotted
text_labels [] = refl
text_labels (b ∷ bs) = go (eqb b dot) refl (text_labels bs)
  where
    go : (x : Bool) → eqb b dot ≡ x → text (labels bs) ≡ bs → text (cond x ([] ∷ labels bs) (longer b (labels bs))) ≡ b ∷ bs
    go true e r = dotted_cut bs ∙ rw (r, eqb-true b dot e)
    go false e r = text_longer b bs ∙ rw r

-- a text has its labels alone
pub labels_inv : (g h : List ℕ) → labels g ≡ labels h → g ≡ h
labels_inv g h e = sym (text_labels g) ∙ ap text e ∙ text_labels h

dotted_append : (ls ms : Labels) → dotted (ls ++ ms) ≡ dotted ls ++ dotted ms
unfolding dotted
dotted_append [] ms = refl
dotted_append (l ∷ ls) ms = ap (λ (t : List ℕ). dot ∷ t) (ap (λ (t : List ℕ). l ++ t) (dotted_append ls ms) ∙ sym (append_assoc l (dotted ls) (dotted ms)))

text_append : (l : List ℕ) (ls ms : Labels) → text ((l ∷ ls) ++ ms) ≡ text (l ∷ ls) ++ dotted ms
unfolding text
text_append l ls ms = rw (dotted_append ls ms) (sym (append_assoc l (dotted ls) (dotted ms)))

-- a text whose labels end with another's is the other after a dot
pub ends_with : (g h : List ℕ) (l : List ℕ) (ls : Labels) → labels g ≡ l ∷ (ls ++ labels h) → g ≡ text (l ∷ ls) ++ (dot ∷ h)
ends_with g h l ls e =
    sym (text_labels g) ∙ ap text e ∙ text_append l ls (labels h) ∙ ap (λ (t : List ℕ). text (l ∷ ls) ++ t) (dotted_cut h ∙ ap (λ (t : List ℕ). dot ∷ t) (text_labels h))

-- ---- the case of letters
pub small_other : (b : ℕ) → capital b ≡ false → small b ≡ b
unfolding small
small_other b e = rw e

small_capital : (b : ℕ) → capital b ≡ true → small b ≡ b + 32
unfolding small
small_capital b e = rw e

pub both : (a b : Bool) → (a && b) ≡ true → (a ≡ true) × (b ≡ true)
both true b e = (refl, e)
both false b e = absurd (true_false e refl)

capital_is : (b : ℕ) → capital b ≡ true → (65 ≤ b) × (b ≤ 90)
unfolding capital
capital_is b e = let p = both (leb 65 b) (leb b 90) e in (leb-true 65 b p.0, leb-true b 90 p.1)

-- no letter is one of the bytes below the letters
pub small_keeps : (b k : ℕ) → k < 65 → eqb (small b) k ≡ eqb b k
small_keeps b k l = go (capital b) refl
  where
    go : (x : Bool) → capital b ≡ x → eqb (small b) k ≡ eqb b k
    go true e =
        let c = capital_is b e in
        rw (small_capital b e, ne_eqb (b + 32) k (omega arith), ne_eqb b k (omega arith))
    go false e = rw (small_other b e)

-- a letter as the library makes it small
lower_is : (b : ℕ) → to_ascii_lowercase b ≡ small b
unfolding small capital
lower_is b = grind (arith, tests)

pub lower_small : (h : List ℕ) → map to_ascii_lowercase h ≡ map small h
lower_small [] = refl
lower_small (b ∷ bs) = let e = lower_is b in let r = lower_small bs in cc

lowered_longer : (b : ℕ) (h : List ℕ) → lowered (longer b (labels h)) ≡ longer (small b) (lowered (labels h))
unfolding lowered longer
lowered_longer b h = let c = cut h in rw c.is

pub lowered_labels : (h : List ℕ) → lowered (labels h) ≡ labels (map small h)
unfolding labels lowered
lowered_labels [] = refl
lowered_labels (b ∷ bs) = go (eqb b dot) refl (lowered_labels bs)
  where
    go : (x : Bool) → eqb b dot ≡ x → lowered (labels bs) ≡ labels (map small bs)
        → lowered (cond x ([] ∷ labels bs) (longer b (labels bs))) ≡ cond (eqb (small b) dot) ([] ∷ labels (map small bs)) (longer (small b) (labels (map small bs)))
    go true e r = rw (small_keeps b dot (omega arith), e) (ap (λ (ls : Labels). [] ∷ ls) r)
    go false e r = rw (small_keeps b dot (omega arith), e) (lowered_longer b bs ∙ ap (longer (small b)) r)

pub same_small : (g h : List ℕ) → same_text g h ≡ true → map small g ≡ map small h
unfolding same_text
same_small [] [] e = refl
same_small [] (y ∷ ys) e = absurd (true_false e refl)
same_small (x ∷ xs) [] e = absurd (true_false e refl)
same_small (x ∷ xs) (y ∷ ys) e = go (eqb (small x) (small y)) refl e (same_small xs ys)
  where
    go : (t : Bool) → eqb (small x) (small y) ≡ t → cond t (same_text xs ys) false ≡ true → (same_text xs ys ≡ true → map small xs ≡ map small ys)
        → small x ∷ map small xs ≡ small y ∷ map small ys
    go true q k ih = rw (eqb-true (small x) (small y) q, ih k)
    go false q k ih = absurd (true_false k refl)

pub small_same : (g h : List ℕ) → map small g ≡ map small h → same_text g h ≡ true
unfolding same_text
small_same [] [] e = refl
small_same [] (y ∷ ys) e = absurd (let z : ◌≡◌ {A = ℕ} 0 1 = cc in omega arith)
small_same (x ∷ xs) [] e = absurd (let z : ◌≡◌ {A = ℕ} 0 1 = cc in omega arith)
small_same (x ∷ xs) (y ∷ ys) e =
    let a : small x ≡ small y = cc in
    let b : map small xs ≡ map small ys = cc in
    rw (eq-eqb _ _ a) (small_same xs ys b)

-- two texts are the same but for case if and only if their labels are
pub same_labels : (g h : List ℕ) → same_text g h ≡ true → Same (labels g) (labels h)
same_labels g h e = lowered_labels g ∙ ap labels (same_small g h e) ∙ sym (lowered_labels h)

pub labels_same : (g h : List ℕ) → Same (labels g) (labels h) → same_text g h ≡ true
labels_same g h e = small_same g h (labels_inv (map small g) (map small h) (sym (lowered_labels g) ∙ e ∙ lowered_labels h))

-- ---- a text up to its first dot and from there on
pub data Dots (h : List ℕ) : Type 0 where
  one : (l : List ℕ) → from_dot h ≡ [] → labels h ≡ l ∷ [] → Dots h
  two : (l t : List ℕ) → from_dot h ≡ dot ∷ t → labels h ≡ l ∷ labels t → Dots h

dots_longer : (b : ℕ) (h : List ℕ) → eqb b dot ≡ false → Dots h → Dots (b ∷ h)
unfolding from_dot longer
dots_longer b h e (one l f c) = one (b ∷ l) (rw e f) (labels_more b h e ∙ rw c)
dots_longer b h e (two l t f c) = two (b ∷ l) t (rw e f) (labels_more b h e ∙ rw c)

pub dots : (h : List ℕ) → Dots h
unfolding from_dot labels
dots [] = one [] refl refl
dots (b ∷ bs) = go (eqb b dot) refl (dots bs)
  where
    go : (x : Bool) → eqb b dot ≡ x → Dots bs → Dots (b ∷ bs)
    go true e d = two [] bs (rw (e, eqb-true b dot e)) (labels_dot b bs e)
    go false e d = dots_longer b bs e d
