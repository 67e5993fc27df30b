-- Laws of labels: of lists, and of a text that is cut at its dots. Assumes nothing.
use Prim.Native.Nat.{ℕ}
use mathlib.Core.Path.{◌≡◌, refl, sym, ap, ◌∙◌}
use mathlib.Core.List.{List, [], ◌∷◌, ◌++◌, append_assoc}
use mathlib.Core.Bool.{Bool, true, false, cond, ◌&&◌}
use lib.Dec.{eqb}
use native.Mathlib.Omega.{arith}
use Rattle.texts.specs.Bytes.{dot}
use Rattle.labels.specs.Names.{Labels, every, last_of, longer, labels, none}

pub true_false : {b : Bool} → b ≡ true → b ≡ false → ⊥
true_false h k = let e : true ≡ false = sym h ∙ k in let z : ◌≡◌ {A = ℕ} 0 1 = cc in omega arith

-- ---- lists
pub every_snoc : {A : Type 0} (good : A → Bool) (xs : List A) (x : A) → every good (xs ++ (x ∷ [])) ≡ every good xs && good x
unfolding every
every_snoc good [] x = go (good x)
  where
    go : (b : Bool) → (b && true) ≡ b
    go true = refl
    go false = refl
every_snoc good (y ∷ ys) x = go (good y) (every_snoc good ys x)
  where
    go : (b : Bool) → every good (ys ++ (x ∷ [])) ≡ every good ys && good x → (b && every good (ys ++ (x ∷ []))) ≡ (b && every good ys && good x)
    go true e = e
    go false e = refl

-- a list is not all good if a front of it is not
pub every_front : {A : Type 0} (good : A → Bool) (xs ys : List A) → every good xs ≡ false → every good (xs ++ ys) ≡ false
unfolding every
every_front good [] ys e = absurd (true_false refl e)
every_front good (x ∷ xs) ys e = go (good x) e (every_front good xs ys)
  where
    go : (b : Bool) → (b && every good xs) ≡ false → (every good xs ≡ false → every good (xs ++ ys) ≡ false) → (b && every good (xs ++ ys)) ≡ false
    go true h ih = ih h
    go false h ih = refl

pub last_snoc : {A : Type 0} (other : A) (xs : List A) (x : A) → last_of other (xs ++ (x ∷ [])) ≡ x
unfolding last_of
last_snoc other [] x = refl
last_snoc other (y ∷ ys) x = last_snoc y ys x

-- ---- a text
pub labels_nil : labels [] ≡ [] ∷ []
unfolding labels
labels_nil = refl

-- a text has a first label
pub record Cut (h : List ℕ) : Type 0 where
  pub first : List ℕ
  pub more : Labels
  pub is : labels h ≡ first ∷ more

pub cut : (h : List ℕ) → Cut h
unfolding labels longer
cut [] = record { first = []; more = []; is = refl }
cut (b ∷ bs) = go (eqb b dot) refl (cut bs)
  where
    go : (x : Bool) → eqb b dot ≡ x → Cut bs → Cut (b ∷ bs)
    go true e c = record { first = []; more = labels bs; is = rw e }
    go false e c = record { first = b ∷ c.first; more = c.more; is = rw (e, c.is) }

-- bytes before the first label
unfoldable pub joined : List ℕ → Labels → Labels
joined l [] = l ∷ []
joined l (m ∷ ms) = (l ++ m) ∷ ms

pub joined_longer : (l : List ℕ) (b : ℕ) (ms : Labels) → joined l (longer b ms) ≡ joined (l ++ (b ∷ [])) ms
unfolding joined longer
joined_longer l b [] = refl
joined_longer l b (m ∷ ms) = ap (λ (x : List ℕ). x ∷ ms) (sym (append_assoc l (b ∷ []) m))

pub labels_dot : (b : ℕ) (bs : List ℕ) → eqb b dot ≡ true → labels (b ∷ bs) ≡ [] ∷ labels bs
unfolding labels
labels_dot b bs e = rw e

pub labels_more : (b : ℕ) (bs : List ℕ) → eqb b dot ≡ false → labels (b ∷ bs) ≡ longer b (labels bs)
unfolding labels
labels_more b bs e = rw e

-- the first label of a text that does not begin with a dot begins as the text does
pub cut_more : (b : ℕ) (bs : List ℕ) → eqb b dot ≡ false → labels (b ∷ bs) ≡ (b ∷ (cut bs).first) ∷ (cut bs).more
unfolding longer
cut_more b bs e = labels_more b bs e ∙ rw (cut bs).is

longer_append : (b : ℕ) (h : List ℕ) (ms : Labels) → longer b (labels h ++ ms) ≡ longer b (labels h) ++ ms
unfolding longer
longer_append b h ms = let c = cut h in rw c.is

-- two texts with a dot between them
pub labels_append : (g h : List ℕ) → labels (g ++ (dot ∷ h)) ≡ labels g ++ labels h
unfolding labels
labels_append [] h = refl
labels_append (b ∷ bs) h = go (eqb b dot) (labels_append bs h)
  where
    go : (x : Bool) → labels (bs ++ (dot ∷ h)) ≡ labels bs ++ labels h
        → cond x ([] ∷ labels (bs ++ (dot ∷ h))) (longer b (labels (bs ++ (dot ∷ h)))) ≡ cond x ([] ∷ labels bs) (longer b (labels bs)) ++ labels h
    go true e = ap (λ (ls : Labels). [] ∷ ls) e
    go false e = rw e (longer_append b bs (labels h))

-- the last label of a text that does not end in a dot is not empty
last_longer : (b : ℕ) (m : List ℕ) (ms : Labels) → none (last_of m ms) ≡ false → none (last_of (b ∷ m) ms) ≡ false
unfolding last_of none
last_longer b m [] e = refl
last_longer b m (l ∷ ls) e = e

pub last_some : (h : List ℕ) (b : ℕ) (other : List ℕ) → eqb b dot ≡ false → none (last_of other (labels (h ++ (b ∷ [])))) ≡ false
unfolding labels longer last_of none
last_some [] b other e = rw e
last_some (x ∷ xs) b other e = go (eqb x dot) (cut (xs ++ (b ∷ []))) (last_some xs b [] e)
  where
    go : (t : Bool) → Cut (xs ++ (b ∷ [])) → none (last_of [] (labels (xs ++ (b ∷ [])))) ≡ false
        → none (last_of other (cond t ([] ∷ labels (xs ++ (b ∷ []))) (longer x (labels (xs ++ (b ∷ [])))))) ≡ false
    go true c r = r
    go false c r = rw c.is (last_longer x c.first c.more (rw c.is at r))
