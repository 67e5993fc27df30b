-- VALID: the test byte by byte is the definition on labels, for each role of a text. Assumes nothing.
use Prim.Native.Nat.{ℕ, suc, ◌+◌, ◌-◌, ◌≤◌, ◌<◌}
use mathlib.Core.Path.{◌≡◌, refl, sym, ap, ◌∙◌}
use mathlib.Core.List.{List, [], ◌∷◌, ◌++◌, append-nil}
use mathlib.Core.Bool.{Bool, true, false, cond, not, ◌&&◌, ◌||◌, and-false, and-true, and_assoc, or-true}
use mathlib.Core.Logic.{⊎_elim}
use lib.ListN.{length, get_or, take, drop, length-append}
use lib.Dec.{ltb, leb, eqb}
use native.Mathlib.Omega.{arith}
use borrow.Author.Tests.{eqb-true, eqb-false, leb-true, leb-false, lt-ltb, le-ltb, le-leb, lt-leb, ne_eqb}
use Rattle.der.proofs.Laws.{lt_or_le}
use Rattle.labels.specs.declared.Label.{Label}
use Rattle.texts.specs.Bytes.{dot}
use Rattle.labels.specs.Names.{Labels, hyphen, digit, letter, label_byte, every, last_of, longer, labels, good_label, host_name, capital, none, starred, relative, wanted_name, presented_name, entry_name}
use Rattle.texts.specs.Model.{relative_text, from_dot, begins}
use Rattle.labels.specs.Model.{whole, fresh, grown, take_byte, on_taken, host_from, host_text, valid_starred, valid_presented, valid_wanted, valid_entry}
use lib.Seq.{take-length, take-suc, take-append_seam}
use Rattle.labels.proofs.Labels.{every_snoc, every_front, last_snoc, Cut, cut, joined, joined_longer, labels_nil, labels_dot, labels_more, cut_more, labels_append, last_some}
use Rattle.std.specs.Prelude.{Some, None}

-- the label so far, as it is kept: nothing in it is bad, but it may be empty or end in a hyphen
record Kept (pre : List ℕ) (l : Label) : Type 0 where
  size_is : l.size ≡ length pre
  hyphen_is : l.hyphen ≡ eqb (last_of 0 pre) hyphen
  digits_is : l.digits ≡ every digit pre
  bytes : every label_byte pre ≡ true
  first : eqb (get_or pre 0 0) hyphen ≡ false
  short : length pre ≤ 63

-- one byte more: it is kept, or no label begins so
data Step (pre : List ℕ) (l : Label) (b : ℕ) : Type 0 where
  keeps : (l' : Label) → take_byte l b ≡ Some l' → Kept (pre ++ (b ∷ [])) l' → Step pre l b
  breaks : take_byte l b ≡ None → ((m : List ℕ) → good_label ((pre ++ (b ∷ [])) ++ m) ≡ false) → Step pre l b

-- a label is bad by its length, by a byte or by its first byte
too_long : (l : List ℕ) → 63 < length l → good_label l ≡ false
unfolding good_label
too_long l h = simp (lt-leb (length l) 63 h, and-false)

bad_byte : (l : List ℕ) → every label_byte l ≡ false → good_label l ≡ false
unfolding good_label
bad_byte l h = simp (h, and-false)

bad_first : (l : List ℕ) → eqb (get_or l 0 0) hyphen ≡ true → good_label l ≡ false
unfolding good_label
bad_first l h = simp (h, and-false)

-- a kept label is good if it may end
kept_whole : (pre : List ℕ) (l : Label) → Kept pre l → good_label pre ≡ whole l
unfolding good_label whole
kept_whole pre l k = go pre (eqb (last_of 0 pre) hyphen) refl k
  where
    go : (p : List ℕ) (x : Bool) → eqb (last_of 0 p) hyphen ≡ x → Kept p l
        → (ltb 0 (length p) && (leb (length p) 63 && (every label_byte p && (not (eqb (get_or p 0 0) hyphen) && not (eqb (last_of 0 p) hyphen)))))
        ≡ cond (eqb l.size 0) false (cond l.hyphen false true)
    go [] x e q = rw q.size_is
    go (y ∷ ys) true e q =
        let n : 0 < length (y ∷ ys) = omega arith in
        simp (q.size_is, q.hyphen_is, e, and-false, ne_eqb (length (y ∷ ys)) 0 (omega arith))
    go (y ∷ ys) false e q =
        let n : 0 < length (y ∷ ys) = omega arith in
        simp (q.size_is, q.hyphen_is, e, q.bytes, q.first, le-leb _ _ q.short, lt-ltb 0 (length (y ∷ ys)) n, ne_eqb (length (y ∷ ys)) 0 (omega arith))

one_more : (pre : List ℕ) (b : ℕ) → length (pre ++ (b ∷ [])) ≡ length pre + 1
one_more pre b = length-append pre (b ∷ []) ∙ omega arith

first_kept : (pre : List ℕ) (b : ℕ) → eqb (get_or pre 0 0) hyphen ≡ false → (length pre ≡ 0 → eqb b hyphen ≡ false) → eqb (get_or (pre ++ (b ∷ [])) 0 0) hyphen ≡ false
first_kept [] b e h = h refl
first_kept (x ∷ xs) b e h = e

lone_first : (pre : List ℕ) (b : ℕ) (m : List ℕ) → length pre ≡ 0 → eqb b hyphen ≡ true → eqb (get_or ((pre ++ (b ∷ [])) ++ m) 0 0) hyphen ≡ true
lone_first [] b m z h = h
lone_first (x ∷ xs) b m z h = absurd (omega arith)

-- a byte that is kept
keep : (pre : List ℕ) (l : Label) (b : ℕ) (h d : Bool) → Kept pre l → length pre < 63 → label_byte b ≡ true → (length pre ≡ 0 → eqb b hyphen ≡ false)
    → eqb b hyphen ≡ h → (l.digits && digit b) ≡ d → Kept (pre ++ (b ∷ [])) (record { size = l.size + 1; hyphen = h; digits = d })
keep pre l b h d k s g f e m = record {
  size_is = sym (one_more pre b ∙ ap (λ (n : ℕ). n + 1) (sym k.size_is));
  hyphen_is = rw (last_snoc 0 pre b) (sym e);
  digits_is = sym m ∙ rw k.digits_is (sym (every_snoc digit pre b));
  bytes = every_snoc label_byte pre b ∙ rw (k.bytes, g);
  first = first_kept pre b k.first f;
  short = omega (arith, one_more pre b);
}

-- ---- what taking a byte does, case by case
module _ (l : Label) (b : ℕ) (no_dot : eqb b 46 ≡ false) where
  take_long : leb 63 l.size ≡ true → take_byte l b ≡ None
  unfolding take_byte
  take_long s = search (no_dot, s)

  module _ (fits : leb 63 l.size ≡ false) where
    take_lone : eqb b 45 ≡ true → eqb l.size 0 ≡ true → take_byte l b ≡ None
    unfolding take_byte
    take_lone h z = search (no_dot, fits, h, z)

    take_hyphen : eqb b 45 ≡ true → eqb l.size 0 ≡ false → take_byte l b ≡ grown l true false
    unfolding take_byte
    take_hyphen h z = search (no_dot, fits, h, z)

    take_digit : eqb b 45 ≡ false → digit b ≡ true → take_byte l b ≡ grown l false l.digits
    unfolding take_byte
    take_digit h d = search (no_dot, fits, h, d)

    take_letter : eqb b 45 ≡ false → digit b ≡ false → letter b ≡ true → take_byte l b ≡ grown l false false
    unfolding take_byte
    take_letter h d a = search (no_dot, fits, h, d, a)

    take_underscore : eqb b 45 ≡ false → digit b ≡ false → letter b ≡ false → eqb b 95 ≡ true → take_byte l b ≡ grown l false false
    unfolding take_byte
    take_underscore h d a u = search (no_dot, fits, h, d, a, u)

    take_other : eqb b 45 ≡ false → digit b ≡ false → letter b ≡ false → eqb b 95 ≡ false → take_byte l b ≡ None
    unfolding take_byte
    take_other h d a u = search (no_dot, fits, h, d, a, u)

-- ---- and which bytes are a label's
byte_by : (b : ℕ) (x : Bool) → eqb b 45 ≡ false → digit b ≡ false → letter b ≡ false → eqb b 95 ≡ x → label_byte b ≡ x
unfolding label_byte
byte_by b x h d a u = rw (a, d, h, u)

byte_letter : (b : ℕ) → letter b ≡ true → label_byte b ≡ true
unfolding label_byte
byte_letter b a = rw a

byte_digit : (b : ℕ) → digit b ≡ true → label_byte b ≡ true
unfolding label_byte
byte_digit b d = rw d (or-true (letter b))

hyphen_byte : (b : ℕ) → eqb b 45 ≡ true → (label_byte b ≡ true) × (digit b ≡ false)
unfolding label_byte digit letter capital
hyphen_byte b h = let e : b ≡ 45 = eqb-true b 45 h in rw e (refl, refl)

step : (pre : List ℕ) (l : Label) (b : ℕ) → Kept pre l → eqb b dot ≡ false → Step pre l b
step pre l b k nd = by_size (leb 63 l.size) refl
  where
    by_underscore : leb 63 l.size ≡ false → length pre < 63 → eqb b 45 ≡ false → digit b ≡ false → letter b ≡ false → (x : Bool) → eqb b 95 ≡ x → Step pre l b
    by_underscore f s h d a true u =
        keeps _ (take_underscore l b nd f h d a u) (keep pre l b false false k s (byte_by b true h d a u) (λ z. h) h (rw d (and-false l.digits)))
    by_underscore f s h d a false u =
        breaks (take_other l b nd f h d a u)
        (λ m. bad_byte ((pre ++ (b ∷ [])) ++ m) (every_front label_byte (pre ++ (b ∷ [])) m (every_snoc label_byte pre b ∙ rw (byte_by b false h d a u) (and-false (every label_byte pre)))))

    by_letter : leb 63 l.size ≡ false → length pre < 63 → eqb b 45 ≡ false → digit b ≡ false → (x : Bool) → letter b ≡ x → Step pre l b
    by_letter f s h d true a =
        keeps _ (take_letter l b nd f h d a) (keep pre l b false false k s (byte_letter b a) (λ z. h) h (rw d (and-false l.digits)))
    by_letter f s h d false a = by_underscore f s h d a (eqb b 95) refl

    by_digit : leb 63 l.size ≡ false → length pre < 63 → eqb b 45 ≡ false → (x : Bool) → digit b ≡ x → Step pre l b
    by_digit f s h true d =
        keeps _ (take_digit l b nd f h d) (keep pre l b false l.digits k s (byte_digit b d) (λ z. h) h (rw d (and-true l.digits)))
    by_digit f s h false d = by_letter f s h d (letter b) refl

    by_place : leb 63 l.size ≡ false → length pre < 63 → eqb b 45 ≡ true → (x : Bool) → eqb l.size 0 ≡ x → Step pre l b
    by_place f s h true z =
        breaks (take_lone l b nd f h z)
        (λ m. bad_first ((pre ++ (b ∷ [])) ++ m) (lone_first pre b m (omega (arith, eqb-true l.size 0 z, k.size_is)) h))
    by_place f s h false z =
        keeps _ (take_hyphen l b nd f h z)
        (keep pre l b true false k s (hyphen_byte b h).0 (λ e. absurd (eqb-false l.size 0 z (omega (arith, k.size_is)))) h (rw (hyphen_byte b h).1 (and-false l.digits)))

    by_hyphen : leb 63 l.size ≡ false → length pre < 63 → (x : Bool) → eqb b 45 ≡ x → Step pre l b
    by_hyphen f s true h = by_place f s h (eqb l.size 0) refl
    by_hyphen f s false h = by_digit f s h (digit b) refl

    by_size : (x : Bool) → leb 63 l.size ≡ x → Step pre l b
    by_size true s =
        breaks (take_long l b nd s)
        (λ m. too_long ((pre ++ (b ∷ [])) ++ m) (omega (arith, length-append (pre ++ (b ∷ [])) m, one_more pre b, leb-true 63 l.size s, k.size_is)))
    by_size false s = by_hyphen s (omega (arith, leb-false 63 l.size s, k.size_is)) (eqb b 45) refl

-- ---- a text from a place on, with the label so far before it
host_cons : (l m : List ℕ) (ms : Labels) → host_name (l ∷ (m ∷ ms)) ≡ (good_label l && host_name (m ∷ ms))
unfolding host_name every last_of
host_cons l m ms = and_assoc (good_label l) (good_label m && every good_label ms) (not (every digit (last_of m ms)))

host_bad : (l : List ℕ) (ms : Labels) → good_label l ≡ false → host_name (l ∷ ms) ≡ false
unfolding host_name every
host_bad l ms e = rw e

host_one : (l : List ℕ) → host_name (l ∷ []) ≡ (good_label l && not (every digit l))
unfolding host_name every last_of
host_one l = rw (and-true (good_label l))

joined_bad : (pre : List ℕ) (ms : Labels) → ((m : List ℕ) → good_label (pre ++ m) ≡ false) → host_name (joined pre ms) ≡ false
unfolding joined
joined_bad pre [] h = host_bad pre [] (rw (append-nil pre) at (h []))
joined_bad pre (m ∷ ms) h = host_bad (pre ++ m) ms (h m)

joined_none : (h : List ℕ) → joined [] (labels h) ≡ labels h
unfolding joined
joined_none h = let c = cut h in rw c.is

kept_none : Kept [] fresh
unfolding every last_of
kept_none = record { size_is = refl; hyphen_is = refl; digits_is = refl; bytes = refl; first = refl; short = omega arith }

joined_dot : (pre bs : List ℕ) → host_name (joined pre ([] ∷ labels bs)) ≡ (good_label pre && host_name (labels bs))
unfolding joined
joined_dot pre bs = let c = cut bs in rw (append-nil pre, c.is) (host_cons pre c.first c.more)

dot_taken : (b : ℕ) (bs : List ℕ) (l : Label) → eqb b dot ≡ true → host_from (b ∷ bs) l ≡ (whole l && host_from bs fresh)
unfolding host_from take_byte on_taken
dot_taken b bs l e = go (whole l) refl
  where
    go : (x : Bool) → whole l ≡ x → on_taken (take_byte l b) (host_from bs) ≡ (x && host_from bs fresh)
    go true w = rw (e, w)
    go false w = rw (e, w)

taken_next : (b : ℕ) (bs : List ℕ) (l l' : Label) → take_byte l b ≡ Some l' → host_from (b ∷ bs) l ≡ host_from bs l'
unfolding host_from on_taken
taken_next b bs l l' e = rw e

taken_bad : (b : ℕ) (bs : List ℕ) (l : Label) → take_byte l b ≡ None → host_from (b ∷ bs) l ≡ false
unfolding host_from on_taken
taken_bad b bs l e = rw e

ends : (d w : Bool) → cond d false w ≡ (w && not d)
ends true w = sym (and-false w)
ends false w = sym (and-true w)

last_label : (pre : List ℕ) (l : Label) → Kept pre l → host_from [] l ≡ host_name (joined pre (labels []))
unfolding host_from labels joined
last_label pre l k = rw (append-nil, host_one, kept_whole pre l k, ← k.digits_is) (ends l.digits (whole l))

-- the rest of a text with the label so far, if it is so for what is after the next byte
more_from : (b : ℕ) (bs pre : List ℕ) (l : Label) → Kept pre l → ((q : List ℕ) (m : Label) → Kept q m → host_from bs m ≡ host_name (joined q (labels bs)))
    → host_from (b ∷ bs) l ≡ host_name (joined pre (labels (b ∷ bs)))
more_from b bs pre l k rest = go (eqb b dot) refl
  where
    by_step : eqb b dot ≡ false → Step pre l b → host_from (b ∷ bs) l ≡ host_name (joined pre (labels (b ∷ bs)))
    by_step e (keeps l' t k') = taken_next b bs l l' t ∙ rest (pre ++ (b ∷ [])) l' k' ∙ rw (labels_more b bs e, joined_longer)
    by_step e (breaks t bad) = taken_bad b bs l t ∙ sym (rw (labels_more b bs e, joined_longer) (joined_bad (pre ++ (b ∷ [])) (labels bs) bad))

    go : (x : Bool) → eqb b dot ≡ x → host_from (b ∷ bs) l ≡ host_name (joined pre (labels (b ∷ bs)))
    go true e =
        dot_taken b bs l e ∙ rw (labels_dot b bs e, joined_dot pre bs, kept_whole pre l k, ← joined_none bs) (ap (λ (x : Bool). whole l && x) (rest [] fresh kept_none))
    go false e = by_step e (step pre l b k e)

host_from_lem : (bs pre : List ℕ) (l : Label) → Kept pre l → host_from bs l ≡ host_name (joined pre (labels bs))
host_from_lem [] pre l k = last_label pre l k
host_from_lem (b ∷ bs) pre l k = more_from b bs pre l k (λ q m h. host_from_lem bs q m h)

pub host_text_lem : (h : List ℕ) → host_text h ≡ host_name (labels h)
unfolding host_text
host_text_lem h = host_from_lem h [] fresh kept_none ∙ ap host_name (joined_none h)

-- ---- the three roles
at_most : (n : ℕ) (x : Bool) → cond (ltb 253 n) false x ≡ (leb n 253 && x)
at_most n x = ⊎_elim (λ h. above h) (λ h. within h) (lt_or_le 253 n)
  where
    above : 253 < n → cond (ltb 253 n) false x ≡ (leb n 253 && x)
    above h = rw (lt-ltb 253 n h, lt-leb n 253 h)

    within : n ≤ 253 → cond (ltb 253 n) false x ≡ (leb n 253 && x)
    within h = rw (le-ltb 253 n h, le-leb n 253 h)

-- a text and its last byte
last_split : (h : List ℕ) → 0 < length h → h ≡ take (length h - 1) h ++ (get_or h (length h - 1) 0 ∷ [])
last_split h p =
    let e : length h ≡ suc (length h - 1) = omega arith in
    sym (take-length h) ∙ ap (λ (n : ℕ). take n h) e ∙ take-suc h (length h - 1) 0 (omega arith)

root_off : (g : List ℕ) → relative (labels (g ++ (dot ∷ []))) ≡ labels g
unfolding relative none
root_off g =
    let e : labels (g ++ (dot ∷ [])) ≡ labels g ++ ([] ∷ []) = labels_append g [] ∙ ap (λ (m : Labels). labels g ++ m) labels_nil in
    let l : none (last_of [] (labels g ++ ([] ∷ []))) ≡ true = rw (last_snoc [] (labels g) []) in
    let n : length (labels g ++ ([] ∷ [])) - 1 ≡ length (labels g) = omega (arith, length-append (labels g) ([] ∷ [])) in
    rw (e, l, n) (take-append_seam (labels g) ([] ∷ []))

no_root : (g : List ℕ) (b : ℕ) → eqb b dot ≡ false → relative (labels (g ++ (b ∷ []))) ≡ labels (g ++ (b ∷ []))
unfolding relative
no_root g b e = rw (last_some g b [] e)

relative_dot : (h : List ℕ) → 0 < length h → eqb (get_or h (length h - 1) 0) dot ≡ true → labels (relative_text h) ≡ labels (take (length h - 1) h)
unfolding relative_text
relative_dot h p e = rw (ne_eqb (length h) 0 (omega arith), e)

relative_other : (h : List ℕ) → 0 < length h → eqb (get_or h (length h - 1) 0) dot ≡ false → labels (relative_text h) ≡ labels h
unfolding relative_text
relative_other h p e = rw (ne_eqb (length h) 0 (omega arith), e)

-- without the dot at its end a text has its labels without the root's
pub labels_relative : (h : List ℕ) → 0 < length h → labels (relative_text h) ≡ relative (labels h)
labels_relative h p = go (eqb (get_or h (length h - 1) 0) dot) refl
  where
    go : (x : Bool) → eqb (get_or h (length h - 1) 0) dot ≡ x → labels (relative_text h) ≡ relative (labels h)
    go true e =
        let l : h ≡ take (length h - 1) h ++ (dot ∷ []) = last_split h p ∙ ap (λ (b : ℕ). take (length h - 1) h ++ (b ∷ [])) (eqb-true _ _ e) in
        relative_dot h p e ∙ sym (root_off (take (length h - 1) h)) ∙ ap (λ (g : List ℕ). relative (labels g)) (sym l)
    go false e =
        let l = last_split h p in
        relative_other h p e ∙ ap labels l ∙ sym (no_root (take (length h - 1) h) (get_or h (length h - 1) 0) e) ∙ ap (λ (g : List ℕ). relative (labels g)) (sym l)

host_relative : (h : List ℕ) → host_text (relative_text h) ≡ host_name (relative (labels h))
unfolding relative_text relative labels host_name every last_of none good_label
host_relative [] = host_text_lem []
host_relative (x ∷ xs) = host_text_lem (relative_text (x ∷ xs)) ∙ ap host_name (labels_relative (x ∷ xs) (omega arith))

pub wanted_valid : (h : List ℕ) → valid_wanted h ≡ wanted_name h
unfolding valid_wanted wanted_name
wanted_valid h = at_most (length h) (host_text (relative_text h)) ∙ rw (host_relative h)

-- ---- a star
longer_length : (b : ℕ) (h : List ℕ) → length (longer b (labels h)) ≡ length (labels h)
unfolding longer
longer_length b h = let c = cut h in rw c.is

-- a text has a dot if and only if it has two labels or more
dots_more : (h : List ℕ) → eqb (length (from_dot h)) 0 ≡ not (leb 2 (length (labels h)))
unfolding from_dot labels
dots_more [] = refl
dots_more (x ∷ xs) = go (eqb x 46) (cut xs) (dots_more xs)
  where
    go : (t : Bool) → Cut xs → eqb (length (from_dot xs)) 0 ≡ not (leb 2 (length (labels xs)))
        → eqb (length (cond t (x ∷ xs) (from_dot xs))) 0 ≡ not (leb 2 (length (cond t ([] ∷ labels xs) (longer x (labels xs)))))
    go true c r =
        let n : 2 ≤ length ([] ∷ labels xs) = omega (arith, ap length c.is) in
        rw (ne_eqb (length (x ∷ xs)) 0 (omega arith), le-leb 2 (length ([] ∷ labels xs)) n)
    go false c r = rw (longer_length x xs) r

pub no_star : (x : ℕ) (xs : List ℕ) → eqb x 42 ≡ false → starred (labels (x ∷ xs)) ≡ false
unfolding starred
no_star x xs e = go (eqb x dot) refl
  where
    go : (t : Bool) → eqb x dot ≡ t → starred (labels (x ∷ xs)) ≡ false
    go true d = rw (labels_dot x xs d)
    go false d = rw (cut_more x xs d, e)

-- what the standard asks of the labels of a presented name
abbrev Presented : List ℕ → Bool
Presented h =
    cond (starred (labels h)) (leb 2 (length (drop 1 (labels h))) && host_name (drop 1 (labels h))) (host_name (labels h))

after_star : (h : List ℕ) → valid_starred h ≡ (leb 2 (length (labels h)) && host_name (labels h))
unfolding valid_starred
after_star h = rw (dots_more h, host_text_lem h) (go (leb 2 (length (labels h))) (host_name (labels h)))
  where
    go : (a b : Bool) → cond (not a) false b ≡ (a && b)
    go true b = refl
    go false b = refl

-- a label that begins with a star is not good
pub star_bad : (l : List ℕ) → good_label (42 ∷ l) ≡ false
unfolding every label_byte letter capital digit
star_bad l = bad_byte (42 ∷ l) refl

star_alone : labels (42 ∷ []) ≡ (42 ∷ []) ∷ []
unfolding labels longer
star_alone = refl

pub star_dot : (y : ℕ) (ys : List ℕ) → eqb y dot ≡ true → labels (42 ∷ (y ∷ ys)) ≡ (42 ∷ []) ∷ labels ys
unfolding longer
star_dot y ys e = labels_more 42 (y ∷ ys) refl ∙ rw (labels_dot y ys e)

star_other : (y : ℕ) (ys : List ℕ) → eqb y dot ≡ false → labels (42 ∷ (y ∷ ys)) ≡ (42 ∷ (y ∷ (cut ys).first)) ∷ (cut ys).more
unfolding longer
star_other y ys e = labels_more 42 (y ∷ ys) refl ∙ rw (cut_more y ys e)

begun_star : (xs : List ℕ) → cond (begins xs 46) (valid_starred (drop 1 xs)) false ≡ Presented (42 ∷ xs)
unfolding begins starred none
begun_star [] = rw star_alone
begun_star (y ∷ ys) = go (eqb y dot) refl
  where
    go : (t : Bool) → eqb y dot ≡ t → cond (eqb y dot) (valid_starred ys) false ≡ Presented (42 ∷ (y ∷ ys))
    go true e = rw (e, star_dot y ys e) (after_star ys)
    go false e = rw (e, star_other y ys e) (sym (host_bad (42 ∷ (y ∷ (cut ys).first)) (cut ys).more (star_bad (y ∷ (cut ys).first))))

begun_presented : (h : List ℕ) → cond (begins h 42) (cond (begins (drop 1 h) 46) (valid_starred (drop 1 (drop 1 h))) false) (host_text h) ≡ Presented h
unfolding begins starred
begun_presented [] = rw labels_nil (host_text_lem [] ∙ ap host_name labels_nil)
begun_presented (x ∷ xs) = go (eqb x 42) refl
  where
    go : (t : Bool) → eqb x 42 ≡ t → cond (eqb x 42) (cond (begins xs 46) (valid_starred (drop 1 xs)) false) (host_text (x ∷ xs)) ≡ Presented (x ∷ xs)
    go true e = rw (eqb-true x 42 e) (begun_star xs)
    go false e = rw (e, no_star x xs e) (host_text_lem (x ∷ xs))

pub presented_valid : (h : List ℕ) → valid_presented h ≡ presented_name h
unfolding valid_presented presented_name
presented_valid h = at_most (length h) _ ∙ rw (begun_presented h)

begun_entry : (h : List ℕ) → cond (eqb (length h) 0) true (cond (begins h 46) (host_text (drop 1 h)) (host_text h))
    ≡ (none h || host_name (cond (none (get_or (labels h) 0 [])) (drop 1 (labels h)) (labels h)))
unfolding begins none
begun_entry [] = refl
begun_entry (x ∷ xs) = go (eqb x 46) refl
  where
    go : (t : Bool) → eqb x 46 ≡ t → cond (eqb (length (x ∷ xs)) 0) true (cond (eqb x 46) (host_text xs) (host_text (x ∷ xs))) ≡ host_name (cond (none (get_or (labels (x ∷ xs)) 0 [])) (drop 1 (labels (x ∷ xs))) (labels (x ∷ xs)))
    go true e = rw (ne_eqb (length (x ∷ xs)) 0 (omega arith), e, labels_dot x xs e) (host_text_lem xs)
    go false e = rw (ne_eqb (length (x ∷ xs)) 0 (omega arith), e, host_text_lem, cut_more x xs e)

pub entry_valid : (h : List ℕ) → valid_entry h ≡ entry_name h
unfolding valid_entry entry_name
entry_valid h = at_most (length h) _ ∙ rw (begun_entry h)
