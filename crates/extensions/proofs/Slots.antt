-- The slots of known extensions while a list is read, against where the list's layout has them. Assumes nothing.
use Prim.Native.Nat.{ℕ, ◌+◌, ◌≤◌}
use mathlib.Core.Path.{◌≡◌, refl, sym, ap, ◌∙◌}
use mathlib.Core.List.{List, [], ◌∷◌, ◌++◌}
use mathlib.Core.Logic.{⊎_elim}
use mathlib.Core.Bool.{Bool, true, false, cond}
use lib.ListN.{length}
use lib.Dec.{eqb}
use native.Mathlib.Omega.{arith}
use borrow.Author.Tests.{eqb-true, lt-ltb, le-ltb, ne_eqb}
use Rattle.der.specs.declared.Span.{Span}
use Rattle.der.specs.X690.{big_endian, length_bytes, encoding}
use Rattle.der.proofs.Laws.{lt_or_le}
use Rattle.der.proofs.Complete.{bytes_short, bytes_long, big_length}
use Rattle.parts.specs.Lists.{same_list}
use Rattle.extensions.specs.declared.Slot.{Slot}
use Rattle.extensions.specs.declared.Known.{Known}
use Rattle.extensions.specs.Model.{put, set_slot, slot_of, none_known}
use Rattle.extensions.specs.Accepted.{occurs, KnownNumber, key_usage, subject_alt_name, basic_constraints, name_constraints, crl_distribution_points, ext_key_usage}
use Rattle.extensions.specs.Rfc5280.{Extension, extension, is_number, id_ce}
use Rattle.extensions.proofs.Numbers.{numbers}
use Rattle.extensions.specs.Layout.{place_of, absent, there, header, value_of, kept_of, slot_for, slots}

-- ---- the laws of the six slots: what each of the four operations does to the slot of a number
slot_set : (k : Known) (m : ℕ) (v : Slot) (n : ℕ) → KnownNumber n → slot_of (set_slot k m v) n ≡ put n m v (slot_of k n)
unfolding slot_of set_slot
slot_set k m v = numbers (λ n. slot_of (set_slot k m v) n ≡ put n m v (slot_of k n)) refl refl refl refl refl refl

slot_empty : (n : ℕ) → KnownNumber n → slot_of none_known n ≡ absent
unfolding slot_of none_known
slot_empty = numbers (λ n. slot_of none_known n ≡ absent) refl refl refl refl refl refl

slot_laid : (at : ℕ) (xs : List Extension) (n : ℕ) → KnownNumber n → slot_of (slots at xs) n ≡ slot_for n at xs
unfolding slot_of slots
slot_laid at xs = numbers (λ n. slot_of (slots at xs) n ≡ slot_for n at xs) refl refl refl refl refl refl

-- and slots are the same number by number
same_slots : (k l : Known) → ((n : ℕ) → KnownNumber n → slot_of k n ≡ slot_of l n) → k ≡ l
unfolding slot_of
same_slots k l h =
    rebuilt (h 15 key_usage) (h 17 subject_alt_name) (h 19 basic_constraints) (h 30 name_constraints) (h 31 crl_distribution_points) (h 37 ext_key_usage)
  where
    rebuilt : {a a' b b' c c' d d' e e' f f' : Slot} → a ≡ a' → b ≡ b' → c ≡ c' → d ≡ d' → e ≡ e' → f ≡ f'
        → ◌≡◌ {A = Known}
        (record { key_usage = a; alternative_name = b; basic_constraints = c; name_constraints = d; distribution_points = e; key_purposes = f })
        (record { key_usage = a'; alternative_name = b'; basic_constraints = c'; name_constraints = d'; distribution_points = e'; key_purposes = f' })
    rebuilt g h i j k l = rw (g, h, i, j, k, l)

-- ---- one extension at `at`: slot n after it
unfoldable pub filled : Known → ℕ → Extension → ℕ → Slot
filled k at x n = cond (is_number n x) (kept_of n at x) (slot_of k n)

-- the slots are these
abbrev pub Holds : Known → (ℕ → Slot) → Type 0
Holds k f = (n : ℕ) → KnownNumber n → slot_of k n ≡ f n

put_one : (n k : ℕ) (identifier : List ℕ) (v w old : Slot) → identifier ≡ id_ce k → (k ≡ n → v ≡ w) → put n k v old ≡ cond (same_list identifier (id_ce n)) w old
unfolding put same_list
put_one n k identifier v w old e h = rw e (go (eqb k n) refl)
  where
    go : (b : Bool) → eqb k n ≡ b → cond b v old ≡ cond (cond b true false) w old
    go true t = h (eqb-true k n t)
    go false t = refl

pub set_filled : (m : ℕ) (v : Slot) (k : Known) (at : ℕ) (x : Extension) → x.identifier ≡ id_ce m → v ≡ kept_of m at x → Holds (set_slot k m v) (filled k at x)
unfolding filled is_number
set_filled m v k at x e f n number =
    slot_set k m v n number ∙ put_one n m x.identifier v (kept_of n at x) (slot_of k n) e (λ h. f ∙ ap (λ (i : ℕ). kept_of i at x) h)

pub none_filled : (k : Known) (at : ℕ) (x : Extension) → ((n : ℕ) → KnownNumber n → is_number n x ≡ false) → Holds k (filled k at x)
unfolding filled
none_filled k at x never n number = rw (never n number)

-- ---- a list of extensions at `at`: slot n after it
-- a slot that the list may fill
unfoldable pub fill : Slot → Slot → Slot
fill old new = cond new.known new old

unfoldable pub after_all : Known → ℕ → List Extension → ℕ → Slot
after_all k at xs n = fill (slot_of k n) (slot_for n at xs)

slot_none : (n at : ℕ) (xs : List Extension) → occurs n xs ≡ 0 → (slot_for n at xs).known ≡ false
unfolding slot_for occurs
slot_none n at [] e = refl
slot_none n at (x ∷ xs) e = go (is_number n x) e (slot_none n (at + length (extension x)) xs)
  where
    go : (b : Bool) → cond b 1 0 + occurs n xs ≡ 0 → (occurs n xs ≡ 0 → (slot_for n (at + length (extension x)) xs).known ≡ false)
        → (cond b (kept_of n at x) (slot_for n (at + length (extension x)) xs)).known ≡ false
    go true h r = absurd (omega arith)
    go false h r = r (omega arith)

kept_known : (n at : ℕ) (x : Extension) → (kept_of n at x).known ≡ true
unfolding kept_of
kept_known n at x = refl

fill_more : (b : Bool) (v old rest : Slot) → v.known ≡ true → (b ≡ true → rest.known ≡ false) → fill (cond b v old) rest ≡ fill old (cond b v rest)
unfolding fill
fill_more true v old rest k h = rw (h refl, k)
fill_more false v old rest k h = refl

pub after_more : (k k' now : Known) (at : ℕ) (x : Extension) (xs : List Extension) → ((n : ℕ) → KnownNumber n → is_number n x ≡ true → occurs n xs ≡ 0)
    → Holds k' (filled k at x) → Holds now (after_all k' (at + length (extension x)) xs) → Holds now (after_all k at (x ∷ xs))
unfolding after_all filled slot_for
after_more k k' now at x xs alone step rest n number =
    rest n number
    ∙ ap (λ (old : Slot). fill old (slot_for n (at + length (extension x)) xs)) (step n number)
    ∙ fill_more (is_number n x) (kept_of n at x) (slot_of k n) (slot_for n (at + length (extension x)) xs) (kept_known n at x) (λ t. slot_none n (at + length (extension x)) xs (alone n number t))

pub after_none : (k : Known) (at : ℕ) → Holds k (after_all k at [])
unfolding after_all fill slot_for
after_none k at n number = refl

slot_first : (n at : ℕ) (xs : List Extension) → fill absent (slot_for n at xs) ≡ slot_for n at xs
unfolding fill slot_for kept_of
slot_first n at [] = refl
slot_first n at (x ∷ xs) = go (is_number n x) (slot_first n (at + length (extension x)) xs)
  where
    go : (b : Bool) → fill absent (slot_for n (at + length (extension x)) xs) ≡ slot_for n (at + length (extension x)) xs
        → fill absent (cond b (kept_of n at x) (slot_for n (at + length (extension x)) xs)) ≡ cond b (kept_of n at x) (slot_for n (at + length (extension x)) xs)
    go true h = refl
    go false h = h

-- read from nothing, the slots are the layout's
pub after_first : (now : Known) (at : ℕ) (xs : List Extension) → Holds now (after_all none_known at xs) → now ≡ slots at xs
unfolding after_all
after_first now at xs h =
    same_slots now (slots at xs) (λ n number.
    h n number ∙ ap (λ (old : Slot). fill old (slot_for n at xs)) (slot_empty n number) ∙ slot_first n at xs ∙ sym (slot_laid at xs n number))

-- ---- places that are in order and in the bytes
pub record Within (s : List ℕ) (start end : ℕ) : Type 0 where
  pub ordered : start ≤ end
  pub inside : end ≤ length s

abbrev pub AllWithin : List ℕ → Known → Type 0
AllWithin s k = (n : ℕ) → KnownNumber n → Within s (slot_of k n).start (slot_of k n).end

pub none_within : (s : List ℕ) → AllWithin s none_known
none_within s n number = rw (slot_empty n number) (record { ordered = omega arith; inside = omega arith })

pub set_within : (s : List ℕ) (k : Known) (m : ℕ) (new : Slot) → Within s new.start new.end → AllWithin s k → AllWithin s (set_slot k m new)
unfolding put
set_within s k m new w h n number = rw (slot_set k m new n number) (go (eqb m n))
  where
    go : (b : Bool) → Within s (cond b new (slot_of k n)).start (cond b new (slot_of k n)).end
    go true = w
    go false = h n number

pub record KnownWithin (s : List ℕ) (k : Known) : Type 0 where
  pub key_usage : Within s k.key_usage.start k.key_usage.end
  pub alternative_name : Within s k.alternative_name.start k.alternative_name.end
  pub basic_constraints : Within s k.basic_constraints.start k.basic_constraints.end
  pub name_constraints : Within s k.name_constraints.start k.name_constraints.end
  pub distribution_points : Within s k.distribution_points.start k.distribution_points.end
  pub key_purposes : Within s k.key_purposes.start k.key_purposes.end

pub known_within : (s : List ℕ) (k : Known) → AllWithin s k → KnownWithin s k
unfolding slot_of
known_within s k h =
    record {
      key_usage = h 15 key_usage;
      alternative_name = h 17 subject_alt_name;
      basic_constraints = h 19 basic_constraints;
      name_constraints = h 30 name_constraints;
      distribution_points = h 31 crl_distribution_points;
      key_purposes = h 37 ext_key_usage;
    }

-- ---- how many slots are taken
-- 1 where slot n is taken
unfoldable pub used : Known → ℕ → ℕ
used k n = cond (slot_of k n).known 1 0

-- 1 where the extension has number n
unfoldable pub one : ℕ → Extension → ℕ
one n x = cond (is_number n x) 1 0

pub used_none : (n : ℕ) → KnownNumber n → used none_known n ≡ 0
unfolding used
used_none n number = rw (slot_empty n number)

pub used_few : (known : Known) (n : ℕ) → used known n ≤ 1
unfolding used
used_few known n = go (slot_of known n).known
  where
    go : (b : Bool) → cond b 1 0 ≤ 1
    go true = omega arith
    go false = omega arith

pub used_filled : (k k' : Known) (at : ℕ) (x : Extension) (n : ℕ) → KnownNumber n → Holds k' (filled k at x) → used k n + one n x ≤ 1 → used k' n ≡ used k n + one n x
unfolding used one filled
used_filled k k' at x n number step h = rw (step n number) (go (is_number n x) h)
  where
    go : (b : Bool) → cond (slot_of k n).known 1 0 + cond b 1 0 ≤ 1 → cond (cond b (kept_of n at x) (slot_of k n)).known 1 0 ≡ cond (slot_of k n).known 1 0 + cond b 1 0
    go true i = rw (kept_known n at x) (omega arith)
    go false i = omega arith

-- ---- the header of an encoding
header_long : (tag k n : ℕ) (x : List ℕ) → header (tag ∷ (((128 + k) ∷ big_endian k n) ++ x)) ≡ 1 + length ((128 + k) ∷ big_endian k n)
unfolding header
header_long tag k n x =
    let h : 128 ≤ 128 + k = omega arith in
    rw (le-ltb (128 + k) 128 h) (omega (arith, big_length k n))

pub header_is : (tag : ℕ) (x : List ℕ) → header (encoding tag x) ≡ 1 + length (length_bytes (length x))
unfolding header encoding
header_is tag x =
    let n = length x in
    ⊎_elim
    (λ h. rw (bytes_short n h, lt-ltb n 128 h))
    (λ h. rw (bytes_long n h) (header_long tag _ n x))
    (lt_or_le n 128)

-- of a known extension: what is kept of its value
pub kept_usage : (at : ℕ) (x : Extension) (p : Span) → value_of at x ≡ p → there p.start p.end ≡ kept_of 15 at x
unfolding kept_of
kept_usage at x p e = rw e

pub kept_sequence : (n at : ℕ) (x : Extension) (v p : Span) (content : List ℕ) → (n ≡ 15 → ⊥) → value_of at x ≡ v → x.value ≡ encoding 48 content → p ≡ place_of v.start content → p.end ≡ v.end
    → there p.start p.end ≡ kept_of n at x
unfolding kept_of place_of
kept_sequence n at x v p content k e f g h =
    let a : p.start ≡ v.start + header x.value = ap (λ (q : Span). q.start) g ∙ rw f (omega (arith, header_is 48 content)) in
    rw (ne_eqb n 15 k, e, ← a, ← h)

-- where one is of the number, no more are
pub alone : (a b : ℕ) (c : Bool) → c ≡ true → a + (cond c 1 0 + b) ≤ 1 → b ≡ 0
alone a b true e h = omega arith
alone a b false e h = absurd (let z : ◌≡◌ {A = ℕ} 0 1 = cc in omega arith)
