-- THEOREMS: the count goes on exactly where the model does: from an entry's headers to its comparison, from a name to the next; and a text that is accepted, or found the same, was looked at wholly. Assumes nothing.
use Prim.Native.Nat.{ℕ, ◌+◌, ◌*◌}
use mathlib.Core.Path.{◌≡◌, refl, ap, ◌∙◌}
use mathlib.Core.List.{List, [], ◌∷◌, ◌++◌, append_assoc}
use mathlib.Core.Bool.{Bool, true, false, cond}
use lib.ListN.{length}
use lib.Dec.{leb, eqb}
use native.Mathlib.Omega.{arith}
use borrow.Author.Tests.{eq-eqb, ne_eqb}
use Rattle.der.specs.Model.{on_content}
use Rattle.der.specs.Places.{part}
use Rattle.looks.specs.Der.{nothing, value_looks}
use Rattle.texts.specs.Bytes.{dot}
use Rattle.labels.specs.Names.{hyphen, underscore, longest_label, digit, letter}
use Rattle.dns.specs.Names.{small}
use Rattle.dns.specs.Model.{same_text}
use Rattle.texts.specs.Model.{from_dot}
use Rattle.labels.specs.Model.{whole, fresh, take_byte, on_taken, host_from, host_text}
use Rattle.names.specs.Model.{general_name, is_wanted}
use Rattle.entries.specs.Model.{on_name, base_at, on_base}
use Rattle.compared.specs.Dns.{text_looks, same_text_looks, from_dot_looks, through, all_taken, label_looks, host_looks}
use Rattle.compared.specs.Names.{fit_looks, try_looks}
use Rattle.compared.specs.Entries.{base_looks}
use Rattle.compared.proofs.Dns.{not-true}
use Rattle.std.specs.Prelude.{Ok, Err, Result}
use Rattle.der.specs.declared.Span.{Span}
use Rattle.names.specs.declared.general.Name.{Name}

-- h counts what is looked at after an answer
content_follows : (h : Result Name ℕ → ℕ) (v : ℕ) (g : Result Span ℕ) (f : ℕ → ℕ → Result Name ℕ) (k l : ℕ → ℕ → ℕ) → ((e : ℕ) → h (Err e) ≡ 0) → ((a b : ℕ) → k a b ≡ l a b + h (f a b))
    → v + on_content g nothing k ≡ (v + on_content g nothing l) + h (on_content g Err f)
unfolding on_content
content_follows h v (Ok p) f k l z e = omega (arith, e p.start p.end)
content_follows h v (Err n) f k l z e = omega (arith, z n)

name_follows : (h : Result Name ℕ → ℕ) (v : ℕ) (g : Result Name ℕ) (f : ℕ → ℕ → ℕ → Result Name ℕ) (k l : ℕ → ℕ → ℕ → ℕ) → ((e : ℕ) → h (Err e) ≡ 0) → ((kind a b : ℕ) → k kind a b ≡ l kind a b + h (f kind a b))
    → v + on_name g nothing k ≡ (v + on_name g nothing l) + h (on_name g Err f)
unfolding on_name
name_follows h v (Ok v') f k l z e = omega (arith, e v'.kind v'.start v'.end)
name_follows h v (Err n) f k l z e = omega (arith, z n)

test_follows : (h : Result Name ℕ → ℕ) (b : Bool) (x y : Result Name ℕ) (k : ℕ) → h y ≡ 0 → k ≡ h x → cond b k 0 ≡ cond b 0 0 + h (cond b x y)
test_follows h true x y k z e = omega (arith, e)
test_follows h false x y k z e = omega (arith, z)

-- an entry is compared exactly if its base is read
pub base_follows : (s : List ℕ) (at to : ℕ) (k : ℕ → ℕ → ℕ → ℕ) → base_looks s at to k ≡ base_looks s at to (λ base start end. 0) + on_base (base_at s at to) nothing k
unfolding base_looks base_at on_base
base_follows s at to k =
    content_follows (λ x. on_base x nothing k) _ _ _ _ _ (λ e. refl) (λ a b.
    name_follows (λ x. on_base x nothing k) _ _ _ _ _ (λ e. refl) (λ kind start end.
    test_follows (λ x. on_base x nothing k) (eqb end b) _ _ _ refl refl))

-- the next name is looked at exactly if one was read and is not the wanted one
pub try_follows : (s : List ℕ) (at to sought : ℕ) (wanted : List ℕ) (k : ℕ → ℕ)
    → try_looks s at to sought wanted k ≡ try_looks s at to sought wanted (λ next. 0) + on_name (general_name s at to) nothing (λ kind start end. cond (is_wanted s kind start end sought wanted) 0 (k end))
unfolding try_looks on_name
try_follows s at to sought wanted k = by (general_name s at to)
  where
    test : (b : Bool) (v f n : ℕ) → v + (f + cond b 0 n) ≡ (v + (f + cond b 0 0)) + cond b 0 n
    test true v f n = omega arith
    test false v f n = omega arith

    by : (g : Result Name ℕ)
        → value_looks s at to + on_name g nothing (λ kind start end. fit_looks kind (part s start end) sought wanted + cond (is_wanted s kind start end sought wanted) 0 (k end)) ≡ (value_looks s at to + on_name g nothing (λ kind start end. fit_looks kind (part s start end) sought wanted + cond (is_wanted s kind start end sought wanted) 0 0)) + on_name g nothing (λ kind start end. cond (is_wanted s kind start end sought wanted) 0 (k end))
    by (Ok v) = test (is_wanted s v.kind v.start v.end sought wanted) _ _ _
    by (Err e) = omega arith

-- ---- texts
text_whole : (x y : List ℕ) → same_text x y ≡ true → (length x ≡ length y) × (text_looks x y ≡ 2 * length x)
unfolding same_text text_looks
text_whole [] [] e = (refl, refl)
text_whole [] (y ∷ ys) e = not-true e
text_whole (x ∷ xs) [] e = not-true e
text_whole (x ∷ xs) (y ∷ ys) e = go (eqb (small x) (small y)) e (text_whole xs ys)
  where
    go : (b : Bool) → cond b (same_text xs ys) false ≡ true → (same_text xs ys ≡ true → (length xs ≡ length ys) × (text_looks xs ys ≡ 2 * length xs))
        → (length (x ∷ xs) ≡ length (y ∷ ys)) × (2 + cond b (text_looks xs ys) 0 ≡ 2 * length (x ∷ xs))
    go true e h = let r = h e in (omega arith, omega arith)
    go false e h = not-true e

-- two texts that are the same were looked at wholly
pub same_whole : (x y : List ℕ) → same_text x y ≡ true → same_text_looks x y ≡ length x + length y
unfolding same_text_looks
same_whole x y e =
    let w = text_whole x y e in
    rw (eq-eqb (length x) (length y) w.0) (omega arith)

-- a byte after which one answer is yes is a byte after which another is, if it is wherever the first is
taken_more : (l : _) (b : ℕ) (k m : _ → Bool) → on_taken (take_byte l b) k ≡ true → ((next : _) → k next ≡ true → m next ≡ true) → on_taken (take_byte l b) m ≡ true
unfolding take_byte on_taken
taken_more l b k m e h = go (eqb b dot) (whole l) (leb longest_label l.size) (eqb b hyphen) (eqb l.size 0) (digit b) (letter b) (eqb b underscore) refl refl refl refl refl refl refl refl
  where
    go : (c d f g i j n o : Bool) → eqb b dot ≡ c → whole l ≡ d → leb longest_label l.size ≡ f → eqb b hyphen ≡ g → eqb l.size 0 ≡ i → digit b ≡ j → letter b ≡ n → eqb b underscore ≡ o
        → on_taken (take_byte l b) m ≡ true
    go true true f g i j n o p q r s t u v w = rw (p, q) (h _ (rw (p, q) at e))
    go true false f g i j n o p q r s t u v w = not-true (rw (p, q) at e)
    go false d true g i j n o p q r s t u v w = not-true (rw (p, r) at e)
    go false d false true true j n o p q r s t u v w = not-true (rw (p, r, s, t) at e)
    go false d false true false j n o p q r s t u v w = rw (p, r, s, t) (h _ (rw (p, r, s, t) at e))
    go false d false false i true n o p q r s t u v w = rw (p, r, s, u) (h _ (rw (p, r, s, u) at e))
    go false d false false i false true o p q r s t u v w = rw (p, r, s, u, v) (h _ (rw (p, r, s, u, v) at e))
    go false d false false i false false true p q r s t u v w = rw (p, r, s, u, v, w) (h _ (rw (p, r, s, u, v, w) at e))
    go false d false false i false false false p q r s t u v w = not-true (rw (p, r, s, u, v, w) at e)

-- the bytes before a place of an accepted text are all taken
through_front : (xs ys : List ℕ) (l : _) → host_from (xs ++ ys) l ≡ true → through (λ b l. on_taken (take_byte l b)) xs l ≡ true
unfolding through host_from
through_front [] ys l e = refl
through_front (b ∷ bs) ys l e = taken_more l b _ _ e (λ next f. through_front bs ys next f)

label_whole : (before h : List ℕ) → host_text (before ++ h) ≡ true → label_looks before h ≡ length h
unfolding label_looks all_taken host_text
label_whole before [] e = refl
label_whole before (b ∷ bs) e =
    let s : host_from ((before ++ (b ∷ [])) ++ bs) fresh ≡ true = ap (λ (x : List ℕ). host_from x fresh) (append_assoc before (b ∷ []) bs) ∙ e in
    let t = through_front (before ++ (b ∷ [])) bs fresh s in
    let l = label_whole (before ++ (b ∷ [])) bs s in
    rw t (omega arith)

-- a text that is accepted was looked at wholly, each byte once
pub host_whole : (h : List ℕ) → host_text h ≡ true → host_looks h ≡ length h
unfolding host_looks
host_whole h e = label_whole [] h e

-- up to the first dot, which is looked at; or the whole text, where it has none
pub from_dot_whole : (h : List ℕ) → from_dot_looks h + length (from_dot h) ≡ length h + cond (eqb (length (from_dot h)) 0) 0 1
unfolding from_dot_looks from_dot
from_dot_whole [] = refl
from_dot_whole (x ∷ xs) = go (eqb x dot) (from_dot_whole xs)
  where
    go : (b : Bool) → from_dot_looks xs + length (from_dot xs) ≡ length xs + cond (eqb (length (from_dot xs)) 0) 0 1
        → (1 + cond b 0 (from_dot_looks xs)) + length (cond b (x ∷ xs) (from_dot xs)) ≡ length (x ∷ xs) + cond (eqb (length (cond b (x ∷ xs) (from_dot xs))) 0) 0 1
    go true h = rw (ne_eqb (length (x ∷ xs)) 0 (omega arith)) (omega arith)
    go false h = omega arith
