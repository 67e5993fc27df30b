-- General names in a row: where a name that begins the bytes is read, and what is read begins the bytes. For whoever walks over them. Assumes nothing.
use Prim.Native.Nat.{ℕ, ◌+◌, ◌≤◌, ◌<◌}
use mathlib.Core.Path.{◌≡◌, refl, ap, ◌∙◌}
use mathlib.Core.List.{List, [], ◌∷◌, ◌++◌}
use mathlib.Core.Bool.{Bool, true, false, cond, not}
use lib.ListN.{length}
use lib.Dec.{eqb}
use native.Mathlib.Omega.{arith}
use borrow.Author.Tests.{not-true, eqb-true}
use Rattle.der.specs.Model.{high_tag}
use Rattle.der.specs.Places.{part, Bytes}
use Rattle.der.specs.X690.{encoding}
use Rattle.der.proofs.Laid.{read_laid, laid_read}
use Rattle.der.proofs.Parts.{part_length, part_split, part_front}
use Rattle.labels.specs.Names.{every}
use Rattle.names.specs.General.{choices, among, General, Named}
use Rattle.names.specs.Model.{is_kind, of_kind, general_name, name_is}
use Rattle.labels.proofs.Labels.{true_false}
use Rattle.dns.proofs.Texts.{both}
use Rattle.names.proofs.Laws.{name_at}

low_of : (t : ℕ) (xs : List ℕ) → every (λ x. not (high_tag x)) xs ≡ true → among t xs ≡ true → high_tag t ≡ false
unfolding among every
low_of t [] a e = absurd (true_false e refl)
low_of t (x ∷ xs) a e = go (eqb t x) refl (both (not (high_tag x)) (every (λ y. not (high_tag y)) xs) a) e (low_of t xs)
  where
    go : (b : Bool) → eqb t x ≡ b → (not (high_tag x) ≡ true) × (every (λ y. not (high_tag y)) xs ≡ true) → cond b true (among t xs) ≡ true
        → (every (λ y. not (high_tag y)) xs ≡ true → among t xs ≡ true → high_tag t ≡ false) → high_tag t ≡ false
    go true q p h ih = rw (eqb-true t x q) (not-true (high_tag x) p.0)
    go false q p h ih = ih p.1 h

pub choice_low : (t : ℕ) → among t choices ≡ true → high_tag t ≡ false
unfolding choices every high_tag
choice_low t e = low_of t choices refl e

-- where a name that begins the rest is read
pub record ReadAt (s : List ℕ) (at to : ℕ) (n : General) (rest : List ℕ) : Type 0 where
  pub start : ℕ
  pub end : ℕ
  pub name : general_name s at to ≡ name_is n.kind start end
  pub content : part s start end ≡ n.content
  pub after : part s end to ≡ rest
  pub later : at < end
  pub inside : end ≤ to

pub read_name : (s : List ℕ) (at to : ℕ) (n : General) (rest : List ℕ) → Named n → at ≤ to → to ≤ length s → part s at to ≡ encoding n.kind n.content ++ rest
    → ReadAt s at to n rest
unfolding general_name of_kind is_kind
read_name s at to n rest k a l e =
    let end = at + length (encoding n.kind n.content) in
    let f = part_front s at to (encoding n.kind n.content) rest a l e in
    let r = laid_read s at to n.kind n.content end (choice_low n.kind k.known) k.small l f.0 f.1 in
    record {
      start = r.start;
      end = end;
      name = rw (r.read, k.known);
      content = r.is;
      after = f.2;
      later = omega (arith, r.ordered, r.place);
      inside = f.0;
    }

-- what is read is a name that begins the rest
pub named_at : (s : List ℕ) → Bytes s → (at to kind start end : ℕ) → general_name s at to ≡ name_is kind start end
    → Named (record { kind = kind; content = part s start end }) × ((part s at to ≡ encoding kind (part s start end) ++ part s end to) × ((at < end) × (end ≤ to)))
unfolding is_kind
named_at s b at to kind start end e =
    let v = name_at s at to kind start end e in
    let l = read_laid s b at to kind start end v.value in (
      record { known = v.known; small = rw (part_length s start end (omega (arith, l.inside, l.within))) l.small },
      (
        part_split s at end to (omega (arith, l.after, l.ordered)) l.inside ∙ ap (λ (t : List ℕ). t ++ part s end to) l.bytes,
        (omega (arith, l.after, l.ordered), l.inside),
      ),
    )
