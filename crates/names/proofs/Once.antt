-- ONE LIST: bytes are the encoding of at most one row of names. Assumes nothing.
use Prim.Native.Nat.{ℕ}
use mathlib.Core.Path.{◌≡◌, refl, sym, ◌∙◌}
use mathlib.Core.List.{List, [], ◌∷◌, ◌++◌}
use lib.ListN.{length}
use native.Mathlib.Omega.{arith}
use Rattle.der.proofs.Parts.{part_whole}
use Rattle.der.specs.X690.{encoding}
use Rattle.names.specs.General.{General, Named, encoded, Each}
use Rattle.names.proofs.Laws.{name_same}
use Rattle.names.proofs.Rows.{read_name}

same_name : (n m : General) → n.kind ≡ m.kind → n.content ≡ m.content → n ≡ m
same_name n m k c = rw (k, c)

-- a name that begins the bytes, and what comes after it
pub name_once : (n m : General) (rest rest' : List ℕ) → Named n → Named m → encoding n.kind n.content ++ rest ≡ encoding m.kind m.content ++ rest'
    → (n ≡ m) × (rest ≡ rest')
name_once n m rest rest' a b e =
    let s = encoding n.kind n.content ++ rest in
    let f = read_name s 0 (length s) n rest a (omega arith) (omega arith) (part_whole s) in
    let g = read_name s 0 (length s) m rest' b (omega arith) (omega arith) (part_whole s ∙ e) in
    let q = name_same (sym f.name ∙ g.name) in (
      same_name n m q.0 (sym f.content ∙ rw (q.1, q.2) g.content),
      sym f.after ∙ rw q.2 g.after,
    )

-- no name is written in no bytes
pub name_some : (n : General) (rest : List ℕ) → encoding n.kind n.content ++ rest ≡ [] → ⊥
unfolding encoding
name_some n rest e = let z : ◌≡◌ {A = ℕ} 0 1 = cc in omega arith

-- THEOREM
pub names_once : (ns ms : List General) → Each Named ns → Each Named ms → encoded ns ≡ encoded ms → ns ≡ ms
unfolding encoded Each
names_once [] [] a b e = refl
names_once [] (m ∷ ms) a b e = absurd (name_some m (encoded ms) (sym e))
names_once (n ∷ ns) [] a b e = absurd (name_some n (encoded ns) e)
names_once (n ∷ ns) (m ∷ ms) a b e =
    let h = name_once n m (encoded ns) (encoded ms) a.0 b.0 e in
    let p : n ≡ m = h.0 in
    let q : ns ≡ ms = names_once ns ms a.1 b.1 h.1 in
    cc
