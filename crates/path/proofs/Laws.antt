-- Laws of checks by what is known, for paths kept in arrays. Assumes nothing.
use Prim.Native.Nat.{ℕ, ◌-◌}
use mathlib.Core.Path.{◌≡◌}
use mathlib.Core.List.{List}
use mathlib.Core.Bool.{Bool, true, false}
use lib.ListN.{get_or}
use borrow.Author.Tests.{eq-eqb, ne_eqb}
use Rattle.lent.specs.Lent.{certificate_of, pre, newest}
use Rattle.path.specs.Model.{depth_of, checked_as, check_in}
use Rattle.lent.proofs.Laws.{lower_length}
use Rattle.cert.specs.Model.{Reading}

module _ (known : ℕ → Reading) (issuers : List (List ℕ)) (end : List ℕ) (path : List ℕ) (d : ℕ) where
  module _ (anchors : ℕ) (distrusted : List (List ℕ)) (time : ℕ) (wanted : List ℕ) (demanded : Bool) {n : ℕ} {s : List ℕ} {r : Reading} (at : n ≡ get_or path d 0) (is : s ≡ certificate_of issuers end anchors n) (reads : r ≡ known n) where
    pub check_end : d ≡ 0 → checked_as r s distrusted time wanted demanded false 0 ≡ check_in known issuers end anchors distrusted time wanted demanded (pre path d)
    unfolding check_in newest depth_of
    check_end h = simp (lower_length path d, eq-eqb d 0 h, reads, is, at)

    pub check_issuer : (d ≡ 0 → ⊥) → checked_as r s distrusted time wanted demanded true (d - 1) ≡ check_in known issuers end anchors distrusted time wanted demanded (pre path d)
    unfolding check_in newest depth_of
    check_issuer h = simp (lower_length path d, ne_eqb d 0 h, reads, is, at)
