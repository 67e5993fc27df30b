-- What is lent are bytes: so is each candidate's certificate, and each list of them. Assumes nothing.
use Prim.Native.Nat.{ℕ, zero, suc, ◌-◌}
use mathlib.Core.Bool.{Bool, true, false, cond}
use mathlib.Core.List.{List, [], ◌∷◌, map}
use lib.Dec.{ltb}
use lib.ListN.{length, get_or}
use Rattle.der.specs.Places.{Bytes}
use Rattle.constraints.specs.Cost.{EachBytes}
use Rattle.lent.specs.Lent.{certificate_of}
use Rattle.dialogue.specs.Model.{Path}
use Rattle.conditions.specs.Request.{Request}
use Rattle.conditions.specs.Conditions.{Lends, bytes_of}

at_or : (l : List (List ℕ)) (other : List ℕ) → ((i : ℕ) → Bytes (get_or l i [])) → Bytes other → (i : ℕ) → Bytes (get_or l i other)
at_or [] other h b i = b
at_or (x ∷ l) other h b zero = h zero
at_or (x ∷ l) other h b (suc i) = at_or l other (λ j. h (suc j)) b i

module _ (R : Request) (lent : Lends R) where
  pub bytes : (n : ℕ) → Bytes (bytes_of R n)
  unfolding certificate_of
  bytes n = by (ltb n (length R.subjects))
    where
      by : (t : Bool) → Bytes (cond t R.end (get_or R.issuers (n - length R.subjects) R.end))
      by true = lent.end
      by false = at_or R.issuers R.end lent.issuers lent.end (n - length R.subjects)

  pub all_bytes : (path : Path) → EachBytes (map (bytes_of R) path)
  unfolding EachBytes
  all_bytes [] = tt
  all_bytes (n ∷ path) = (bytes n, all_bytes path)
