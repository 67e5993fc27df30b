-- What a request lends, by number, and paths of such numbers. A path is a list, the newest first, the end entity last.
use Rattle.std.specs.Prelude.{ℕ, zero, suc, ◌-◌, List, [], ◌∷◌, Bool, true, false, cond, length, get_or, ltb, map}
use Rattle.parts.specs.Model.{same_parts}
use Rattle.cert.specs.Model.{read_certificate, Reading}
use Rattle.table.specs.Model.{reading_in}
use Rattle.lent.specs.declared.Lent.{Lent}
use Rattle.lent.specs.declared.Request.{Request}
use Rattle.std.specs.Borrow.{Bor}

-- as many intermediates may stand between the end entity and the anchor
abbrev pub most_intermediates : ℕ
most_intermediates = 6

-- the certificate with a number: the anchors' numbers come first, then the intermediates'; every other number is the end entity's
unfoldable pub certificate_of : List (List ℕ) → List ℕ → ℕ → ℕ → List ℕ
certificate_of issuers end anchors n = cond (ltb n anchors) end (get_or issuers (n - anchors) end)

-- what is read of the certificate with a number
abbrev pub readings_of : List (List ℕ) → List ℕ → ℕ → ℕ → Reading
readings_of issuers end anchors n = read_certificate (certificate_of issuers end anchors n) true

-- the row that a certificate has in a table of readings: the intermediates' come first, the end entity's after them
unfoldable pub row_at : ℕ → ℕ → ℕ → ℕ
row_at anchors count n = cond (ltb n anchors) count (cond (ltb (n - anchors) count) (n - anchors) count)

-- what such a table says of the certificate with a number
unfoldable pub readings_in : List (List ℕ) → List (List ℕ) → List ℕ → ℕ → ℕ → Reading
readings_in table issuers end anchors n = reading_in table (row_at anchors (length issuers) n) (certificate_of issuers end anchors n)

-- a path that is kept in an array, the end entity at place 0: below a place, and up to it
unfoldable pub lower : List ℕ → ℕ → List ℕ
lower path zero = []
lower path (suc d) = get_or path d 0 ∷ lower path d

abbrev pub pre : List ℕ → ℕ → List ℕ
pre path d = get_or path d 0 ∷ lower path d

-- whether something is so of some number of a path
unfoldable pub some_of : (ℕ → Bool) → List ℕ → Bool
some_of f [] = false
some_of f (n ∷ ns) = cond (f n) true (some_of f ns)

unfoldable pub newest : List ℕ → ℕ
newest [] = 0
newest (n ∷ ns) = n

-- whether the bytes between the places are one of the keys
unfoldable pub listed : List (List ℕ) → List ℕ → ℕ → ℕ → Bool
listed [] s from to = false
listed (k ∷ ks) s from to = cond (same_parts s from to k 0 (length k)) true (listed ks s from to)

-- ---- the same of what is lent
-- what the references of a list point to
abbrev pub each_now : List (Bor (List ℕ)) → List (List ℕ)
each_now xs = map (λ x. x.now) xs

-- the bytes of the certificate with a number
abbrev pub certificates : Lent → ℕ → List ℕ
certificates l = certificate_of (each_now l.issuers.now) l.end.now l.anchors

-- what the table says of it
abbrev pub readings : Lent → ℕ → Reading
readings l = readings_in l.table.now (each_now l.issuers.now) l.end.now l.anchors

-- what a request lends: there are as many anchors as subjects
abbrev pub lent_of : Request → Lent
lent_of r = record { table = r.table; issuers = r.issuers; end = r.end; anchors = length r.anchors.subjects.now }
