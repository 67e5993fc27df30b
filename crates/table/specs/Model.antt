-- What is known of a certificate by a table of rows.
use Rattle.std.specs.Prelude.{ℕ, ◌≤◌, ◌<◌, ◌≡◌, List, [], true, cond, length, get_or, leb}
use Rattle.cert.specs.Model.{read_certificate, Reading}
use Rattle.rows.specs.Model.{row_reading}

-- what is known of the certificate s: by its row, or by reading it where there is none
unfoldable pub reading_in : List (List ℕ) → ℕ → List ℕ → Reading
reading_in table i s = cond (leb (length table) i) (read_certificate s true) (row_reading (get_or table i []))

-- a table that says of each certificate what a reading says: of the intermediates, and of the end entity after them
unfoldable pub Held : List (List ℕ) → List (List ℕ) → List ℕ → Type 0
Held table issuers end =
    (i : ℕ) → i ≤ length issuers → i < length table → row_reading (get_or table i []) ≡ read_certificate (get_or issuers i end) true
