-- The kind of general name that name constraints have beside those of crate `names`.
use Rattle.std.specs.Prelude.{ℕ}

-- the kind of a subject, 4.2.1.10
abbrev pub directory_name : ℕ
directory_name = 164
