-- A byte that texts are cut at, by its ASCII number.
use Rattle.std.specs.Prelude.{ℕ}

abbrev pub dot : ℕ
dot = 46
