-- How a theorem says what a comparison answers.
use Rattle.std.specs.Prelude.{◌≡◌, ◌⊎◌, Ok, true, false, Result, Bool, ℕ}

-- the answer is x if P, and no if not
abbrev pub Answers : Result Bool ℕ → Result Bool ℕ → Type 0 → Type 0
Answers x a P = ((a ≡ x) × P) ⊎ ((a ≡ Ok false) × (P → ⊥))

abbrev pub Decides : Result Bool ℕ → Type 0 → Type 0
Decides a P = Answers (Ok true) a P
