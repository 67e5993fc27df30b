-- Which paths the search is to accept, in the words of its world.
use Rattle.std.specs.Prelude.{ℕ, suc, ◌≤◌, ◌<◌, ◌≡◌, length}
use mathlib.Core.List.{List, [], ◌∷◌, Memᴰ}
use Rattle.lent.specs.Lent.{most_intermediates}
use Rattle.candidate.specs.declared.Verdict.TheVariants.{Anchor, Extend}
use Rattle.dialogue.specs.Log.{What, Turn, answer}
use Rattle.dialogue.specs.Model.{staged, Path, Stage, question, finding, World}

-- every question has its answer, and no check has a refusal
abbrev pub InOrder : (ℕ → What → Type 0) → List Stage → Type 0
InOrder Yes [] = Unit {0}
InOrder Yes (question key what ∷ stages) = Yes key what × InOrder Yes stages
InOrder Yes (finding e ∷ stages) = (e ≡ 0) × InOrder Yes stages

module _ (W : World) (end : ℕ) where
  -- from the end entity up: each certificate passes its checks, each is one to extend the path below it with
  pub data Grown : Path → Type 0 where
    start : W.check (end ∷ []) ≡ 0 → Grown (end ∷ [])
    grow : {path : Path} (i : ℕ) → Grown path → i < W.candidates → W.verdict path i ≡ Extend → W.check (i ∷ path) ≡ 0 → Grown (i ∷ path)

  -- `Yes key what`: the question was answered with no refusal; `Content anchor path`: the caller is content
  pub record Acceptable (Yes : ℕ → What → Type 0) (Content : ℕ → Path → Type 0) (anchor : ℕ) (path : Path) : Type 0 where
    pub grown : Grown path
    pub few : length path ≤ suc most_intermediates
    pub candidate : anchor < W.candidates
    pub anchored : W.verdict path anchor ≡ Anchor
    pub signed : InOrder Yes (staged W anchor path)
    pub named : W.named anchor path ≡ 0
    pub content : Content anchor path

-- answered so among the turns
abbrev pub Given : World → List Turn → ℕ → What → Type 0
Given W turns key what = (a : ℕ) × Memᴰ (answer key what a) turns × (W.reply key what a ≡ 0)

-- no answer among the turns is against it
abbrev pub Unopposed : World → List Turn → ℕ → What → Type 0
Unopposed W turns key what = (a : ℕ) → Memᴰ (answer key what a) turns → W.reply key what a ≡ 0
