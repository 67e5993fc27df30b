-- What a caller sees of a dialogue: the log of questions and offers with the answers, in order. No model and no search is named here.
use Rattle.std.specs.Prelude.{ℕ, suc, ◌≡◌}
use mathlib.Core.List.{List, [], ◌∷◌, ◌++◌, Memᴰ}

-- what a question is about: a certificate, or a revocation list, by number. No search asks about a list yet
pub data What : Type 0 where
  of_certificate : ℕ → What
  of_list : ℕ → What

-- a question (key, what it is to have signed) with its answer; an offer (anchor, path) with the caller's word. 0 is yes, and content
pub data Turn : Type 0 where
  answer : ℕ → What → ℕ → Turn
  word : ℕ → List ℕ → ℕ → Turn

-- how many questions, and how many offers
unfoldable pub asked : List Turn → ℕ
asked [] = 0
asked (answer key what a ∷ log) = suc (asked log)
asked (word anchor path a ∷ log) = asked log

unfoldable pub offered : List Turn → ℕ
offered [] = 0
offered (answer key what a ∷ log) = offered log
offered (word anchor path a ∷ log) = suc (offered log)

-- ---- said in the log
abbrev pub SaidYes : List Turn → ℕ → What → Type 0
SaidYes log key what = Memᴰ (answer key what 0) log

abbrev pub SaidContent : List Turn → ℕ → List ℕ → Type 0
SaidContent log anchor path = Memᴰ (word anchor path 0) log

-- ---- not denied in the log: every answer that it has to this is 0. That holds too of what was never asked
abbrev pub NotDenied : List Turn → ℕ → What → Type 0
NotDenied log key what = (a : ℕ) → Memᴰ (answer key what a) log → a ≡ 0

abbrev pub NotDeclined : List Turn → ℕ → List ℕ → Type 0
NotDeclined log anchor path = (a : ℕ) → Memᴰ (word anchor path a) log → a ≡ 0

-- ---- how it ends
-- every signature of a path, from the anchor's key down, answered with yes
unfoldable pub yeses : ℕ → List ℕ → List Turn
yeses key [] = []
yeses key (n ∷ ns) = answer key (of_certificate n) 0 ∷ yeses n ns

abbrev pub EndsWith : List Turn → List Turn → Type 0
EndsWith log last = (earlier : List Turn) × (log ≡ earlier ++ last)
