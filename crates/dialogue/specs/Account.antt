-- The account of a run: what it went through, what it noted and used up on the way, and what it ended with.
use Rattle.std.specs.Prelude.{ℕ, suc, ◌+◌, ◌≤◌, ◌<◌, ◌≡◌}
use mathlib.Core.List.{List, [], ◌∷◌, ◌++◌, Memᴰ}
use Rattle.refusal.specs.Refusals.{rank_of, unknown_issuer, maximum_signature_checks_exceeded, maximum_path_build_calls_exceeded, maximum_name_constraint_comparisons_exceeded}
use Rattle.refusal.specs.Model.{worse_of}
use Rattle.dialogue.specs.Log.{What, Turn, answer, word, asked}
use Rattle.dialogue.specs.Model.{staged, Path, Stage, question, finding, World, Event, note, extension, try, leave, Outcome, accepted, refused, spent, events}

-- the refusal that is kept of those noted one after the other
unfoldable pub kept : ℕ → List ℕ → ℕ
kept e [] = e
kept e (x ∷ xs) = kept (worse_of e x) xs

-- r is the first of the highest rank
pub record First (noted : List ℕ) (r : ℕ) : Type 0 where
  pub highest : (x : ℕ) → Memᴰ x noted → rank_of x ≤ rank_of r
  pub before : List ℕ
  pub after : List ℕ
  pub split : noted ≡ before ++ (r ∷ after)
  pub lower : (x : ℕ) → Memᴰ x before → rank_of x < rank_of r

module _ (W : World) where
  -- the turns take the first of the stages to the second with no refusal
  pub data Cleared : List Stage → List Turn → List Stage → Type 0 where
    here : {stages : List Stage} → Cleared stages [] stages
    by_check : {stages rest : List Stage} {turns : List Turn} → Cleared stages turns rest → Cleared (finding 0 ∷ stages) turns rest
    by_answer : {stages rest : List Stage} {turns : List Turn} (key : ℕ) (what : What) (a : ℕ) → W.reply key what a ≡ 0
        → Cleared stages turns rest → Cleared (question key what ∷ stages) (answer key what a ∷ turns) rest

  -- the turns of a path that is refused at an anchor, the refusal, the comparisons made
  pub data Declined (anchor : ℕ) (path : Path) (turns : List Turn) (x made : ℕ) : Type 0 where
    at_check : (e : ℕ) (rest : List Stage) → Cleared (staged W anchor path) turns (finding (suc e) ∷ rest)
        → x ≡ suc e → made ≡ 0 → Declined anchor path turns x made
    at_answer : (e key : ℕ) (what : What) (a : ℕ) (rest : List Stage) (first : List Turn) → Cleared (staged W anchor path) first (question key what ∷ rest)
        → W.reply key what a ≡ suc e → turns ≡ first ++ (answer key what a ∷ []) → x ≡ suc e → made ≡ 0 → Declined anchor path turns x made
    at_names : (e : ℕ) → Cleared (staged W anchor path) turns []
        → W.named anchor path ≡ suc e → x ≡ suc e → made ≡ W.cost anchor path → Declined anchor path turns x made
    at_offer : (e : ℕ) (first : List Turn) → Cleared (staged W anchor path) first []
        → W.named anchor path ≡ 0 → turns ≡ first ++ (word anchor path (suc e) ∷ []) → x ≡ suc e → made ≡ W.cost anchor path → Declined anchor path turns x made

  -- an event gone past: the turns, the refusals noted, the extensions, the comparisons
  pub data Past : Event → List Turn → List ℕ → ℕ → ℕ → Type 0 where
    noted : (x : ℕ) → Past (note x) [] (x ∷ []) 0 0
    extended : Past extension [] [] 1 0
    left : Past leave [] [] 0 0
    declined : (anchor : ℕ) (path : Path) (turns : List Turn) (x made : ℕ) → Declined anchor path turns x made → Past (try anchor path) turns (x ∷ []) 0 made

  pub data Gone : List Event → List Turn → List ℕ → ℕ → ℕ → Type 0 where
    nothing : Gone [] [] [] 0 0
    more : {e : Event} {es : List Event} {t u : List Turn} {xs ys : List ℕ} {d f m n : ℕ} → Past e t xs d m → Gone es u ys f n
        → Gone (e ∷ es) (t ++ u) (xs ++ ys) (d + f) (m + n)

  -- what ends a run, with what is then left: the events, the budgets; the refusal so far, the last turns, the outcome
  pub data Last (es : List Event) (s b n e : ℕ) (turns : List Turn) (r : Outcome) : Type 0 where
    no_events : es ≡ [] → turns ≡ [] → r ≡ refused e → Last es s b n e turns r
    content : (anchor : ℕ) (path : Path) (later : List Event) (first : List Turn) → es ≡ try anchor path ∷ later
        → Cleared (staged W anchor path) first [] → W.named anchor path ≡ 0 → turns ≡ first ++ (word anchor path 0 ∷ [])
        → asked turns ≤ s → W.cost anchor path ≤ n → r ≡ accepted anchor path → Last es s b n e turns r
    no_signatures : (anchor : ℕ) (path : Path) (later : List Event) (key : ℕ) (what : What) (rest : List Stage) → es ≡ try anchor path ∷ later
        → Cleared (staged W anchor path) turns (question key what ∷ rest) → asked turns ≡ s
        → r ≡ spent maximum_signature_checks_exceeded → Last es s b n e turns r
    no_extensions : (later : List Event) → es ≡ extension ∷ later → turns ≡ [] → b ≡ 0
        → r ≡ spent maximum_path_build_calls_exceeded → Last es s b n e turns r
    no_comparisons : (anchor : ℕ) (path : Path) (later : List Event) → es ≡ try anchor path ∷ later
        → Cleared (staged W anchor path) turns [] → asked turns ≤ s → n < W.cost anchor path
        → r ≡ spent maximum_name_constraint_comparisons_exceeded → Last es s b n e turns r

  -- a run through `es` with the budgets s, b, n and the refusal e so far
  pub record Account (es : List Event) (s b n e : ℕ) (turns : List Turn) (r : Outcome) : Type 0 where
    pub before : List Event
    pub after : List Event
    pub split : es ≡ before ++ after
    pub first : List Turn
    pub last : List Turn
    pub talk : turns ≡ first ++ last
    pub noted : List ℕ
    pub extensions : ℕ
    pub comparisons : ℕ
    pub gone : Gone before first noted extensions comparisons
    pub signatures_left : ℕ
    pub extensions_left : ℕ
    pub comparisons_left : ℕ
    pub signatures_used : s ≡ asked first + signatures_left
    pub extensions_used : b ≡ extensions + extensions_left
    pub comparisons_used : n ≡ comparisons + comparisons_left
    pub end : Last after signatures_left extensions_left comparisons_left (kept e noted) last r

-- the comparisons of an accepted path itself
unfoldable pub own_cost : World → Outcome → ℕ
own_cost W (accepted anchor path) = W.cost anchor path
own_cost W (refused x) = 0
own_cost W (spent x) = 0

-- the last turns of a run that accepts a path: the stages of that very path cleared one after the other, and the caller content
pub record Closing (W : World) (turns : List Turn) (anchor : ℕ) (path : Path) : Type 0 where
  pub earlier : List Turn
  pub own : List Turn
  pub talk : turns ≡ earlier ++ (own ++ (word anchor path 0 ∷ []))
  pub cleared : Cleared W (staged W anchor path) own []

-- the whole list of events was gone through, and x is what is kept
pub record Exhausted (W : World) (end : ℕ) (turns : List Turn) (x : ℕ) : Type 0 where
  pub noted : List ℕ
  pub extensions : ℕ
  pub comparisons : ℕ
  pub gone : Gone W (events W end) turns noted extensions comparisons
  pub first : First (unknown_issuer ∷ noted) x

-- the event at which a run is, and what it used before it
pub record Reached (W : World) (end : ℕ) (at : Event) (turns : List Turn) (extensions comparisons : ℕ) : Type 0 where
  pub before : List Event
  pub later : List Event
  pub split : events W end ≡ before ++ (at ∷ later)
  pub noted : List ℕ
  pub gone : Gone W before turns noted extensions comparisons

-- a budget is used up: its refusal, and that one more use was wanted where exactly as many as allowed had been made; of comparisons, that a path takes more than were left
pub data UsedUp (W : World) (end s b n : ℕ) (turns : List Turn) (x : ℕ) : Type 0 where
  signatures : (first last : List Turn) (d m anchor : ℕ) (path : Path) (key : ℕ) (what : What) (rest : List Stage) → x ≡ maximum_signature_checks_exceeded
      → Reached W end (try anchor path) first d m → turns ≡ first ++ last → Cleared W (staged W anchor path) last (question key what ∷ rest)
      → asked turns ≡ s → UsedUp W end s b n turns x
  extensions : (m : ℕ) → x ≡ maximum_path_build_calls_exceeded → Reached W end extension turns b m → UsedUp W end s b n turns x
  comparisons : (first last : List Turn) (d m anchor : ℕ) (path : Path) → x ≡ maximum_name_constraint_comparisons_exceeded
      → Reached W end (try anchor path) first d m → turns ≡ first ++ last → Cleared W (staged W anchor path) last []
      → m ≤ n → n < m + W.cost anchor path → UsedUp W end s b n turns x
