-- The budgets: no run uses more than it was given, and one that ends for want of a budget has used all of it. Assumes nothing.
use Prim.Native.Nat.{ℕ, ◌+◌, ◌≤◌}
use mathlib.Core.Path.{◌≡◌, ◌∙◌, ap}
use mathlib.Core.Bool.{true}
use mathlib.Core.List.{List, [], ◌∷◌, ◌++◌, append-nil}
use native.Mathlib.Omega.{arith}
use Rattle.refusal.specs.Refusals.{is_fatal, unknown_issuer, maximum_signature_checks_exceeded}
use Rattle.dialogue.specs.Model.{World, Event, Outcome, spent, events, search}
use Rattle.dialogue.specs.Log.{Turn, asked}
use Rattle.dialogue.specs.Dialogue.{Leads}
use Rattle.dialogue.specs.Account.{kept, Last, no_events, content, no_signatures, no_extensions, no_comparisons, Account, own_cost, Reached, UsedUp, signatures, extensions, comparisons}
use Rattle.dialogue.proofs.Runs.{asked_append, account}

module _ (W : World) (end s b n : ℕ) (turns : List Turn) (r : Outcome) (h : Leads (search W end s b n) turns r) where
  pub accounted : Account W (events W end) s b n unknown_issuer turns r
  unfolding search
  accounted = account W (events W end) s b n unknown_issuer turns r h

  pub few_questions : asked turns ≤ s
  unfolding asked
  few_questions = let a = accounted in rw a.talk (by a a.end)
    where
      by : (a : Account W (events W end) s b n unknown_issuer turns r) → Last W a.after a.signatures_left a.extensions_left a.comparisons_left (kept unknown_issuer a.noted) a.last r → asked (a.first ++ a.last) ≤ s
      by a (no_events p q e) = rw q (omega (arith, asked_append a.first []))
      by a (content k p later first e c y q f g i) = omega (arith, asked_append a.first a.last)
      by a (no_signatures k p later key what rest e c q i) = omega (arith, asked_append a.first a.last)
      by a (no_extensions later e q f i) = rw q (omega (arith, asked_append a.first []))
      by a (no_comparisons k p later e c q f i) = omega (arith, asked_append a.first a.last)

  pub few_extensions : accounted.extensions ≤ b
  few_extensions = let a = accounted in omega arith

  -- those of the accepted path among them
  pub few_comparisons : accounted.comparisons + own_cost W r ≤ n
  unfolding own_cost
  few_comparisons = by accounted accounted.end
    where
      by : (a : Account W (events W end) s b n unknown_issuer turns r) → Last W a.after a.signatures_left a.extensions_left a.comparisons_left (kept unknown_issuer a.noted) a.last r → a.comparisons + own_cost W r ≤ n
      by a (no_events p q e) = rw e (omega arith)
      by a (content k p later first e c y q f g i) = rw i (omega arith)
      by a (no_signatures k p later key what rest e c q i) = rw i (omega arith)
      by a (no_extensions later e q f i) = rw i (omega arith)
      by a (no_comparisons k p later e c q f i) = rw i (omega arith)

module _ (W : World) (end s b n : ℕ) (turns : List Turn) (x : ℕ) (h : Leads (search W end s b n) turns (spent x)) where
  reached : {at : Event} (a : Account W (events W end) s b n unknown_issuer turns (spent x)) (later : List Event) → a.after ≡ at ∷ later → Reached W end at a.first a.extensions a.comparisons
  reached a later e = record { before = a.before; later = later; split = a.split ∙ ap (λ (l : List Event). a.before ++ l) e; noted = a.noted; gone = a.gone }

  pub used_up : UsedUp W end s b n turns x
  unfolding asked
  used_up = let a = accounted W end s b n turns (spent x) h in by a a.end
    where
      by : (a : Account W (events W end) s b n unknown_issuer turns (spent x)) → Last W a.after a.signatures_left a.extensions_left a.comparisons_left (kept unknown_issuer a.noted) a.last (spent x) → UsedUp W end s b n turns x
      by a (no_events p q e) = let z : ◌≡◌ {A = ℕ} 0 1 = cc in absurd (omega arith)
      by a (content k p later first e c y q f g i) = let z : ◌≡◌ {A = ℕ} 0 1 = cc in absurd (omega arith)
      by a (no_signatures k p later key what rest e c q i) =
          signatures a.first a.last a.extensions a.comparisons k p key what rest (cc) (reached a later e) a.talk c
          (ap asked a.talk ∙ omega (arith, asked_append a.first a.last))
      by a (no_extensions later e q f i) =
          let t : turns ≡ a.first = a.talk ∙ ap (λ (l : List Turn). a.first ++ l) q ∙ append-nil a.first in
          let all : b ≡ a.extensions = omega arith in
          extensions a.comparisons (cc) (rw (t, all) (reached a later e))
      by a (no_comparisons k p later e c q f i) =
          comparisons a.first a.last a.extensions a.comparisons k p (cc) (reached a later e) a.talk c (omega arith) (omega arith)

  -- one of the three
  pub spent_fatal : is_fatal x ≡ true
  unfolding is_fatal
  spent_fatal = by used_up
    where
      by : UsedUp W end s b n turns x → is_fatal x ≡ true
      by (signatures first last d m k p key what rest e f t c q) = rw e
      by (extensions m e f) = rw e
      by (comparisons first last d m k p e f t c q u) = rw e

-- signatures: exactly as many questions as were allowed
pub all_asked : (W : World) (end s b n : ℕ) (turns : List Turn) → Leads (search W end s b n) turns (spent maximum_signature_checks_exceeded) → asked turns ≡ s
all_asked W end s b n turns h = by (used_up W end s b n turns maximum_signature_checks_exceeded h)
  where
    by : UsedUp W end s b n turns maximum_signature_checks_exceeded → asked turns ≡ s
    by (signatures first last d m k p key what rest e f t c q) = q
    by (extensions m e f) = absurd (omega arith)
    by (comparisons first last d m k p e f t c q u) = absurd (omega arith)
