-- No means no: where the search refuses, and no budget is used up, every path that could be tried was tried in this very run and something was against
-- it; so no path is acceptable that no answer was against, also where the caller answered one question in two ways. Assumes nothing.
use Prim.Native.Nat.{ℕ, suc, ◌≤◌, ◌<◌}
use mathlib.Core.Path.{◌≡◌, refl, ◌∙◌, ap, subst}
use mathlib.Core.Logic.{⊎_elim}
use mathlib.Core.List.Memᴰ
use mathlib.Core.List.{List, ◌∷◌, ◌++◌, append-nil, Memᴰ}
use native.Mathlib.Omega.{arith}
use lib.ListN.{length}
use Rattle.refusal.specs.Refusals.{unknown_issuer}
use Rattle.lent.specs.Lent.{most_intermediates}
use Rattle.candidate.specs.declared.Verdict.TheVariants.{Anchor}
use Rattle.dialogue.specs.Model.{staged, Path, Stage, World, Event, try, refused, events, search}
use Rattle.dialogue.specs.Log.{What, Turn, answer, word, NotDeclined}
use Rattle.dialogue.specs.Dialogue.{Leads}
use Rattle.dialogue.specs.Account.{kept, First, Cleared, here, by_check, by_answer, Declined, at_check, at_answer, at_names, at_offer, Past, noted, extended, left, declined, Gone, nothing, more, Last, no_events, content, no_signatures, no_extensions, no_comparisons, Account, Exhausted}
use Rattle.dialogue.specs.Acceptable.{InOrder, Grown, Acceptable, Unopposed}
use Rattle.dialogue.proofs.Runs.{account}
use Rattle.dialogue.proofs.Events.{grown_tried}
use Rattle.dialogue.proofs.Rank.{kept_first}

module _ (W : World) where
  -- a path that was tried and is not accepted: what was against it, among the turns
  record Against (turns : List Turn) (anchor : ℕ) (path : Path) : Type 0 where
    some : List Turn
    within : (t : Turn) → Memᴰ t some → Memᴰ t turns
    refusal : ℕ
    comparisons : ℕ
    declined : Declined W anchor path some refusal comparisons

  past_try : {ev : Event} {t : List Turn} {xs : List ℕ} {d m : ℕ} → Past W ev t xs d m → (k : ℕ) (p : Path) → try k p ≡ ev → Against t k p
  past_try (noted x) k p e = let z : ◌≡◌ {A = ℕ} 0 1 = cc in absurd (omega arith)
  past_try extended k p e = let z : ◌≡◌ {A = ℕ} 0 1 = cc in absurd (omega arith)
  past_try left k p e = let z : ◌≡◌ {A = ℕ} 0 1 = cc in absurd (omega arith)
  past_try (declined j q t x m h) k p e =
      let ek : j ≡ k = cc in
      let ep : q ≡ p = cc in
      subst (λ (i : ℕ). Against t i p) ek (subst (λ (l : Path). Against t j l) ep (record { some = t; within = λ u i. i; refusal = x; comparisons = m; declined = h }))

  wider : {some turns : List Turn} {k : ℕ} {p : Path} → ((t : Turn) → Memᴰ t some → Memᴰ t turns) → Against some k p → Against turns k p
  wider f a = record { some = a.some; within = λ t m. f t (a.within t m); refusal = a.refusal; comparisons = a.comparisons; declined = a.declined }

  gone_against : {es : List Event} {t : List Turn} {xs : List ℕ} {d m : ℕ} → Gone W es t xs d m → (k : ℕ) (p : Path) → Memᴰ (try k p) es → Against t k p
  gone_against nothing k p h = absurd (Memᴰ.not-nil h)
  gone_against (more {t = t} {u = u} p g) k q h =
      ⊎_elim (λ e. wider (λ w i. Memᴰ.append_left u i) (past_try p k q e))
      (λ i. wider (λ w j. Memᴰ.append_right t j) (gone_against g k q i)) (Memᴰ.cases_cons h)

  still : (P : ℕ → What → Type 0) {stages rest : List Stage} {turns : List Turn} → Cleared W stages turns rest → InOrder P stages → InOrder P rest
  still P here h = h
  still P (by_check c) h = still P c h.1
  still P (by_answer key what a y c) h = still P c h.1

  not_against : (turns : List Turn) (k : ℕ) (p : Path) → InOrder (Unopposed W turns) (staged W k p) → W.named k p ≡ 0 → NotDeclined turns k p → Against turns k p → ⊥
  not_against turns k p y w z r = by r.declined
    where
      by : Declined W k p r.some r.refusal r.comparisons → ⊥
      by (at_check e rest c q s) = let f = still (Unopposed W turns) c y in omega (arith, f.0)
      by (at_answer e key what a rest first c l q s i) =
          let f = still (Unopposed W turns) c y in
          let n = f.0 a (r.within (answer key what a) (rw q (Memᴰ.append_right first (Memᴰ.head refl)))) in
          omega (arith, n, l)
      by (at_names e c q s i) = omega arith
      by (at_offer e first c l q s i) =
          let n = z (suc e) (r.within (word k p (suc e)) (rw q (Memᴰ.append_right first (Memᴰ.head refl)))) in
          omega (arith, n)

  module _ (end s b n : ℕ) (turns : List Turn) (x : ℕ) (h : Leads (search W end s b n) turns (refused x)) where
    pub all_gone : Exhausted W end turns x
    unfolding search
    all_gone = let a = account W (events W end) s b n unknown_issuer turns (refused x) h in by a a.end
      where
        by : (a : Account W (events W end) s b n unknown_issuer turns (refused x)) → Last W a.after a.signatures_left a.extensions_left a.comparisons_left (kept unknown_issuer a.noted) a.last (refused x) → Exhausted W end turns x
        by a (no_events p q r) =
            let es : events W end ≡ a.before = a.split ∙ ap (λ (l : List Event). a.before ++ l) p ∙ append-nil a.before in
            let ts : turns ≡ a.first = a.talk ∙ ap (λ (l : List Turn). a.first ++ l) q ∙ append-nil a.first in
            record { noted = a.noted; extensions = a.extensions; comparisons = a.comparisons; gone = rw (es, ts) a.gone; first = subst (λ (z : ℕ). First (unknown_issuer ∷ a.noted) z) (cc) (kept_first unknown_issuer a.noted) }
        by a (content k p later first e c y q f g r) = let z : ◌≡◌ {A = ℕ} 0 1 = cc in absurd (omega arith)
        by a (no_signatures k p later key what rest e c q r) = let z : ◌≡◌ {A = ℕ} 0 1 = cc in absurd (omega arith)
        by a (no_extensions later e p q r) = let z : ◌≡◌ {A = ℕ} 0 1 = cc in absurd (omega arith)
        by a (no_comparisons k p later e c q f r) = let z : ◌≡◌ {A = ℕ} 0 1 = cc in absurd (omega arith)

    -- something was against every path that could be tried
    every_path : (anchor : ℕ) (path : Path) → Grown W end path → length path ≤ suc most_intermediates → anchor < W.candidates → W.verdict path anchor ≡ Anchor → Against turns anchor path
    every_path anchor path g f l e = gone_against all_gone.gone anchor path (grown_tried W end g f anchor l e)

    pub complete : (anchor : ℕ) (path : Path) → Acceptable W end (Unopposed W turns) (NotDeclined turns) anchor path → ⊥
    complete anchor path a = not_against turns anchor path a.signed a.named a.content (every_path anchor path a.grown a.few a.candidate a.anchored)
