-- Yes means yes: an accepted path is acceptable, by answers that were given in this very run. Assumes nothing.
use Prim.Native.Nat.{ℕ}
use mathlib.Core.Path.{◌≡◌, refl, ◌∙◌, ap, subst}
use mathlib.Core.List.Memᴰ
use mathlib.Core.List.{List, [], ◌∷◌, ◌++◌, Memᴰ}
use native.Mathlib.Omega.{arith}
use Rattle.refusal.specs.Refusals.{unknown_issuer}
use Rattle.dialogue.specs.Log.{What, Turn, answer, word, SaidContent}
use Rattle.dialogue.specs.Model.{staged, Path, Stage, question, finding, World, Event, try, accepted, events, search}
use Rattle.dialogue.specs.Dialogue.{Leads}
use Rattle.dialogue.specs.Account.{kept, Cleared, here, by_check, by_answer, Last, no_events, content, no_signatures, no_extensions, no_comparisons, Account, Closing}
use Rattle.dialogue.specs.Acceptable.{InOrder, Acceptable, Given}
use Rattle.dialogue.proofs.Runs.{account}
use Rattle.dialogue.proofs.Events.{tried_grown}

-- a weaker reading of the answers
in_order : {Yes Also : ℕ → What → Type 0} → ((key : ℕ) (what : What) → Yes key what → Also key what) → (stages : List Stage) → InOrder Yes stages → InOrder Also stages
in_order f [] h = tt
in_order f (question key what ∷ stages) h = (f key what h.0, in_order f stages h.1)
in_order f (finding e ∷ stages) h = (h.0, in_order f stages h.1)

-- and of the caller's word
pub weaker : (W : World) (end : ℕ) {Yes Also : ℕ → What → Type 0} {Content Too : ℕ → Path → Type 0} (anchor : ℕ) (path : Path) → ((key : ℕ) (what : What) → Yes key what → Also key what)
    → (Content anchor path → Too anchor path) → Acceptable W end Yes Content anchor path → Acceptable W end Also Too anchor path
weaker W end anchor path f g a = record {
  grown = a.grown;
  few = a.few;
  candidate = a.candidate;
  anchored = a.anchored;
  signed = in_order f (staged W anchor path) a.signed;
  named = a.named;
  content = g a.content;
}

module _ (W : World) where
  cleared_given : (turns : List Turn) {stages rest : List Stage} {some : List Turn} → Cleared W stages some rest → rest ≡ [] → ((t : Turn) → Memᴰ t some → Memᴰ t turns) → InOrder (Given W turns) stages
  cleared_given turns here e f = rw e tt
  cleared_given turns (by_check c) e f = (refl, cleared_given turns c e f)
  cleared_given turns (by_answer key what a y c) e f =
      ((a, f (answer key what a) (Memᴰ.head refl), y), cleared_given turns c e (λ t m. f t (Memᴰ.tail m)))

  module _ (end s b n : ℕ) (turns : List Turn) (anchor : ℕ) (path : Path) where
    -- how an accepted path was come to
    record Won (k : ℕ) (p : Path) : Type 0 where
      pub tried : Memᴰ (try k p) (events W end)
      pub named : W.named k p ≡ 0
      pub closing : Closing W turns k p

    won : Leads (search W end s b n) turns (accepted anchor path) → Won anchor path
    unfolding search
    won h = let a = account W (events W end) s b n unknown_issuer turns (accepted anchor path) h in by a a.end
      where
        by : (a : Account W (events W end) s b n unknown_issuer turns (accepted anchor path)) → Last W a.after a.signatures_left a.extensions_left a.comparisons_left (kept unknown_issuer a.noted) a.last (accepted anchor path) → Won anchor path
        by a (no_events p q r) = let z : ◌≡◌ {A = ℕ} 0 1 = cc in absurd (omega arith)
        by a (content k p later first e c y q f g r) =
            let ek : k ≡ anchor = cc in
            let ep : p ≡ path = cc in
            let at : events W end ≡ a.before ++ (try k p ∷ later) = a.split ∙ ap (λ (l : List Event). a.before ++ l) e in
            let all : turns ≡ a.first ++ (first ++ (word k p 0 ∷ [])) = a.talk ∙ ap (λ (l : List Turn). a.first ++ l) q in
            let whole : Won k p = record {
              tried = rw at (Memᴰ.append_right a.before (Memᴰ.head refl));
              named = y;
              closing = record { earlier = a.first; own = first; talk = all; cleared = c };
            } in
            subst (λ (i : ℕ). Won i path) ek (subst (λ (l : Path). Won k l) ep whole)
        by a (no_signatures k p later key what rest e c q r) = let z : ◌≡◌ {A = ℕ} 0 1 = cc in absurd (omega arith)
        by a (no_extensions later e p q r) = let z : ◌≡◌ {A = ℕ} 0 1 = cc in absurd (omega arith)
        by a (no_comparisons k p later e c q f r) = let z : ◌≡◌ {A = ℕ} 0 1 = cc in absurd (omega arith)

    pub closing : Leads (search W end s b n) turns (accepted anchor path) → Closing W turns anchor path
    closing h = (won h).closing

    pub sound : Leads (search W end s b n) turns (accepted anchor path) → Acceptable W end (Given W turns) (SaidContent turns) anchor path
    sound h =
        let a = won h in
        let c = a.closing in
        let t = tried_grown W end anchor path a.tried in
        record {
          grown = t.grown;
          few = omega (arith, t.few);
          candidate = t.candidate;
          anchored = t.anchored;
          signed = cleared_given turns c.cleared refl (λ u m. rw c.talk (Memᴰ.append_right c.earlier (Memᴰ.append_left (word anchor path 0 ∷ []) m)));
          named = a.named;
          content = rw c.talk (Memᴰ.append_right c.earlier (Memᴰ.append_right c.own (Memᴰ.head refl)));
        }
