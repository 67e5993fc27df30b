-- Every run has its account, whatever the caller answers. Assumes nothing.
use Prim.Native.Nat.{ℕ, zero, suc, ◌+◌, ◌-◌, ◌≤◌}
use mathlib.Core.Path.{◌≡◌, refl, sym, ◌∙◌, ap}
use mathlib.Core.Bool.{Bool, true, false, cond}
use mathlib.Core.List.{List, [], ◌∷◌, ◌++◌, append_assoc, append-nil}
use native.Mathlib.Omega.{arith}
use lib.Dec.{ltb}
use borrow.Author.Tests.{ltb-true, ltb-false}
use Rattle.refusal.specs.Refusals.{maximum_signature_checks_exceeded, maximum_name_constraint_comparisons_exceeded}
use Rattle.refusal.specs.Model.{worse_of}
use Rattle.dialogue.specs.Log.{What, Turn, answer, word, asked}
use Rattle.dialogue.specs.Model.{staged, Path, Stage, question, finding, World, Event, note, extension, try, leave, Outcome, accepted, spent, Tree, done, offer, unless, through, conclude, run}
use Rattle.dialogue.specs.Dialogue.{Leads}
use Rattle.dialogue.specs.Account.{kept, Cleared, here, by_check, by_answer, Declined, at_check, at_answer, at_names, at_offer, Past, noted, extended, left, declined, nothing, more, Last, no_events, content, no_signatures, no_extensions, no_comparisons, Account}

pub asked_append : (t u : List Turn) → asked (t ++ u) ≡ asked t + asked u
unfolding asked
asked_append [] u = omega arith
asked_append (answer k c a ∷ t) u = omega (arith, asked_append t u)
asked_append (word k p a ∷ t) u = asked_append t u

pub kept_append : (e : ℕ) (xs ys : List ℕ) → kept e (xs ++ ys) ≡ kept (kept e xs) ys
unfolding kept
kept_append e [] ys = refl
kept_append e (x ∷ xs) ys = kept_append (worse_of e x) xs ys

module _ (W : World) where
  -- ---- the stages of a path
  data Ended (go : ℕ → Tree) (stop : ℕ → ℕ → Tree) (stages : List Stage) (s : ℕ) (turns : List Turn) (r : Outcome) : Type 0 where
    all_clear : (t u : List Turn) (s' : ℕ) → Cleared W stages t [] → turns ≡ t ++ u → s ≡ asked t + s' → Leads (go s') u r → Ended go stop stages s turns r
    found : (e : ℕ) (rest : List Stage) (t u : List Turn) (s' : ℕ) → Cleared W stages t (finding (suc e) ∷ rest) → turns ≡ t ++ u → s ≡ asked t + s' → Leads (stop (suc e) s') u r → Ended go stop stages s turns r
    wrong : (e key : ℕ) (what : What) (a : ℕ) (rest : List Stage) (t u : List Turn) (s' : ℕ) → Cleared W stages t (question key what ∷ rest) → W.reply key what a ≡ suc e → turns ≡ t ++ (answer key what a ∷ u) → s ≡ suc (asked t + s') → Leads (stop (suc e) s') u r → Ended go stop stages s turns r
    out_of : (key : ℕ) (what : What) (rest : List Stage) → Cleared W stages turns (question key what ∷ rest) → asked turns ≡ s → r ≡ spent maximum_signature_checks_exceeded → Ended go stop stages s turns r

  module _ (go : ℕ → Tree) (stop : ℕ → ℕ → Tree) where
    past_check : (stages : List Stage) (s : ℕ) (turns : List Turn) (r : Outcome) → Ended go stop stages s turns r → Ended go stop (finding 0 ∷ stages) s turns r
    past_check stages s turns r (all_clear t u s' c l q h) = all_clear t u s' (by_check c) l q h
    past_check stages s turns r (found e rest t u s' c l q h) = found e rest t u s' (by_check c) l q h
    past_check stages s turns r (wrong e k w a rest t u s' c y l q h) = wrong e k w a rest t u s' (by_check c) y l q h
    past_check stages s turns r (out_of k w rest c q h) = out_of k w rest (by_check c) q h

    past_answer : (k : ℕ) (w : What) (a : ℕ) (stages : List Stage) (s : ℕ) (turns all : List Turn) (r : Outcome) → W.reply k w a ≡ 0 → all ≡ answer k w a ∷ turns → Ended go stop stages s turns r → Ended go stop (question k w ∷ stages) (suc s) all r
    unfolding asked
    past_answer k w a stages s turns all r y g (all_clear t u s' c l q h) =
        all_clear (answer k w a ∷ t) u s' (by_answer k w a y c) (g ∙ ap (λ (z : List Turn). answer k w a ∷ z) l) (omega arith) h
    past_answer k w a stages s turns all r y g (found e rest t u s' c l q h) =
        found e rest (answer k w a ∷ t) u s' (by_answer k w a y c) (g ∙ ap (λ (z : List Turn). answer k w a ∷ z) l) (omega arith) h
    past_answer k w a stages s turns all r y g (wrong e j v d rest t u s' c x l q h) =
        wrong e j v d rest (answer k w a ∷ t) u s' (by_answer k w a y c) x (g ∙ ap (λ (z : List Turn). answer k w a ∷ z) l) (omega arith) h
    past_answer k w a stages s turns all r y g (out_of j v rest c q h) =
        rw g (out_of j v rest (by_answer k w a y c) (omega arith) h)

    ended : (stages : List Stage) (s : ℕ) (turns : List Turn) (r : Outcome) → Leads (through W go stop stages s) turns r → Ended go stop stages s turns r
    unfolding through Leads asked
    ended [] s turns r h = all_clear [] turns s here refl (omega arith) h
    ended (finding zero ∷ stages) s turns r h = past_check stages s turns r (ended stages s turns r h)
    ended (finding (suc e) ∷ stages) s turns r h = found e stages [] turns s here refl (omega arith) h
    ended (question k w ∷ stages) zero turns r h = out_of k w stages (rw h.0 here) (rw h.0) (sym h.1)
    ended (question k w ∷ stages) (suc s) turns r h = by (W.reply k w h.0) refl (ended stages s h.1 r) h.3
      where
        by : (x : ℕ) → W.reply k w h.0 ≡ x → (Leads (through W go stop stages s) h.1 r → Ended go stop stages s h.1 r) → Leads (unless x (through W go stop stages s) (λ x. stop x s)) h.1 r → Ended go stop (question k w ∷ stages) (suc s) turns r
        by zero y rec l = past_answer k w h.0 stages s h.1 turns r y h.2 (rec l)
        by (suc e) y rec l = wrong e k w h.0 stages [] h.1 s here y h.2 (omega arith) l

  -- ---- a try
  data Tested (anchor : ℕ) (path : Path) (es : List Event) (s b n e : ℕ) (turns : List Turn) (r : Outcome) : Type 0 where
    ends : Last W (try anchor path ∷ es) s b n e turns r → Tested anchor path es s b n e turns r
    goes_on : (t u : List Turn) (x m s' n' : ℕ) → Declined W anchor path t x m → turns ≡ t ++ u → s ≡ asked t + s' → n ≡ m + n' → Leads (run W es s' b n' (worse_of e x)) u r → Tested anchor path es s b n e turns r

  module _ (k : ℕ) (p : Path) (es : List Event) (s b n e : ℕ) (turns : List Turn) (r : Outcome) where
    concluded : (t u : List Turn) (s' : ℕ) → Cleared W (staged W k p) t [] → turns ≡ t ++ u → s ≡ asked t + s' → Leads (conclude W (λ x n'. run W es s' b n' (worse_of e x)) k p n) u r → Tested k p es s b n e turns r
    unfolding conclude Leads asked
    concluded t u s' c l q h = by (ltb n (W.cost k p)) refl (W.named k p) refl h
      where
        said : W.cost k p ≤ n → W.named k p ≡ 0 → (a : ℕ) (rest : List Turn) → u ≡ word k p a ∷ rest → Leads (unless a (done (accepted k p)) (λ x. run W es s' b (n - W.cost k p) (worse_of e x))) rest r → Tested k p es s b n e turns r
        said g y zero rest f i =
            let all : turns ≡ t ++ (word k p 0 ∷ []) = l ∙ ap (λ (z : List Turn). t ++ z) (f ∙ ap (λ (z : List Turn). word k p 0 ∷ z) i.0) in
            ends (content k p es t refl c y all (rw all (omega (arith, asked_append t (word k p 0 ∷ [])))) g (sym i.1))
        said g y (suc a) rest f i =
            goes_on (t ++ (word k p (suc a) ∷ [])) rest (suc a) (W.cost k p) s' (n - W.cost k p)
            (at_offer a t c y refl refl refl)
            (l ∙ ap (λ (z : List Turn). t ++ z) f ∙ sym (append_assoc t (word k p (suc a) ∷ []) rest))
            (omega (arith, asked_append t (word k p (suc a) ∷ []))) (omega arith) i

        by : (f : Bool) → ltb n (W.cost k p) ≡ f → (x : ℕ) → W.named k p ≡ x
            → Leads (cond f (done (spent maximum_name_constraint_comparisons_exceeded)) (unless x (offer k p (λ a. unless a (done (accepted k p)) (λ x. run W es s' b (n - W.cost k p) (worse_of e x)))) (λ x. run W es s' b (n - W.cost k p) (worse_of e x)))) u r → Tested k p es s b n e turns r
        by true f x y i =
            let all : turns ≡ t = l ∙ ap (λ (z : List Turn). t ++ z) i.0 ∙ append-nil t in
            ends (no_comparisons k p es refl (rw all c) (rw all (omega arith)) (ltb-true n (W.cost k p) f) (sym i.1))
        by false f zero y i = said (ltb-false n (W.cost k p) f) y i.0 i.1 i.2 i.3
        by false f (suc x) y i =
            let g = ltb-false n (W.cost k p) f in
            goes_on t u (suc x) (W.cost k p) s' (n - W.cost k p) (at_names x c y refl refl) l q (omega arith) i

    tested : Leads (run W (try k p ∷ es) s b n e) turns r → Tested k p es s b n e turns r
    unfolding run asked
    tested h = by (ended (λ s'. conclude W (λ x n'. run W es s' b n' (worse_of e x)) k p n) (λ x s'. run W es s' b n (worse_of e x)) (staged W k p) s turns r h)
      where
        by : Ended (λ s'. conclude W (λ x n'. run W es s' b n' (worse_of e x)) k p n) (λ x s'. run W es s' b n (worse_of e x)) (staged W k p) s turns r → Tested k p es s b n e turns r
        by (all_clear t u s' c l q i) = concluded t u s' c l q i
        by (found x rest t u s' c l q i) = goes_on t u (suc x) 0 s' n (at_check x rest c refl refl) l q (omega arith) i
        by (wrong x j w a rest t u s' c y l q i) =
            goes_on (t ++ (answer j w a ∷ [])) u (suc x) 0 s' n (at_answer x j w a rest t c y refl refl refl)
            (l ∙ sym (append_assoc t (answer j w a ∷ []) u)) (omega (arith, asked_append t (answer j w a ∷ []))) (omega arith) i
        by (out_of j w rest c q i) = ends (no_signatures k p es j w rest refl c q i)

  -- ---- the account
  -- a run that ends at once
  at_once : {es : List Event} {s b n e : ℕ} {turns : List Turn} {r : Outcome} → Last W es s b n e turns r → Account W es s b n e turns r
  unfolding asked kept
  at_once {es} {s} {b} {n} {e} {turns} h = record {
    before = [];
    after = es;
    split = refl;
    first = [];
    last = turns;
    talk = refl;
    noted = [];
    extensions = 0;
    comparisons = 0;
    gone = nothing;
    signatures_left = s;
    extensions_left = b;
    comparisons_left = n;
    signatures_used = omega arith;
    extensions_used = omega arith;
    comparisons_used = omega arith;
    end = h;
  }

  -- one event more in front
  further : (ev : Event) (es : List Event) (s b n e : ℕ) (turns : List Turn) (r : Outcome) (t u : List Turn) (xs : List ℕ) (d m s' b' n' : ℕ)
      → Past W ev t xs d m → turns ≡ t ++ u → s ≡ asked t + s' → b ≡ d + b' → n ≡ m + n' → Account W es s' b' n' (kept e xs) u r → Account W (ev ∷ es) s b n e turns r
  further ev es s b n e turns r t u xs d m s' b' n' p l qs qb qn a = record {
    before = ev ∷ a.before;
    after = a.after;
    split = ap (λ (z : List Event). ev ∷ z) a.split;
    first = t ++ a.first;
    last = a.last;
    talk = l ∙ ap (λ (z : List Turn). t ++ z) a.talk ∙ sym (append_assoc t a.first a.last);
    noted = xs ++ a.noted;
    extensions = d + a.extensions;
    comparisons = m + a.comparisons;
    gone = more p a.gone;
    signatures_left = a.signatures_left;
    extensions_left = a.extensions_left;
    comparisons_left = a.comparisons_left;
    signatures_used = omega (arith, asked_append t a.first);
    extensions_used = omega arith;
    comparisons_used = omega arith;
    end = rw (kept_append e xs a.noted) a.end;
  }

  pub account : (es : List Event) (s b n e : ℕ) (turns : List Turn) (r : Outcome) → Leads (run W es s b n e) turns r → Account W es s b n e turns r
  unfolding run Leads kept asked
  account [] s b n e turns r h = at_once (no_events refl h.0 (sym h.1))
  account (note x ∷ es) s b n e turns r h =
      further (note x) es s b n e turns r [] turns (x ∷ []) 0 0 s b n (noted x) refl (omega arith) (omega arith) (omega arith)
      (account es s b n (worse_of e x) turns r h)
  account (leave ∷ es) s b n e turns r h =
      further leave es s b n e turns r [] turns [] 0 0 s b n left refl (omega arith) (omega arith) (omega arith)
      (account es s b n e turns r h)
  account (extension ∷ es) s zero n e turns r h = at_once (no_extensions es refl h.0 refl (sym h.1))
  account (extension ∷ es) s (suc b) n e turns r h =
      further extension es s (suc b) n e turns r [] turns [] 1 0 s b n extended refl (omega arith) (omega arith) (omega arith) (account es s b n e turns r h)
  account (try k p ∷ es) s b n e turns r h = by (λ s' n' e' u. account es s' b n' e' u r) (tested k p es s b n e turns r h)
    where
      by : ((s' n' e' : ℕ) (u : List Turn) → Leads (run W es s' b n' e') u r → Account W es s' b n' e' u r) → Tested k p es s b n e turns r → Account W (try k p ∷ es) s b n e turns r
      by rec (ends l) = at_once l
      by rec (goes_on t u x m s' n' g l qs qn i) =
          further (try k p) es s b n e turns r t u (x ∷ []) 0 m s' b n' (declined k p t x m g) l qs (omega arith) qn (rec s' n' (worse_of e x) u i)
