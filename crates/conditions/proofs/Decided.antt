-- Every dialogue with a request decides, in the words of the conditions on bytes. Assumes that what is lent are bytes.
use Prim.Native.Nat.{ℕ, suc}
use mathlib.Core.Path.{◌≡◌, refl, sym, ◌∙◌, ap, subst}
use mathlib.Core.Bool.{true, false}
use mathlib.Core.List.{List, [], ◌∷◌, ◌++◌, Memᴰ}
use native.Mathlib.Omega.{arith}
use lib.ListN.{length}
use Rattle.refusal.specs.Refusals.{is_fatal}
use Rattle.refusal.proofs.Laws.{Mild, mild_not_fatal}
use Rattle.cert.specs.Model.{read_certificate, Reading}
use Rattle.cert.proofs.Refusals.{ReadingFair, reading_not, read_fair}
use Rattle.checks.proofs.Skeletons.{certificate_reads}
use Rattle.candidate.proofs.Verdicts.{anchor_sound, extend_sound}
use Rattle.asked.proofs.Questions.{reply_sound, reply_complete}
use Rattle.dialogue.specs.Log.{What, of_certificate, Turn, answer, word, SaidYes, SaidContent, NotDenied, NotDeclined, yeses, EndsWith}
use Rattle.dialogue.specs.Model.{Path, staged, Outcome, accepted, refused, spent, done}
use Rattle.dialogue.specs.Dialogue.{Leads, follow, talk}
use Rattle.dialogue.specs.Account.{Cleared, here, by_answer, Closing}
use Rattle.dialogue.specs.Acceptable.{Acceptable, Given, Unopposed}
use Rattle.dialogue.specs.Work.{Sorted}
use Rattle.dialogue.specs.Decided.{Decided as SearchDecided}
use Rattle.dialogue.proofs.Answers.{followed}
use Rattle.dialogue.proofs.Sound.{weaker}
use Rattle.dialogue.proofs.Decided.{decided as search_decided}
use Rattle.machine.specs.World.{meaning_of, world_of}
use Rattle.machine.proofs.Lent.{only_yes}
use Rattle.conditions.specs.Request.{Request, Budgets, end_of}
use Rattle.conditions.specs.Model.{world_for, search_of, decision}
use Rattle.conditions.specs.Conditions.{Lends, Named}
use Rattle.conditions.specs.Meets.{Stands, Meets}
use Rattle.conditions.specs.Decided.{Which, unread, no_path, other_name, Work, nothing, searched, Decided}
use Rattle.conditions.proofs.Lent.{bytes}
use Rattle.conditions.proofs.Paths.{Answered, stands, meets_acceptable}
use Rattle.conditions.proofs.Names.{good_named, named_good, name_mild}
use Rattle.conditions.proofs.Closed.{Came, unread as end_unread, found, misnamed, none, out, came}
use Rattle.std.specs.Prelude.{Ok, Err}

clash : {P : Type 0} {k x : ℕ} {p : Path} → accepted k p ≡ refused x → P
clash e = let z : ◌≡◌ {A = ℕ} 0 1 = cc in absurd (omega arith)

spent_refused : {P : Type 0} {x y : ℕ} → spent x ≡ refused y → P
spent_refused e = let z : ◌≡◌ {A = ℕ} 0 1 = cc in absurd (omega arith)

spent_accepted : {P : Type 0} {x k : ℕ} {p : Path} → spent x ≡ accepted k p → P
spent_accepted e = let z : ◌≡◌ {A = ℕ} 0 1 = cc in absurd (omega arith)

module _ (R : Request) (lent : Lends R) where
  -- ---- an answer that comes to nothing against it is a yes for a key that can be read
  given : (turns : List Turn) (key : ℕ) (what : What) → Given (world_for R) turns key what → Answered R lent (SaidYes turns) key what
  unfolding world_of
  given turns key what y =
      let r = reply_sound R.issuers R.end R.keys (length R.subjects) key (lent.keys key) (bytes R lent key) (meaning_of y.0) y.2 in
      (r.1, subst (λ (a : ℕ). Memᴰ (answer key what a) turns) (only_yes y.0 r.0) y.1)

  -- and a yes for a key that can be read is one
  unopposed : (turns : List Turn) (key : ℕ) (what : What) → Answered R lent (NotDenied turns) key what → Unopposed (world_for R) turns key what
  unfolding world_of meaning_of
  unopposed turns key what y a m = rw (y.1 a m) (reply_complete R.issuers R.end R.keys (length R.subjects) key (bytes R lent key) y.0)

  -- the signatures of a path that are cleared are each a yes
  all_yes : (key : ℕ) (path : Path) {own : List Turn} → Cleared (world_for R) (staged (world_for R) key path) own [] → own ≡ yeses key path
  unfolding world_of staged yeses
  all_yes key [] here = refl
  all_yes key (n ∷ ns) (by_answer {turns = rest} k w a y c) =
      let r = reply_sound R.issuers R.end R.keys (length R.subjects) key (lent.keys key) (bytes R lent key) (meaning_of a) y in
      ap (λ (x : ℕ). answer key (of_certificate n) x ∷ rest) (only_yes a r.0) ∙ ap (λ (l : List Turn). answer key (of_certificate n) 0 ∷ l) (all_yes n ns c)

  module _ (turns : List Turn) (k : ℕ) (p : Path) where
    closes : Closing (world_for R) turns k p → EndsWith turns (yeses k p ++ (word k p 0 ∷ []))
    unfolding world_of
    closes c = (c.earlier, c.talk ∙ ap (λ (l : List Turn). c.earlier ++ (l ++ (word k p 0 ∷ []))) (all_yes k p c.cleared))

    -- a path that the search accepts stands, by answers of this dialogue
    answers_given : Acceptable (world_for R) (end_of R) (Given (world_for R) turns) (SaidContent turns) k p → Acceptable (world_for R) (end_of R) (Answered R lent (SaidYes turns)) (SaidContent turns) k p
    answers_given = weaker (world_for R) (end_of R) k p (given turns) (λ w. w)

  -- the first candidates are anchors, the others intermediates
  pub sorted : Sorted (world_for R) (length R.subjects) (length R.issuers)
  unfolding world_of
  sorted = record {
    all = refl;
    tried = λ path i e. (anchor_sound R.issuers R.end R.subjects R.keys R.constraints R.bound R.distrusted path i (bytes R lent) e).candidate;
    extended = λ path i e. (extend_sound R.issuers R.end R.subjects R.keys R.constraints R.bound R.distrusted path i (bytes R lent) e).candidate;
  }

  unread_mild : (x : ℕ) → read_certificate R.end true ≡ Err x → Mild x
  unread_mild x e = by (read_certificate R.end true) e (read_fair R.end true)
    where
      by : (r : Reading) → r ≡ Err x → ReadingFair r → Mild x
      by (Ok c) e f = let z : ◌≡◌ {A = ℕ} 0 1 = cc in absurd (omega arith)
      by (Err y) e (reading_not f) = let z : y ≡ x = cc in omega (arith, f.1)

  -- the conditions cannot be met where the end entity cannot be read
  unread_unnamed : (x : ℕ) → read_certificate R.end true ≡ Err x → Named R → ⊥
  unread_unnamed x e n =
      let r = certificate_reads R.end n.contents n.readable in
      let q : Ok r.0 ≡ Err x = sym r.1 ∙ e in
      let z : ◌≡◌ {A = ℕ} 0 1 = cc in omega arith

  module _ (B : Budgets) (turns : List Turn) where
    -- what the search decided
    looked : (q : Outcome) → Leads (search_of R B) turns q → SearchDecided (world_for R) (end_of R) B.signatures B.extensions B.comparisons turns q
    looked q l = search_decided (world_for R) (end_of R) B.signatures B.extensions B.comparisons turns q l

    done_with : (q : Outcome) → Leads (search_of R B) turns q → Work R B turns
    unfolding world_of
    done_with q l =
        let d = looked q l in
        let A = length R.subjects in
        let I = length R.issuers in
        searched q l d.account d.extensions d.comparisons d.moves (d.tries A I sorted) (d.lookups A I sorted) (d.looks (length R.distrusted) A I sorted)

    module _ (r : Outcome) (h : Leads (decision R B) turns r) where
      yes : (k : ℕ) (p : Path) → r ≡ accepted k p → Meets R (SaidYes turns) (SaidContent turns) k p
      yes k p e = by (came R B turns r h)
        where
          by : Came R B turns r → Meets R (SaidYes turns) (SaidContent turns) k p
          by (end_unread x u t z) = clash (sym e ∙ z)
          by (found j q l g z) =
              (meets_acceptable R lent (SaidYes turns) (SaidContent turns) k p).1
              (answers_given turns k p ((looked (accepted j q) l).yes k p (sym z ∙ e)), good_named R lent g)
          by (misnamed j q x l g z) = clash (sym e ∙ z)
          by (none x l z) = clash (sym e ∙ z)
          by (out x l z) = spent_accepted (sym z ∙ e)

      ended : (k : ℕ) (p : Path) → r ≡ accepted k p → EndsWith turns (yeses k p ++ (word k p 0 ∷ []))
      ended k p e = by (came R B turns r h)
        where
          by : Came R B turns r → EndsWith turns (yeses k p ++ (word k p 0 ∷ []))
          by (end_unread x u t z) = clash (sym e ∙ z)
          by (found j q l g z) = closes turns k p ((looked (accepted j q) l).closing k p (sym z ∙ e))
          by (misnamed j q x l g z) = clash (sym e ∙ z)
          by (none x l z) = clash (sym e ∙ z)
          by (out x l z) = spent_accepted (sym z ∙ e)

      no : (x : ℕ) → r ≡ refused x → (k : ℕ) (p : Path) → Meets R (NotDenied turns) (NotDeclined turns) k p → ⊥
      no x e k p m = by (came R B turns r h)
        where
          by : Came R B turns r → ⊥
          by (end_unread y u t z) = unread_unnamed y u m.named
          by (found j q l g z) = clash (sym z ∙ e)
          by (misnamed j q y l g z) = omega (arith, sym g ∙ named_good R lent m.named)
          by (none y l z) =
              (looked (refused y) l).no y refl k p
              (weaker (world_for R) (end_of R) k p (unopposed turns) (λ w. w) ((meets_acceptable R lent (NotDenied turns) (NotDeclined turns) k p).0 m).0)
          by (out y l z) = spent_refused (sym z ∙ e)

      which : (x : ℕ) → r ≡ refused x → Which R B turns x
      which x e = by (came R B turns r h)
        where
          by : Came R B turns r → Which R B turns x
          by (end_unread y u t z) = let q : y ≡ x = cc in unread (u ∙ ap Err q) t
          by (found j q l g z) = clash (sym z ∙ e)
          by (misnamed j q y l g z) = let i : suc y ≡ x = cc in other_name j q l (g ∙ i) (λ m. omega (arith, sym g ∙ named_good R lent m))
          by (none y l z) = no_path ((looked (refused y) l).which x (sym z ∙ e))
          by (out y l z) = spent_refused (sym z ∙ e)

      not_fatal : (x : ℕ) → r ≡ refused x → is_fatal x ≡ false
      not_fatal x e = by (came R B turns r h)
        where
          by : Came R B turns r → is_fatal x ≡ false
          by (end_unread y u t z) = let q : y ≡ x = cc in mild_not_fatal x (unread_mild x (u ∙ ap Err q))
          by (found j q l g z) = clash (sym z ∙ e)
          by (misnamed j q y l g z) = let i : suc y ≡ x = cc in mild_not_fatal x (subst (λ (w : ℕ). Mild w) (g ∙ i) (name_mild R lent))
          by (none y l z) = (looked (refused y) l).not_fatal x (sym z ∙ e)
          by (out y l z) = spent_refused (sym z ∙ e)

      last : (x : ℕ) → r ≡ spent x → SearchDecided (world_for R) (end_of R) B.signatures B.extensions B.comparisons turns (spent x)
      last x e = by (came R B turns r h)
        where
          by : Came R B turns r → SearchDecided (world_for R) (end_of R) B.signatures B.extensions B.comparisons turns (spent x)
          by (end_unread y u t z) = spent_refused (sym e ∙ z)
          by (found j q l g z) = spent_accepted (sym e ∙ z)
          by (misnamed j q y l g z) = spent_refused (sym e ∙ z)
          by (none y l z) = spent_refused (sym e ∙ z)
          by (out y l z) = looked (spent x) (subst (λ (w : Outcome). Leads (search_of R B) turns w) (sym z ∙ e) l)

      work : Work R B turns
      work = by (came R B turns r h)
        where
          by : Came R B turns r → Work R B turns
          by (end_unread y u t z) = nothing y u t
          by (found j q l g z) = done_with (accepted j q) l
          by (misnamed j q y l g z) = done_with (accepted j q) l
          by (none y l z) = done_with (refused y) l
          by (out y l z) = done_with (spent y) l

      -- THEOREM
      pub decided : Decided R B turns r
      decided = record {
        yes = yes;
        closing = ended;
        no = no;
        which = which;
        not_fatal = not_fatal;
        used_up = λ x e. (last x e).used_up x refl;
        fatal = λ x e. (last x e).fatal x refl;
        work = work;
      }

  -- THEOREM: for a caller who answers one after the other
  module _ (B : Budgets) (said : List ℕ) where
    pub answered : (r : Outcome) → follow (decision R B) said ≡ done r → Decided R B (talk (decision R B) said) r
    answered r e = decided B (talk (decision R B) said) r (followed (decision R B) said r e)

    -- and what the search accepts stands, whatever the wanted name
    module _ (k : ℕ) (p : Path) (e : follow (search_of R B) said ≡ done (accepted k p)) where
      ended_so : SearchDecided (world_for R) (end_of R) B.signatures B.extensions B.comparisons (talk (search_of R B) said) (accepted k p)
      ended_so = looked B (talk (search_of R B) said) (accepted k p) (followed (search_of R B) said (accepted k p) e)

      pub found_stands : (Yes : ℕ → What → Type 0) → ((key : ℕ) (what : What) → SaidYes (talk (search_of R B) said) key what → Yes key what) → Stands R Yes k p
      found_stands Yes f =
          let turns = talk (search_of R B) said in
          stands R lent Yes (SaidContent turns) k p
          (weaker (world_for R) (end_of R) k p (λ key what y. let g = given turns key what y in (g.0, f key what g.1)) (λ w. w) (ended_so.yes k p refl))

      pub found_closes : EndsWith (talk (search_of R B) said) (yeses k p ++ (word k p 0 ∷ []))
      found_closes = closes (talk (search_of R B) said) k p (ended_so.closing k p refl)
