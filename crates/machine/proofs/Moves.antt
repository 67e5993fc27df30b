-- What each move of the machine leaves of the tree of questions. No code: states are records. Assumes nothing.
use Prim.Native.Nat.{ℕ, zero, suc, ◌+◌, ◌-◌, ◌≤◌, ◌<◌}
use mathlib.Core.Path.{◌≡◌, refl, sym, ◌∙◌, ap, subst}
use mathlib.Core.Bool.{Bool, true, false, cond}
use mathlib.Core.List.{List, [], ◌∷◌, ◌++◌}
use mathlib.Core.Logic.{inl, inr, ⊎_elim}
use native.Mathlib.Omega.{arith}
use lib.Dec.{ltb, eqb}
use lib.ListN.{length, get_or, set}
use borrow.Author.Tests.{lt-ltb, le-ltb, ltb-true, ne_eqb}
use Rattle.refusal.specs.Refusals.{maximum_path_depth_exceeded, maximum_signature_checks_exceeded, maximum_path_build_calls_exceeded, maximum_name_constraint_comparisons_exceeded}
use Rattle.refusal.specs.Model.{worse_of}
use Rattle.lent.specs.Lent.{most_intermediates, lower, pre}
use Rattle.candidate.specs.declared.Verdict.{Verdict}
use Rattle.candidate.specs.declared.Verdict.TheVariants.{Pass, Anchor, Extend}
use Rattle.machine.specs.declared.State.{State}
use Rattle.machine.specs.declared.Phase.{Phase}
use Rattle.machine.specs.declared.Phase.TheVariants.{Walk, Ask, Offer, Found, Refused, Spent}
use Rattle.dialogue.specs.Log.{What, of_certificate, of_list}
use Rattle.dialogue.specs.Model.{Path, Stage, World, question, finding, staged, Event, note, extension, leave, accepted, done, offer, unless, one, enter, through, run}
use Rattle.dialogue.specs.Dialogue.{give}
use Rattle.dialogue.specs.Work.{paid}
use Rattle.machine.specs.Levels.{under}
use Rattle.machine.specs.Machine.{left, here, onward, clear_tree, wrong_tree, place_of, key_at, cert_at, what_at, rest_at, more_tree, ask_tree, phase_tree, tree_of, still, phase_effort, effort, Stands, Kept, Pushed, Heard, Grew, One, ends, leaves, looks, pushes, following, stepped, noting, Moved, try_tree, extend_tree, extend_still}
use Rattle.machine.proofs.Levels.{lower_step, enter_deep, enter_refused, level_done, under_bottom, under_step, level_next, level_push}
use Rattle.machine.proofs.Steps.{now, unless_refused, paid_extension, run_extension, run_no_extension, Skips, through_skips, through_found, through_asks, through_no_signature, conclude_no_comparison, conclude_refused, conclude_offers}

place_most : (s : State) → place_of s ≤ s.depth
place_most s = by (ltb s.at s.depth) refl
  where
    by : (b : Bool) → ltb s.at s.depth ≡ b → cond b s.at s.depth ≤ s.depth
    by true e = omega (arith, ltb-true s.at s.depth e)
    by false e = omega arith

module _ (W : World) where
  module _ (s : State) (deep : s.depth < 7) where
    abbrev ended : Phase → State
    ended ph = record { path = s.path; next = s.next; depth = s.depth; at = s.at; list = s.list; anchor = s.anchor; signatures = s.signatures; extensions = s.extensions; comparisons = s.comparisons; best = s.best; phase = ph }

    -- ---- an anchor is tried
    module _ (i : ℕ) where
      pub try_out : s.signatures ≡ 0 → Heard W s (ended (Spent maximum_signature_checks_exceeded)) (try_tree W s i) (still W s)
      unfolding phase_tree phase_effort run staged
      try_out h = record { same = sym (through_no_signature W _ _ i _ _ s.signatures h); deep = deep; most = omega arith; kept = record { path = refl; next = refl; depth = refl } }

      abbrev asking : State
      asking = record { path = s.path; next = s.next; depth = s.depth; at = s.depth; list = 0; anchor = i; signatures = s.signatures - 1; extensions = s.extensions; comparisons = s.comparisons; best = s.best; phase = Ask }

      pub try_asks : (s.signatures ≡ 0 → ⊥) → Heard W s asking (try_tree W s i) (still W s)
      unfolding phase_tree phase_effort run staged
      try_asks h =
          let top : ltb s.depth s.depth ≡ false = le-ltb s.depth s.depth (omega arith) in
          record {
            same =
                ap (λ (b : Bool). ask_tree W asking (cond b (get_or s.path (s.depth + 1) 0) i) (cond b s.depth s.depth) (of_certificate (get_or s.path (cond b s.depth s.depth) 0))) top
                ∙ through_asks W _ _ i _ _ s.signatures h;
            deep = deep;
            most = omega arith;
            kept = record { path = refl; next = refl; depth = refl };
          }

    -- ---- an extension
    module _ (i : ℕ) (walks : s.phase ≡ Walk) where
      abbrev rest : List Event
      rest = enter W (most_intermediates - s.depth) (i ∷ here s) ++ left W s

      pub extend_out : s.extensions ≡ 0 → Grew W s (ended (Spent maximum_path_build_calls_exceeded)) i (extend_tree W s i) (extend_still W s i)
      unfolding phase_tree phase_effort
      extend_out h = record { same = sym (run_no_extension W rest s.signatures s.extensions s.comparisons s.best h); deep = deep; most = omega arith; grew = inl (record { path = refl; next = refl; depth = refl }) }

      module _ (pays : s.extensions ≡ 0 → ⊥) where
        abbrev failing : ℕ → State
        failing e = record { path = s.path; next = s.next; depth = s.depth; at = s.at; list = s.list; anchor = s.anchor; signatures = s.signatures; extensions = s.extensions - 1; comparisons = s.comparisons; best = e; phase = s.phase }

        failed : (x b : ℕ) → b ≡ worse_of s.best x → enter W (most_intermediates - s.depth) (i ∷ here s) ≡ note x ∷ [] → Grew W s (failing b) i (extend_tree W s i) (extend_still W s i)
        unfolding phase_tree phase_effort run paid
        failed x b e h =
            let list : rest ≡ note x ∷ left W s = ap (λ (l : List Event). l ++ left W s) h in
            let all : paid rest (s.extensions - 1) ≡ 1 + paid (left W s) (s.extensions - 1) = ap (λ (l : List Event). paid l (s.extensions - 1)) list in
            let mine : phase_effort W (failing b) s.phase ≡ paid (left W s) (s.extensions - 1) = ap (phase_effort W (failing b)) walks in
            record {
              same =
                  ap (phase_tree W (failing b)) walks
                  ∙ ap (λ (n : ℕ). onward W (failing b) s.signatures s.comparisons n) e
                  ∙ ap (λ (l : List Event). run W l s.signatures (s.extensions - 1) s.comparisons s.best) (sym list)
                  ∙ run_extension W rest s.signatures s.extensions s.comparisons s.best pays;
              deep = deep;
              most = omega (arith, paid_extension rest s.extensions pays);
              grew = inl (record { path = refl; next = refl; depth = refl });
            }

        pub extend_deep : (b : ℕ) → b ≡ worse_of s.best maximum_path_depth_exceeded → s.depth ≡ most_intermediates → Grew W s (failing b) i (extend_tree W s i) (extend_still W s i)
        extend_deep b e h = failed maximum_path_depth_exceeded b e (enter_deep W (most_intermediates - s.depth) (i ∷ here s) (omega arith))

        pub extend_refused : (x b : ℕ) → b ≡ worse_of s.best x → (s.depth ≡ most_intermediates → ⊥) → W.check (i ∷ here s) ≡ x → (x ≡ 0 → ⊥) → Grew W s (failing b) i (extend_tree W s i) (extend_still W s i)
        extend_refused x b e h k z = failed x b e (enter_refused W (most_intermediates - s.depth) (i ∷ here s) x (omega arith) k z)

        abbrev pushed : State
        pushed = record { path = set s.path (s.depth + 1) i; next = set s.next (s.depth + 1) 0; depth = s.depth + 1; at = s.at; list = s.list; anchor = s.anchor; signatures = s.signatures; extensions = s.extensions - 1; comparisons = s.comparisons; best = s.best; phase = s.phase }

        pub extend_goes : length s.path ≡ 7 → length s.next ≡ 7 → (s.depth ≡ most_intermediates → ⊥) → W.check (i ∷ here s) ≡ 0 → Grew W s pushed i (extend_tree W s i) (extend_still W s i)
        unfolding phase_tree phase_effort
        extend_goes lp ln room k =
            let list : rest ≡ left W pushed = level_push W s.path s.next s.depth i (omega arith) (omega arith) (omega arith) k in
            let all : paid rest (s.extensions - 1) ≡ paid (left W pushed) (s.extensions - 1) = ap (λ (l : List Event). paid l (s.extensions - 1)) list in
            let mine : phase_effort W pushed s.phase ≡ paid (left W pushed) (s.extensions - 1) = ap (phase_effort W pushed) walks in
            record {
              same =
                  ap (phase_tree W pushed) walks
                  ∙ ap (λ (l : List Event). run W l s.signatures (s.extensions - 1) s.comparisons s.best) (sym list)
                  ∙ run_extension W rest s.signatures s.extensions s.comparisons s.best pays;
              deep = omega arith;
              most = omega (arith, paid_extension rest s.extensions pays);
              grew = inr (record { path = refl; next = refl; depth = refl });
            }

    -- ---- a move of the walk
    module _ (walks : s.phase ≡ Walk) where
      mine : effort W s ≡ still W s
      unfolding phase_effort
      mine = ap (phase_effort W s) walks

      module _ (none : W.candidates ≤ get_or s.next s.depth 0) where
        gone : left W s ≡ leave ∷ under W s.path s.next s.depth
        gone = level_done W s.path s.next s.depth none

        pub over : s.depth ≡ 0 → Moved W s (ended (Refused s.best))
        unfolding phase_tree phase_effort run paid
        over z =
            let list : left W s ≡ leave ∷ [] = gone ∙ ap (λ (l : List Event). leave ∷ l) (under_bottom W s.path s.next s.depth z) in
            let all : still W s ≡ 1 = ap (λ (l : List Event). paid l s.extensions) list in
            record {
              same =
                  ap (λ (l : List Event). run W l s.signatures s.extensions s.comparisons s.best) (sym list)
                  ∙ ap (phase_tree W s) (sym walks);
              deep = deep;
              less = omega (arith, mine);
              walks = walks;
              one = ends none (record { path = refl; next = refl; depth = refl }) z refl;
            }

        abbrev popped : State
        popped = record { path = s.path; next = s.next; depth = s.depth - 1; at = s.at; list = s.list; anchor = s.anchor; signatures = s.signatures; extensions = s.extensions; comparisons = s.comparisons; best = s.best; phase = s.phase }

        pub pops : (s.depth ≡ 0 → ⊥) → Moved W s popped
        unfolding phase_tree phase_effort run paid
        pops z =
            let list : left W s ≡ leave ∷ left W popped = gone ∙ ap (λ (l : List Event). leave ∷ l) (under_step W s.path s.next s.depth z) in
            let all : still W s ≡ 1 + paid (left W popped) s.extensions = ap (λ (l : List Event). paid l s.extensions) list in
            let its : phase_effort W popped s.phase ≡ paid (left W popped) s.extensions = ap (phase_effort W popped) walks in
            record {
              same =
                  ap (phase_tree W popped) walks
                  ∙ ap (λ (l : List Event). run W l s.signatures s.extensions s.comparisons s.best) (sym list)
                  ∙ ap (phase_tree W s) (sym walks);
              deep = omega arith;
              less = omega (arith, mine);
              walks = walks;
              one = leaves none refl refl (omega (arith, z));
            }

      module _ (some : get_or s.next s.depth 0 < W.candidates) (ln : length s.next ≡ 7) where
        abbrev i : ℕ
        i = following s

        ahead : (v : Verdict) → W.verdict (here s) i ≡ v → left W s ≡ one (enter W (most_intermediates - s.depth)) (here s) i v ++ left W (stepped s)
        ahead v e = level_next W s.path s.next s.depth v some (omega arith) e

        moved : (r : State) (es : List Event) → left W s ≡ es → Stands W r (run W es s.signatures s.extensions s.comparisons s.best) (paid es s.extensions - 1)
            → 0 < paid es s.extensions → One W s r → Moved W s r
        unfolding phase_tree
        moved r es e h l o =
            let all : still W s ≡ paid es s.extensions = ap (λ (z : List Event). paid z s.extensions) e in
            record {
              same = h.same ∙ ap (λ (z : List Event). run W z s.signatures s.extensions s.comparisons s.best) (sym e) ∙ ap (phase_tree W s) (sym walks);
              deep = h.deep;
              less = omega (arith, mine, h.most);
              walks = walks;
              one = o;
            }

        pub tries : (r : State) → W.verdict (here s) i ≡ Anchor → Heard W (stepped s) r (try_tree W (stepped s) i) (still W (stepped s)) → Moved W s r
        unfolding one paid
        tries r e h = moved r _ (ahead Anchor e) (record { same = h.same; deep = h.deep; most = omega (arith, h.most) }) (omega arith) (looks some h.kept.path h.kept.next h.kept.depth)

        positive : (es : List Event) (b : ℕ) → 0 < paid (extension ∷ es) b
        unfolding paid
        positive es zero = omega arith
        positive es (suc b) = omega arith

        pub extends : (r : State) → W.verdict (here s) i ≡ Extend → Grew W (stepped s) r i (extend_tree W (stepped s) i) (extend_still W (stepped s) i) → Moved W s r
        unfolding one
        extends r e h =
            moved r _ (ahead Extend e) (record { same = h.same; deep = h.deep; most = h.most }) (positive _ s.extensions)
            (⊎_elim (λ (k : Kept (stepped s) r). looks some k.path k.next k.depth) (λ (k : Pushed (stepped s) r i). pushes some k.path k.next k.depth) h.grew)

        pub notes : (r : State) (x : ℕ) → r ≡ noting (stepped s) x → W.verdict (here s) i ≡ Pass x → Moved W s r
        unfolding one run phase_tree phase_effort paid
        notes r x n e =
            let u = noting (stepped s) x in
            let its : phase_effort W u s.phase ≡ paid (left W (stepped s)) s.extensions = ap (phase_effort W u) walks in
            subst (Moved W s) (sym n)
            (moved u _ (ahead (Pass x) e) (record { same = ap (phase_tree W u) walks; deep = deep; most = omega arith }) (omega arith) (looks some refl refl refl))

    -- ---- an answer
    abbrev walking : ℕ → State
    walking b = record { path = s.path; next = s.next; depth = s.depth; at = s.at; list = s.list; anchor = s.anchor; signatures = s.signatures; extensions = s.extensions; comparisons = s.comparisons; best = b; phase = Walk }

    module _ (asks : s.phase ≡ Ask) (a : ℕ) where
      its : effort W s ≡ still W s
      unfolding phase_effort
      its = ap (phase_effort W s) asks

      replied : (x : ℕ) → W.reply (key_at s) (what_at s) a ≡ x → unless x (more_tree W s (key_at s) (place_of s)) (λ y. wrong_tree W s y s.signatures) ≡ give (tree_of W s) a
      unfolding phase_tree give
      replied x y =
          ap (λ (n : ℕ). unless n (more_tree W s (key_at s) (place_of s)) (λ y. wrong_tree W s y s.signatures)) (sym y)
          ∙ ap (λ (p : Phase). give (phase_tree W s p) a) (sym asks)

      pub denied : (x b : ℕ) → W.reply (key_at s) (what_at s) a ≡ x → (x ≡ 0 → ⊥) → b ≡ worse_of s.best x → Heard W s (walking b) (give (tree_of W s) a) (effort W s)
      unfolding phase_tree phase_effort
      denied x b y z e =
          record {
            same =
                ap (λ (n : ℕ). onward W s s.signatures s.comparisons n) e
                ∙ sym (unless_refused (more_tree W s (key_at s) (place_of s)) (λ y. wrong_tree W s y s.signatures) x z)
                ∙ replied x y;
            deep = deep;
            most = omega (arith, its);
            kept = record { path = refl; next = refl; depth = refl };
          }

      module _ (yes : W.reply (key_at s) (what_at s) a ≡ 0) where
        agreed : more_tree W s (key_at s) (place_of s) ≡ give (tree_of W s) a
        agreed = replied 0 yes

        -- what is left of the stages after the answer
        abbrev rest' : List Stage
        rest' = rest_at W s (key_at s) (place_of s) s.list

        -- a check that asks nothing has something against the path
        pub found : (x b : ℕ) (l : List Stage) → Skips rest' (finding x ∷ l) → (x ≡ 0 → ⊥) → b ≡ worse_of s.best x → Heard W s (walking b) (give (tree_of W s) a) (effort W s)
        unfolding phase_tree phase_effort
        found x b l h z e =
            record {
              same =
                  ap (λ (n : ℕ). onward W s s.signatures s.comparisons n) e
                  ∙ sym (through_found W (clear_tree W s) (wrong_tree W s) s.signatures x l z)
                  ∙ sym (through_skips W (clear_tree W s) (wrong_tree W s) s.signatures h)
                  ∙ agreed;
              deep = deep;
              most = omega (arith, its);
              kept = record { path = refl; next = refl; depth = refl };
            }

        module _ (clear : Skips rest' []) where
          settled : clear_tree W s s.signatures ≡ give (tree_of W s) a
          unfolding through
          settled = sym (through_skips W (clear_tree W s) (wrong_tree W s) s.signatures clear) ∙ agreed

          -- what is left of the comparisons makes no difference any more
          abbrev exhausted : ℕ → State
          exhausted n = record { path = s.path; next = s.next; depth = s.depth; at = s.at; list = s.list; anchor = s.anchor; signatures = s.signatures; extensions = s.extensions; comparisons = n; best = s.best; phase = Spent maximum_name_constraint_comparisons_exceeded }

          pub names_out : (n : ℕ) → s.comparisons < W.cost s.anchor (here s) → Heard W s (exhausted n) (give (tree_of W s) a) (effort W s)
          unfolding phase_tree phase_effort
          names_out n h = record { same = sym (conclude_no_comparison W _ s.anchor (here s) s.comparisons h) ∙ settled; deep = deep; most = omega arith; kept = record { path = refl; next = refl; depth = refl } }

          module _ (q : ℕ) (cost : q ≡ s.comparisons - W.cost s.anchor (here s)) (fits : W.cost s.anchor (here s) ≤ s.comparisons) where
            abbrev misnamed : ℕ → State
            misnamed b = record { path = s.path; next = s.next; depth = s.depth; at = s.at; list = s.list; anchor = s.anchor; signatures = s.signatures; extensions = s.extensions; comparisons = q; best = b; phase = Walk }

            pub names_refused : (y b : ℕ) → W.named s.anchor (here s) ≡ y → (y ≡ 0 → ⊥) → b ≡ worse_of s.best y → Heard W s (misnamed b) (give (tree_of W s) a) (effort W s)
            unfolding phase_tree phase_effort
            names_refused y b e z w =
                record {
                  same =
                      ap (λ (n : ℕ). onward W s s.signatures q n) w
                      ∙ ap (λ (m : ℕ). onward W s s.signatures m (worse_of s.best y)) cost
                      ∙ sym (conclude_refused W (λ x n. onward W s s.signatures n (worse_of s.best x)) s.anchor (here s) s.comparisons y fits e z)
                      ∙ settled;
                  deep = deep;
                  most = omega (arith, its);
                  kept = record { path = refl; next = refl; depth = refl };
                }

            abbrev offering : State
            offering = record { path = s.path; next = s.next; depth = s.depth; at = s.at; list = s.list; anchor = s.anchor; signatures = s.signatures; extensions = s.extensions; comparisons = q; best = s.best; phase = Offer }

            pub names_clear : W.named s.anchor (here s) ≡ 0 → Heard W s offering (give (tree_of W s) a) (effort W s)
            unfolding phase_tree phase_effort
            names_clear e =
                record {
                  same =
                      ap (λ (m : ℕ). offer s.anchor (here s) (λ a. unless a (done (accepted s.anchor (here s))) (λ y. onward W s s.signatures m (worse_of s.best y)))) cost
                      ∙ sym (conclude_offers W (λ x n. onward W s s.signatures n (worse_of s.best x)) s.anchor (here s) s.comparisons fits e)
                      ∙ settled;
                  deep = deep;
                  most = omega (arith, its);
                  kept = record { path = refl; next = refl; depth = refl };
                }

        -- the next question, whatever it is about
        module _ (key : ℕ) (what : What) (l : List Stage) (next' : Skips rest' (question key what ∷ l)) where
          goes_on : through W (clear_tree W s) (wrong_tree W s) (question key what ∷ l) s.signatures ≡ give (tree_of W s) a
          goes_on = sym (through_skips W (clear_tree W s) (wrong_tree W s) s.signatures next') ∙ agreed

          pub no_signature : s.signatures ≡ 0 → Heard W s (ended (Spent maximum_signature_checks_exceeded)) (give (tree_of W s) a) (effort W s)
          unfolding phase_tree phase_effort
          no_signature z =
              record { same = sym (through_no_signature W (clear_tree W s) (wrong_tree W s) key what l s.signatures z) ∙ goes_on; deep = deep; most = omega arith; kept = record { path = refl; next = refl; depth = refl } }

        abbrev asking_at : ℕ → ℕ → State
        asking_at m k = record { path = s.path; next = s.next; depth = s.depth; at = m; list = k; anchor = s.anchor; signatures = s.signatures - 1; extensions = s.extensions; comparisons = s.comparisons; best = s.best; phase = Ask }

        -- a list is asked about, for the same certificate
        pub asks_list : (k : ℕ) → Skips rest' (question (key_at s) (of_list (k - 1)) ∷ rest_at W s (key_at s) (place_of s) k) → (k ≡ 0 → ⊥) → (s.signatures ≡ 0 → ⊥)
            → Heard W s (asking_at s.at k) (give (tree_of W s) a) (effort W s)
        unfolding phase_tree phase_effort
        asks_list k h nz z =
            let about : eqb k 0 ≡ false = ne_eqb k 0 nz in
            record {
              same =
                  ap (λ (b : Bool). ask_tree W (asking_at s.at k) (key_at s) (place_of s) (cond b (of_certificate (cert_at s)) (of_list (k - 1)))) about
                  ∙ through_asks W (clear_tree W s) (wrong_tree W s) (key_at s) (of_list (k - 1)) _ s.signatures z
                  ∙ goes_on _ _ _ h;
              deep = deep;
              most = omega (arith, its);
              kept = record { path = refl; next = refl; depth = refl };
            }

        pub out_on : (place_of s ≡ 0 → ⊥) → Skips rest' (staged W (cert_at s) (lower s.path (place_of s))) → s.signatures ≡ 0 → Heard W s (ended (Spent maximum_signature_checks_exceeded)) (give (tree_of W s) a) (effort W s)
        unfolding staged
        out_on more h z =
            no_signature (cert_at s) (of_certificate (get_or s.path (place_of s - 1) 0)) _
            (subst (λ (l : List Stage). Skips rest' l) (ap (staged W (cert_at s)) (lower_step s.path (place_of s) more)) h) z

        -- the certificate below is asked about, with this one's key
        pub asks_on : (m : ℕ) → m ≡ place_of s - 1 → (place_of s ≡ 0 → ⊥) → Skips rest' (staged W (cert_at s) (lower s.path (place_of s))) → (s.signatures ≡ 0 → ⊥)
            → Heard W s (asking_at m 0) (give (tree_of W s) a) (effort W s)
        unfolding phase_tree phase_effort staged
        asks_on m e more h z =
            let inside : ltb m s.depth ≡ true = lt-ltb m s.depth (omega (arith, place_most s)) in
            let up : m + 1 ≡ place_of s = omega arith in
            let list : staged W (cert_at s) (lower s.path (place_of s)) ≡ staged W (cert_at s) (pre s.path (place_of s - 1)) = ap (staged W (cert_at s)) (lower_step s.path (place_of s) more) in
            record {
              same =
                  ap (λ (b : Bool). ask_tree W (asking_at m 0) (cond b (get_or s.path (m + 1) 0) s.anchor) (cond b m s.depth) (of_certificate (get_or s.path (cond b m s.depth) 0))) inside
                  ∙ ap (λ (n : ℕ). ask_tree W (asking_at m 0) (get_or s.path n 0) m (of_certificate (get_or s.path m 0))) up
                  ∙ ap (λ (n : ℕ). ask_tree W (asking_at m 0) (cert_at s) n (of_certificate (get_or s.path n 0))) e
                  ∙ through_asks W (clear_tree W s) (wrong_tree W s) (cert_at s) _ _ s.signatures z
                  ∙ goes_on _ _ _ (subst (λ (l : List Stage). Skips rest' l) list h);
              deep = deep;
              most = omega (arith, its);
              kept = record { path = refl; next = refl; depth = refl };
            }

    pub vetoed : (x b : ℕ) → s.phase ≡ Offer → (x ≡ 0 → ⊥) → b ≡ worse_of s.best x → Heard W s (walking b) (give (tree_of W s) x) (effort W s)
    unfolding phase_tree phase_effort give
    vetoed x b h z e =
        let its : effort W s ≡ still W s = ap (phase_effort W s) h in
        record {
          same =
              ap (λ (n : ℕ). onward W s s.signatures s.comparisons n) e
              ∙ sym (unless_refused (done (accepted s.anchor (here s))) (λ x. wrong_tree W s x s.signatures) x z)
              ∙ ap (λ (p : Phase). give (phase_tree W s p) x) (sym h);
          deep = deep;
          most = omega arith;
          kept = record { path = refl; next = refl; depth = refl };
        }

    pub taken : (x : ℕ) → s.phase ≡ Offer → x ≡ 0 → Heard W s (ended Found) (give (tree_of W s) x) (effort W s)
    unfolding phase_tree phase_effort give
    taken x h z =
        record { same = ap (λ (p : Phase). give (phase_tree W s p) 0) (sym h) ∙ ap (give (tree_of W s)) (sym z); deep = deep; most = omega arith; kept = record { path = refl; next = refl; depth = refl } }

    -- a state that has ended stays
    pub idle : (x : ℕ) → (s.phase ≡ Walk → ⊥) → (s.phase ≡ Ask → ⊥) → (s.phase ≡ Offer → ⊥) → Heard W s s (give (tree_of W s) x) (effort W s)
    unfolding phase_tree give
    idle x w k o = record { same = by s.phase w k o; deep = deep; most = omega arith; kept = record { path = refl; next = refl; depth = refl } }
      where
        by : (p : Phase) → (p ≡ Walk → ⊥) → (p ≡ Ask → ⊥) → (p ≡ Offer → ⊥) → phase_tree W s p ≡ give (phase_tree W s p) x
        by Walk w k o = absurd (w refl)
        by Ask w k o = absurd (k refl)
        by Offer w k o = absurd (o refl)
        by Found w k o = refl
        by (Refused e) w k o = refl
        by (Spent e) w k o = refl

-- ---- a world in which nothing comes after a signature
module _ (W : World) (plain : (key what : ℕ) (below : Path) (k : ℕ) → W.after key what below k ≡ []) (s : State) where
  pub bare_next : Skips (rest_at W s (key_at s) (place_of s) s.list) (staged W (cert_at s) (lower s.path (place_of s)))
  bare_next = subst (λ (l : List Stage). Skips (l ++ staged W (cert_at s) (lower s.path (place_of s))) (staged W (cert_at s) (lower s.path (place_of s)))) (sym (plain (key_at s) (cert_at s) (lower s.path (place_of s)) s.list)) now

  pub bare_clear : place_of s ≡ 0 → Skips (rest_at W s (key_at s) (place_of s) s.list) []
  unfolding staged lower
  bare_clear z = subst (λ (n : ℕ). Skips (rest_at W s (key_at s) (place_of s) s.list) (staged W (get_or s.path n 0) (lower s.path n))) z bare_next
