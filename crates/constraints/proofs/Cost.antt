-- COST: a path of which nothing is refused takes just so many comparisons. Assumes nothing.
use Prim.Native.Nat.{ℕ, zero, suc, ◌+◌, ◌-◌, ◌*◌, ◌≤◌}
use mathlib.Core.Path.{◌≡◌, refl, sym, ap, ◌∙◌}
use mathlib.Core.List.{List, [], ◌∷◌, ◌++◌, map}
use mathlib.Core.Bool.{Bool, true, false, cond}
use lib.ListN.{length, length-append}
use lib.Dec.{ltb, eqb}
use native.Mathlib.Nat.{add-mul}
use native.Mathlib.Omega.{arith}
use borrow.Author.Tests.{ltb-false, eqb-true}
use Rattle.refusal.specs.Refusals.{bad_der}
use Rattle.der.specs.X690.{encoding}
use Rattle.der.specs.Places.{Bytes, part}
use Rattle.der.specs.Loop.{run, walk}
use Rattle.der.proofs.Parts.{part_split, part_whole}
use Rattle.cert.specs.declared.Certificate.{Certificate}
use Rattle.cert.specs.Model.{read_certificate, Reading}
use Rattle.names.specs.General.{General, Named, encoded, Each}
use Rattle.names.specs.Model.{general_name}
use Rattle.names.proofs.Rows.{named_at}
use Rattle.entries.specs.Kinds.{directory_name}
use Rattle.entries.specs.Tally.{Tally, tally, clean, after}
use Rattle.entries.specs.Model.{on_name}
use Rattle.entries.proofs.Refusals.{Called, name_called}
use Rattle.subtrees.specs.declared.Subtrees.{Subtrees}
use Rattle.subtrees.specs.Rfc5280Names.{subtrees}
use Rattle.subtrees.specs.Presents.{Presents}
use Rattle.constraints.specs.Cost.{EachBytes, Presented, none, more, Takes, OwnTakes, IssuersTake, last, more as also, PathTakes}
use Rattle.subtrees.specs.Noted.{lent}
use Rattle.subtrees.specs.Model.{subtrees_at, name, next_name, alternatives, certificate}
use Rattle.constraints.specs.Model.{below_in, below, constraints, own, anchored_in, anchored, issuers_in, issuers, path_constraints_in, cost, named}
use Rattle.subtrees.proofs.Refusals.{Listed, lists_listed}
use Rattle.subtrees.proofs.Accepted.{BothPass, both_pass, part_empty, bases, entries_pass}
use Rattle.subtrees.proofs.Laws.{certificate_is, certificate_unread}
use Rattle.subtrees.proofs.Fields.{subtrees_read}
use Rattle.constraints.proofs.Turns.{constraints_are, constraints_none, own_bound, own_free, own_unread}
use Rattle.std.specs.Prelude.{Ok, Err, Result}
use Rattle.names.specs.declared.general.Name.{Name}

-- ---- lists of names
-- so many names more
more_names : (ns ms : List General) (k a b : ℕ) → a ≡ length ns * k → b ≡ length ms * k → a + b ≡ length (ns ++ ms) * k
more_names ns ms k a b e f =
    let l : length (ns ++ ms) ≡ length ns + length ms = length-append ns ms in
    rw (l, e, f) (sym (add-mul (length ns) (length ms) k))

-- ---- the general names between two places, as far as they can be read
unfoldable generals : ℕ → List ℕ → ℕ → ℕ → List General
generals zero t at to = []
generals (suc fuel) t at to =
    cond (ltb at to) (on_name (general_name t at to) (λ e. []) (λ kind a b. record { kind = kind; content = part t a b } ∷ generals fuel t b to)) []

module _ (s : List ℕ) (bytes : Bytes s) (lists : Subtrees) where
  abbrev permitted : List General
  permitted = bases (lists.permitted.end - lists.permitted.start) s lists.permitted.start lists.permitted.end

  abbrev excluded : List General
  excluded = bases (lists.excluded.end - lists.excluded.start) s lists.excluded.start lists.excluded.end

  abbrev entry_count : ℕ
  entry_count = length permitted + length excluded

  -- the lists are encodings
  record ListsAre : Type 0 where
    permitted_is : part s lists.permitted.start lists.permitted.end ≡ subtrees permitted
    excluded_is : part s lists.excluded.start lists.excluded.end ≡ subtrees excluded
    permitted_named : Each Named permitted
    excluded_named : Each Named excluded

  -- ---- one name
  record NamePassed (taken : ℕ) : Type 0 where
    lists_are : ListsAre
    count : taken ≡ entry_count

  name_passes : (kind : ℕ) (p : List ℕ) → (name s lists kind p).refusal ≡ 0 → NamePassed (name s lists kind p).taken
  unfolding name
  name_passes kind p z =
      let b = both_pass _ _ z in
      let l = entries_pass s bytes lists.permitted.end false kind p lists.permitted.start b.first in
      let r = entries_pass s bytes lists.excluded.end true kind p lists.excluded.start b.second in
      record {
        lists_are = record { permitted_is = l.is; excluded_is = r.is; permitted_named = l.named; excluded_named = r.named };
        count = b.taken ∙ omega (arith, l.count, r.count);
      }

  -- ---- the names of one certificate
  record NamesPassed (t : List ℕ) (at to : ℕ) (ns : List General) (taken : ℕ) : Type 0 where
    is : part t at to ≡ encoded ns
    names_named : Each Named ns
    count : taken ≡ length ns * entry_count

  module _ (t : List ℕ) (bt : Bytes t) (to : ℕ) where
    abbrev named_from : ℕ → ℕ → Tally
    named_from fuel at = run to (λ a (u : Unit {0}). clean) (λ a u. next_name s lists t (general_name t a to)) fuel at tt

    names_end : (at : ℕ) → to ≤ at → NamesPassed t at to [] 0
    unfolding encoded Each
    names_end at h = record { is = part_empty t at to h; names_named = tt; count = omega arith }

    name_more : (at kind start end : ℕ) (ns : List General) (a b : ℕ) → Named (record { kind = kind; content = part t start end }) → part t at to ≡ encoding kind (part t start end) ++ part t end to → NamePassed a → NamesPassed t end to ns b
        → NamesPassed t at to (record { kind = kind; content = part t start end } ∷ ns) (a + b)
    unfolding encoded Each
    name_more at kind start end ns a b h q n r =
        let n₁ : General = record { kind = kind; content = part t start end } in
        let one : a ≡ length (n₁ ∷ []) * entry_count = omega (arith, n.count) in
        record {
          is = q ∙ ap (λ (u : List ℕ). encoding kind (part t start end) ++ u) r.is;
          names_named = (h, r.names_named);
          count = more_names (n₁ ∷ []) ns entry_count a b one r.count;
        }

    name_step : (fuel at : ℕ) (g : Result Name ℕ) → general_name t at to ≡ g → to - at ≤ suc fuel → (next_name s lists t g (λ a (u : Unit {0}). named_from fuel a)).refusal ≡ 0
        → ((at' : ℕ) → to - at' ≤ fuel → (named_from fuel at').refusal ≡ 0 → NamesPassed t at' to (generals fuel t at' to) (named_from fuel at').taken)
        → NamesPassed t at to (on_name g (λ e. []) (λ kind a b. record { kind = kind; content = part t a b } ∷ generals fuel t b to)) (next_name s lists t g (λ a (u : Unit {0}). named_from fuel a)).taken
    unfolding next_name on_name
    name_step fuel at (Ok v) e h z rec =
        let b = both_pass _ _ z in
        let here = named_at t bt at to v.kind v.start v.end e in
        let one = name_passes v.kind (part t v.start v.end) b.first in
        rw b.taken (name_more at v.kind v.start v.end (generals fuel t v.end to) _ _ here.0 here.1.0 one (rec v.end (omega (arith, here.1.1.0)) b.second))
    name_step fuel at (Err x) e h z rec =
        let n : Called (Err x) = rw e at (name_called t at to) in
        absurd (n z)

    names_pass : (fuel at : ℕ) → to - at ≤ fuel → (named_from fuel at).refusal ≡ 0 → NamesPassed t at to (generals fuel t at to) (named_from fuel at).taken
    unfolding run generals
    names_pass zero at h z = names_end at (omega arith)
    names_pass (suc fuel) at h z = by_test (ltb at to) refl z (names_pass fuel)
      where
        by_test : (b : Bool) → ltb at to ≡ b
            → (cond b (next_name s lists t (general_name t at to) (λ a (u : Unit {0}). named_from fuel a)) clean).refusal ≡ 0
            → ((at' : ℕ) → to - at' ≤ fuel → (named_from fuel at').refusal ≡ 0 → NamesPassed t at' to (generals fuel t at' to) (named_from fuel at').taken)
            → NamesPassed t at to (cond b (on_name (general_name t at to) (λ e. []) (λ kind a b. record { kind = kind; content = part t a b } ∷ generals fuel t b to)) [])
            (cond b (next_name s lists t (general_name t at to) (λ a (u : Unit {0}). named_from fuel a)) clean).taken
        by_test true e y rec = name_step fuel at (general_name t at to) refl h y rec
        by_test false e y rec = names_end at (ltb-false _ _ e)

    alternatives_pass : (from : ℕ) → (alternatives s lists t from to).refusal ≡ 0 → NamesPassed t from to (generals (to - from) t from to) (alternatives s lists t from to).taken
    unfolding alternatives walk
    alternatives_pass from z = names_pass (to - from) from (omega arith) z

  -- ---- one certificate
  record CertPassed (t : List ℕ) (taken : ℕ) : Type 0 where
    names : List General
    lists_are : ListsAre
    presents : Presents t names
    count : taken ≡ length names * entry_count

  accepted_passes : (t : List ℕ) → Bytes t → (c : Certificate) → read_certificate t true ≡ Ok c
      → (after (alternatives s lists t c.known.alternative_name.start c.known.alternative_name.end) (name s lists directory_name (part t c.subject.start c.subject.end))).refusal ≡ 0
      → CertPassed t (after (alternatives s lists t c.known.alternative_name.start c.known.alternative_name.end) (name s lists directory_name (part t c.subject.start c.subject.end))).taken
  unfolding Each
  accepted_passes t bt c e z =
      let from = c.known.alternative_name.start in
      let to = c.known.alternative_name.end in
      let subject : General = record { kind = directory_name; content = part t c.subject.start c.subject.end } in
      let b = both_pass _ _ z in
      let l = alternatives_pass t bt to from b.first in
      let n = name_passes directory_name (part t c.subject.start c.subject.end) b.second in
      let ns = generals (to - from) t from to in
      let one : (name s lists directory_name (part t c.subject.start c.subject.end)).taken ≡ length (subject ∷ []) * entry_count = omega (arith, n.count) in
      record {
        names = ns ++ (subject ∷ []);
        lists_are = n.lists_are;
        presents = record { c = c; read = e; alternative = ns; is = l.is; named = l.names_named; all = refl };
        count = b.taken ∙ more_names ns (subject ∷ []) entry_count _ _ l.count one;
      }

  certificate_passes : (t : List ℕ) → Bytes t → (certificate s lists t).refusal ≡ 0 → CertPassed t (certificate s lists t).taken
  certificate_passes t bt z = go (read_certificate t true) refl
    where
      go : (r : Reading) → read_certificate t true ≡ r → CertPassed t (certificate s lists t).taken
      go (Ok c) e =
          let q = certificate_is s lists (lent t) c e in
          rw q (accepted_passes t bt c e (ap (λ (x : Tally). x.refusal) (sym q) ∙ z))
      go (Err x) e = absurd (let q : bad_der ≡ 0 = ap (λ (y : Tally). y.refusal) (sym (certificate_unread s lists (lent t) x e)) ∙ z in omega arith)

  -- ---- several
  record BelowPassed (cs : List (List ℕ)) (taken : ℕ) : Type 0 where
    names : List General
    presented : Presented cs names
    count : taken ≡ length names * entry_count

  below_more : (c : List ℕ) (cs : List (List ℕ)) (a b : ℕ) → CertPassed c a → BelowPassed cs b → BelowPassed (c ∷ cs) (a + b)
  below_more c cs a b x y =
      record {
        names = x.names ++ y.names;
        presented = more x.presents y.presented;
        count = more_names x.names y.names entry_count a b x.count y.count;
      }

  below_passes : (cs : List (List ℕ)) → EachBytes cs → (below s lists cs).refusal ≡ 0 → BelowPassed cs (below s lists cs).taken
  unfolding below_in EachBytes Each
  below_passes [] bs z = record { names = []; presented = none; count = omega arith }
  below_passes (c ∷ cs) bs z =
      let b = both_pass _ _ z in
      rw b.taken (below_more c cs _ _ (certificate_passes c bs.0 b.first) (below_passes cs bs.1 b.second))

  head_lists : (c : List ℕ) (cs : List (List ℕ)) → EachBytes (c ∷ cs) → (below s lists (c ∷ cs)).refusal ≡ 0 → ListsAre
  unfolding below_in EachBytes
  head_lists c cs bs z = (certificate_passes c bs.0 (both_pass _ _ z).first).lists_are

-- ---- one issuer's constraints
module _ (s : List ℕ) (bytes : Bytes s) (from to : ℕ) (c : List ℕ) (cs : List (List ℕ)) (bs : EachBytes (c ∷ cs)) where
  lists_take : (lists : Subtrees) → subtrees_at s from to ≡ Ok lists → lists.excluded.end ≡ to → (below s lists (c ∷ cs)).refusal ≡ 0 → Takes (part s from to) (c ∷ cs) (below s lists (c ∷ cs)).taken
  lists_take lists e h z =
      let l = subtrees_read s bytes from to lists e in
      let a = head_lists s bytes lists c cs bs z in
      let b = below_passes s bytes lists (c ∷ cs) bs z in
      let w : lists.permitted.end ≤ to = omega (arith, l.second.later) in
      record {
        permitted = permitted s bytes lists;
        excluded = excluded s bytes lists;
        names = b.names;
        is =
            record {
              first = part s from lists.permitted.end;
              second = part s lists.permitted.end to;
              is = part_split s from lists.permitted.end to l.first.later w;
              permitted_is = (l.first.field a.permitted_is).0;
              excluded_is = rw (← h) (l.second.field a.excluded_is).0;
              named = (a.permitted_named, a.excluded_named);
            };
        presented = b.presented;
        cost = b.count;
      }

  pub constraints_take : (constraints s from to (c ∷ cs)).refusal ≡ 0 → Takes (part s from to) (c ∷ cs) (constraints s from to (c ∷ cs)).taken
  constraints_take z = go (subtrees_at s from to) refl
    where
      go : (l : Result Subtrees ℕ) → subtrees_at s from to ≡ l → Takes (part s from to) (c ∷ cs) (constraints s from to (c ∷ cs)).taken
      go (Ok lists) e =
          let q = constraints_are s from to (map lent (c ∷ cs)) lists e in
          let b = both_pass _ _ (ap (λ (x : Tally). x.refusal) (sym q) ∙ z) in
          by_end lists e q b (eqb lists.excluded.end to) refl
        where
          by_end : (lists : Subtrees) → subtrees_at s from to ≡ Ok lists → constraints s from to (c ∷ cs) ≡ after (below s lists (c ∷ cs)) (cond (eqb lists.excluded.end to) clean (tally 0 bad_der))
              → BothPass (below s lists (c ∷ cs)) (cond (eqb lists.excluded.end to) clean (tally 0 bad_der)) → (t : Bool) → eqb lists.excluded.end to ≡ t
              → Takes (part s from to) (c ∷ cs) (constraints s from to (c ∷ cs)).taken
          by_end lists e q b true h =
              let n : (constraints s from to (c ∷ cs)).taken ≡ (below s lists (c ∷ cs)).taken =
              ap (λ (x : Tally). x.taken) q ∙ b.taken ∙ rw h (omega arith) in
              rw n (lists_take lists e (eqb-true _ _ h) b.first)
          by_end lists e q b false h = absurd (let y : bad_der ≡ 0 = rw h at b.second in omega arith)
      go (Err x) e =
          let n : Listed (Err x) = rw e at (lists_listed s from to) in
          absurd (n (ap (λ (y : Tally). y.refusal) (sym (constraints_none s from to (map lent (c ∷ cs)) x e)) ∙ z))

-- ---- an issuer, the issuers, the path
own_take : (t : List ℕ) → Bytes t → (c : List ℕ) (cs : List (List ℕ)) → EachBytes (c ∷ cs) → (own t (c ∷ cs)).refusal ≡ 0 → OwnTakes t (c ∷ cs) (own t (c ∷ cs)).taken
own_take t bt c cs bs z = go (read_certificate t true) refl
  where
    go : (r : Reading) → read_certificate t true ≡ r → OwnTakes t (c ∷ cs) (own t (c ∷ cs)).taken
    go (Ok x) e =
        record {
          c = x;
          read = e;
          bound =
              λ h.
              let q = own_bound (lent t) (map lent (c ∷ cs)) x e h in
              rw q (constraints_take t bt _ _ c cs bs (ap (λ (y : Tally). y.refusal) (sym q) ∙ z));
          free = λ h. ap (λ (y : Tally). y.taken) (own_free (lent t) (map lent (c ∷ cs)) x e h);
        }
    go (Err x) e = absurd (let q : bad_der ≡ 0 = ap (λ (y : Tally). y.refusal) (sym (own_unread (lent t) (map lent (c ∷ cs)) x e)) ∙ z in omega arith)

issuers_take : (c : List ℕ) (cs : List (List ℕ)) → EachBytes (c ∷ cs) → (issuers (c ∷ cs)).refusal ≡ 0 → IssuersTake (c ∷ cs) (issuers (c ∷ cs)).taken
unfolding issuers_in EachBytes
issuers_take c [] bs z = last c
issuers_take c (d ∷ ds) bs z =
    let b = both_pass _ _ z in
    rw b.taken (also (own_take c bs.0 d ds bs.1 b.first) (issuers_take d ds bs.1 b.second))

anchor_take : (anchor : List ℕ) → Bytes anchor → (x : Bool) (c : List ℕ) (cs : List (List ℕ)) → EachBytes (c ∷ cs) → x ≡ true → (anchored anchor x (c ∷ cs)).refusal ≡ 0
    → Takes anchor (c ∷ cs) (anchored anchor x (c ∷ cs)).taken
unfolding anchored_in
anchor_take anchor ba true c cs bs h z = rw (part_whole anchor) at (constraints_take anchor ba 0 (length anchor) c cs bs z)
anchor_take anchor ba false c cs bs h z = absurd (let y : ◌≡◌ {A = ℕ} 0 1 = cc in omega arith)

anchor_none : (anchor : List ℕ) (x : Bool) (cs : List (List ℕ)) → x ≡ false → (anchored anchor x cs).taken ≡ 0
unfolding anchored_in
anchor_none anchor x cs h = rw h

-- THEOREM: what a path costs of which nothing is refused: the sum over all lists of entries, and the certificates that each is over, of names and subject times
-- entries
pub path_takes : (anchor : List ℕ) → Bytes anchor → (bound : Bool) (c : List ℕ) (cs : List (List ℕ)) → EachBytes (c ∷ cs) → named anchor bound (c ∷ cs) ≡ 0
    → PathTakes anchor bound (c ∷ cs) (cost anchor bound (c ∷ cs))
unfolding path_constraints_in
path_takes anchor ba bound c cs bs z =
    let b = both_pass (anchored anchor bound (c ∷ cs)) (issuers (c ∷ cs)) z in
    record {
      by_anchor = (anchored anchor bound (c ∷ cs)).taken;
      by_issuers = (issuers (c ∷ cs)).taken;
      anchor_bound = λ h. anchor_take anchor ba bound c cs bs h b.first;
      anchor_free = λ h. anchor_none anchor bound (c ∷ cs) h;
      issuers_take = issuers_take c cs bs b.second;
      cost = b.taken;
    }
