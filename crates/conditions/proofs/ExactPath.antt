-- EXACT, a path: the exact relation on contents is just that the code's name constraints refuse nothing. Assumes nothing.
use Prim.Native.Nat.{ℕ, zero, suc, ◌-◌, ◌≤◌}
use mathlib.Core.Path.{◌≡◌, refl, sym, ap, ◌∙◌}
use mathlib.Core.List.{List, [], ◌∷◌, ◌++◌}
use mathlib.Core.Bool.{Bool, true, false, cond}
use lib.ListN.{length}
use lib.Dec.{ltb}
use native.Mathlib.Omega.{arith}
use borrow.Author.Tests.{lt-ltb, le-ltb, ltb-false}
use Rattle.der.specs.Places.{Bytes, part}
use Rattle.der.specs.X690.{encoding}
use Rattle.der.specs.Loop.{run, walk}
use Rattle.der.proofs.Parts.{part_length}
use Rattle.names.specs.Model.{general_name}
use Rattle.names.specs.General.{General, Named, encoded, Each}
use Rattle.names.proofs.Rows.{read_name, named_at}
use Rattle.entries.specs.Kinds.{directory_name}
use Rattle.entries.specs.Tally.{Tally, tally, clean, after}
use Rattle.entries.specs.Model.{on_name}
use Rattle.entries.proofs.Refusals.{Called, name_called}
use Rattle.subtrees.specs.declared.Subtrees.{Subtrees}
use Rattle.cert.specs.declared.Certificate.{Certificate}
use Rattle.cert.specs.Model.{read_certificate}
use Rattle.cert.specs.Layout.{places}
use Rattle.cert.proofs.Sound.{sound}
use Rattle.cert.proofs.Laws.{read_inside}
use Rattle.subtrees.specs.Noted.{lent}
use Rattle.subtrees.specs.Model.{name, next_name, alternatives, certificate_as}
use Rattle.subtrees.proofs.Laws.{certificate_is}
use Rattle.constraints.specs.Cost.{EachBytes}
use Rattle.constraints.specs.Model.{below_in, below}
use Rattle.checks.specs.Conditions.{Contents}
use Rattle.checks.specs.Skeletons.{IsCertificate}
use Rattle.checks.proofs.Contents.{contents_of}
use Rattle.checks.proofs.Skeletons.{certificate_reads}
use Rattle.conditions.specs.Conditions.{content_in, Each as EachOf}
use Rattle.conditions.specs.Exactly.{subject_name, Passes}
use Rattle.conditions.proofs.Names.{known_empty}
use Rattle.subtrees.proofs.Accepted.{both_pass, part_empty, bytes_part}
use Rattle.subtrees.specs.ExactNames.{Exactly}
use Rattle.subtrees.proofs.ExactLists.{BothAt, ListsRead, permitted_in, excluded_in, name_clean, name_exact, any_directory, after_passes}
use Rattle.std.specs.Prelude.{Err, Ok, Result}
use Rattle.names.specs.declared.general.Name.{Name}

-- ---- alternative names
pub record NamesRead (permitted excluded : List General) (content : List ℕ) : Type 0 where
  pub names : List General
  pub is : content ≡ encoded names
  pub named : Each Named names
  pub conform : Each (Exactly permitted excluded) names

module _ (s : List ℕ) (lists : Subtrees) (t : List ℕ) (bt : Bytes t) (to : ℕ) where
  abbrev names_from : ℕ → ℕ → Tally
  names_from fuel at = run to (λ a (u : Unit {0}). clean) (λ a u. next_name s lists t (general_name t a to)) fuel at tt

  module _ (bytes : Bytes s) where
    names_exact : (fuel at : ℕ) → to - at ≤ fuel → (names_from fuel at).refusal ≡ 0 → NamesRead (permitted_in s bytes lists) (excluded_in s bytes lists) (part t at to)
    unfolding run encoded Each next_name on_name
    names_exact zero at h z = record { names = []; is = part_empty t at to (omega arith); named = tt; conform = tt }
    names_exact (suc fuel) at h z = by_test (λ at' h' z'. names_exact fuel at' h' z') (ltb at to) refl z
      where
        found : ((at' : ℕ) → to - at' ≤ fuel → (names_from fuel at').refusal ≡ 0 → NamesRead (permitted_in s bytes lists) (excluded_in s bytes lists) (part t at' to)) → (g : Result Name ℕ) → general_name t at to ≡ g
            → (on_name g (tally 0) (λ kind start end. after (name s lists kind (part t start end)) (names_from fuel end))).refusal ≡ 0 → NamesRead (permitted_in s bytes lists) (excluded_in s bytes lists) (part t at to)
        found rec (Ok v) e y =
            let b = both_pass (name s lists v.kind (part t v.start v.end)) (names_from fuel v.end) y in
            let n : General = record { kind = v.kind; content = part t v.start v.end } in
            let here = named_at t bt at to v.kind v.start v.end e in
            let r = rec v.end (omega (arith, here.1.1.0, h)) b.second in
            record {
              names = n ∷ r.names;
              is = here.1.0 ∙ ap (λ (u : List ℕ). encoding v.kind (part t v.start v.end) ++ u) r.is;
              named = (here.0, r.named);
              conform = ((name_exact s bytes lists n (bytes_part t v.start v.end bt) b.first).1, r.conform);
            }
        found rec (Err x) e y = let n : Called (Err x) = rw e at (name_called t at to) in absurd (n y)

        by_test : ((at' : ℕ) → to - at' ≤ fuel → (names_from fuel at').refusal ≡ 0 → NamesRead (permitted_in s bytes lists) (excluded_in s bytes lists) (part t at' to)) → (b : Bool) → ltb at to ≡ b
            → (cond b (next_name s lists t (general_name t at to) (λ a (u : Unit {0}). names_from fuel a)) clean).refusal ≡ 0 → NamesRead (permitted_in s bytes lists) (excluded_in s bytes lists) (part t at to)
        by_test rec true e y = found rec (general_name t at to) refl y
        by_test rec false e y = record { names = []; is = part_empty t at to (ltb-false _ _ e); named = tt; conform = tt }

  module _ (permitted excluded : List General) (both : BothAt s lists permitted excluded) (inside : to ≤ length t) where
    names_clean : (fuel at : ℕ) (ns : List General) → to - at ≤ fuel → at ≤ to → part t at to ≡ encoded ns → Each Named ns → Each (Exactly permitted excluded) ns → (names_from fuel at).refusal ≡ 0
    unfolding run encoded Each next_name on_name
    names_clean zero at ns h a e k x = refl
    names_clean (suc fuel) at [] h a e k x = let l : to - at ≡ 0 = sym (part_length t at to inside) ∙ ap length e in rw (le-ltb at to (omega arith))
    names_clean (suc fuel) at (n ∷ ns) h a e k x =
        let r = read_name t at to n (encoded ns) k.0 a inside e in
        let b : Bytes n.content = rw (← r.content) (bytes_part t r.start r.end bt) in
        let z : (name s lists n.kind (part t r.start r.end)).refusal ≡ 0 = rw r.content (name_clean s lists permitted excluded both n b x.0) in
        let w = names_clean fuel r.end ns (omega (arith, r.later, h)) r.inside r.after k.1 x.1 in
        rw (lt-ltb at to (omega (arith, r.later, r.inside)), r.name) (after_passes (name s lists n.kind (part t r.start r.end)) (names_from fuel r.end) z w)

-- ---- one certificate
module _ (t : List ℕ) (bt : Bytes t) (c : Certificate) (read : read_certificate t true ≡ Ok c) where
  abbrev names_of_cert : List ℕ
  names_of_cert = part t c.known.alternative_name.start c.known.alternative_name.end

  no_names : c.known.alternative_name.known ≡ false → names_of_cert ≡ []
  unfolding places
  no_names h =
      let z = sound t bt true c read in
      let e = known_empty _ z.k.extensions (sym (ap (λ (x : Certificate). x.known.alternative_name.known) z.layout) ∙ h) in
      let a : c.known.alternative_name.start ≡ 0 = ap (λ (x : Certificate). x.known.alternative_name.start) z.layout ∙ e.0 in
      let b : c.known.alternative_name.end ≡ 0 = ap (λ (x : Certificate). x.known.alternative_name.end) z.layout ∙ e.1 in
      rw (a, b) (part_empty t 0 0 (omega arith))

  pub content_is : content_in (contents_of t c).subject_alt_name ≡ names_of_cert
  unfolding content_in
  content_is = by c.known.alternative_name.known refl
    where
      by : (x : Bool) → c.known.alternative_name.known ≡ x → content_in (contents_of t c).subject_alt_name ≡ names_of_cert
      by true e = rw e
      by false e = rw e (sym (no_names e))

  abbrev subject_here : General
  subject_here = record { kind = directory_name; content = part t c.subject.start c.subject.end }

  module _ (s : List ℕ) (bytes : Bytes s) (lists : Subtrees) where
    certificate_exact : (certificate_as s lists (lent t)).refusal ≡ 0 → ListsRead s bytes lists × Passes (permitted_in s bytes lists) (excluded_in s bytes lists) (contents_of t c)
    unfolding alternatives walk
    certificate_exact z =
        let q = certificate_is s lists (lent t) c read in
        let b = both_pass _ _ (ap (λ (x : Tally). x.refusal) (sym q) ∙ z) in
        let from = c.known.alternative_name.start in
        let to = c.known.alternative_name.end in
        let r = names_exact s lists t bt to bytes (to - from) from (omega arith) b.first in
        let n = name_exact s bytes lists subject_here (bytes_part t _ _ bt) b.second in (
          n.0,
          record {
            alternative = r.names;
            is = content_is ∙ r.is;
            named = r.named;
            conform = r.conform;
            subject = any_directory _ _ subject_here (subject_name (contents_of t c)) refl refl n.1;
          },
        )

    certificate_clean : (permitted excluded : List General) → BothAt s lists permitted excluded → Passes permitted excluded (contents_of t c) → (certificate_as s lists (lent t)).refusal ≡ 0
    unfolding alternatives walk
    certificate_clean permitted excluded both x =
        let q = certificate_is s lists (lent t) c read in
        let from = c.known.alternative_name.start in
        let to = c.known.alternative_name.end in
        let i = (read_inside t bt true c read).known.alternative_name in
        let a = names_clean s lists t bt to permitted excluded both i.inside (to - from) from x.alternative (omega arith) i.ordered (sym content_is ∙ x.is) x.named x.conform in
        let n = name_clean s lists permitted excluded both subject_here (bytes_part t _ _ bt) (any_directory permitted excluded (subject_name (contents_of t c)) subject_here refl refl x.subject) in
        ap (λ (y : Tally). y.refusal) q ∙ after_passes _ _ a n

-- ---- several
unfoldable pub Are' : List (List ℕ) → List Contents → Type 0
Are' [] [] = Unit {0}
Are' [] (o ∷ os) = ⊥
Are' (t ∷ ts) [] = ⊥
Are' (t ∷ ts) (o ∷ os) = IsCertificate t o × Are' ts os

module _ (s : List ℕ) (bytes : Bytes s) (lists : Subtrees) where
  pub below_exact : (ts : List (List ℕ)) (os : List Contents) → EachBytes ts → Are' ts os → (below s lists ts).refusal ≡ 0 → EachOf (Passes (permitted_in s bytes lists) (excluded_in s bytes lists)) os
  unfolding below_in EachBytes Are' EachOf
  below_exact [] [] b a z = tt
  below_exact [] (o ∷ os) b a z = absurd a
  below_exact (t ∷ ts) [] b a z = absurd a
  below_exact (t ∷ ts) (o ∷ os) b a z =
      let p = both_pass _ _ z in
      let r = certificate_reads t o a.0 in
      (rw (← r.2) (certificate_exact t b.0 r.0 r.1 s bytes lists p.first).1, below_exact ts os b.1 a.1 p.second)

  pub below_read : (t : List ℕ) (ts : List (List ℕ)) (o : Contents) → Bytes t → IsCertificate t o → (below s lists (t ∷ ts)).refusal ≡ 0 → ListsRead s bytes lists
  unfolding below_in
  below_read t ts o b a z = let r = certificate_reads t o a in (certificate_exact t b r.0 r.1 s bytes lists (both_pass _ _ z).first).0

  pub below_clean : (permitted excluded : List General) → BothAt s lists permitted excluded → (ts : List (List ℕ)) (os : List Contents) → EachBytes ts → Are' ts os → EachOf (Passes permitted excluded) os → (below s lists ts).refusal ≡ 0
  unfolding below_in EachBytes Are' EachOf
  below_clean permitted excluded both [] [] b a x = refl
  below_clean permitted excluded both [] (o ∷ os) b a x = absurd a
  below_clean permitted excluded both (t ∷ ts) [] b a x = absurd a
  below_clean permitted excluded both (t ∷ ts) (o ∷ os) b a x =
      let r = certificate_reads t o a.0 in
      let y : Passes permitted excluded (contents_of t r.0) = rw r.2 x.0 in
      after_passes _ _ (certificate_clean t b.0 r.0 r.1 s bytes lists permitted excluded both y) (below_clean permitted excluded both ts os b.1 a.1 x.1)
