-- ROOM: a budget of a request that is used up is smaller than what a search can need. Assumes that what is lent are bytes.
use Prim.Native.Nat.{ℕ, suc, ◌+◌, ◌-◌, ◌*◌, ◌/◌, ◌≤◌}
use mathlib.Core.Path.{◌≡◌, refl, sym, ap}
use mathlib.Core.Bool.{Bool, true, false, cond}
use mathlib.Core.List.{List, [], ◌∷◌, Memᴰ}
use native.Mathlib.Omega.{arith}
use lib.Dec.{eqb}
use lib.ListN.{length, get_or}
use borrow.Author.Tests.{eqb-true}
use Rattle.der.specs.Places.{part}
use Rattle.der.proofs.Parts.{part_length}
use Rattle.cert.specs.declared.Certificate.{Certificate}
use Rattle.cert.specs.Model.{read_certificate}
use Rattle.cert.proofs.Laws.{read_inside}
use Rattle.checks.specs.Skeletons.{IsCertificate}
use Rattle.checks.proofs.Contents.{contents_of}
use Rattle.checks.proofs.Skeletons.{reads_certificate}
use Rattle.lent.specs.Lent.{some_of}
use Rattle.candidate.specs.declared.Verdict.TheVariants.{Extend}
use Rattle.candidate.proofs.Verdicts.{extend_sound}
use Rattle.dialogue.specs.Model.{staged, Path}
use Rattle.dialogue.specs.Log.{Turn, asked}
use Rattle.dialogue.specs.Account.{UsedUp, signatures as no_signatures, extensions as no_extensions, comparisons as no_comparisons}
use Rattle.dialogue.proofs.Room.{inquiries, extensions_wanted, comparisons_wanted, questions_wanted}
use Rattle.machine.specs.World.{is_bound, names_of, world_of}
use Rattle.conditions.specs.Request.{Request, Budgets, end_of}
use Rattle.conditions.specs.Model.{world_for}
use Rattle.conditions.specs.Conditions.{Lends, content_in, bytes_of}
use Rattle.conditions.specs.Room.{Sizes, most_paths, most_questions, most_comparisons, TooSmall, signatures, extensions, comparisons}
use Rattle.conditions.proofs.Lent.{bytes}
use Rattle.conditions.proofs.ExactPath.{content_is}
use Rattle.conditions.proofs.Costs.{path_few}
use Rattle.conditions.proofs.Decided.{sorted}
use Rattle.std.specs.Prelude.{Ok}

is_on_path : (i : ℕ) (path : Path) → some_of (λ n. eqb n i) path ≡ true → Memᴰ i path
unfolding some_of
is_on_path i [] h = let z : ◌≡◌ {A = ℕ} 0 1 = cc in absurd (omega arith)
is_on_path i (n ∷ path) h = by (eqb n i) refl h (is_on_path i path)
  where
    by : (t : Bool) → eqb n i ≡ t → cond t true (some_of (λ n. eqb n i) path) ≡ true → (some_of (λ n. eqb n i) path ≡ true → Memᴰ i path) → Memᴰ i (n ∷ path)
    by true e h rec = Memᴰ.head (sym (eqb-true n i e))
    by false e h rec = Memᴰ.tail (rec h)

module _ (R : Request) (lent : Lends R) where
  module _ (names lists : ℕ) (sizes : Sizes R names lists) where
    contents : (n : ℕ) (c : Certificate) → read_certificate (bytes_of R n) true ≡ Ok c → IsCertificate (bytes_of R n) (contents_of (bytes_of R n) c)
    contents n c e = reads_certificate (bytes_of R n) (bytes R lent n) (contents_of (bytes_of R n) c) (c, e, refl)

    names_short : (n : ℕ) (c : Certificate) → read_certificate (bytes_of R n) true ≡ Ok c → c.known.alternative_name.end - c.known.alternative_name.start ≤ names
    names_short n c e =
        let t = bytes_of R n in
        let i = (read_inside t (bytes R lent n) true c e).known.alternative_name.inside in
        omega (
          arith,
          sizes.presented n _ (contents n c e),
          ap length (content_is t (bytes R lent n) c e),
          part_length t c.known.alternative_name.start c.known.alternative_name.end i,
        )

    own_short : (n : ℕ) (c : Certificate) → read_certificate (bytes_of R n) true ≡ Ok c → c.known.name_constraints.known ≡ true
        → c.known.name_constraints.end - c.known.name_constraints.start ≤ lists
    unfolding content_in
    own_short n c e h =
        let t = bytes_of R n in
        let i = (read_inside t (bytes R lent n) true c e).known.name_constraints.inside in
        let q : content_in (contents_of t c).name_constraints ≡ part t c.known.name_constraints.start c.known.name_constraints.end = rw h in
        omega (arith, sizes.own n _ (contents n c e), ap length q, part_length t c.known.name_constraints.start c.known.name_constraints.end i)

    costs : (k : ℕ) (p : Path) → (world_for R).cost k p ≤ length p * suc (length p) / 2 * (suc (names / 2) * ((lists + 2) / 4))
    unfolding world_of names_of
    costs k p = path_few (bytes_of R) names lists names_short own_short (get_or R.constraints k []) (sizes.anchors k) (is_bound R.constraints R.bound k) p

  asks : (k : ℕ) (p : Path) → inquiries (staged (world_for R) k p) ≡ length p
  unfolding world_of staged inquiries
  asks k [] = refl
  asks k (n ∷ p) = ap suc (asks n p)

  -- none is on a path twice
  fresh : (path : Path) (i : ℕ) → (world_for R).verdict path i ≡ Extend → some_of (λ n. eqb n i) path ≡ false
  unfolding world_of
  fresh path i e = by (some_of (λ n. eqb n i) path) refl
    where
      by : (t : Bool) → some_of (λ n. eqb n i) path ≡ t → t ≡ false
      by true h =
          let x = extend_sound R.issuers R.end R.subjects R.keys R.constraints R.bound R.distrusted path i (bytes R lent) e in
          absurd (x.once i (is_on_path i path h) x.next x.next_is (refl, refl))
      by false h = refl

  pub too_small : (B : Budgets) (turns : List Turn) (x : ℕ) → UsedUp (world_for R) (end_of R) B.signatures B.extensions B.comparisons turns x → TooSmall R B turns x
  too_small B turns x (no_signatures first last d m anchor path key what rest e r t c a) =
      signatures e a
      (omega (
        arith,
        a,
        ap asked t,
        questions_wanted (world_for R) (length R.subjects) (length R.issuers) (sorted R lent) fresh (end_of R) (λ d. d) first d m anchor path r
            (λ k p l. omega (arith, asks k p)) last key what rest c,
      ))
  too_small B turns x (no_extensions m e r) = extensions e (extensions_wanted (world_for R) (length R.subjects) (length R.issuers) (sorted R lent) fresh (end_of R) turns B.extensions m r)
  too_small B turns x (no_comparisons first last d m anchor path e r t c l f) =
      comparisons e (λ names lists sizes.
      omega (
        arith,
        f,
        comparisons_wanted (world_for R) (length R.subjects) (length R.issuers) (sorted R lent) fresh (end_of R)
            (λ d. d * suc d / 2 * (suc (names / 2) * ((lists + 2) / 4))) first d m anchor path r (λ k p l. costs names lists sizes k p),
      ))

-- so none is where there is room for all
pub ample : (R : Request) (B : Budgets) (names lists : ℕ) → Sizes R names lists → most_questions R ≤ B.signatures → most_paths R ≤ suc B.extensions → most_comparisons R names lists ≤ B.comparisons
    → (log : List Turn) (x : ℕ) → TooSmall R B log x → ⊥
ample R B names lists sizes s c n log x (signatures e a h) = omega (arith, s, h)
ample R B names lists sizes s c n log x (extensions e h) = omega (arith, c, h)
ample R B names lists sizes s c n log x (comparisons e h) = omega (arith, n, h names lists sizes)
