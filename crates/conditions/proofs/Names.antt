-- The wanted name: nothing is said against it exactly if the end entity is good for it, and what is said never ends a search. Assumes that what is
-- lent are bytes.
use Prim.Native.Nat.{ℕ, ◌+◌, ◌≤◌}
use mathlib.Core.Path.{◌≡◌, refl, sym, ◌∙◌, ap, subst}
use mathlib.Core.Bool.{Bool, true, false, cond}
use mathlib.Core.Logic.{⊎_elim}
use mathlib.Core.List.{List, [], ◌∷◌}
use native.Mathlib.Omega.{arith}
use lib.Dec.{eqb}
use lib.ListN.{length}
use borrow.Author.Tests.{eqb-true}
use Rattle.refusal.specs.Refusals.{cert_not_valid_for_name, malformed_dns_identifier}
use Rattle.refusal.proofs.Laws.{Mild}
use Rattle.der.specs.Places.{part}
use Rattle.der.proofs.Parts.{part_none}
use Rattle.cert.specs.declared.Certificate.{Certificate}
use Rattle.cert.specs.Model.{read_certificate, Reading}
use Rattle.extensions.specs.Rfc5280.{Extension, Extensions, missing, present as given, extension, is_number}
use Rattle.extensions.specs.Layout.{kept_of, slot_for, slots, known_at}
use Rattle.cert.specs.Layout.{places}
use Rattle.cert.proofs.Sound.{sound}
use Rattle.cert.proofs.Laws.{read_inside}
use Rattle.cert.proofs.Refusals.{ReadingFair, reading_not, read_fair}
use Rattle.labels.specs.Names.{wanted_name}
use Rattle.names.specs.General.{ForDns, ForIp, Reached}
use Rattle.names.specs.Model.{good_for_dns, good_for_ip}
use Rattle.names.proofs.Wanted.{dns_good, dns_refused, dns_malformed, ip_good, ip_refused}
use Rattle.checks.specs.Conditions.{Contents}
use Rattle.path.specs.Model.{on_reading}
use Rattle.checks.proofs.Contents.{contents_of}
use Rattle.checks.proofs.Skeletons.{reads_certificate, certificate_reads}
use Rattle.conditions.specs.Request.{Request}
use Rattle.conditions.specs.Model.{refusal_in, name_in, name_of}
use Rattle.conditions.specs.Conditions.{Lends, content_in, Names, unwanted, dns, ip, Named}
use Rattle.std.specs.Prelude.{Ok, Err, Result, ⊤}

true_false : {P : Type 0} → true ≡ false → P
true_false e = let z : ◌≡◌ {A = ℕ} 0 1 = cc in absurd (omega arith)

-- ---- an extension that is not there has no bytes
slot_empty : (n at : ℕ) (xs : List Extension) → (slot_for n at xs).known ≡ false → ((slot_for n at xs).start ≡ 0) × ((slot_for n at xs).end ≡ 0)
unfolding slot_for kept_of
slot_empty n at [] h = (refl, refl)
slot_empty n at (x ∷ xs) h = by (is_number n x) h (slot_empty n (at + length (extension x)) xs)
  where
    by : (t : Bool) → (cond t (kept_of n at x) (slot_for n (at + length (extension x)) xs)).known ≡ false
        → ((slot_for n (at + length (extension x)) xs).known ≡ false → ((slot_for n (at + length (extension x)) xs).start ≡ 0) × ((slot_for n (at + length (extension x)) xs).end ≡ 0))
        → ((cond t (kept_of n at x) (slot_for n (at + length (extension x)) xs)).start ≡ 0) × ((cond t (kept_of n at x) (slot_for n (at + length (extension x)) xs)).end ≡ 0)
    by true h rest = true_false h
    by false h rest = rest h

pub known_empty : (at : ℕ) (es : Extensions) → (known_at at es).alternative_name.known ≡ false → ((known_at at es).alternative_name.start ≡ 0) × ((known_at at es).alternative_name.end ≡ 0)
unfolding known_at slots
known_empty at missing h = slot_empty 17 0 [] h
known_empty at (given xs) h = slot_empty 17 _ xs h

module _ (R : Request) (lent : Lends R) where
  abbrev names : Certificate → List ℕ
  names c = part R.end c.known.alternative_name.start c.known.alternative_name.end

  module _ (c : Certificate) (read : read_certificate R.end true ≡ Ok c) where
    no_names : c.known.alternative_name.known ≡ false → names c ≡ []
    unfolding places
    no_names h =
        let z = sound R.end lent.end true c read in
        let e = known_empty _ z.k.extensions (sym (ap (λ (x : Certificate). x.known.alternative_name.known) z.layout) ∙ h) in
        let a : c.known.alternative_name.start ≡ 0 = ap (λ (x : Certificate). x.known.alternative_name.start) z.layout ∙ e.0 in
        let b : c.known.alternative_name.end ≡ 0 = ap (λ (x : Certificate). x.known.alternative_name.end) z.layout ∙ e.1 in
        rw (a, b) (part_none R.end 0)

    content_is : content_in (contents_of R.end c).subject_alt_name ≡ names c
    unfolding content_in
    content_is = by c.known.alternative_name.known refl
      where
        by : (t : Bool) → c.known.alternative_name.known ≡ t → content_in (contents_of R.end c).subject_alt_name ≡ names c
        by true e = rw e
        by false e = rw e (sym (no_names e))

    -- ---- each kind of name
    module _ (from to : ℕ) (ordered : from ≤ to) (inside : to ≤ length R.end) where
      dns_names : (v : Result ⊤ ℕ) → good_for_dns R.end from to R.name ≡ v → refusal_in v ≡ 0 → (wanted_name R.name ≡ true) × Reached (ForDns R.name) (part R.end from to)
      unfolding refusal_in
      dns_names v e h = by (wanted_name R.name) refl v e h
        where
          by : (t : Bool) → wanted_name R.name ≡ t → (v : Result ⊤ ℕ) → good_for_dns R.end from to R.name ≡ v → refusal_in v ≡ 0 → (wanted_name R.name ≡ true) × Reached (ForDns R.name) (part R.end from to)
          by true w (Ok tt) e h = (w, (dns_good R.name w R.end lent.end from to ordered inside).0 e)
          by true w (Err x) e h =
              absurd (⊎_elim (λ p. omega (arith, p.0)) (λ p. omega (arith, p.0)) (dns_refused R.name w R.end lent.end from to ordered inside x e))
          by false w (Ok tt) e h = absurd (let q = sym e ∙ dns_malformed R.end from to R.name w in let z : ◌≡◌ {A = ℕ} 0 1 = cc in omega arith)
          by false w (Err x) e h = absurd (let q = sym e ∙ dns_malformed R.end from to R.name w in let z : x ≡ malformed_dns_identifier = cc in omega arith)

      ip_names : (v : Result ⊤ ℕ) → good_for_ip R.end from to R.name ≡ v → refusal_in v ≡ 0 → Reached (ForIp R.name) (part R.end from to)
      unfolding refusal_in
      ip_names (Ok tt) e h = (ip_good R.name R.end lent.end from to ordered inside).0 e
      ip_names (Err x) e h = absurd (⊎_elim (λ p. omega (arith, p.0)) (λ p. omega (arith, p.0)) (ip_refused R.name R.end lent.end from to ordered inside x e))

      dns_mild : (v : Result ⊤ ℕ) → good_for_dns R.end from to R.name ≡ v → Mild (refusal_in v)
      unfolding refusal_in
      dns_mild (Ok tt) e = omega arith
      dns_mild (Err x) e = by (wanted_name R.name) refl
        where
          by : (t : Bool) → wanted_name R.name ≡ t → Mild x
          by true w = ⊎_elim (λ p. omega (arith, p.0)) (λ p. omega (arith, p.0)) (dns_refused R.name w R.end lent.end from to ordered inside x e)
          by false w = let q = sym e ∙ dns_malformed R.end from to R.name w in let z : x ≡ malformed_dns_identifier = cc in omega arith

      ip_mild : (v : Result ⊤ ℕ) → good_for_ip R.end from to R.name ≡ v → Mild (refusal_in v)
      unfolding refusal_in
      ip_mild (Ok tt) e = omega arith
      ip_mild (Err x) e = ⊎_elim (λ p. omega (arith, p.0)) (λ p. omega (arith, p.0)) (ip_refused R.name R.end lent.end from to ordered inside x e)

    abbrev from : ℕ
    from = c.known.alternative_name.start

    abbrev to : ℕ
    to = c.known.alternative_name.end

    in_order : from ≤ to
    in_order = (read_inside R.end lent.end true c read).known.alternative_name.ordered

    within : to ≤ length R.end
    within = (read_inside R.end lent.end true c read).known.alternative_name.inside

    good_names : name_in R.end R.kind R.name c ≡ 0 → Names R (names c)
    unfolding name_in
    good_names h = by (eqb R.kind 0) refl (eqb R.kind 1) refl (eqb R.kind 2) refl h
      where
        by : (a : Bool) → eqb R.kind 0 ≡ a → (b : Bool) → eqb R.kind 1 ≡ b → (d : Bool) → eqb R.kind 2 ≡ d
            → cond a 0 (cond b (refusal_in (good_for_dns R.end from to R.name)) (cond d (refusal_in (good_for_ip R.end from to R.name)) cert_not_valid_for_name)) ≡ 0 → Names R (names c)
        by true p b q d r z = unwanted (eqb-true R.kind 0 p)
        by false p true q d r z = let g = dns_names from to in_order within (good_for_dns R.end from to R.name) refl z in dns (eqb-true R.kind 1 q) g.0 g.1
        by false p false q true r z = ip (eqb-true R.kind 2 r) (ip_names from to in_order within (good_for_ip R.end from to R.name) refl z)
        by false p false q false r z = absurd (omega arith)

    names_good : Names R (names c) → name_in R.end R.kind R.name c ≡ 0
    unfolding name_in refusal_in
    names_good (unwanted k) = rw k
    names_good (dns k w g) = rw (k, (dns_good R.name w R.end lent.end from to in_order within).1 g)
    names_good (ip k g) = rw (k, (ip_good R.name R.end lent.end from to in_order within).1 g)

    name_in_mild : Mild (name_in R.end R.kind R.name c)
    unfolding name_in
    name_in_mild = by (eqb R.kind 0) (eqb R.kind 1) (eqb R.kind 2)
      where
        by : (a b d : Bool) → Mild (cond a 0 (cond b (refusal_in (good_for_dns R.end from to R.name)) (cond d (refusal_in (good_for_ip R.end from to R.name)) cert_not_valid_for_name)))
        by true b d = omega arith
        by false true d = dns_mild from to in_order within (good_for_dns R.end from to R.name) refl
        by false false true = ip_mild from to in_order within (good_for_ip R.end from to R.name) refl
        by false false false = omega arith

  -- ---- the end entity
  pub good_named : name_of R.end R.kind R.name ≡ 0 → Named R
  unfolding name_of on_reading
  good_named h = by (read_certificate R.end true) refl (read_fair R.end true) h
    where
      by : (r : Reading) → read_certificate R.end true ≡ r → ReadingFair r → on_reading r (λ e. e) (name_in R.end R.kind R.name) ≡ 0 → Named R
      by (Ok c) e f h = record {
        contents = contents_of R.end c;
        readable = reads_certificate R.end lent.end (contents_of R.end c) (c, e, refl);
        names = subst (λ (l : List ℕ). Names R l) (sym (content_is c e)) (good_names c e h);
      }
      by (Err x) e (reading_not f) h = absurd (omega (arith, f.0))

  pub named_good : Named R → name_of R.end R.kind R.name ≡ 0
  unfolding name_of on_reading
  named_good n =
      let r = certificate_reads R.end n.contents n.readable in
      let c = r.0 in
      let e : content_in n.contents.subject_alt_name ≡ names c = sym (ap (λ (o : Contents). content_in o.subject_alt_name) r.2) ∙ content_is c r.1 in
      rw r.1 (names_good c r.1 (subst (λ (l : List ℕ). Names R l) e n.names))

  pub name_mild : Mild (name_of R.end R.kind R.name)
  unfolding name_of on_reading
  name_mild = by (read_certificate R.end true) refl (read_fair R.end true)
    where
      by : (r : Reading) → read_certificate R.end true ≡ r → ReadingFair r → Mild (on_reading r (λ e. e) (name_in R.end R.kind R.name))
      by (Ok c) e f = name_in_mild c e
      by (Err x) e (reading_not f) = f.1
