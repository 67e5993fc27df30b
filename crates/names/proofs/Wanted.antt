-- WANTED NAME: the alternative names are good for a name if and only if a row of well-formed names at their start ends with one that is. Assumes nothing.
use Prim.Native.Nat.{ℕ, zero, suc, ◌-◌, ◌≤◌, ◌<◌}
use mathlib.Core.Path.{◌≡◌, refl, sym, ap, ◌∙◌}
use mathlib.Core.List.{List, [], ◌∷◌, ◌++◌, append_assoc}
use mathlib.Core.Bool.{Bool, true, false, cond}
use mathlib.Core.Logic.{◌⊎◌, inl, inr, ⊎_elim, ◌↔◌}
use lib.ListN.{length}
use lib.Dec.{ltb, eqb}
use native.Mathlib.Omega.{arith}
use borrow.Author.Tests.{eqb-true, ltb-true, ltb-false, lt-ltb}
use Rattle.refusal.specs.Refusals.{bad_der, cert_not_valid_for_name, malformed_dns_identifier}
use Rattle.der.specs.Model.{read_value}
use Rattle.der.specs.Places.{part, Bytes}
use Rattle.der.specs.X690.{encoding}
use Rattle.der.specs.Loop.{run, walk}
use Rattle.der.proofs.Invert.{peel, either}
use Rattle.parts.proofs.Equal.{same_yes, same_equal}
use Rattle.der.proofs.Parts.{part_length, part_none, part_whole}
use Rattle.labels.specs.Names.{labels, relative, wanted_name, presented_name}
use Rattle.dns.specs.Names.{StandsFor}
use Rattle.names.specs.General.{General, Named, encoded, Each, Broken, ForDns, ForIp, Reached, Passed, BrokenOff}
use Rattle.dns.specs.Model.{match_wanted}
use Rattle.names.specs.Model.{is_kind, of_kind, general_name, is_yes, fits, is_wanted, on_found, try_name, on_tried, good_for, good_for_dns, good_for_ip, name_is}
use Rattle.ip.specs.Model.{neither, same_address}
use Rattle.labels.proofs.Labels.{true_false}
use Rattle.names.proofs.Rows.{ReadAt, read_name, named_at}
use Rattle.labels.proofs.Valid.{wanted_valid}
use Rattle.dns.proofs.Match.{wanted_decides, wanted_refused}
use Rattle.dns.proofs.Laws.{yes_no, yes_refused}
use Rattle.ip.proofs.Laws.{neither_false, either_size}
use Rattle.std.specs.Prelude.{None, Ok, Err, Some, Option, Result, ⊤}
use Rattle.names.specs.declared.general.Tried.TheVariants.{Good, Next}
use Rattle.der.specs.declared.Value.{Value}
use Rattle.names.specs.declared.general.Name.{Name}

-- what the rest of the names comes to: one that fits, none to the end, or one that cannot be read
data Walked (fit : General → Bool) (bytes : List ℕ) (r : Result ⊤ ℕ) : Type 0 where
  hits : (ns : List General) (n : General) (rest : List ℕ) → bytes ≡ encoded ns ++ (encoding n.kind n.content ++ rest) → Each Named ns → Named n
      → Each (λ m. fit m ≡ false) ns → fit n ≡ true → r ≡ Ok tt → Walked fit bytes r
  ends : (ns : List General) → bytes ≡ encoded ns → Each Named ns → Each (λ m. fit m ≡ false) ns → r ≡ Err cert_not_valid_for_name → Walked fit bytes r
  breaks : (ns : List General) (rest : List ℕ) → bytes ≡ encoded ns ++ rest → Each Named ns → Each (λ m. fit m ≡ false) ns → (rest ≡ [] → ⊥) → Broken rest
      → r ≡ Err bad_der → Walked fit bytes r

-- one name before them
more : (fit : General → Bool) (n : General) (bytes : List ℕ) (r : Result ⊤ ℕ) → Named n → fit n ≡ false → Walked fit bytes r → Walked fit (encoding n.kind n.content ++ bytes) r
unfolding encoded Each
more fit n bytes r k f (hits ns m rest e a b c d g) = hits (n ∷ ns) m rest (rw e (sym (append_assoc (encoding n.kind n.content) (encoded ns) _))) (k, a) b (f, c) d g
more fit n bytes r k f (ends ns e a c g) = ends (n ∷ ns) (rw e) (k, a) (f, c) g
more fit n bytes r k f (breaks ns rest e a c o x g) =
    breaks (n ∷ ns) rest (rw e (sym (append_assoc (encoding n.kind n.content) (encoded ns) rest))) (k, a) (f, c) o x g

not_good : {e : ℕ} → ◌≡◌ {A = Result ⊤ ℕ} (Err e) (Ok tt) → ⊥
not_good h = let z : ◌≡◌ {A = ℕ} 0 1 = cc in omega arith

either_way : (x : Bool) (k : ℕ → Unit {0} → Result ⊤ ℕ) (end : ℕ) → k end tt ≡ Ok tt → on_tried (cond x (Ok Good) (Ok (Next end))) k ≡ Ok tt
unfolding on_tried
either_way true k end e = refl
either_way false k end e = e

-- ---- the walk
module _ (s : List ℕ) (b : Bytes s) (to : ℕ) (within : to ≤ length s) (sought : ℕ) (wanted : List ℕ) where
  abbrev fit : General → Bool
  fit n = fits n.kind n.content sought wanted

  abbrev from : ℕ → ℕ → Unit {0} → Result ⊤ ℕ
  from = run to (λ at u. Err cert_not_valid_for_name) (λ at u. on_tried (try_name s at to sought wanted))

  refusal_is : (r : Option Value) (e : ℕ) → of_kind r ≡ Err e → e ≡ bad_der
  unfolding of_kind
  refusal_is (Some v) e h = go (is_kind v.tag) h
    where
      go : (x : Bool) → cond x (name_is v.tag v.start v.end) (Err bad_der) ≡ Err e → e ≡ bad_der
      go true q = absurd (let z : ◌≡◌ {A = ℕ} 0 1 = cc in omega arith)
      go false q = cc
  refusal_is None e h = cc

  unread : (at r : ℕ) → general_name s at to ≡ Err r → r ≡ bad_der
  unfolding general_name
  unread at r h = refusal_is (read_value s at to) r h

  no_part : (at : ℕ) → at < to → part s at to ≡ [] → ⊥
  no_part at l e = let n : to - at ≡ 0 = sym (part_length s at to within) ∙ ap length e in omega arith

  end_walked : (at : ℕ) → at ≤ to → to ≤ at → Walked fit (part s at to) (Err cert_not_valid_for_name)
  unfolding encoded Each
  end_walked at a h = let q : at ≡ to = omega arith in ends [] (rw (q, part_none)) tt tt refl

  -- one name, and what is after it
  one_walked : (at : ℕ) (k : ℕ → Unit {0} → Result ⊤ ℕ) (n : Result Name ℕ) → general_name s at to ≡ n → at ≤ to → at < to
      → ((end : ℕ) → at < end → end ≤ to → Walked fit (part s end to) (k end tt))
      → Walked fit (part s at to) (on_tried (on_found s sought wanted n) k)
  unfolding on_found on_tried is_wanted encoded Each
  one_walked at k (Ok g) e a l rest =
      let v = named_at s b at to g.kind g.start g.end e in
      let n : General = record { kind = g.kind; content = part s g.start g.end } in
      go n v.0 v.1.0 (rest g.end v.1.1.0 v.1.1.1) (fits g.kind (part s g.start g.end) sought wanted) refl
    where
      go : (n : General) → Named n → part s at to ≡ encoding n.kind n.content ++ part s g.end to → Walked fit (part s g.end to) (k g.end tt) → (x : Bool) → fit n ≡ x
          → Walked fit (part s at to) (on_tried (cond x (Ok Good) (Ok (Next g.end))) k)
      go n m q w true f = hits [] n (part s g.end to) q tt m tt f refl
      go n m q w false f = rw q (more fit n (part s g.end to) (k g.end tt) m f w)
  one_walked at k (Err r) e a l rest =
      breaks [] (part s at to) refl tt tt (no_part at l)
      (λ n m t q. let d = read_name s at to n t m a within q in let z : ◌≡◌ {A = ℕ} 0 1 = cc (e, d.name) in omega arith)
      (ap Err (unread at r e))

  walked : (fuel at : ℕ) → at ≤ to → to - at ≤ fuel → Walked fit (part s at to) (from fuel at tt)
  unfolding run try_name
  walked zero at a h = end_walked at a (omega arith)
  walked (suc fuel) at a h = go (ltb at to) refl (λ end l m. walked fuel end m (omega arith))
    where
      go : (x : Bool) → ltb at to ≡ x → ((end : ℕ) → at < end → end ≤ to → Walked fit (part s end to) (from fuel end tt))
          → Walked fit (part s at to) (cond x (on_tried (on_found s sought wanted (general_name s at to)) (from fuel)) (Err cert_not_valid_for_name))
      go true e rest = one_walked at (from fuel) (general_name s at to) refl a (ltb-true at to e) rest
      go false e rest = end_walked at a (ltb-false at to e)

  -- a row that ends with a name that fits is walked to it
  step_on : (fuel at : ℕ) (n : General) (rest : List ℕ) (d : ReadAt s at to n rest)
      → from (suc fuel) at tt ≡ on_tried (cond (fit n) (Ok Good) (Ok (Next d.end))) (from fuel)
  unfolding run try_name on_found is_wanted
  step_on fuel at n rest d = rw (lt-ltb at to (omega (arith, d.later, d.inside)), d.name, d.content)

  reach : (ns : List General) (n : General) (rest : List ℕ) (fuel at : ℕ) → at ≤ to → to - at ≤ fuel → part s at to ≡ encoded ns ++ (encoding n.kind n.content ++ rest)
      → Each Named ns → Named n → fit n ≡ true → from fuel at tt ≡ Ok tt
  unfolding encoded Each on_tried
  reach [] n rest zero at a h e ks k f = let d = read_name s at to n rest k a within e in absurd (omega (arith, d.later, d.inside))
  reach [] n rest (suc fuel) at a h e ks k f = let d = read_name s at to n rest k a within e in step_on fuel at n rest d ∙ rw f
  reach (m ∷ ms) n rest zero at a h e ks k f =
      let d = read_name s at to m (encoded ms ++ (encoding n.kind n.content ++ rest)) ks.0 a within (e ∙ append_assoc (encoding m.kind m.content) (encoded ms) (encoding n.kind n.content ++ rest)) in
      absurd (omega (arith, d.later, d.inside))
  reach (m ∷ ms) n rest (suc fuel) at a h e ks k f =
      let d = read_name s at to m (encoded ms ++ (encoding n.kind n.content ++ rest)) ks.0 a within (e ∙ append_assoc (encoding m.kind m.content) (encoded ms) (encoding n.kind n.content ++ rest)) in
      step_on fuel at m (encoded ms ++ (encoding n.kind n.content ++ rest)) d ∙ either_way (fit m) (from fuel) d.end (reach ms n rest fuel d.end d.inside (omega (arith, d.later, d.inside)) d.after ks.1 k f)

-- ---- the answer, for any P that the test decides
each : (P Q : General → Type 0) → ((n : General) → P n → Q n) → (ns : List General) → Each P ns → Each Q ns
unfolding Each
each P Q f [] h = tt
each P Q f (n ∷ ns) h = (f n h.0, each P Q f ns h.1)

-- what the answer says of the bytes
data Says (P : General → Type 0) (bytes : List ℕ) (r : Result ⊤ ℕ) : Type 0 where
  reached : r ≡ Ok tt → Reached P bytes → Says P bytes r
  passed : r ≡ Err cert_not_valid_for_name → Passed P bytes → Says P bytes r
  broken : r ≡ Err bad_der → BrokenOff P bytes → Says P bytes r

module _ (s : List ℕ) (b : Bytes s) (from to : ℕ) (ordered : from ≤ to) (within : to ≤ length s) (sought : ℕ) (wanted : List ℕ) (P : General → Type 0)
    (sound : (n : General) → fits n.kind n.content sought wanted ≡ true → P n) (complete : (n : General) → P n → fits n.kind n.content sought wanted ≡ true) where
  miss : (n : General) → fits n.kind n.content sought wanted ≡ false → P n → ⊥
  miss n f p = true_false (complete n p) f

  says : Says P (part s from to) (good_for s from to sought wanted)
  unfolding good_for walk
  says = go (walked s b to within sought wanted (to - from) from ordered (omega arith))
    where
      go : Walked (λ n. fits n.kind n.content sought wanted) (part s from to) (good_for s from to sought wanted) → Says P (part s from to) (good_for s from to sought wanted)
      go (hits ns n rest q k m c f g) = reached g (record { before = ns; name = n; after = rest; is = q; named = (k, m); holds = sound n f })
      go (ends ns q k c g) = passed g (record { names = ns; is = q; named = k; none = each _ _ miss ns c })
      go (breaks ns rest q k c o x g) = broken g (record { names = ns; rest = rest; is = q; named = k; none = each _ _ miss ns c; some = o; broken = x })

  reached_good : Reached P (part s from to) → good_for s from to sought wanted ≡ Ok tt
  unfolding good_for walk
  reached_good r = reach s b to within sought wanted r.before r.name r.after (to - from) from ordered (omega arith) r.is r.named.0 r.named.1 (complete r.name r.holds)

  good_exact : (good_for s from to sought wanted ≡ Ok tt) ↔ Reached P (part s from to)
  good_exact = (λ e. go e says, reached_good)
    where
      go : good_for s from to sought wanted ≡ Ok tt → Says P (part s from to) (good_for s from to sought wanted) → Reached P (part s from to)
      go e (reached g h) = h
      go e (passed g h) = absurd (not_good (sym g ∙ e))
      go e (broken g h) = absurd (not_good (sym g ∙ e))

  refused_exact : (e : ℕ) → good_for s from to sought wanted ≡ Err e → ((e ≡ cert_not_valid_for_name) × Passed P (part s from to)) ⊎ ((e ≡ bad_der) × BrokenOff P (part s from to))
  refused_exact e h = go says
    where
      go : Says P (part s from to) (good_for s from to sought wanted) → ((e ≡ cert_not_valid_for_name) × Passed P (part s from to)) ⊎ ((e ≡ bad_der) × BrokenOff P (part s from to))
      go (reached g x) = absurd (not_good (sym h ∙ g))
      go (passed g x) = inl (cc (sym h ∙ g), x)
      go (broken g x) = inr (cc (sym h ∙ g), x)

-- ---- a DNS name
is_yes_lem : (a : Result Bool ℕ) → is_yes a ≡ true → a ≡ Ok true
unfolding is_yes
is_yes_lem (Ok true) e = refl
is_yes_lem (Ok false) e = absurd (true_false e refl)
is_yes_lem (Err r) e = absurd (true_false e refl)

yes_is : is_yes (Ok true) ≡ true
unfolding is_yes
yes_is = refl

fits_dns : (kind : ℕ) (content wanted : List ℕ) → kind ≡ 130 → fits kind content 130 wanted ≡ is_yes (match_wanted content wanted)
unfolding fits
fits_dns kind content wanted e = rw e

fits_ip : (kind : ℕ) (content wanted : List ℕ) → kind ≡ 135 → fits kind content 135 wanted ≡ same_address content wanted
unfolding fits
fits_ip kind content wanted e = rw e

fits_kind : (kind sought : ℕ) (content wanted : List ℕ) → fits kind content sought wanted ≡ true → kind ≡ sought
unfolding fits
fits_kind kind sought content wanted e = ⊎_elim (λ p. eqb-true kind sought p.0) (λ p. absurd (true_false p.1 refl)) (either (eqb kind sought) e)

module _ (wanted : List ℕ) (v : wanted_name wanted ≡ true) where
  matched : (content : List ℕ) → match_wanted content wanted ≡ Ok true → (presented_name content ≡ true) × StandsFor (labels content) (relative (labels wanted))
  matched content e = go (presented_name content) refl
    where
      go : (x : Bool) → presented_name content ≡ x → (presented_name content ≡ true) × StandsFor (labels content) (relative (labels wanted))
      go true a = (a, ⊎_elim (λ d. d.1) (λ d. absurd (yes_no (sym e ∙ d.0))) (wanted_decides content wanted a v))
      go false a = absurd (yes_refused (sym e ∙ wanted_refused content wanted (rw a)))

  dns_sound : (n : General) → fits n.kind n.content 130 wanted ≡ true → ForDns wanted n
  dns_sound n e =
      let k = fits_kind n.kind 130 n.content wanted e in
      let m = matched n.content (is_yes_lem (match_wanted n.content wanted) (sym (fits_dns n.kind n.content wanted k) ∙ e)) in
      record { kind_is = k; is_name = m.0; stands = m.1 }

  dns_complete : (n : General) → ForDns wanted n → fits n.kind n.content 130 wanted ≡ true
  dns_complete n f =
      fits_dns n.kind n.content wanted f.kind_is
      ∙ ⊎_elim (λ d. rw d.0 yes_is) (λ d. absurd (d.1 f.stands)) (wanted_decides n.content wanted f.is_name v)

  dns_is : (s : List ℕ) (from to : ℕ) → good_for_dns s from to wanted ≡ good_for s from to 130 wanted
  unfolding good_for_dns
  dns_is s from to = rw (wanted_valid wanted, v)

  module _ (s : List ℕ) (b : Bytes s) (from to : ℕ) (ordered : from ≤ to) (within : to ≤ length s) where
    -- good if and only if a well-formed name before the first broken one matches
    pub dns_good : (good_for_dns s from to wanted ≡ Ok tt) ↔ Reached (ForDns wanted) (part s from to)
    dns_good = rw (dns_is s from to) (good_exact s b from to ordered within 130 wanted (ForDns wanted) dns_sound dns_complete)

    -- refused: none matches, and the names were read to their end, or to the first broken one
    pub dns_refused : (e : ℕ) → good_for_dns s from to wanted ≡ Err e
        → ((e ≡ cert_not_valid_for_name) × Passed (ForDns wanted) (part s from to)) ⊎ ((e ≡ bad_der) × BrokenOff (ForDns wanted) (part s from to))
    dns_refused e h = refused_exact s b from to ordered within 130 wanted (ForDns wanted) dns_sound dns_complete e (sym (dns_is s from to) ∙ h)

-- a text that is no name is not looked for
pub dns_malformed : (s : List ℕ) (from to : ℕ) (wanted : List ℕ) → wanted_name wanted ≡ false → good_for_dns s from to wanted ≡ Err malformed_dns_identifier
unfolding good_for_dns
dns_malformed s from to wanted e = rw (wanted_valid wanted, e)

-- ---- an address
address_sound : (p q : List ℕ) → same_address p q ≡ true → ((length p ≡ 4) ⊎ (length p ≡ 16)) × (p ≡ q)
unfolding same_address
address_sound p q e =
    let k = peel (neither (length p) 4 16) e (λ h. true_false h refl) in
    let y = same_yes p 0 (length p) q 0 (length q) k.1 in
    (neither_false (length p) 4 16 k.0, sym (part_whole p) ∙ y.4 ∙ part_whole q)

address_complete : (p q : List ℕ) → (length p ≡ 4) ⊎ (length p ≡ 16) → p ≡ q → same_address p q ≡ true
unfolding same_address
address_complete p q s e =
    rw (either_size (length p) 4 16 s) (same_equal p 0 (length p) q 0 (length q) (omega arith) (omega arith) (omega arith) (omega arith) (part_whole p ∙ e ∙ sym (part_whole q)))

module _ (wanted : List ℕ) where
  ip_sound : (n : General) → fits n.kind n.content 135 wanted ≡ true → ForIp wanted n
  ip_sound n e =
      let k = fits_kind n.kind 135 n.content wanted e in
      let a = address_sound n.content wanted (sym (fits_ip n.kind n.content wanted k) ∙ e) in
      record { kind_is = k; size = a.0; is = a.1 }

  ip_complete : (n : General) → ForIp wanted n → fits n.kind n.content 135 wanted ≡ true
  ip_complete n f = fits_ip n.kind n.content wanted f.kind_is ∙ address_complete n.content wanted f.size f.is

  module _ (s : List ℕ) (b : Bytes s) (from to : ℕ) (ordered : from ≤ to) (within : to ≤ length s) where
    pub ip_good : (good_for_ip s from to wanted ≡ Ok tt) ↔ Reached (ForIp wanted) (part s from to)
    unfolding good_for_ip
    ip_good = good_exact s b from to ordered within 135 wanted (ForIp wanted) ip_sound ip_complete

    pub ip_refused : (e : ℕ) → good_for_ip s from to wanted ≡ Err e
        → ((e ≡ cert_not_valid_for_name) × Passed (ForIp wanted) (part s from to)) ⊎ ((e ≡ bad_der) × BrokenOff (ForIp wanted) (part s from to))
    unfolding good_for_ip
    ip_refused e h = refused_exact s b from to ordered within 135 wanted (ForIp wanted) ip_sound ip_complete e h
