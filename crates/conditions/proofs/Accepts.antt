-- ACCEPTS: what stands, RFC 5280, 6.1, accepts, but for the named exceptions. Assumes nothing.
use Prim.Native.Nat.{ℕ, zero, suc, ◌≤◌}
use mathlib.Core.Path.{◌≡◌, refl, sym, ap, ◌∙◌}
use mathlib.Core.List.{List, [], ◌∷◌, ◌++◌, map, Memᴰ}
use mathlib.Core.Bool.{Bool, true, false}
use mathlib.Core.Logic.{◌⊎◌, inl, inr, ⊎_elim}
use lib.ListN.{length, get_or}
use native.Mathlib.Omega.{arith}
use Rattle.der.proofs.Laws.{lt_or_le}
use Rattle.extensions.specs.Rfc5280.{Extension, listed, is_critical, is_number}
use Rattle.parts.specs.Lists.{Every}
use Rattle.extensions.specs.Accepted.{Taken, usage, known, other, key_usage, subject_alt_name, basic_constraints, name_constraints, crl_distribution_points, ext_key_usage, Each as EachExtension, none as no_extension, more as one_extension}
use Rattle.extensions.proofs.Complete.{number_is}
use Rattle.names.specs.General.{General, Each}
use Rattle.subtrees.specs.Rfc5280Names.{Others, Some, OfKind, NameConstraints, Touches, Formed, Conforms}
use Rattle.subtrees.proofs.Generals.{each_to, each_two}
use Rattle.checks.specs.Conditions.{Optional, absent, present, Contents, InValidity, Bound, unbounded, at_most, Allows, Constrained, Authority as Says, unwritten, written, PathLength, none, some}
use Rattle.checks.specs.Skeletons.{IsCertificate}
use Rattle.names.proofs.Once.{names_once}
use Rattle.asked.specs.Questions.{KeyOf, of_anchor, from_certificate}
use Rattle.dialogue.specs.Log.{What, of_certificate}
use Rattle.conditions.specs.Request.{Request}
use Rattle.conditions.specs.Conditions.{Each as EachOf, InPlace, Chain, bytes_of, Numbers, Readable, Signed}
use Rattle.conditions.specs.Exactly.{Own, Issuers, subject_name, constraints_of}
use Rattle.conditions.specs.RfcNames.{MailOf, MailInSubject, Conforming}
use Rattle.conditions.specs.Rfc5280Path.{Certificate, World, Inputs, State, initially, Constrains, Limit, none as no_limit, some as a_limit, Authority, Lowered, Within, NamesWithin, Basic, Counted, self_issued, counted, Handled, not_critical, key_usage as as_usage, subject_alt_name as as_names, basic_constraints as as_basic, name_constraints as as_constraints, elsewhere, Onward}
use Rattle.conditions.specs.RfcAccepts.{KeyUsageKept, PointsProcessed, Initially, True, AcceptsType}
use Rattle.conditions.proofs.NeverWeaker.{never_weaker}

-- ---- names: one issuer's lists in two, and two excluded lists in one
each_all : (P : General → Type 0) → ((n : General) → P n) → (ns : List General) → Each P ns
unfolding Each
each_all P f [] = tt
each_all P f (n ∷ ns) = (f n, each_all P f ns)

each_join : (P : General → Type 0) (ns ms : List General) → Each P ns → Each P ms → Each P (ns ++ ms)
unfolding Each
each_join P [] ms a b = b
each_join P (n ∷ ns) ms a b = (a.0, each_join P ns ms a.1 b)

module _ (o : Others) where
  permitted_alone : (p e : List General) (n : General) → Conforms o p e n → Conforms o p [] n
  unfolding Each
  permitted_alone p e n c = record { within = c.within; without = λ m s. tt; formed = (c.formed.0, tt) }

  excluded_alone : (p e : List General) (n : General) → Conforms o p e n → Conforms o [] e n
  unfolding Each Some
  excluded_alone p e n c = record { within = λ m s h. absurd h; without = c.without; formed = (tt, c.formed.1) }

  excluded_both : (e f : List General) (n : General) → Conforms o [] e n → Conforms o [] f n → Conforms o [] (e ++ f) n
  unfolding Each Some
  excluded_both e f n a b =
      record {
        within = λ m s h. absurd h;
        without = λ m s. each_join (λ x. OfKind n x → Touches o x m → ⊥) e f (a.without m s) (b.without m s);
        formed = (tt, each_join (λ x. OfKind n x → Formed n x) e f a.formed.1 b.formed.1);
      }

  unrestricted : (n : General) → Conforms o [] [] n
  unfolding Each Some
  unrestricted n = record { within = λ m s h. absurd h; without = λ m s. tt; formed = (tt, tt) }

module _ (W : World) where
  -- ---- the names of a certificate, while the state grows
  empty_within : (s : State) → s.permitted_subtrees ≡ [] → s.excluded_subtrees ≡ [] → (n : General) → Within W s n
  unfolding Every
  empty_within s a b n = record { permitted = rw a tt; excluded = rw b (unrestricted W.other n) }

  abbrev Safe : State → Contents → Type 0
  Safe s o = ((s.permitted_subtrees ≡ []) × (s.excluded_subtrees ≡ [])) ⊎ NamesWithin W s o

  safe_names : (s : State) (o : Contents) → Safe s o → (s.permitted_subtrees ≡ [] → s.excluded_subtrees ≡ [] → ⊥) → NamesWithin W s o
  safe_names s o (inl e) h = absurd (h e.0 e.1)
  safe_names s o (inr n) h = n

  abbrev grown : State → List General → List General → List ℕ → List ℕ → ℕ → State
  grown s own out key name m = record { permitted_subtrees = own ∷ s.permitted_subtrees; excluded_subtrees = out ++ s.excluded_subtrees; working_public_key = key; working_issuer_name = name; max_path_length = m }

  module _ (s : State) (own out : List General) (key name : List ℕ) (m : ℕ) where
    more_within : (n : General) → Conforms W.other own out n → Within W s n → Within W (grown s own out key name m) n
    unfolding Every
    more_within n c w =
        record {
          permitted = (permitted_alone W.other own out n c, w.permitted);
          excluded = excluded_both W.other out s.excluded_subtrees n (excluded_alone W.other own out n c) w.excluded;
        }

    safe_more : (o : Contents) → Conforming W.other own out o → ((n : General) → MailInSubject own out o n → ⊥) → Safe s o → Safe (grown s own out key name m) o
    safe_more o c no-mail x = inr (go x)
      where
        mail : (n : General) → MailOf o n → Conforms W.other own out n
        mail n h = ⊎_elim (λ y. y) (λ y. absurd (no-mail n y)) (c.mail n h)

        go : Safe s o → NamesWithin W (grown s own out key name m) o
        go (inl e) =
            let w = empty_within s e.0 e.1 in
            record {
              alternative = c.alternative;
              is = c.is;
              named = c.named;
              conform = each_to (Conforms W.other own out) (Within W (grown s own out key name m)) (λ n y. more_within n y (w n)) c.alternative c.conform;
              subject = λ h. more_within (subject_name o) (c.subject h) (w (subject_name o));
              mail = λ n h. more_within n (mail n h) (w n);
            }
        go (inr v) =
            let e : c.alternative ≡ v.alternative = names_once c.alternative v.alternative c.named v.named (sym c.is ∙ v.is) in
            let y : Each (Conforms W.other own out) v.alternative = rw (← e) c.conform in
            record {
              alternative = v.alternative;
              is = v.is;
              named = v.named;
              conform = each_two (Conforms W.other own out) (Within W s) (Within W (grown s own out key name m)) more_within v.alternative y v.conform;
              subject = λ h. more_within (subject_name o) (c.subject h) (v.subject h);
              mail = λ n h. more_within n (mail n h) (v.mail n h);
            }

  -- ---- extensions
  module _ (purposes : (x : Extension) → is_number 37 x ≡ true → W.Processed x) where
    taken_handled : (x : Extension) → Taken true x → (is_number 31 x ≡ true → is_critical x.critical ≡ true → W.Processed x) → Handled W x
    taken_handled x (usage e) point = as_usage (number_is 15 x e)
    taken_handled x (known n key_usage ne e content v) point = as_usage (number_is 15 x e)
    taken_handled x (known n subject_alt_name ne e content v) point = as_names (number_is 17 x e)
    taken_handled x (known n basic_constraints ne e content v) point = as_basic (number_is 19 x e)
    taken_handled x (known n name_constraints ne e content v) point = as_constraints (number_is 30 x e)
    taken_handled x (known n crl_distribution_points ne e content v) point = by (is_critical x.critical) refl
      where
        by : (b : Bool) → is_critical x.critical ≡ b → Handled W x
        by true h = elsewhere (point (number_is 31 x e) h)
        by false h = not_critical h
    taken_handled x (known n ext_key_usage ne e content v) point = elsewhere (purposes x (number_is 37 x e))
    taken_handled x (other f g) point = by (is_critical x.critical) refl
      where
        by : (b : Bool) → is_critical x.critical ≡ b → Handled W x
        by true h = absurd (g refl h)
        by false h = not_critical h

    all_handled : (xs : List Extension) → EachExtension true xs → Every (λ x. is_number 31 x ≡ true → is_critical x.critical ≡ true → W.Processed x) xs → Every (Handled W) xs
    unfolding Every
    all_handled [] no_extension h = tt
    all_handled (x ∷ xs) (one_extension t ts) h = (taken_handled x t h.0, all_handled xs ts h.1)

  -- ---- (k), (l), (m)
  authority_of : (o : Optional) (bound : Bound) → Constrained o true bound → Authority o bound
  authority_of absent bound c = absurd (let z : ◌≡◌ {A = ℕ} 0 1 = cc c.0 in omega arith)
  authority_of (present content) bound c = go c.says
    where
      limit : {rest : List ℕ} → PathLength rest bound → Limit rest bound
      limit (none e b) = no_limit e b
      limit (some n l s m e b) = a_limit n l m e b

      go : Says c.first true → Authority (present content) bound
      go (unwritten e f) = absurd (let z : ◌≡◌ {A = ℕ} 0 1 = cc f in omega arith)
      go (written e) = (c.second, c.whole ∙ ap (λ (l : List ℕ). l ++ c.second) e, limit c.limits)

  record Lengths (c : Certificate) (bound : Bound) (m below : ℕ) : Type 0 where
    left : ℕ
    next : ℕ
    is_counted : Counted W c m left
    is_lowered : Lowered bound left next
    enough : below ≤ next

  lower : (c : Certificate) (bound : Bound) (m below : ℕ) → Allows bound below → (left : ℕ) → below ≤ left → Counted W c m left → Lengths c bound m below
  lower c unbounded m below a left l k = record { left = left; next = left; is_counted = k; is_lowered = refl; enough = l }
  lower c (at_most n) m below a left l k =
      ⊎_elim
      (λ q. record { left = left; next = n; is_counted = k; is_lowered = inl (q, refl); enough = a })
      (λ q. record { left = left; next = left; is_counted = k; is_lowered = inr (q, refl); enough = l })
      (lt_or_le n left)

  lengths : (c : Certificate) (bound : Bound) (m below : ℕ) → Allows bound below → suc below ≤ m → Lengths c bound m below
  lengths c bound zero below a h = absurd (omega arith)
  lengths c bound (suc m) below a h =
      ⊎_elim
      (λ i. lower c bound (suc m) below a (suc m) (omega arith) (self_issued i refl))
      (λ i. lower c bound (suc m) below a m (omega arith) (counted i refl))
      (W.told c.contents.subject c.contents.issuer)

each_of : (P Q : Contents → Type 0) → ((o : Contents) → P o → Q o) → (os : List Contents) → EachOf P os → EachOf Q os
unfolding EachOf
each_of P Q f [] h = tt
each_of P Q f (o ∷ os) h = (f o h.0, each_of P Q f os h.1)

-- ---- the certificates of a path
abbrev cert_of : (t : List ℕ) (o : Contents) → IsCertificate t o → Certificate
cert_of t o x = record { bytes = t; skeleton = x.k; contents = o; encodes = x.bytes; describes = x.describes }

module _ (R : Request) where
  unfoldable certs_of : (path : List ℕ) (os : List Contents) → Readable R path os → List Certificate
  unfolding Readable
  certs_of [] [] r = []
  certs_of [] (o ∷ os) r = []
  certs_of (n ∷ ns) [] r = []
  certs_of (n ∷ ns) (o ∷ os) r = cert_of (bytes_of R n) o r.0 ∷ certs_of ns os r.1

  certs_bytes : (path : List ℕ) (os : List Contents) (r : Readable R path os) → map (λ (c : Certificate). c.bytes) (certs_of path os r) ≡ map (bytes_of R) path
  unfolding certs_of Readable
  certs_bytes [] [] r = refl
  certs_bytes [] (o ∷ os) r = refl
  certs_bytes (n ∷ ns) [] r = absurd r
  certs_bytes (n ∷ ns) (o ∷ os) r = ap (λ (l : List (List ℕ)). bytes_of R n ∷ l) (certs_bytes ns os r.1)

  certs_length : (path : List ℕ) (os : List Contents) (r : Readable R path os) → length (certs_of path os r) ≡ length os
  unfolding certs_of Readable
  certs_length [] [] r = refl
  certs_length [] (o ∷ os) r = absurd r
  certs_length (n ∷ ns) [] r = absurd r
  certs_length (n ∷ ns) (o ∷ os) r = ap suc (certs_length ns os r.1)

  module _ (W : World) (Yes : ℕ → What → Type 0) (faithful : True R W Yes) (time : ℕ) (whole : List Certificate) (purposes : (x : Extension) → is_number 37 x ≡ true → W.Processed x) where
    abbrev Mailless : List ℕ → Type 0
    Mailless content = (c : Certificate) → Memᴰ c whole → (own out : List General) → NameConstraints content own out → (n : General) → MailInSubject own out c.contents n → ⊥

    abbrev InWhole : List Certificate → Type 0
    InWhole cs = (c : Certificate) → Memᴰ c cs → Memᴰ c whole

    safe_all : (s : State) (own out : List General) (key name : List ℕ) (m : ℕ) (content : List ℕ) → NameConstraints content own out → Mailless content → (path : List ℕ) (os : List Contents) (r : Readable R path os) → InWhole (certs_of path os r)
        → EachOf (Conforming W.other own out) os → EachOf (Safe W s) os → EachOf (Safe W (grown W s own out key name m)) os
    unfolding EachOf certs_of Readable
    safe_all s own out key name m content is free [] [] r w c x = tt
    safe_all s own out key name m content is free [] (o ∷ os) r w c x = absurd r
    safe_all s own out key name m content is free (n ∷ ns) [] r w c x = absurd r
    safe_all s own out key name m content is free (n ∷ ns) (o ∷ os) r w c x = (
      safe_more W s own out key name m o c.0 (λ g. free (cert_of (bytes_of R n) o r.0) (w _ (Memᴰ.head refl)) own out is g) x.0,
      safe_all s own out key name m content is free ns os r.1 (λ d e. w d (Memᴰ.tail e)) c.1 x.1,
    )

    -- the state after a certificate, and what is safe in it
    record Next (s : State) (c : Certificate) (path : List ℕ) (os : List Contents) (m : ℕ) : Type 0 where
      next : State
      name_is : next.working_issuer_name ≡ c.contents.subject
      key_is : next.working_public_key ≡ c.contents.key
      max_is : next.max_path_length ≡ m
      constrains : Constrains c.contents.name_constraints s next.permitted_subtrees next.excluded_subtrees
      safe : EachOf (Safe W next) os

    next_state : (s : State) (c : Certificate) (path : List ℕ) (os : List Contents) (m : ℕ) (r : Readable R path os) → InWhole (certs_of path os r) → (o : Optional) → c.contents.name_constraints ≡ o
        → Own (Conforming W.other) o os → ((content : List ℕ) → o ≡ present content → Mailless content) → EachOf (Safe W s) os → Next s c path os m
    next_state s c path os m r w absent e h free x =
        record {
          next = record { permitted_subtrees = s.permitted_subtrees; excluded_subtrees = s.excluded_subtrees; working_public_key = c.contents.key; working_issuer_name = c.contents.subject; max_path_length = m };
          name_is = refl;
          key_is = refl;
          max_is = refl;
          constrains = rw e (refl, refl);
          safe = same os x;
        }
      where
        again : (o : Contents) → Safe W s o → Safe W (record { permitted_subtrees = s.permitted_subtrees; excluded_subtrees = s.excluded_subtrees; working_public_key = c.contents.key; working_issuer_name = c.contents.subject; max_path_length = m }) o
        again o (inl e) = inl e
        again o (inr v) =
            let to : (n : General) → Within W s n → Within W (record { permitted_subtrees = s.permitted_subtrees; excluded_subtrees = s.excluded_subtrees; working_public_key = c.contents.key; working_issuer_name = c.contents.subject; max_path_length = m }) n = λ n y. record { permitted = y.permitted; excluded = y.excluded } in
            inr (record { alternative = v.alternative; is = v.is; named = v.named; conform = each_to _ _ to v.alternative v.conform; subject = λ h. to _ (v.subject h); mail = λ n h. to n (v.mail n h) })

        same : (os : List Contents) → EachOf (Safe W s) os → EachOf (Safe W (record { permitted_subtrees = s.permitted_subtrees; excluded_subtrees = s.excluded_subtrees; working_public_key = c.contents.key; working_issuer_name = c.contents.subject; max_path_length = m })) os
        same os x = each_of _ _ again os x
    next_state s c path os m r w (present content) e h free x =
        record {
          next = grown W s h.permitted h.excluded c.contents.key c.contents.subject m;
          name_is = refl;
          key_is = refl;
          max_is = refl;
          constrains = rw e (h.permitted, h.excluded, h.is, refl, refl);
          safe = safe_all s h.permitted h.excluded c.contents.key c.contents.subject m content h.is (free content refl) path os r w h.rule x;
        }

    basic : (key n : ℕ) (o : Contents) (x : IsCertificate (bytes_of R n) o) (s : State) (final : Bool) → KeyOf R.issuers R.end R.keys (length R.subjects) key s.working_public_key → Yes key (of_certificate n)
        → InValidity o.validity time → W.NotRevoked (cert_of (bytes_of R n) o x) → s.working_issuer_name ≡ o.issuer → Safe W s o → Basic W time s final (cert_of (bytes_of R n) o x)
    basic key n o x s final k y v z e safe =
        record {
          signature = faithful key n s.working_public_key k y;
          validity = v;
          not_revoked = z;
          issuer = rw e (W.itself o.issuer);
          names = λ a b. safe_names W s o safe b;
        }

    onward : (key : ℕ) (path : List ℕ) (os : List Contents) (r : Readable R path os) (s : State) → Numbers R path → KeyOf R.issuers R.end R.keys (length R.subjects) key s.working_public_key
        → Chain s.working_issuer_name os → EachOf (λ o. InValidity o.validity time) os → InPlace os → Signed R Yes key path → Issuers (Conforming W.other) os → EachOf (Safe W s) os
        → length os ≤ suc s.max_path_length → InWhole (certs_of path os r)
        → ((c : Certificate) → Memᴰ c whole → (content : List ℕ) → c.contents.name_constraints ≡ present content → Mailless content)
        → KeyUsageKept (certs_of path os r) → Every (PointsProcessed W) (certs_of path os r) → Every W.NotRevoked (certs_of path os r) → Onward W time s (certs_of path os r)
    unfolding Numbers Readable Chain EachOf InPlace Signed Issuers certs_of KeyUsageKept Every Onward
    onward key [] os r s nu k ch va pl si is sa le w free ku po re = absurd nu
    onward key (n ∷ ns) [] r s nu k ch va pl si is sa le w free ku po re = absurd r
    onward key (n ∷ []) (o ∷ []) r s nu k ch va pl si is sa le w free ku po re = (
      basic key n o r.0 s true k si.1 va.0 re.0 ch.0 sa.0,
      all_handled W purposes (listed r.0.k.extensions) r.0.rules.each po.0,
    )
    onward key (n ∷ []) (o ∷ (p ∷ os)) r s nu k ch va pl si is sa le w free ku po re = absurd r.1
    onward key (n ∷ (i ∷ ns)) (o ∷ []) r s nu k ch va pl si is sa le w free ku po re = absurd r.1
    onward key (n ∷ (i ∷ ns)) (o ∷ (p ∷ os)) r s nu k ch va pl si is sa le w free ku po re =
        let c = cert_of (bytes_of R n) o r.0 in
        let bound = pl.0.0 in
        let l = lengths W c bound s.max_path_length (length os) pl.0.2 (omega (arith, le)) in
        let v : InWhole (certs_of (i ∷ ns) (p ∷ os) r.1) = λ d e. w d (Memᴰ.tail e) in
        let x = next_state s c (i ∷ ns) (p ∷ os) l.next r.1 v o.name_constraints refl is.0 (free c (w c (Memᴰ.head refl))) sa.1 in (
          basic key n o r.0 s false k si.1 va.0 re.0 ch.0 sa.0,
          (
            x.next,
            record {
              name = x.name_is;
              key = x.key_is;
              constrains = x.constrains;
              bound = bound;
              authority = authority_of W o.basic_constraints bound pl.0.1;
              left = l.left;
              counted = l.is_counted;
              lowered = rw x.max_is l.is_lowered;
              may_sign = ku.0;
              handled = all_handled W purposes (listed r.0.k.extensions) r.0.rules.each po.0;
            },
            onward n (i ∷ ns) (p ∷ os) r.1 x.next nu.2 (rw x.key_is (from_certificate nu.0 o r.0 refl)) (rw x.name_is ch.1) va.1 pl.1 si.2 is.1 x.safe
                (omega (arith, l.enough, x.max_is)) v free ku.1 po.1 re.1,
          ),
        )

-- ---- the anchor
abbrev inputs_for : Request → ℕ → List (List General) → List General → Inputs
inputs_for R anchor permitted excluded = record { time = R.time; issuer = get_or R.subjects anchor []; key = get_or R.keys anchor []; initial_permitted = permitted; initial_excluded = excluded }

record Begin (R : Request) (W : World) (anchor : ℕ) (o : Optional) (os : List Contents) (free : Type 0) (n : ℕ) : Type 0 where
  permitted : List (List General)
  excluded : List General
  initially_is : Initially o (inputs_for R anchor permitted excluded)
  safe : free → EachOf (Safe W (initially (inputs_for R anchor permitted excluded) n)) os

no_names_yet : (W : World) (s : State) → s.permitted_subtrees ≡ [] → s.excluded_subtrees ≡ [] → (os : List Contents) → EachOf (Safe W s) os
unfolding EachOf
no_names_yet W s a b [] = tt
no_names_yet W s a b (o ∷ os) = (inl (a, b), no_names_yet W s a b os)

-- the anchor's lists alone
module _ (R : Request) (W : World) (anchor n : ℕ) (own out : List General) where
  abbrev first_state : State
  first_state = initially (inputs_for R anchor (own ∷ []) out) n

  first_within : (g : General) → Conforms W.other own out g → Within W first_state g
  unfolding Every
  first_within g c = record { permitted = (permitted_alone W.other own out g c, tt); excluded = excluded_alone W.other own out g c }

  first_safe : (whole : List Certificate) → ((c : Certificate) → Memᴰ c whole → (g : General) → MailInSubject own out c.contents g → ⊥) → (path : List ℕ) (os : List Contents) (r : Readable R path os)
      → ((c : Certificate) → Memᴰ c (certs_of R path os r) → Memᴰ c whole) → EachOf (Conforming W.other own out) os → EachOf (Safe W first_state) os
  unfolding EachOf certs_of Readable
  first_safe whole f [] [] r w c = tt
  first_safe whole f [] (o ∷ os) r w c = absurd r
  first_safe whole f (i ∷ ns) [] r w c = absurd r
  first_safe whole f (i ∷ ns) (o ∷ os) r w c =
      let x = c.0 in (
        inr (record {
          alternative = x.alternative;
          is = x.is;
          named = x.named;
          conform = each_to (Conforms W.other own out) (Within W first_state) first_within x.alternative x.conform;
          subject = λ h. first_within (subject_name o) (x.subject h);
          mail = λ g h. first_within g (⊎_elim (λ y. y) (λ y. absurd (f (cert_of (bytes_of R i) o r.0) (w _ (Memᴰ.head refl)) g y)) (x.mail g h));
        }),
        first_safe whole f ns os r.1 (λ d e. w d (Memᴰ.tail e)) c.1,
      )

begin : (R : Request) (W : World) (anchor : ℕ) (o : Optional) (path : List ℕ) (os : List Contents) (r : Readable R path os) (n : ℕ) → Own (Conforming W.other) o os
    → Begin R W anchor o os ((content : List ℕ) → o ≡ present content → (c : Certificate) → Memᴰ c (certs_of R path os r) → (own out : List General) → NameConstraints content own out → (g : General) → MailInSubject own out c.contents g → ⊥) n
begin R W anchor absent path os r n h = record { permitted = []; excluded = []; initially_is = (refl, refl); safe = λ f. no_names_yet W _ refl refl os }
begin R W anchor (present content) path os r n h =
    record {
      permitted = h.permitted ∷ [];
      excluded = h.excluded;
      initially_is = (h.permitted, h.is, refl);
      safe = λ f. first_safe R W anchor n h.permitted h.excluded (certs_of R path os r) (λ c m g. f content refl c m h.permitted h.excluded h.is g) path os r (λ c e. e) h.rule;
    }

-- THEOREM
pub accepts : AcceptsType
accepts R W Yes faithful anchor path x =
    let os = x.contents in
    let r = x.readable in
    let cs = certs_of R path os r in
    let met = never_weaker W.other (constraints_of R anchor) os x.constrained in
    let b = begin R W anchor (constraints_of R anchor) path os r (length cs) met.anchor_met in
    record {
      certificates = cs;
      are = certs_bytes R path os r;
      inputs = inputs_for R anchor b.permitted b.excluded;
      inputs_of = record { time = refl; issuer = refl; key = refl; subtrees = b.initially_is };
      validates =
          λ u.
          record {
            steps = onward R W Yes faithful R.time cs u.purposes anchor path os r (initially (inputs_for R anchor b.permitted b.excluded) (length cs)) x.numbers (of_anchor x.anchored x.keyed refl) x.chained x.valid x.placed
                x.signed met.issuers_met
                (b.safe (λ content e c m own out is g h. u.mail (record { certificate = c; is_on_path = m; content = content; whose = inl e; permitted = own; excluded = out; is = is; name = g; mail = h })))
                (omega (arith, certs_length R path os r)) (λ c m. m)
                (λ d dm content e c m own out is g h. u.mail (record { certificate = c; is_on_path = m; content = content; whose = inr (d, dm, e); permitted = own; excluded = out; is = is; name = g; mail = h }))
                u.key_usage u.points u.not_revoked;
            policies = u.policies;
          };
    }
