-- The contents that are read of a certificate are those of its skeleton, and those of every skeleton are read. Assumes nothing.
use Prim.Native.Nat.{ℕ, ◌+◌, ◌-◌, ◌≤◌, ◌<◌}
use mathlib.Core.Path.{◌≡◌, refl, sym, ap, ◌∙◌, subst}
use mathlib.Core.List.{List, [], ◌∷◌, ◌++◌}
use mathlib.Core.Bool.{Bool, true, false, cond}
use lib.ListN.{length, length-append}
use native.Mathlib.Omega.{arith}
use borrow.Author.Tests.{ne_eqb}
use Rattle.der.specs.Places.{Bytes, part, LIMIT}
use Rattle.der.specs.X690.{encoding}
use Rattle.der.proofs.Parts.{part_front, part_whole}
use Rattle.parts.proofs.Equal.{same_true}
use Rattle.extensions.specs.declared.Slot.{Slot}
use Rattle.cert.specs.Model.{read_certificate}
use Rattle.extensions.specs.Accepted.{KnownNumber, basic_constraints, ext_key_usage, subject_alt_name, name_constraints, Taken, usage, known, other, Each, more}
use Rattle.extensions.specs.Rfc5280.{octet_string, object_identifier, sequence, explicit, Extension, Extensions, missing, present as given, criticality, extension_content, extension, extension_list, extensions, id_ce, is_number, listed}
use Rattle.cert.specs.Accepted.{Readable}
use Rattle.cert.specs.Rfc5280.{integer, bit_string, Skeleton, version, tbs_content, tbs_certificate, certificate_content, certificate}
use Rattle.extensions.specs.Layout.{place_of, header, value_of, kept_of, slot_for, slots, known_at}
use Rattle.cert.specs.Layout.{places}
use Rattle.extensions.proofs.Value.{encoded_length, place_end, place_start, find_in, find_last, find_last_in}
use Rattle.extensions.proofs.Slots.{header_is}
use Rattle.cert.proofs.Sound.{sound}
use Rattle.cert.proofs.Complete.{complete}
use Rattle.extensions.proofs.Unique.{encoding_once}
use Rattle.checks.specs.Conditions.{Optional, absent, present, Contents}
use Rattle.checks.proofs.Contents.{slot_at, contents_of, Reads}
use Rattle.checks.specs.Skeletons.{value_in, InSequence, Describes, IsCertificate}
use Rattle.std.specs.Prelude.{Ok}

-- the slot of extension n of those that are encoded at `at`
abbrev slot_in : ℕ → ℕ → Extensions → Slot
slot_in n at missing = slot_for n 0 []
slot_in n at (given xs) = slot_for n (place_of (place_of at (sequence (extension_list xs))).start (extension_list xs)).start xs

module _ (s : List ℕ) where
  -- a part that ends in the bytes and is short
  record Short (from to : ℕ) : Type 0 where
    pub ordered : from ≤ to
    pub inside : to ≤ length s
    pub small : to - from < LIMIT

  -- ---- one extension
  record ValueLaid (at to : ℕ) (x : Extension) (rest : List ℕ) : Type 0 where
    pub place : Short (value_of at x).start (value_of at x).end
    pub is : part s (value_of at x).start (value_of at x).end ≡ x.value
    pub next : at + length (extension x) ≤ to
    pub left : part s (at + length (extension x)) to ≡ rest

  value_laid : (at to : ℕ) (x : Extension) (rest : List ℕ) → Short at to → part s at to ≡ extension x ++ rest → ValueLaid at to x rest
  unfolding extension extension_content object_identifier octet_string sequence value_of
  value_laid at to x rest h e =
      let f = find_in s at to 48 (extension_content x) rest refl h.small h.ordered h.inside e in
      let content = place_of at (extension_content x) in
      let g = find_in s content.start content.end 6 x.identifier (criticality x.critical ++ encoding 4 x.value) refl (omega arith) f.ordered (omega arith) f.content in
      let identifier = place_of content.start x.identifier in
      let i = part_front s identifier.end content.end (criticality x.critical) (encoding 4 x.value) g.inside (omega arith) g.left in
      let k = find_last_in s (identifier.end + length (criticality x.critical)) content.end 4 x.value refl (omega arith) i.0 (omega arith) i.2 in
      let m = place_end at 48 (extension_content x) in
      record {
        place = record { ordered = k.0.ordered; inside = omega (arith, k.0.inside); small = omega (arith, k.0.inside, k.0.after) };
        is = k.0.content;
        next = omega arith;
        left = rw (← m) f.left;
      }

  -- the value of a known one, other than key usage, is a SEQUENCE
  sequenced : {strict : Bool} (n : ℕ) (x : Extension) → KnownNumber n → (n ≡ 15 → ⊥) → Taken strict x → is_number n x ≡ true → (content : List ℕ) × (x.value ≡ sequence content)
  unfolding is_number
  sequenced n x kn h (usage e) i =
      let q : id_ce 15 ≡ id_ce n = sym e ∙ same_true _ _ i in
      absurd (h (let z : 15 ≡ n = cc in sym z))
  sequenced n x kn h (known m km ne e content v) i = (content, v)
  sequenced n x kn h (other f g) i = absurd (let w : false ≡ true = sym (f n kn) ∙ i in let z : ◌≡◌ {A = ℕ} 0 1 = cc in omega arith)

  place_header : (start : ℕ) (content v : List ℕ) → v ≡ encoding 48 content → (place_of start content).start ≡ start + header v
  unfolding place_of
  place_header start content v e = omega (arith, ap header e ∙ header_is 48 content)

  kept_laid : (n at to : ℕ) (x : Extension) (rest content : List ℕ) → (n ≡ 15 → ⊥) → ValueLaid at to x rest → x.value ≡ sequence content → slot_at s (kept_of n at x) ≡ present content
  unfolding kept_of sequence
  kept_laid n at to x rest content h v e =
      let start = (value_of at x).start in
      let end = (value_of at x).end in
      let f = find_last_in s start end 48 content refl v.place.small v.place.ordered v.place.inside (v.is ∙ e) in
      let q = place_header start content x.value e in
      let g : part s (start + header x.value) end ≡ content = rw (q, f.1) at f.0.content in
      rw (ne_eqb n 15 h, g)

  -- ---- a list of them
  module _ {strict : Bool} (n : ℕ) (kn : KnownNumber n) (not-usage : n ≡ 15 → ⊥) where
    list_laid : (xs : List Extension) (at to : ℕ) → Short at to → part s at to ≡ extension_list xs → Each strict xs → InSequence (value_in n xs) (slot_at s (slot_for n at xs))
    unfolding extension_list value_in slot_for
    list_laid [] at to h e all = refl
    list_laid (x ∷ xs) at to h e (more t ts) =
        let v = value_laid at to x (extension_list xs) h e in
        go (is_number n x) refl v t
        (list_laid xs (at + length (extension x)) to (record { ordered = v.next; inside = h.inside; small = omega (arith, h.small) }) v.left ts)
      where
        go : (b : Bool) → is_number n x ≡ b → ValueLaid at to x (extension_list xs) → Taken strict x → InSequence (value_in n xs) (slot_at s (slot_for n (at + length (extension x)) xs))
            → InSequence (cond b (present x.value) (value_in n xs)) (slot_at s (cond b (kept_of n at x) (slot_for n (at + length (extension x)) xs)))
        go true i v t r =
            let q = sequenced n x kn not-usage t i in
            (q.0, q.1, kept_laid n at to x (extension_list xs) q.0 not-usage v q.1)
        go false i v t r = r

    extensions_laid : (es : Extensions) (at to : ℕ) → Short at to → part s at to ≡ extensions es → Each strict (listed es) → InSequence (value_in n (listed es)) (slot_at s (slot_in n at es))
    unfolding extensions listed explicit sequence value_in slot_for
    extensions_laid missing at to h e all = refl
    extensions_laid (given xs) at to h e all =
        let f = find_last_in s at to 163 (encoding 48 (extension_list xs)) refl h.small h.ordered h.inside e in
        let field = place_of at (encoding 48 (extension_list xs)) in
        let g = find_last_in s field.start field.end 48 (extension_list xs) refl (omega (arith, f.0.after, f.0.inside, h.small)) f.0.ordered (omega (arith, f.0.inside, h.inside)) f.0.content in
        let l = place_of field.start (extension_list xs) in
        list_laid xs l.start l.end
        (record { ordered = g.0.ordered; inside = omega (arith, g.0.inside, f.0.inside, h.inside); small = omega (arith, g.0.inside, g.0.after, f.0.after, f.0.inside, h.small) })
        g.0.content all

basic_slot : (at : ℕ) (es : Extensions) → slot_in 19 at es ≡ (known_at at es).basic_constraints
unfolding known_at slots
basic_slot at missing = refl
basic_slot at (given xs) = refl

purposes_slot : (at : ℕ) (es : Extensions) → slot_in 37 at es ≡ (known_at at es).key_purposes
unfolding known_at slots
purposes_slot at missing = refl
purposes_slot at (given xs) = refl

names_slot : (at : ℕ) (es : Extensions) → slot_in 17 at es ≡ (known_at at es).alternative_name
unfolding known_at slots
names_slot at missing = refl
names_slot at (given xs) = refl

constraints_slot : (at : ℕ) (es : Extensions) → slot_in 30 at es ≡ (known_at at es).name_constraints
unfolding known_at slots
constraints_slot at missing = refl
constraints_slot at (given xs) = refl

-- ---- a whole certificate
pub laid : {strict : Bool} (s : List ℕ) (k : Skeleton) → s ≡ certificate k → Readable strict k → Describes k (contents_of s (places k))
unfolding certificate certificate_content tbs_certificate tbs_content integer sequence explicit version bit_string places
laid s k e rules =
    let w = find_last s 0 (length s) 48 (certificate_content k) refl rules.short (omega arith) (omega arith) (part_whole s ∙ e) in
    let whole = place_of 0 (certificate_content k) in
    let sizes = place_start 0 (certificate_content k) in
    let small : whole.end - whole.start < LIMIT = omega (arith, rules.short) in
    let t = find_in s whole.start whole.end 48 (tbs_content k) _ refl small w.0.ordered w.0.inside w.0.content in
    let tbs = place_of whole.start (tbs_content k) in
    let end = tbs.end in
    let inside : end ≤ length s = omega (arith, t.inside, w.0.inside) in
    let v = find_in s tbs.start end 160 (encoding 2 (2 ∷ [])) _ refl (omega (arith, t.inside, t.after)) t.ordered inside t.content in
    let version = place_of tbs.start (encoding 2 (2 ∷ [])) in
    let short : end - tbs.start < LIMIT = omega (arith, t.inside, t.after) in
    let n = find_in s version.end end 2 k.serial _ refl (omega (arith, v.after, v.ordered)) v.inside inside v.left in
    let serial = place_of version.end k.serial in
    let a = find_in s serial.end end 48 k.algorithm _ refl (omega (arith, v.after, v.ordered, n.after, n.ordered)) n.inside inside n.left in
    let algorithm = place_of serial.end k.algorithm in
    let i = find_in s algorithm.end end 48 k.issuer _ refl (omega (arith, v.after, v.ordered, n.after, n.ordered, a.after, a.ordered)) a.inside inside a.left in
    let issuer = place_of algorithm.end k.issuer in
    let short₂ : end - issuer.end < LIMIT = omega (arith, v.after, v.ordered, n.after, n.ordered, a.after, a.ordered, i.after, i.ordered) in
    let d = find_in s issuer.end end 48 k.validity _ refl short₂ i.inside inside i.left in
    let validity = place_of issuer.end k.validity in
    let u = find_in s validity.end end 48 k.subject _ refl (omega (arith, d.after, d.ordered)) d.inside inside d.left in
    let subject = place_of validity.end k.subject in
    let y = find_in s subject.end end 48 k.key _ refl (omega (arith, d.after, d.ordered, u.after, u.ordered)) u.inside inside u.left in
    let key = place_of subject.end k.key in
    let rest : Short s key.end end = record { ordered = y.inside; inside = inside; small = omega (arith, d.after, d.ordered, u.after, u.ordered, y.after, y.ordered) } in
    record {
      issuer = sym i.content;
      validity = sym d.content;
      subject = sym u.content;
      key = sym y.content;
      basic_constraints = rw (← basic_slot key.end k.extensions) (extensions_laid s 19 basic_constraints (λ q. omega arith) k.extensions key.end end rest y.left rules.each);
      ext_key_usage = rw (← purposes_slot key.end k.extensions) (extensions_laid s 37 ext_key_usage (λ q. omega arith) k.extensions key.end end rest y.left rules.each);
      subject_alt_name = rw (← names_slot key.end k.extensions) (extensions_laid s 17 subject_alt_name (λ q. omega arith) k.extensions key.end end rest y.left rules.each);
      name_constraints = rw (← constraints_slot key.end k.extensions) (extensions_laid s 30 name_constraints (λ q. omega arith) k.extensions key.end end rest y.left rules.each);
    }

pub reads_certificate : (s : List ℕ) → Bytes s → (o : Contents) → Reads s o → IsCertificate s o
reads_certificate s b o r =
    let z = sound s b true r.0 r.1 in
    let q : contents_of s (places z.k) ≡ o = sym (ap (contents_of s) z.layout) ∙ r.2 in
    record {
      k = z.k;
      bytes = z.bytes;
      rules = z.rules;
      describes = subst (λ (x : Contents). Describes z.k x) q (laid s z.k z.bytes z.rules);
    }

-- ---- a value is the SEQUENCE of one content
abbrev ShortValue : Optional → Type 0
ShortValue absent = Unit {0}
ShortValue (present v) = length v < LIMIT

sequence_once : (v o p : Optional) → ShortValue v → InSequence v o → InSequence v p → o ≡ p
unfolding sequence
sequence_once absent o p h e f = e ∙ sym f
sequence_once (present v) o p h e f =
    let c = e.0 in
    let d = f.0 in
    let m : length c < LIMIT = omega (arith, ap length e.1, encoded_length 48 c) in
    let n : length d < LIMIT = omega (arith, ap length f.1, encoded_length 48 d) in
    let q : encoding 48 c ++ [] ≡ encoding 48 d ++ [] = ap (λ (l : List ℕ). l ++ []) (sym e.1 ∙ f.1) in
    let z : c ≡ d = (encoding_once 48 c d [] [] refl m n q).0 in
    e.2 ∙ ap present z ∙ sym f.2

value_short : (n : ℕ) (xs : List Extension) → length (extension_list xs) < LIMIT → ShortValue (value_in n xs)
unfolding value_in extension_list extension extension_content octet_string object_identifier sequence
value_short n [] h = tt
value_short n (x ∷ xs) h = go (is_number n x) (value_short n xs (omega (arith, total)))
  where
    total : length (encoding 48 (extension_content x) ++ extension_list xs) ≡ length (encoding 48 (extension_content x)) + length (extension_list xs)
    total = length-append (encoding 48 (extension_content x)) (extension_list xs)

    inner : length x.value ≤ length (extension_content x)
    inner = simp length-append (omega (arith, encoded_length 4 x.value))

    go : (b : Bool) → ShortValue (value_in n xs) → ShortValue (cond b (present x.value) (value_in n xs))
    go true r = omega (arith, total, inner, encoded_length 48 (extension_content x))
    go false r = r

list_short : (es : Extensions) → length (extensions es) < LIMIT → length (extension_list (listed es)) < LIMIT
unfolding extensions listed explicit sequence extension_list
list_short missing h = omega arith
list_short (given xs) h = omega (arith, encoded_length 163 (encoding 48 (extension_list xs)), encoded_length 48 (extension_list xs))

extensions_short : (k : Skeleton) → Readable true k → length (extensions k.extensions) < LIMIT
unfolding certificate_content tbs_certificate sequence tbs_content
extensions_short k rules =
    let a = length-append (encoding 48 (tbs_content k)) (encoding 48 k.algorithm ++ bit_string k.signature) in
    let t : length (extensions k.extensions) ≤ length (tbs_content k) = simp length-append (omega arith) in
    omega (arith, encoded_length 48 (tbs_content k), rules.short)

-- one skeleton has one list of contents
contents_once : (k : Skeleton) → Readable true k → (o p : Contents) → Describes k o → Describes k p → o ≡ p
contents_once k rules o p d e =
    let h = list_short k.extensions (extensions_short k rules) in
    let a : o.issuer ≡ p.issuer = sym d.issuer ∙ e.issuer in
    let b : o.validity ≡ p.validity = sym d.validity ∙ e.validity in
    let c : o.subject ≡ p.subject = sym d.subject ∙ e.subject in
    let f : o.key ≡ p.key = sym d.key ∙ e.key in
    let g = sequence_once (value_in 19 (listed k.extensions)) _ _ (value_short 19 (listed k.extensions) h) d.basic_constraints e.basic_constraints in
    let i = sequence_once (value_in 37 (listed k.extensions)) _ _ (value_short 37 (listed k.extensions) h) d.ext_key_usage e.ext_key_usage in
    let j = sequence_once (value_in 17 (listed k.extensions)) _ _ (value_short 17 (listed k.extensions) h) d.subject_alt_name e.subject_alt_name in
    let l = sequence_once (value_in 30 (listed k.extensions)) _ _ (value_short 30 (listed k.extensions) h) d.name_constraints e.name_constraints in
    same_contents o p a b c f g i j l
  where
    same_contents : (o p : Contents) → o.issuer ≡ p.issuer → o.validity ≡ p.validity → o.subject ≡ p.subject → o.key ≡ p.key
        → o.basic_constraints ≡ p.basic_constraints → o.ext_key_usage ≡ p.ext_key_usage → o.subject_alt_name ≡ p.subject_alt_name → o.name_constraints ≡ p.name_constraints → o ≡ p
    same_contents o p a b c f g i j l = rw (a, b, c, f, g, i, j, l)

pub certificate_reads : (s : List ℕ) (o : Contents) → IsCertificate s o → Reads s o
certificate_reads s o x =
    let k = x.k in
    let e : read_certificate s true ≡ Ok (places k) = rw x.bytes (complete true k x.rules) in
    (places k, e, contents_once k x.rules (contents_of s (places k)) o (laid s k x.bytes x.rules) x.describes)
