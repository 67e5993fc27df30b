-- WEAKER: paths that stand and that RFC 5280, 6.1, refuses (docs/DIFFERENCES.md, D10, D31, D36, D46). They differ in one extension of the issuer. Assumes nothing.
use Prim.Native.Nat.{ℕ, ◌<◌, ◌≤◌}
use mathlib.Core.Path.{◌≡◌, refl, sym, ap, ◌∙◌}
use mathlib.Core.List.Memᴰ
use mathlib.Core.List.{List, [], ◌∷◌, ◌++◌, map, append-nil}
use mathlib.Core.Bool.{Bool, true, false, cond}
use mathlib.Core.Logic.{◌⊎◌, inl, inr}
use lib.Dec.{lit<, lit≤}
use lib.ListN.{length, get_or}
use native.Mathlib.Omega.{arith}
use Rattle.der.specs.X690.{big_endian, octets_of, length_bytes, encoding, value_of, bit}
use Rattle.parts.proofs.Equal.{same_refl}
use Rattle.extensions.specs.Rfc5280.{octet_string, object_identifier, sequence, explicit, boolean, written, unwritten, is_critical, Extension, missing, present as given, criticality, extension_content}
use Rattle.extensions.specs.Rfc5280.{extension, extension_list, extensions, id_ce, is_number, listed}
use Rattle.cert.specs.Rfc5280.{integer, bit_string, Skeleton, version, tbs_content, tbs_certificate, certificate_content, certificate, key_content}
use Rattle.cert.proofs.Unique.{unique}
use Rattle.extensions.proofs.Unique.{last_in}
use Rattle.moment.specs.Calendar.{leap_year, days_of_year, month_lengths, days_of_month, days_of_years, days_of_months, days_to, seconds_to, utc, tag_of, two_digits, after_year, text, full_year, Writes, IsTime}
use Rattle.subtrees.proofs.Once.{inner_once}
use Rattle.lent.specs.Lent.{certificate_of}
use Rattle.checks.specs.Conditions.{absent, present, Contents, InValidity, unbounded, written as said, none as no_limit}
use Rattle.checks.specs.Skeletons.{value_in, IsCertificate}
use Rattle.asked.specs.Questions.{of_anchor, from_certificate, Opens}
use Rattle.conditions.specs.Request.{Request}
use Rattle.conditions.specs.Conditions.{Each, InPlace, Chain, Apart, Numbers, Readable as AllReadable, Signed}
use Rattle.conditions.specs.Exactly.{Issuers, constraints_of}
use Rattle.conditions.specs.Meets.{Stands}
use Rattle.conditions.specs.Rfc5280Path.{Certificate, World, Inputs, MaySign, Onward, Validates}
use Rattle.conditions.specs.Rfc5280Path.{Handled, not_critical, key_usage as as_usage, subject_alt_name as as_names, basic_constraints as as_basic, name_constraints as as_constraints, elsewhere}
use Rattle.conditions.specs.Witnesses.{Weaker, AtOnce, ExplicitPolicy}
use Rattle.der.specs.Places.{LIMIT}
use Rattle.parts.specs.Lists.{same_list, Every}
use Rattle.extensions.specs.Accepted.{occurs, Taken, usage, known, other, none as no_extension, more as one_extension, KnownNumber, key_usage, subject_alt_name, basic_constraints, name_constraints, crl_distribution_points, ext_key_usage}
use Rattle.dialogue.specs.Log.{What}

-- ---- the certificates
-- a Name of one common name, which is one letter
abbrev name : ℕ → List ℕ
name letter = 49 ∷ 10 ∷ 48 ∷ 8 ∷ 6 ∷ 3 ∷ 85 ∷ 4 ∷ 3 ∷ 12 ∷ 1 ∷ letter ∷ []

abbrev algorithm : List ℕ
algorithm = 6 ∷ 3 ∷ 42 ∷ 3 ∷ 4 ∷ []

abbrev key_bits : ℕ → List ℕ
key_bits n = 48 ∷ 5 ∷ 6 ∷ 3 ∷ 42 ∷ 3 ∷ 4 ∷ 3 ∷ 2 ∷ 0 ∷ n ∷ []

-- 200101000000Z, which is both ends of each validity, and the time of the request
abbrev moment : List ℕ
moment = 23 ∷ 13 ∷ 50 ∷ 48 ∷ 48 ∷ 49 ∷ 48 ∷ 49 ∷ 48 ∷ 48 ∷ 48 ∷ 48 ∷ 48 ∷ 48 ∷ 90 ∷ []

-- critical basic constraints: a CA
abbrev authority : Extension
authority = record { identifier = id_ce 19; critical = written true; value = 48 ∷ 3 ∷ 1 ∷ 1 ∷ 255 ∷ [] }

-- the issuer: I, issued by the anchor R, with one extension more
abbrev pub issuer_with : Extension → Skeleton
issuer_with x =
    record {
      serial = 1 ∷ [];
      algorithm = algorithm;
      issuer = name 82;
      validity = moment ++ moment;
      subject = name 73;
      key = key_bits 73;
      extensions = given (authority ∷ x ∷ []);
      signature = 1 ∷ [];
    }

-- the end entity: E, issued by I
abbrev pub end_entity : Skeleton
end_entity =
    record {
      serial = 2 ∷ [];
      algorithm = algorithm;
      issuer = name 73;
      validity = moment ++ moment;
      subject = name 69;
      key = key_bits 69;
      extensions = missing;
      signature = 2 ∷ [];
    }

-- the anchor R, the issuer and the end entity, at that moment; no purpose is demanded, and no name is wanted
abbrev pub request_with : Extension → Request
request_with x =
    record {
      issuers = certificate (issuer_with x) ∷ [];
      end = certificate end_entity;
      subjects = name 82 ∷ [];
      keys = key_bits 82 ∷ [];
      constraints = [];
      bound = [];
      distrusted = [];
      time = 1577836800;
      purpose = [];
      demanded = false;
      kind = 0;
      name = [];
    }

-- the anchor is number 0, the issuer 1, the end entity 2
abbrev pub path : List ℕ
path = 1 ∷ 2 ∷ []

-- ---- they can be read
abbrev issuer_contents : Contents
issuer_contents =
    record {
      issuer = name 82;
      validity = moment ++ moment;
      subject = name 73;
      key = key_bits 73;
      basic_constraints = present (1 ∷ 1 ∷ 255 ∷ []);
      ext_key_usage = absent;
      subject_alt_name = absent;
      name_constraints = absent;
    }

abbrev end_contents : Contents
end_contents =
    record {
      issuer = name 73;
      validity = moment ++ moment;
      subject = name 69;
      key = key_bits 69;
      basic_constraints = absent;
      ext_key_usage = absent;
      subject_alt_name = absent;
      name_constraints = absent;
    }

end_is : IsCertificate (certificate end_entity) end_contents
unfolding certificate_content tbs_certificate tbs_content version explicit integer sequence bit_string extensions encoding length_bytes listed occurs value_in
end_is =
    record {
      k = end_entity;
      bytes = refl;
      rules = record { short = lit< tt; each = no_extension; once = λ n k. lit≤ tt };
      describes = record { issuer = refl; validity = refl; subject = refl; key = refl; basic_constraints = refl; ext_key_usage = refl; subject_alt_name = refl; name_constraints = refl };
    }

-- an extension that can stand beside basic constraints, and says nothing of purposes and names
record Beside (x : Extension) : Type 0 where
  taken : Taken true x
  short : length (certificate_content (issuer_with x)) < LIMIT
  no_names : is_number 17 x ≡ false
  no_basic : is_number 19 x ≡ false
  no_constraints : is_number 30 x ≡ false
  no_purposes : is_number 37 x ≡ false

few : (t : Bool) → cond t 1 0 ≤ 1
few true = lit≤ tt
few false = lit≤ tt

-- ---- the time
is_moment : IsTime utc moment 1577836800
unfolding leap_year days_of_year month_lengths days_of_month days_of_years days_of_months days_to seconds_to tag_of two_digits after_year text full_year Writes encoding length_bytes
is_moment =
    record {
      date = record { year = 2020; month = 1; day = 1; hour = 0; minute = 0; second = 0 };
      real = record { month_first = lit≤ tt; month_last = lit≤ tt; day_first = lit≤ tt; day_last = lit≤ tt; hour_last = lit≤ tt; minute_last = lit≤ tt; second_last = lit≤ tt };
      since = lit≤ tt;
      writes = refl;
      encoded = refl;
      count = refl;
    }

valid : InValidity (moment ++ moment) 1577836800
valid =
    record {
      first = moment;
      second = moment;
      whole = refl;
      not_before = 1577836800;
      not_after = 1577836800;
      begins = inl is_moment;
      ends = inl is_moment;
      begun = lit≤ tt;
      lasting = lit≤ tt;
    }

yes_or_no : (t : Bool) → (t ≡ true) ⊎ (t ≡ true → ⊥)
yes_or_no true = inl refl
yes_or_no false = inr (λ e. let z : ◌≡◌ {A = ℕ} 0 1 = cc in omega arith)

-- a world in which every certificate is revoked, policies are as explicit as they must be, and nothing else is processed
abbrev narrow : World
narrow =
    record {
      SameName = λ a b. same_list a b ≡ true;
      itself = same_refl;
      told = λ a b. yes_or_no (same_list a b);
      Verifies = λ key bytes. Unit {0};
      NotRevoked = λ c. ⊥;
      Policies = ExplicitPolicy;
      other = λ kind n e. ⊥;
      Processed = λ x. ⊥;
    }

-- a certificate with these bytes has this skeleton
one_skeleton : (c : Certificate) (k : Skeleton) → length (certificate_content k) < LIMIT → c.bytes ≡ certificate k → c.skeleton ≡ k
unfolding certificate sequence
one_skeleton c k short e =
    let own = certificate_content c.skeleton in
    let f : encoding 48 own ++ [] ≡ encoding 48 (certificate_content k) ++ [] = ap (λ (l : List ℕ). l ++ []) (sym c.encodes ∙ e) in
    let same : own ≡ certificate_content k = sym (append-nil own) ∙ inner_once 48 48 own (certificate_content k) [] [] f ∙ append-nil (certificate_content k) in
    unique c.skeleton k (rw same short) short (sym c.encodes ∙ e)

module _ (x : Extension) (b : Beside x) where
  once : (n : ℕ) → KnownNumber n → occurs n (authority ∷ x ∷ []) ≤ 1
  unfolding occurs is_number same_list
  once n key_usage = omega (arith, few (is_number 15 x))
  once n subject_alt_name = omega (arith, few (is_number 17 x))
  once n basic_constraints = rw b.no_basic (lit≤ tt)
  once n name_constraints = omega (arith, few (is_number 30 x))
  once n crl_distribution_points = omega (arith, few (is_number 31 x))
  once n ext_key_usage = omega (arith, few (is_number 37 x))

  issuer_is : IsCertificate (certificate (issuer_with x)) issuer_contents
  unfolding listed value_in is_number same_list sequence encoding length_bytes
  issuer_is =
      record {
        k = issuer_with x;
        bytes = refl;
        rules = record { short = b.short; each = one_extension (known 19 basic_constraints (λ e. omega arith) refl (1 ∷ 1 ∷ 255 ∷ []) refl) (one_extension b.taken no_extension); once = once };
        describes =
            record {
              issuer = refl;
              validity = refl;
              subject = refl;
              key = refl;
              basic_constraints = (1 ∷ 1 ∷ 255 ∷ [], refl, refl);
              ext_key_usage = rw b.no_purposes refl;
              subject_alt_name = rw b.no_names refl;
              name_constraints = rw b.no_constraints refl;
            };
      }

  -- ---- the path stands
  anchor_opens : Opens (request_with x).issuers (request_with x).end (request_with x).keys 1 0
  unfolding key_content sequence bit_string encoding length_bytes
  anchor_opens = record { key = key_bits 82; is = of_anchor (lit< tt) (lit< tt) refl; algorithm = algorithm; bits = 82 ∷ []; content = refl; algorithm_short = lit< tt; bits_short = lit< tt }

  issuer_opens : Opens (request_with x).issuers (request_with x).end (request_with x).keys 1 1
  unfolding certificate_of key_content sequence bit_string encoding length_bytes
  issuer_opens =
      record { key = key_bits 73; is = from_certificate (lit≤ tt) issuer_contents issuer_is refl; algorithm = algorithm; bits = 73 ∷ []; content = refl; algorithm_short = lit< tt; bits_short = lit< tt }

  stands : (Yes : ℕ → What → Type 0) → ((key : ℕ) (what : What) → Yes key what) → Stands (request_with x) Yes 0 path
  unfolding Numbers AllReadable Chain Each InPlace Apart Signed Issuers constraints_of certificate_of encoding length_bytes
  stands Yes always =
      record {
        numbers = (lit≤ tt, lit< tt, refl);
        few = lit≤ tt;
        anchored = lit< tt;
        keyed = lit< tt;
        whole = λ h. absurd (h refl);
        contents = issuer_contents ∷ end_contents ∷ [];
        readable = (issuer_is, (end_is, tt));
        chained = (refl, (refl, tt));
        trusted = (λ k m e. Memᴰ.not-nil m, (λ k m e. Memᴰ.not-nil m, tt));
        anchor_trusted = λ k m e. Memᴰ.not-nil m;
        valid = (valid, (valid, tt));
        placed = ((unbounded, record { first = 1 ∷ 1 ∷ 255 ∷ []; second = []; whole = refl; says = said refl; limits = no_limit refl refl }, tt), (unbounded, (refl, refl)));
        purposed = (refl, (refl, tt));
        apart = ((λ s. absurd (let z : ◌≡◌ {A = ℕ} 73 69 = ap (λ (l : List ℕ). get_or l 11 0) s.0 in omega arith), tt), (tt, tt));
        signed = (anchor_opens, always _ _, (issuer_opens, always _ _, tt));
        constrained = record { anchor_met = tt; issuers_met = (tt, tt) };
      }

  -- ---- a list of certificates with its bytes is these two
  abbrev bytes_of : List Certificate → List (List ℕ)
  bytes_of cs = map (λ (c : Certificate). c.bytes) cs

  two : (P : List Certificate → Type 0) → ((c d : Certificate) → c.bytes ≡ certificate (issuer_with x) → d.bytes ≡ certificate end_entity → P (c ∷ d ∷ []) → ⊥)
      → (cs : List Certificate) → bytes_of cs ≡ certificate (issuer_with x) ∷ certificate end_entity ∷ [] → P cs → ⊥
  two P f [] e p = let z : ◌≡◌ {A = ℕ} 0 1 = cc in omega arith
  two P f (c ∷ []) e p = let z : ◌≡◌ {A = ℕ} 0 1 = cc in omega arith
  two P f (c ∷ (d ∷ [])) e p = f c d (cc) (cc) p
  two P f (c ∷ (d ∷ (g ∷ cs))) e p = let z : ◌≡◌ {A = ℕ} 0 1 = cc in omega arith

  weaker : (Kind : World → Type 0) → Kind narrow
      → ((W : World) → Kind W → (I : Inputs) (c d : Certificate) → c.skeleton ≡ issuer_with x → d.bytes ≡ certificate end_entity → Validates W I (c ∷ d ∷ []) → ⊥)
      → Weaker (request_with x) path Kind
  unfolding certificate_of
  weaker Kind n f =
      record {
        world = narrow;
        has_kind = n;
        stands = stands;
        fails = λ W k I cs e v. two (Validates W I) (λ c d p q. f W k I c d (one_skeleton c (issuer_with x) b.short p) q) cs e v;
      }

-- ---- the one extension
-- key usage: digitalSignature alone
abbrev pub no_signer : Extension
no_signer = record { identifier = id_ce 15; critical = written true; value = 3 ∷ 2 ∷ 7 ∷ 128 ∷ [] }

-- key usage: keyCertSign
abbrev pub signer : Extension
signer = record { identifier = id_ce 15; critical = written true; value = 3 ∷ 2 ∷ 2 ∷ 4 ∷ [] }

-- distribution points: one, at http://a.b/
abbrev pub points : Extension
points =
    record {
      identifier = id_ce 31;
      critical = written true;
      value = 48 ∷ 19 ∷ 48 ∷ 17 ∷ 160 ∷ 15 ∷ 160 ∷ 13 ∷ 134 ∷ 11 ∷ 104 ∷ 116 ∷ 116 ∷ 112 ∷ 58 ∷ 47 ∷ 47 ∷ 97 ∷ 46 ∷ 98 ∷ 47 ∷ [];
    }

-- policy constraints: an explicit policy is required at once
abbrev pub policy : Extension
policy = record { identifier = id_ce 36; critical = unwritten; value = 48 ∷ 3 ∷ 128 ∷ 1 ∷ 0 ∷ [] }

shorts : (length (certificate_content (issuer_with no_signer)) < LIMIT) × (length (certificate_content (issuer_with signer)) < LIMIT)
    × (length (certificate_content (issuer_with points)) < LIMIT) × (length (certificate_content (issuer_with policy)) < LIMIT)
unfolding certificate_content tbs_certificate tbs_content version explicit integer sequence bit_string extensions extension_list extension extension_content object_identifier octet_string criticality
    boolean big_endian octets_of length_bytes encoding
shorts = (lit< tt, lit< tt, lit< tt, lit< tt)

-- ---- D31: an issuer whose key usage, digitalSignature alone, does not let it sign certificates; 6.1.4 (n) fails in every world
no_signer_beside : Beside no_signer
unfolding is_number same_list
no_signer_beside = record { taken = usage refl; short = shorts.0; no_names = refl; no_basic = refl; no_constraints = refl; no_purposes = refl }

may_not : MaySign (present (3 ∷ 2 ∷ 7 ∷ 128 ∷ [])) → ⊥
unfolding bit encoding length_bytes
may_not (unused, octets, is, string, one) =
    let e = (last_in 3 (7 ∷ 128 ∷ []) (unused ∷ octets) refl (lit< tt) is).0 in
    let o : octets ≡ 128 ∷ [] = cc in
    let z : ◌≡◌ {A = ℕ} 0 1 = rw o at one in
    omega arith

pub d31 : Weaker (request_with no_signer) path (λ W. Unit {0})
unfolding Onward listed value_in is_number same_list
d31 = weaker no_signer no_signer_beside (λ W. Unit {0}) tt (λ W u I c d p q v. may_not (rw p at v.steps.1.1.may_sign))

-- ---- D10: an issuer with critical distribution points, in a world in which nothing processes them: 6.1.4 (o)
points_beside : Beside points
unfolding sequence encoding length_bytes is_number same_list
points_beside =
    record {
      taken = known 31 crl_distribution_points (λ e. omega arith) refl (48 ∷ 17 ∷ 160 ∷ 15 ∷ 160 ∷ 13 ∷ 134 ∷ 11 ∷ 104 ∷ 116 ∷ 116 ∷ 112 ∷ 58 ∷ 47 ∷ 47 ∷ 97 ∷ 46 ∷ 98 ∷ 47 ∷ []) refl;
      short = shorts.2;
      no_names = refl;
      no_basic = refl;
      no_constraints = refl;
      no_purposes = refl;
    }

unhandled : (W : World) → (W.Processed points → ⊥) → Handled W points → ⊥
unfolding is_critical is_number same_list
unhandled W n (not_critical e) = let z : ◌≡◌ {A = ℕ} 0 1 = cc in omega arith
unhandled W n (as_usage e) = let z : ◌≡◌ {A = ℕ} 0 1 = cc in omega arith
unhandled W n (as_names e) = let z : ◌≡◌ {A = ℕ} 0 1 = cc in omega arith
unhandled W n (as_basic e) = let z : ◌≡◌ {A = ℕ} 0 1 = cc in omega arith
unhandled W n (as_constraints e) = let z : ◌≡◌ {A = ℕ} 0 1 = cc in omega arith
unhandled W n (elsewhere p) = n p

pub d10 : Weaker (request_with points) path (λ W. W.Processed points → ⊥)
unfolding Onward Every listed
d10 = weaker points points_beside (λ W. W.Processed points → ⊥) (λ p. p) (λ W n I c d p q v. unhandled W n (rw p at v.steps.1.1.handled).1.0)

-- ---- D36: an issuer that requires an explicit policy at once, not critical, and an end entity without policies, in a world in which policies are processed: 6.1.4 (i)
unknown : (n : ℕ) → KnownNumber n → is_number n policy ≡ false
unfolding is_number same_list
unknown n key_usage = refl
unknown n subject_alt_name = refl
unknown n basic_constraints = refl
unknown n name_constraints = refl
unknown n crl_distribution_points = refl
unknown n ext_key_usage = refl

policy_beside : Beside policy
unfolding is_number same_list is_critical
policy_beside =
    record {
      taken = other unknown (λ s e. let z : ◌≡◌ {A = ℕ} 0 1 = cc in omega arith);
      short = shorts.3;
      no_names = refl;
      no_basic = refl;
      no_constraints = refl;
      no_purposes = refl;
    }

at_once : AtOnce (present (48 ∷ 3 ∷ 128 ∷ 1 ∷ 0 ∷ []))
unfolding sequence encoding length_bytes value_of
at_once = (0 ∷ [], [], record { some = lit≤ tt; positive = lit< tt; value = refl; shortest = λ h e. omega arith }, refl)

end_short : length (certificate_content end_entity) < LIMIT
unfolding certificate_content tbs_certificate tbs_content version explicit integer sequence bit_string extensions encoding length_bytes
end_short = lit< tt

pub d36 : Weaker (request_with policy) path (λ W. (cs : List Certificate) → W.Policies cs → ExplicitPolicy cs)
unfolding ExplicitPolicy listed value_in is_number same_list
d36 =
    weaker policy policy_beside (λ W. (cs : List Certificate) → W.Policies cs → ExplicitPolicy cs) (λ cs p. p)
    (λ W k I c d p q v. (k (c ∷ d ∷ []) v.policies).0 (rw p at_once) (rw (one_skeleton d end_entity end_short q) refl))

-- ---- D46: nothing is out of order but that the end entity is revoked: 6.1.3 (a) (3)
signer_beside : Beside signer
unfolding is_number same_list
signer_beside = record { taken = usage refl; short = shorts.1; no_names = refl; no_basic = refl; no_constraints = refl; no_purposes = refl }

pub d46 : Weaker (request_with signer) path (λ W. (c : Certificate) → c.bytes ≡ certificate end_entity → W.NotRevoked c → ⊥)
unfolding Onward
d46 =
    weaker signer signer_beside (λ W. (c : Certificate) → c.bytes ≡ certificate end_entity → W.NotRevoked c → ⊥) (λ c e p. p)
    (λ W k I c d p q v. k d q v.steps.1.2.0.not_revoked)
