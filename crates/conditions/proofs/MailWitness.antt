-- THE EXCEPTION IS MET (docs/DIFFERENCES.md, D21): a certificate whose subject has the mail address m@elsewhere, under constraints that permit the mail addresses at a.b.
-- Assumes nothing.
use Prim.Native.Nat.{ℕ, zero, suc, ◌+◌}
use mathlib.Core.Path.{◌≡◌, refl, sym, ap, ◌∙◌}
use mathlib.Core.List.{List, [], ◌∷◌}
use mathlib.Core.Bool.{true}
use mathlib.Core.Logic.{inl, inr}
use lib.Dec.{lit<, lit≤}
use lib.ListN.{length, get_or, length-append, length-map}
use lib.Seq.{get_or-append-add}
use native.Mathlib.Omega.{arith}
use Rattle.der.specs.X690.{length_bytes, encoding}
use Rattle.extensions.specs.Rfc5280.{sequence, explicit, missing, extensions, listed}
use Rattle.cert.specs.Rfc5280.{integer, bit_string, Skeleton, version, tbs_content, tbs_certificate, certificate_content, certificate}
use Rattle.dns.specs.Names.{small}
use Rattle.names.specs.General.{choices, among, General, encoded, Each}
use Rattle.subtrees.specs.Rfc5280Names.{subtrees, absent, present as given, NameConstraints, value, Means, Others, In, Some, OfKind, Conforms}
use Rattle.checks.specs.Conditions.{absent as unsaid, present, Contents}
use Rattle.checks.specs.Skeletons.{value_in, IsCertificate}
use Rattle.conditions.specs.Conditions.{content_in, Each as EachOf}
use Rattle.conditions.specs.Exactly.{Issuers, subject_name, ExactlyMet}
use Rattle.conditions.specs.RfcNames.{MailOf}
use Rattle.conditions.specs.RfcMail.{Mailbox, MailWithin, of_mailbox, of_host, of_domain, MailKept, MailWitness, exception_needed_type}
use Rattle.subtrees.proofs.Once.{constraints_once}
use Rattle.conditions.proofs.NeverWeaker.{d21}
use Rattle.extensions.specs.Accepted.{occurs, none as no_extension}
use Rattle.cert.specs.Accepted.{Readable}
use Rattle.subtrees.specs.ExactNames.{Exactly}

-- ---- the bytes
abbrev pub d21_certificate : List ℕ
d21_certificate =
    48 ∷ 119 ∷ 48 ∷ 105 ∷ 160 ∷ 3 ∷ 2 ∷ 1 ∷ 2 ∷ 2 ∷ 1 ∷ 1 ∷ 48 ∷ 5 ∷ 6 ∷ 3 ∷ 42 ∷ 3 ∷ 4 ∷ 48 ∷ 12 ∷ 49 ∷ 10 ∷ 48 ∷ 8 ∷ 6 ∷ 3 ∷ 85 ∷ 4 ∷ 3 ∷ 12 ∷ 1 ∷ 82
    ∷ 48 ∷ 30 ∷ 23 ∷ 13 ∷ 50 ∷ 48 ∷ 48 ∷ 49 ∷ 48 ∷ 49 ∷ 48 ∷ 48 ∷ 48 ∷ 48 ∷ 48 ∷ 48 ∷ 90 ∷ 23 ∷ 13 ∷ 52 ∷ 48 ∷ 48 ∷ 49 ∷ 48 ∷ 49 ∷ 48 ∷ 48 ∷ 48 ∷ 48 ∷ 48 ∷ 48 ∷ 90
    ∷ 48 ∷ 28 ∷ 49 ∷ 26 ∷ 48 ∷ 24 ∷ 6 ∷ 9 ∷ 42 ∷ 134 ∷ 72 ∷ 134 ∷ 247 ∷ 13 ∷ 1 ∷ 9 ∷ 1 ∷ 22 ∷ 11 ∷ 109 ∷ 64 ∷ 101 ∷ 108 ∷ 115 ∷ 101 ∷ 119 ∷ 104 ∷ 101 ∷ 114 ∷ 101
    ∷ 48 ∷ 12 ∷ 48 ∷ 5 ∷ 6 ∷ 3 ∷ 42 ∷ 3 ∷ 4 ∷ 3 ∷ 3 ∷ 0 ∷ 107 ∷ 101 ∷ 48 ∷ 5 ∷ 6 ∷ 3 ∷ 42 ∷ 3 ∷ 4 ∷ 3 ∷ 3 ∷ 0 ∷ 107 ∷ 114 ∷ []

abbrev pub d21_constraints : List ℕ
d21_constraints = 160 ∷ 7 ∷ 48 ∷ 5 ∷ 129 ∷ 3 ∷ 97 ∷ 46 ∷ 98 ∷ []

-- ---- what they are
abbrev skeleton : Skeleton
skeleton =
    record {
      serial = 1 ∷ [];
      algorithm = 6 ∷ 3 ∷ 42 ∷ 3 ∷ 4 ∷ [];
      issuer = 49 ∷ 10 ∷ 48 ∷ 8 ∷ 6 ∷ 3 ∷ 85 ∷ 4 ∷ 3 ∷ 12 ∷ 1 ∷ 82 ∷ [];
      validity = 23 ∷ 13 ∷ 50 ∷ 48 ∷ 48 ∷ 49 ∷ 48 ∷ 49 ∷ 48 ∷ 48 ∷ 48 ∷ 48 ∷ 48 ∷ 48 ∷ 90 ∷ 23 ∷ 13 ∷ 52 ∷ 48 ∷ 48 ∷ 49 ∷ 48 ∷ 49 ∷ 48 ∷ 48 ∷ 48 ∷ 48 ∷ 48 ∷ 48 ∷ 90 ∷ [];
      subject = 49 ∷ 26 ∷ 48 ∷ 24 ∷ 6 ∷ 9 ∷ 42 ∷ 134 ∷ 72 ∷ 134 ∷ 247 ∷ 13 ∷ 1 ∷ 9 ∷ 1 ∷ 22 ∷ 11 ∷ 109 ∷ 64 ∷ 101 ∷ 108 ∷ 115 ∷ 101 ∷ 119 ∷ 104 ∷ 101 ∷ 114 ∷ 101 ∷ [];
      key = 48 ∷ 5 ∷ 6 ∷ 3 ∷ 42 ∷ 3 ∷ 4 ∷ 3 ∷ 3 ∷ 0 ∷ 107 ∷ 101 ∷ [];
      extensions = missing;
      signature = 107 ∷ 114 ∷ [];
    }

abbrev contents : Contents
contents =
    record {
      issuer = skeleton.issuer;
      validity = skeleton.validity;
      subject = skeleton.subject;
      key = skeleton.key;
      basic_constraints = unsaid;
      ext_key_usage = unsaid;
      subject_alt_name = unsaid;
      name_constraints = unsaid;
    }

bytes_are : d21_certificate ≡ certificate skeleton
unfolding certificate certificate_content tbs_certificate tbs_content version explicit integer sequence bit_string extensions encoding length_bytes
bytes_are = refl

rules : Readable true skeleton
unfolding certificate_content tbs_certificate tbs_content version explicit integer sequence bit_string extensions encoding length_bytes listed occurs
rules = record { short = lit< tt; each = no_extension; once = λ n k. lit≤ tt }

is_certificate : IsCertificate d21_certificate contents
unfolding value_in listed
is_certificate =
    record {
      k = skeleton;
      bytes = bytes_are;
      rules = rules;
      describes = record { issuer = refl; validity = refl; subject = refl; key = refl; basic_constraints = refl; ext_key_usage = refl; subject_alt_name = refl; name_constraints = refl };
    }

abbrev entry : General
entry = record { kind = 129; content = 97 ∷ 46 ∷ 98 ∷ [] }

abbrev mail : General
mail = record { kind = 129; content = 109 ∷ 64 ∷ 101 ∷ 108 ∷ 115 ∷ 101 ∷ 119 ∷ 104 ∷ 101 ∷ 114 ∷ 101 ∷ [] }

constraints_are : NameConstraints d21_constraints (entry ∷ []) []
unfolding subtrees encoding length_bytes Each among choices
constraints_are =
    record {
      first = d21_constraints;
      second = [];
      is = refl;
      permitted_is = given refl;
      excluded_is = absent refl refl;
      named = ((record { known = refl; small = lit< tt }, tt), tt);
    }

mail_of : MailOf contents mail
unfolding content_in
mail_of = record { silent = refl; kind_is = refl; mail = d21 }

-- ---- the exact relation: the subject is a directory name, and there is no entry for one
subject_exact : Exactly (entry ∷ []) [] (subject_name contents)
unfolding Each Some
subject_exact =
    record {
      comparable = ((λ k. absurd (omega (arith, k)), tt), tt);
      within = λ some. absurd (other_kind some);
      without = tt;
    }
  where
    other_kind : Some (OfKind (subject_name contents)) (entry ∷ []) → ⊥
    other_kind (inl k) = omega (arith, k)
    other_kind (inr k) = k

exactly_met : ExactlyMet (present d21_constraints) (contents ∷ [])
unfolding Issuers EachOf Each encoded content_in subtrees encoding length_bytes
exactly_met =
    record {
      anchor_met =
          record {
            permitted = entry ∷ [];
            excluded = [];
            is = constraints_are;
            short = (lit< tt, lit< tt);
            rule = (record { alternative = []; is = refl; named = tt; conform = tt; subject = subject_exact }, tt);
          };
      issuers_met = tt;
    }

-- ---- RFC 5280's: m@elsewhere is not at a.b
at_sign : (address local host : List ℕ) → Mailbox address local host → get_or address (length local + 0) 0 ≡ 64
at_sign address local host m = ap (λ (l : List ℕ). get_or l (length local + 0) 0) m.is ∙ get_or-append-add local (64 ∷ host) 0 0

sizes : (address local host : List ℕ) → Mailbox address local host → length address ≡ length local + (1 + length host)
sizes address local host m = ap length m.is ∙ length-append local (64 ∷ host) ∙ omega arith

no_at_sign : (i : ℕ) → get_or entry.content i 0 ≡ 64 → ⊥
no_at_sign zero e = omega arith
no_at_sign (suc zero) e = omega arith
no_at_sign (suc (suc zero)) e = omega arith
no_at_sign (suc (suc (suc i))) e = omega arith

elsewhere : MailWithin mail.content entry.content → ⊥
elsewhere (of_mailbox local host same m n s) = no_at_sign (length local + 0) (at_sign entry.content local same n)
elsewhere (of_host local host m s) =
    let n : length host ≡ 3 = sym (length-map host small) ∙ ap length s in
    let l : length local + 0 ≡ 7 = omega (arith, sizes mail.content local host m) in
    let z : ◌≡◌ {A = ℕ} 104 64 = ap (λ (i : ℕ). get_or mail.content i 0) (sym l) ∙ at_sign mail.content local host m in
    omega arith
elsewhere (of_domain local host below domain m e b s) = let z : ◌≡◌ {A = ℕ} 97 46 = cc in omega arith

fails : (other : Others) → MailKept other → Conforms other (entry ∷ []) [] mail → ⊥
unfolding Means Some In
fails other kept c = go (c.within (value mail.content) (λ k. absurd (omega (arith, k)), refl) (inl refl))
  where
    inside : In other entry (value mail.content) → ⊥
    inside (inl i) = omega (arith, i.0)
    inside (inr i) = elsewhere (kept mail.content entry.content i.1)

    go : Some (λ e. OfKind mail e × In other e (value mail.content)) (entry ∷ []) → ⊥
    go (inl h) = inside h.1
    go (inr h) = h

all_fail : (other : Others) → MailKept other → (permitted excluded : List General) → NameConstraints d21_constraints permitted excluded → Conforms other permitted excluded mail → ⊥
all_fail other kept p e is c =
    let one = constraints_once d21_constraints p e (entry ∷ []) [] is constraints_are in
    fails other kept (rw (one.0, one.1) at c)

-- THEOREM: the witness
pub d21_witness : MailWitness d21_certificate d21_constraints
d21_witness =
    record {
      contents = contents;
      readable = is_certificate;
      met = exactly_met;
      name = mail;
      mail = mail_of;
      lists = (entry ∷ [], [], constraints_are);
      fails = all_fail;
    }

-- THEOREM: with no exception "never weaker" is false
pub exception_needed : exception_needed_type
unfolding EachOf
exception_needed other kept h =
    let m = (h (present d21_constraints) (contents ∷ []) exactly_met).anchor_met in
    all_fail other kept m.permitted m.excluded m.is (m.rule.0 mail mail_of)
