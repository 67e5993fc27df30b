-- NEVER WEAKER, a path: what meets the exact relation meets RFC 5280's, but for the one exception. And the subject of the certificate that shows the exception.
-- Assumes nothing.
use mathlib.Core.Path.{refl}
use mathlib.Core.List.{List, [], ◌∷◌}
use mathlib.Core.Logic.{◌⊎◌, inl, inr, ⊎_elim}
use Rattle.der.specs.X690.{encoding, length_bytes}
use Rattle.names.specs.General.{General}
use Rattle.subtrees.specs.Rfc5280Names.{Others, Conforms}
use Rattle.subtrees.specs.ExactNames.{Exactly}
use Rattle.subtrees.proofs.Generals.{each_to, kinds_of}
use Rattle.subtrees.proofs.NeverWeaker.{conforms, nothing}
use Rattle.checks.specs.Conditions.{Optional, absent, present, Contents}
use Rattle.conditions.specs.Conditions.{Each as EachOf}
use Rattle.conditions.specs.Exactly.{Own, Issuers, subject_name, Passes}
use Rattle.conditions.specs.RfcNames.{none, MailIn, MailOf, MailInSubject, Conforming, never_weaker_type}

module _ (other : Others) (permitted excluded : List General) where
  mail_or : (o : Contents) (n : General) → MailOf o n → Conforms other permitted excluded n ⊎ MailInSubject permitted excluded o n
  mail_or o n h =
      ⊎_elim (λ s. inr (record { mail_of = h; entry = inl s }))
      (λ a. ⊎_elim (λ s. inr (record { mail_of = h; entry = inr s })) (λ b. inl (nothing other permitted excluded n a b)) (kinds_of n excluded))
      (kinds_of n permitted)

  passes : (o : Contents) → Passes permitted excluded o → Conforming other permitted excluded o
  passes o x =
      record {
        alternative = x.alternative;
        is = x.is;
        named = x.named;
        conform = each_to (Exactly permitted excluded) (Conforms other permitted excluded) (conforms other permitted excluded) x.alternative x.conform;
        subject = λ h. conforms other permitted excluded (subject_name o) x.subject;
        mail = mail_or o;
      }

  all_pass : (os : List Contents) → EachOf (Passes permitted excluded) os → EachOf (Conforming other permitted excluded) os
  unfolding EachOf
  all_pass [] h = tt
  all_pass (o ∷ os) h = (passes o h.0, all_pass os h.1)

-- ---- a path
module _ (other : Others) where
  own : (c : Optional) (os : List Contents) → Own Passes c os → Own (Conforming other) c os
  own absent os h = tt
  own (present content) os h =
      record { permitted = h.permitted; excluded = h.excluded; is = h.is; short = h.short; rule = all_pass other h.permitted h.excluded os h.rule }

  issuers : (os : List Contents) → Issuers Passes os → Issuers (Conforming other) os
  unfolding Issuers
  issuers [] h = tt
  issuers (o ∷ []) h = tt
  issuers (o ∷ (p ∷ os)) h = (own o.name_constraints (p ∷ os) h.0, issuers (p ∷ os) h.1)

-- THEOREM
pub never_weaker : never_weaker_type
never_weaker other anchor path h = record { anchor_met = own other anchor path h.anchor_met; issuers_met = issuers other path h.issuers_met }

-- ---- D21: the subject of the certificate that shows the exception has a mail address, m@elsewhere
pub d21 : MailIn (49 ∷ 26 ∷ 48 ∷ 24 ∷ 6 ∷ 9 ∷ 42 ∷ 134 ∷ 72 ∷ 134 ∷ 247 ∷ 13 ∷ 1 ∷ 9 ∷ 1 ∷ 22 ∷ 11 ∷ 109 ∷ 64 ∷ 101 ∷ 108 ∷ 115 ∷ 101 ∷ 119 ∷ 104 ∷ 101 ∷ 114 ∷ 101 ∷ [])
    (109 ∷ 64 ∷ 101 ∷ 108 ∷ 115 ∷ 101 ∷ 119 ∷ 104 ∷ 101 ∷ 114 ∷ 101 ∷ [])
unfolding encoding length_bytes
d21 = record { before = []; front = []; back = []; after = []; rows = (none, none); is = refl }
