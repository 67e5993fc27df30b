-- RFC 5280's name constraints, 4.2.1.10, on the contents of a path's certificates, with the one exception by its name. What it is for one name to conform is in
-- `Rfc5280Names.antt` of crate `subtrees`. No reader and no model is named here.
use Rattle.std.specs.Prelude.{ℕ, ◌≡◌, List, [], ◌∷◌, ◌++◌, ◌⊎◌}
use Rattle.der.specs.X690.{encoding}
use Rattle.names.specs.General.{General, Named, encoded, Each}
use Rattle.subtrees.specs.Rfc5280Names.{Others, Some, OfKind, Conforms}
use Rattle.checks.specs.Conditions.{Optional, Contents}
use Rattle.conditions.specs.Conditions.{content_in}
use Rattle.conditions.specs.Exactly.{Over, subject_name, ExactlyMet}

-- ---- 4.2.1.10: where there is no alternative name, an rfc822Name entry applies to an emailAddress in the subject
abbrev pub rfc822_name : ℕ
rfc822_name = 129

-- id-emailAddress, 1.2.840.113549.1.9.1 (appendix A.1), as X.690, 8.19, has it
abbrev pub email_address : List ℕ
email_address = 42 ∷ 134 ∷ 72 ∷ 134 ∷ 247 ∷ 13 ∷ 1 ∷ 9 ∷ 1 ∷ []

-- encodings under one tag, one after the other
pub data Row (tag : ℕ) : List ℕ → Type 0 where
  none : Row tag []
  more : (content : List ℕ) {rest : List ℕ} → Row tag rest → Row tag (encoding tag content ++ rest)

-- 4.1.2.4: Name is a SEQUENCE OF RelativeDistinguishedName, each a SET OF AttributeTypeAndValue, each SEQUENCE { type, value }; EmailAddress ::= IA5String.
-- One of these in the content of a Name; what comes after it need not be read
pub record MailIn (subject address : List ℕ) : Type 0 where
  pub before : List ℕ
  pub front : List ℕ
  pub back : List ℕ
  pub after : List ℕ
  pub rows : Row 49 before × Row 48 front
  pub is : subject ≡ before ++ (encoding 49 (front ++ (encoding 48 (encoding 6 email_address ++ encoding 22 address) ++ back)) ++ after)

-- a mail address that is a name of the certificate by 4.2.1.10. An extension that is there and lists no name counts as none
pub record MailOf (o : Contents) (n : General) : Type 0 where
  pub silent : content_in o.subject_alt_name ≡ []
  pub kind_is : n.kind ≡ rfc822_name
  pub mail : MailIn o.subject n.content

-- THE ONE EXCEPTION (D21): such an address, and an entry of its kind
pub record MailInSubject (permitted excluded : List General) (o : Contents) (n : General) : Type 0 where
  pub mail_of : MailOf o n
  pub entry : Some (OfKind n) permitted ⊎ Some (OfKind n) excluded

-- ---- one certificate: its alternative names; its subject, where it is not empty; mail addresses in its subject
pub record Conforming (other : Others) (permitted excluded : List General) (o : Contents) : Type 0 where
  pub alternative : List General
  pub is : content_in o.subject_alt_name ≡ encoded alternative
  pub named : Each Named alternative
  pub conform : Each (Conforms other permitted excluded) alternative
  pub subject : (o.subject ≡ [] → ⊥) → Conforms other permitted excluded (subject_name o)
  pub mail : (n : General) → MailOf o n → Conforms other permitted excluded n ⊎ MailInSubject permitted excluded o n

-- ---- THEOREM: never weaker than RFC 5280, but for the one exception
abbrev pub never_weaker_type : Type 1
never_weaker_type = (other : Others) (anchor : Optional) (path : List Contents) → ExactlyMet anchor path → Over (Conforming other) anchor path
