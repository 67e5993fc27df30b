-- RFC 5280's relation of a mail address and an entry for mail: 4.2.1.6, 4.2.1.10 and 7.5; and what "never weaker" would say with no exception. No reader and no
-- model is named here.
use Rattle.std.specs.Prelude.{ℕ, ◌≡◌, List, [], ◌∷◌, ◌++◌, map, false}
use Rattle.dns.specs.Names.{small}
use Rattle.names.specs.General.{General, among}
use Rattle.subtrees.specs.Rfc5280Names.{Others, NameConstraints, Conforms}
use Rattle.checks.specs.Conditions.{Optional, present, Contents}
use Rattle.checks.specs.Skeletons.{IsCertificate}
use Rattle.conditions.specs.Exactly.{Over, ExactlyMet}
use Rattle.conditions.specs.RfcNames.{rfc822_name, MailOf}

-- 4.2.1.6: a Mailbox is a local part, an at sign and a host, in which there is no other at sign
pub record Mailbox (address local host : List ℕ) : Type 0 where
  pub is : address ≡ local ++ (64 ∷ host)
  pub last : among 64 host ≡ false

-- 7.5: in a host the case of ASCII letters does not count, in a local part it does
abbrev pub SameHost : List ℕ → List ℕ → Type 0
SameHost g h = map small g ≡ map small h

-- 4.2.1.10: the entry is a whole address; or a host, for all addresses at it; or a dot and a domain, for all addresses at hosts below it
pub data MailWithin (address entry : List ℕ) : Type 0 where
  of_mailbox : (local host same : List ℕ) → Mailbox address local host → Mailbox entry local same → SameHost host same → MailWithin address entry
  of_host : (local host : List ℕ) → Mailbox address local host → SameHost host entry → MailWithin address entry
  of_domain : (local host below domain : List ℕ) → Mailbox address local host → entry ≡ 46 ∷ domain → (below ≡ [] → ⊥) → SameHost host (below ++ entry) → MailWithin address entry

-- a relation that has a mail address in an entry only where the RFC has it; of the other kinds it may say anything
abbrev pub MailKept : Others → Type 0
MailKept other = (address entry : List ℕ) → other rfc822_name address entry → MailWithin address entry

-- ---- a witness of the exception: a certificate and constraints that meet the exact relation, and a mail address in the subject that does not meet the RFC's
pub record MailWitness (certificate constraints : List ℕ) : Type 1 where
  pub contents : Contents
  pub readable : IsCertificate certificate contents
  pub met : ExactlyMet (present constraints) (contents ∷ [])
  pub name : General
  pub mail : MailOf contents name
  pub lists : (permitted : List General) × (excluded : List General) × NameConstraints constraints permitted excluded
  pub fails : (other : Others) → MailKept other → (permitted excluded : List General) → NameConstraints constraints permitted excluded → Conforms other permitted excluded name → ⊥

-- mail addresses in a subject conform, with no exception
abbrev pub MailConforms : Others → List General → List General → Contents → Type 0
MailConforms other permitted excluded o = (n : General) → MailOf o n → Conforms other permitted excluded n

-- "never weaker" with no exception is false
abbrev pub exception_needed_type : Type 1
exception_needed_type = (other : Others) → MailKept other → ((anchor : Optional) (path : List Contents) → ExactlyMet anchor path → Over (MailConforms other) anchor path) → ⊥
