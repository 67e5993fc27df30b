-- The exact relation of one presented name and one issuer's lists: RFC 5280, 4.2.1.10, as it is followed here. It is stricter than the RFC's, and each place
-- where it is names its row of docs/DIFFERENCES.md. No reader and no model is named here.
use Rattle.std.specs.Prelude.{◌*◌, ◌≡◌, List, true, length}
use Rattle.labels.specs.Names.{labels, presented_name, entry_name}
use Rattle.dns.specs.Names.{AllIn, SomeIn}
use Rattle.dns.specs.Stricter.{Stricter}
use Rattle.ip.specs.Addresses.{InSubnet, IsAddress, IsEntry}
use Rattle.ip.specs.Masks.{Masked}
use Rattle.names.specs.General.{dns_name, ip_address, General, Each}
use Rattle.subtrees.specs.Rfc5280Names.{Some, OfKind}

-- ---- the name and an entry of its kind can be compared. Names of any kind but these two cannot: an entry of their kind refuses them (stricter, D23 to
-- D25), a subject among them, even an empty one
pub data Comparable (n e : General) : Type 0 where
  host_names : n.kind ≡ dns_name → presented_name n.content ≡ true → entry_name e.content ≡ true → Comparable n e
  addresses : n.kind ≡ ip_address → IsAddress n.content → IsEntry e.content → (length e.content ≡ length n.content * 2 → Masked n.content e.content)
      → Comparable n e

-- a permitted entry has all that the name stands for
pub data Has (n e : General) : Type 0 where
  has_hosts : n.kind ≡ dns_name → AllIn (labels n.content) (labels e.content) → Has n e
  has_address : n.kind ≡ ip_address → InSubnet n.content e.content → Has n e

-- an excluded one has something that it stands for; `hits_dotted`: or is taken to (stricter, D18)
pub data Hits (n e : General) : Type 0 where
  hits_host : n.kind ≡ dns_name → SomeIn (labels n.content) (labels e.content) → Hits n e
  hits_dotted : n.kind ≡ dns_name → Stricter (labels n.content) (labels e.content) → Hits n e
  hits_address : n.kind ≡ ip_address → InSubnet n.content e.content → Hits n e

-- ---- 6.1.3 (b) and (c), for one issuer's lists
pub record Exactly (permitted excluded : List General) (n : General) : Type 0 where
  -- each entry of its kind, in both lists, can be compared with it; also those after one that has it
  pub comparable : Each (λ e. OfKind n e → Comparable n e) permitted × Each (λ e. OfKind n e → Comparable n e) excluded
  -- (b): if there are permitted entries of its kind, one has it
  pub within : Some (OfKind n) permitted → Some (λ e. OfKind n e × Has n e) permitted
  -- (c): no excluded one does
  pub without : Each (λ e. OfKind n e → Hits n e → ⊥) excluded
