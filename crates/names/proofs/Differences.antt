-- D39 of docs/DIFFERENCES.md: names that are not as RFC 5280, 4.2.1.6, demands are passed over when another is wanted. Assumes nothing.
use Prim.Native.Nat.{ℕ}
use mathlib.Core.Path.{◌≡◌, refl, sym, ◌∙◌}
use mathlib.Core.List.{List, [], ◌∷◌, append-nil}
use mathlib.Core.Bool.{true}
use mathlib.Core.Logic.{inl, ⊎_elim}
use lib.ListN.{length}
use lib.Dec.{ltb, lit<}
use native.Mathlib.Omega.{arith}
use borrow.Author.Tests.{ltb-true}
use Rattle.der.specs.Places.{Bytes}
use Rattle.der.specs.X690.{length_bytes, encoding}
use Rattle.labels.specs.Names.{digit, capital, letter, label_byte, every, none, last_of, longer, labels, good_label, host_name, relative, wanted_name, starred, presented_name}
use Rattle.labels.proofs.Labels.{true_false}
use Rattle.dns.proofs.Texts.{both}
use Rattle.ip.proofs.Bits.{bytes_cons}
use Rattle.names.specs.General.{dns_name, ip_address, choices, among, General, Named, encoded, Each, ForDns}
use Rattle.names.specs.Conforming.{directory_name, preferred, ConformingName}
use Rattle.names.specs.Model.{good_for_dns}
use Rattle.der.proofs.Parts.{part_whole}
use Rattle.names.proofs.Once.{names_once}
use Rattle.names.proofs.Wanted.{dns_good}
use Rattle.std.specs.Prelude.{Ok}

bytes_of : (s : List ℕ) → every (λ b. ltb b 256) s ≡ true → Bytes s
unfolding every
bytes_of [] e = λ i. omega arith
bytes_of (x ∷ xs) e = let h = both (ltb x 256) _ e in bytes_cons x xs (ltb-true x 256 h.0) (bytes_of xs h.1)

-- a.b is wanted, and there is a name before it
abbrev wanted : List ℕ
wanted = 97 ∷ 46 ∷ 98 ∷ []

abbrev named : ℕ → List ℕ → General
named k c = record { kind = k; content = c }

abbrev names : ℕ → List ℕ → List General
names k c = named k c ∷ named dns_name wanted ∷ []

-- a witness: the bytes are good for a.b, and no names that are all as the RFC demands have them as their encoding
pub record Weaker (bytes : List ℕ) : Type 0 where
  pub good : good_for_dns bytes 0 (length bytes) wanted ≡ Ok tt
  pub not_conforming : (ns : List General) → Each Named ns → bytes ≡ encoded ns → Each ConformingName ns → ⊥

-- the name a.b is as it demands
wanted_named : Named (named dns_name wanted)
unfolding among choices
wanted_named = record { known = refl; small = lit< tt }

pub wanted_conforming : ConformingName (named dns_name wanted)
unfolding every labels longer preferred letter capital digit
wanted_conforming = record { dns = λ e. refl; address = λ e. absurd (omega (arith, e)); directory = λ e. absurd (omega (arith, e)) }

wanted_found : ForDns wanted (named dns_name wanted)
unfolding digit capital letter label_byte every none last_of longer labels good_label host_name starred presented_name relative
wanted_found = record { kind_is = refl; is_name = refl; stands = inl (refl, refl) }

is_wanted_lem : wanted_name wanted ≡ true
unfolding digit capital letter label_byte every none last_of longer labels good_label host_name wanted_name relative
is_wanted_lem = refl

-- so a name before it that is not makes a witness
weaker : (k : ℕ) (c bytes : List ℕ) → bytes ≡ encoded (names k c) → every (λ b. ltb b 256) bytes ≡ true → Named (named k c) → (ConformingName (named k c) → ⊥) → Weaker bytes
unfolding Each encoded
weaker k c bytes e b n broken =
    record {
      good = (dns_good wanted is_wanted_lem bytes (bytes_of bytes b) 0 (length bytes) (omega arith) (omega arith)).1
          (record {
            before = named k c ∷ [];
            name = named dns_name wanted;
            after = [];
            is = part_whole bytes ∙ e ∙ rw (append-nil (encoding k c)) refl;
            named = ((n, tt), wanted_named);
            holds = wanted_found;
          });
      not_conforming = λ ns each q all. broken (rw (← names_once (names k c) ns (n, (wanted_named, tt)) each (sym e ∙ q)) at all).0;
    }

-- 87 05 0a 00 00 01 05: five octets as an address
pub d39_address : Weaker (135 ∷ 5 ∷ 10 ∷ 0 ∷ 0 ∷ 1 ∷ 5 ∷ 130 ∷ 3 ∷ wanted)
unfolding encoded encoding length_bytes every among choices
d39_address =
    weaker ip_address (10 ∷ 0 ∷ 0 ∷ 1 ∷ 5 ∷ []) _ refl refl (record { known = refl; small = lit< tt })
    (λ c. ⊎_elim (λ e. omega (arith, e)) (λ e. omega (arith, e)) (c.address refl))

-- a4 00: a directory name without a name
pub d39_directory : Weaker (164 ∷ 0 ∷ 130 ∷ 3 ∷ wanted)
unfolding encoded encoding length_bytes every among choices
d39_directory =
    weaker directory_name [] _ refl refl (record { known = refl; small = lit< tt })
    (λ c. let e = (c.directory refl).1 in let z : ◌≡◌ {A = ℕ} 0 1 = cc in omega arith)

-- 82 01 ff: an octet that no DNS name has
pub d39_dns : Weaker (130 ∷ 1 ∷ 255 ∷ 130 ∷ 3 ∷ wanted)
unfolding encoded encoding length_bytes every among choices labels longer preferred letter capital digit
d39_dns = weaker dns_name (255 ∷ []) _ refl refl (record { known = refl; small = lit< tt }) (λ c. true_false (c.dns refl) refl)
