-- Which extensions are accepted. These are rules of rustls-webpki: RFC 5280 asks for more (`Conforming.antt`), and leaves to a reader which extensions it knows.
-- No reader is named here.
use Rattle.std.specs.Prelude.{ℕ, ◌+◌, ◌≡◌, List, [], ◌∷◌, Bool, true, false, cond}
use Rattle.extensions.specs.Rfc5280.{Extension, is_critical, id_ce, is_number, sequence}

-- the extensions that are known here, by the last number of id-ce n (RFC 5280, 4.2.1)
pub data KnownNumber : ℕ → Type 0 where
  key_usage : KnownNumber 15
  subject_alt_name : KnownNumber 17
  basic_constraints : KnownNumber 19
  name_constraints : KnownNumber 30
  crl_distribution_points : KnownNumber 31
  ext_key_usage : KnownNumber 37

-- how often extension n is in a list
unfoldable pub occurs : ℕ → List Extension → ℕ
occurs n [] = 0
occurs n (x ∷ xs) = cond (is_number n x) 1 0 + occurs n xs

-- an extension that a reader takes. The value of a known one is a SEQUENCE and nothing else; that of key usage, a BIT STRING, is
-- not looked at. 4.2: one that is not known and critical is refused by a strict reader
pub data Taken (strict : Bool) (x : Extension) : Type 0 where
  usage : x.identifier ≡ id_ce 15 → Taken strict x
  known : (n : ℕ) → KnownNumber n → (n ≡ 15 → ⊥) → x.identifier ≡ id_ce n → (content : List ℕ) → x.value ≡ sequence content → Taken strict x
  other : ((n : ℕ) → KnownNumber n → is_number n x ≡ false) → (strict ≡ true → is_critical x.critical ≡ true → ⊥) → Taken strict x

pub data Each (strict : Bool) : List Extension → Type 0 where
  none : Each strict []
  more : {x : Extension} {xs : List Extension} → Taken strict x → Each strict xs → Each strict (x ∷ xs)

-- 4.2: an extension that is critical is one that is known
abbrev pub Recognized : Extension → Type 0
Recognized x = is_critical x.critical ≡ true → (n : ℕ) × KnownNumber n × (x.identifier ≡ id_ce n)
