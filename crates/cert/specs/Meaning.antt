-- What a certificate says, apart from how it is written; and the one way to write it that DER has. No reader is named here.
use Rattle.std.specs.Prelude.{ℕ, List}
use Rattle.extensions.specs.Meaning.{Said, said, DerExtensions}
use Rattle.cert.specs.Rfc5280.{Skeleton}

-- the contents of the fields, and what the extensions say
pub record Meaning : Type 0 where
  pub serial : List ℕ
  pub algorithm : List ℕ
  pub issuer : List ℕ
  pub validity : List ℕ
  pub subject : List ℕ
  pub key : List ℕ
  pub extensions : List Said
  pub signature : List ℕ

unfoldable pub meaning : Skeleton → Meaning
meaning k =
    record {
      serial = k.serial;
      algorithm = k.algorithm;
      issuer = k.issuer;
      validity = k.validity;
      subject = k.subject;
      key = k.key;
      extensions = said k.extensions;
      signature = k.signature;
    }

-- DER: only the extensions can be written in more than one way
abbrev pub Der : Skeleton → Type 0
Der k = DerExtensions k.extensions
