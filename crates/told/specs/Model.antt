-- What a caller is told of a question and of an anchor.
use Rattle.std.specs.Prelude.{ℕ, cond, Err, Ok, Result}
use Rattle.der.specs.declared.Span.{Span}
use Rattle.told.specs.declared.Asked.{Asked}
use Rattle.told.specs.declared.Trusted.{Trusted}
use Rattle.cert.specs.declared.TrustAnchor.{TrustAnchor}
use Rattle.cert.specs.declared.key.Key.{Key}
use Rattle.asked.specs.declared.Question.{Question}

abbrev pub nowhere : Span
nowhere = record { start = 0; end = 0 }

abbrev pub filled_of : ℕ → ℕ → Span → Span → Span → Span → Span → ℕ → ℕ → Asked
filled_of key what signed algorithm signature own bits e f =
    record {
      key = key;
      certificate = what;
      signed_start = signed.start;
      signed_end = signed.end;
      algorithm_start = algorithm.start;
      algorithm_end = algorithm.end;
      signature_start = signature.start;
      signature_end = signature.end;
      key_algorithm_start = own.start;
      key_algorithm_end = own.end;
      key_bits_start = bits.start;
      key_bits_end = bits.end;
      refusal = e;
      key_refusal = f;
    }

-- a question, by what is known of its key
unfoldable pub keyed_of : ℕ → ℕ → Question → Result Key ℕ → Asked
keyed_of key what q (Ok v) = filled_of key what q.signed q.algorithm q.signature v.algorithm v.bits 0 0
keyed_of key what q (Err e) = filled_of key what q.signed q.algorithm q.signature nowhere nowhere 0 e

unfoldable pub asked_of : ℕ → ℕ → Result Question ℕ → Asked
asked_of key what (Ok q) = keyed_of key what q q.key
asked_of key what (Err e) = filled_of key what nowhere nowhere nowhere nowhere nowhere e 0

unfoldable pub trusted_of : Result TrustAnchor ℕ → Trusted
trusted_of (Ok v) = record {
  subject_start = v.subject.start;
  subject_end = v.subject.end;
  key_start = v.key.start;
  key_end = v.key.end;
  constraints_start = v.constraints.start;
  constraints_end = v.constraints.end;
  refusal = 0;
  bound = cond v.constraints.known 1 0;
}
trusted_of (Err e) = record {
  subject_start = 0;
  subject_end = 0;
  key_start = 0;
  key_end = 0;
  constraints_start = 0;
  constraints_end = 0;
  refusal = e;
  bound = 0;
}
