-- The law is given whole: found by search, the zeros would be written out one by one.
use Rattle.std.proofs.Common.{ℕ, sym}
use Rattle.std.proofs.lemmas.List.{length-replicate}
use Rattle.hexlines.proofs.line_buffer.Goals as goal

pub returns : goal.returns
returns c = sym {A = ℕ} (length-replicate {A = ℕ} 131072 0)
