use Rattle.std.proofs.Common.{rules}
use Rattle.der.specs.Model.{on_content}
use Rattle.cert.specs.Model.{key_parts}
use Rattle.cert.proofs.key.parts.Goals as goal

pub returns-in_err-algorithm : goal.returns-in_err-algorithm
unfolding key_parts on_content
returns-in_err-algorithm c = search rules

pub returns-in_err-bits : goal.returns-in_err-bits
unfolding key_parts on_content
returns-in_err-bits c = search rules

pub returns-then-bits-to : goal.returns-then-bits-to
unfolding key_parts on_content
returns-then-bits-to c = search rules

pub returns-else-bits-to : goal.returns-else-bits-to
unfolding key_parts on_content
returns-else-bits-to c = search rules
