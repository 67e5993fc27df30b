use Rattle.std.proofs.Common.{rules}
use Rattle.der.specs.Model.{on_content}
use Rattle.cert.specs.Model.{fields_at}
use Rattle.cert.proofs.fields_at.Goals as goal

pub returns-in_err-issuer : goal.returns-in_err-issuer
unfolding fields_at on_content
returns-in_err-issuer c = search rules

pub returns-in_err-validity : goal.returns-in_err-validity
unfolding fields_at on_content
returns-in_err-validity c = search rules

pub returns-in_err-subject : goal.returns-in_err-subject
unfolding fields_at on_content
returns-in_err-subject c = search rules

pub returns-in_err-key : goal.returns-in_err-key
unfolding fields_at on_content
returns-in_err-key c = search rules

pub returns : goal.returns
unfolding fields_at on_content
returns c = search rules
