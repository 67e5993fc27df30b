use Rattle.std.proofs.Common.{rules}
use Rattle.extensions.specs.Model.{on_kept}
use Rattle.envelope.specs.Model.{on_parts, on_begun}
use Rattle.cert.specs.Model.{read_certificate, on_found}
use Rattle.cert.proofs.read.Goals as goal

pub returns-in_err-envelope : goal.returns-in_err-envelope
unfolding read_certificate on_parts on_begun on_found on_kept
returns-in_err-envelope c = search rules

pub returns-in_err-beginning : goal.returns-in_err-beginning
unfolding read_certificate on_parts on_begun on_found on_kept
returns-in_err-beginning c = search rules

pub returns-in_err-fields : goal.returns-in_err-fields
unfolding read_certificate on_parts on_begun on_found on_kept
returns-in_err-fields c = search rules

pub returns-in-Err : goal.returns-in-Err
unfolding read_certificate on_parts on_begun on_found on_kept
returns-in-Err c = search rules

pub returns-in-Ok : goal.returns-in-Ok
unfolding read_certificate on_parts on_begun on_found on_kept
returns-in-Ok c = search rules
