use Rattle.std.proofs.Common.{rules}
use Rattle.rows.specs.Model.{outlined}
use Rattle.table.proofs.outline_read.Goals as goal

pub returns-in_err-certificate : goal.returns-in_err-certificate
unfolding outlined
returns-in_err-certificate c = search rules

pub returns : goal.returns
unfolding outlined
returns c = search rules
