use lib.ListN.{length-map}
use Rattle.lent.specs.Lent.{readings_in}
use Rattle.lent.proofs.Lent.reading.Goals as goal

pub returns : goal.returns
unfolding readings_in
returns c = rw (length-map c.args.self.now.issuers.now (λ x. x.now), ← c.row_at-row.ensures, ← c.certificate.ensures) c.reading.ensures
