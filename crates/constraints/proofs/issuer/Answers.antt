-- `constraints::issuer` meets its contract. Assumes nothing.
use Rattle.constraints.proofs.issuer.Goals as goal

pub returns : goal.returns
returns c = rw (c.certificate.ensures, c.reading.ensures) at c.own.ensures
