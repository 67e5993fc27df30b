-- `constraints::numbered` meets its contract. Assumes nothing.
use Rattle.constraints.proofs.numbered.Goals as goal

pub returns : goal.returns
returns c = rw (c.certificate.ensures, c.reading.ensures) at c.certificate-2.ensures
