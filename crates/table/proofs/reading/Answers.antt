use lib.ListN.{length}
use native.Mathlib.Omega.{arith}
use borrow.Author.Tests.{le-leb, lt-leb, eq-eqb, ne_eqb, lt-ltb, le-ltb}
use Rattle.rows.specs.Model.{row_reading}
use Rattle.table.specs.Model.{reading_in}
use Rattle.table.proofs.reading.Goals as goal

pub returns-then-table-i : goal.returns-then-table-i
unfolding reading_in
returns-then-table-i c = let a = c.args in rw (le-leb (length a.table.now) a.i (omega arith)) c.read.ensures

pub returns-then-mark-eq0 : goal.returns-then-mark-eq0
unfolding reading_in row_reading
returns-then-mark-eq0 c = let a = c.args in rw (lt-leb (length a.table.now) a.i (omega arith), ← c.certificate_in.ensures, eq-eqb _ _ c.if-mark-eq0.true)

pub returns-then-mark-gt65535 : goal.returns-then-mark-gt65535
unfolding reading_in row_reading
returns-then-mark-gt65535 c = let a = c.args in rw (lt-leb (length a.table.now) a.i (omega arith), ne_eqb _ _ c.if-mark-eq0.false, lt-ltb _ _ c.if-mark-gt65535.true)

pub returns : goal.returns
unfolding reading_in row_reading
returns c = let a = c.args in rw (lt-leb (length a.table.now) a.i (omega arith), ne_eqb _ _ c.if-mark-eq0.false, le-ltb _ _ c.if-mark-gt65535.false, c.from.ensures)
