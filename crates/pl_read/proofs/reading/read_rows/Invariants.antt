use Rattle.std.proofs.Common.{take}
use Rattle.std.specs.List.{AllZip}
use Rattle.pl_read.specs.Reading.{IsRead}
use Rattle.pl_read.proofs.reading.read_rows.Given as goal

abbrev pub invariant-loop-row : goal.invariant-loop-row
invariant-loop-row l = AllZip IsRead (take l.row-index l.rows) l.read.items
