use Rattle.std.proofs.Common.{take}
use Rattle.pl_seeing.specs.Seeing.{AreSeen}
use Rattle.pl_seeing.specs.Sharing.{AreOwn}
use Rattle.pl_seeing.proofs.seeing.seen_rows.Given as goal

abbrev pub invariant-loop-row : goal.invariant-loop-row
invariant-loop-row l = record {
  seen : AreSeen (take l.row-index l.rows) l.all.items;
  own : AreOwn l.made.all.items;
}
