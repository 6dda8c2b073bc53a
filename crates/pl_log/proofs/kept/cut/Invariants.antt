use Rattle.std.proofs.Common.{◌≡◌, length, take}
use Rattle.pl_log.specs.Kept.{IsKept, items_of}
use Rattle.pl_log.proofs.kept.cut.Given as goal

abbrev pub invariant-loop-kept : goal.invariant-loop-kept
invariant-loop-kept g l = record {
  kept : IsKept g.T.Keyed.named g.T.Keyed.second l.rows l.second_rows l.kept.items;
  items : take l.len (items_of l.kept.items) ≡ take l.len (items_of l.fn.kept.items);
}

abbrev pub decreases-loop-kept : goal.decreases-loop-kept
decreases-loop-kept g l = length l.kept.items
