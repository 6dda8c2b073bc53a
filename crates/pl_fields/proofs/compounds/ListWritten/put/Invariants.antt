use Rattle.std.proofs.Common.{◌≡◌, ◌++◌, length, take}
use Rattle.std.specs.List.{flat_map, AllByRecursion}
use Rattle.pl_fields.specs.Fields.{count}
use Rattle.pl_fields.proofs.compounds.ListWritten.put.Given as goal

abbrev pub invariant-loop-item : goal.invariant-loop-item
invariant-loop-item g l = record {
  written : l.out.items ≡ (l.fn.out.items ++ count (length l.item-items)) ++
      flat_map g.T.Written.spelled (take l.item-index l.item-items);
  each : AllByRecursion g.T.Written.fits (take l.item-index l.item-items);
}
