use Rattle.std.proofs.Common.{◌≡◌, ◌+◌, length, take}
use Rattle.std.specs.List.{flat_map}
use Rattle.pl_fields.specs.Fields.{told_size}
use Rattle.pl_fields.proofs.compounds.ListWritten.size.Given as goal

abbrev pub invariant-loop-item : goal.invariant-loop-item
invariant-loop-item g l = l.size ≡
    told_size (4 + length (flat_map g.T.Written.spelled (take l.item-index l.item-items)))
