use Rattle.std.proofs.Common.{◌≡◌, ◌++◌, take}
use Rattle.std.specs.List.{flat_map}
use Rattle.pl_printing.specs.Printed.{written_pair}
use Rattle.pl_printing.specs.Levels.{at_level}
use Rattle.pl_printing.proofs.Nodes.{item_lines}
use Rattle.pl_printing.proofs.printing.+printed.Given as goal

abbrev pub invariant-push_sequence-loop-item : goal.invariant-push_sequence-loop-item
invariant-push_sequence-loop-item l = l.output.items ≡ l.fn.output.items ++
    at_level l.level (flat_map item_lines (take l.item-index l.item-items))

abbrev pub invariant-push_mapping-loop-pair : goal.invariant-push_mapping-loop-pair
invariant-push_mapping-loop-pair l = l.output.items ≡ l.fn.output.items ++
    at_level l.level (flat_map written_pair (take l.pair-index l.pair-items))
