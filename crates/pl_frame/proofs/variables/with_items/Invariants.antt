use Rattle.std.proofs.Common.{◌≡◌, fold, drop}
use Rattle.std.specs.List.{filter_map}
use Rattle.pl_frame.specs.Variables.{item_variable, placed}
use Rattle.pl_frame.proofs.variables.with_items.Given as goal

abbrev pub invariant-loop-item : goal.invariant-loop-item
invariant-loop-item l =
    fold placed l.initial.all.variables (filter_map item_variable l.item-items)
    ≡ fold placed l.all.variables (filter_map item_variable (drop l.item-index l.item-items))
