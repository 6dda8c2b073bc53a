use Rattle.std.proofs.Common.{◌≡◌, [], ◌∷◌, false, drop}
use Rattle.pl_schema_parts.specs.Rows.{in_order, read_pair}
use Rattle.pl_schema_parts.specs.Variables.{read_variable, read_item, no_variables, item_row}
use Rattle.pl_schema_parts.specs.Variables.{new_item}
use Rattle.pl_schema_parts.proofs.variables.read_items.Given as goal

abbrev pub invariant-loop-item : goal.invariant-loop-item
invariant-loop-item l = in_order read_item no_variables l.items ≡ in_order read_item l.all
    (drop l.item-index l.items)
