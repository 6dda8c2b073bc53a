use Rattle.std.proofs.Common.{◌≡◌, [], ◌∷◌, false, drop}
use Rattle.pl_schema_parts.specs.Rows.{in_order, read_pair}
use Rattle.pl_schema_parts.specs.Variables.{read_variable, read_item, no_variables, item_row}
use Rattle.pl_schema_parts.specs.Variables.{new_item}
use Rattle.pl_schema_parts.proofs.variables.item_of.Given as goal

abbrev pub invariant-loop-pair : goal.invariant-loop-pair
invariant-loop-pair l = in_order (read_pair item_row) new_item l.pairs ≡ in_order
    (read_pair item_row) l.item (drop l.pair-index l.pairs)
