-- Variables (Microsoft Learn, "YAML schema reference", variables).
use Rattle.std.specs.Prelude.{ℕ, ◌-◌, Bool, true, false, ◌&&◌, ◌||◌, nat_eq, List, [], ◌∷◌, ◌++◌}
use Rattle.std.specs.Prelude.{length, take, drop, codes, Option, Some, None, Result, Ok, is_some}
use Rattle.std.specs.Prelude.{if◌then◌else◌}
use Rattle.std.specs.List.{starts_with, ends_with}
use Rattle.std.specs.Result.{result_ok}
use Rattle.pl_base.specs.declared.value.Value.{out-Value}
use Rattle.pl_base.specs.declared.value.Value.TheOpen as layer
use Rattle.pl_base.specs.declared.value.MarkedNode.{MarkedNode}
use Rattle.pl_base.specs.declared.value.MarkedPair.{MarkedPair}
use Rattle.pl_expr.specs.declared.expr.Expr.{Expr}
use Rattle.pl_expr.specs.declared.expr.Mode.TheVariants as mode
use Rattle.pl_expr.specs.Grammar.{parses}
use Rattle.pl_literal.specs.Items.{Opened}
use Rattle.pl_schema_parts.specs.declared.fault.SchemaCode.TheVariants.{WrongShape, TwoForms}
use Rattle.pl_schema_parts.specs.declared.fault.SchemaCode.TheVariants.{BadCondition}
use Rattle.pl_schema_parts.specs.declared.pipeline.Variable.{Variable}
use Rattle.pl_schema_parts.specs.declared.variables.Variables.{Variables}
use Rattle.pl_schema_parts.specs.declared.variables.VariableItem.{VariableItem}
use Rattle.pl_schema_parts.specs.Gives.{Fault}
use Rattle.pl_schema_parts.specs.Rows.{passed}
use Rattle.pl_schema_parts.specs.Rows.{at_node, Reading, Row, sets, alone}
use Rattle.pl_reading.specs.Steps.{◌>>=◌}
use Rattle.pl_schema_parts.specs.Rows.{in_order, has, read_object}
use Rattle.pl_schema_parts.specs.Scalars.{or_refuse, text_in, pairs_in}

-- ---- a value that is an expression as a whole

-- what stands between `$[` at the text's beginning and `]` at its end
abbrev pub before_bracket : List ℕ → Option (List ℕ)
before_bracket text =
    if ends_with nat_eq text (codes "]") then Some (take (length text - 1) text) else None

abbrev pub expression_in : List ℕ → Option (List ℕ)
expression_in text =
    if starts_with nat_eq text (codes "$[") then before_bracket (drop 2 text) else None

abbrev pub late_from : MarkedNode → Option (List ℕ) → Result (Option Expr) Fault
late_from node None = Ok None
late_from node (Some inner) = or_refuse BadCondition node (result_ok (parses mode.Variable inner))
    >>= λ late. Ok (Some late)

unfoldable pub late_in : MarkedNode → List ℕ → Result (Option Expr) Fault
late_in node text = late_from node (expression_in text)

unfoldable pub variable_in : List ℕ → MarkedNode → Result Variable Fault
variable_in name node = text_in node >>= λ text. late_in node text
    >>= λ late. Ok (record { name = name; value = text; late = late })

-- ---- a list of variables and groups

-- an item before its first key: no name, no value, no group
abbrev pub new_item : VariableItem
new_item = record {
  written = record { name = []; value = []; late = None };
  is_written = false;
  group = None;
}

-- a name and a value may not stand beside a group
abbrev pub with_name : VariableItem → List ℕ → VariableItem
with_name item name = record item {
  written = record item.written { name = name };
  is_written = true;
}

abbrev pub item_name : Reading VariableItem
item_name = alone (λ item. is_some item.group) TwoForms (sets text_in with_name)

abbrev pub with_value : VariableItem → Variable → VariableItem
with_value item read = record item {
  written = record item.written { value = read.value; late = read.late };
  is_written = true;
}

abbrev pub item_value : Reading VariableItem
item_value = alone (λ item. is_some item.group) TwoForms (sets (variable_in []) with_value)

abbrev pub with_group : VariableItem → List ℕ → VariableItem
with_group item group = record item { group = Some group }

abbrev pub item_group : Reading VariableItem
item_group = alone (λ item. item.is_written) TwoForms (sets text_in with_group)

abbrev pub item_row : Row VariableItem
item_row =
    (codes "name", item_name)
    ∷ (codes "value", item_value)
    ∷ (codes "group", item_group)
    ∷ passed (codes "readonly")
    ∷ []

-- a group, or a name with its value
abbrev pub is_whole_item : List MarkedPair → Bool
is_whole_item pairs = has pairs (codes "group")
    || (has pairs (codes "name") && has pairs (codes "value"))

abbrev pub put_variable : Variables → Variable → Variables
put_variable all variable = record all { variables = all.variables ++ variable ∷ [] }

abbrev pub put_item : Variables → Variable → Option (List ℕ) → Variables
put_item all written None = put_variable all written
put_item all written (Some group) = record all { groups = all.groups ++ group ∷ [] }

unfoldable pub read_item : Variables → MarkedNode → Result Variables Fault
read_item all node =
    pairs_in node >>= λ pairs. read_object node (is_whole_item pairs) item_row new_item pairs
    >>= λ item. Ok (put_item all item.written item.group)

-- ---- either form

-- in a mapping each key is a variable's name
abbrev pub read_variable : Reading Variables
read_variable all pair = variable_in pair.key pair.item
    >>= λ variable. Ok (put_variable all variable)

abbrev pub no_variables : Variables
no_variables = record { variables = []; groups = [] }

abbrev pub variables_from : MarkedNode → Opened → Result Variables Fault
variables_from node (layer.Object pairs) = in_order read_variable no_variables pairs
variables_from node (layer.Array items) = in_order read_item no_variables items
variables_from node layer.Null = Ok no_variables
variables_from node (layer.Str []) = Ok no_variables
variables_from node value = at_node WrongShape node

unfoldable pub variables_in : MarkedNode → Result Variables Fault
variables_in node = variables_from node (out-Value node.value)
