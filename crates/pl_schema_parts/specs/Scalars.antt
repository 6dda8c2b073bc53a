-- Values that are scalars, and lists of scalars.
use Rattle.std.specs.Prelude.{ℕ, ◌-◌, Bool, ◌&&◌, nat_le, List, [], ◌∷◌}
use Rattle.std.specs.Prelude.{codes, ℤ, pos, negsuc, Option, Some, None, Result}
use Rattle.std.specs.Prelude.{Ok, if◌then◌else◌}
use Rattle.std.specs.Option.{option_and_then}
use Rattle.std.specs.Result.{result_ok}
use Rattle.pl_base.specs.declared.outcome.Behaviour.{Behaviour}
use Rattle.pl_base.specs.declared.outcome.Behaviour.TheVariants.{Sequential, RunLatest}
use Rattle.pl_base.specs.declared.value.Value.{out-Value}
use Rattle.pl_base.specs.declared.value.Value.TheOpen as layer
use Rattle.pl_base.specs.declared.value.MarkedNode.{MarkedNode}
use Rattle.pl_base.specs.declared.value.MarkedPair.{MarkedPair}
use Rattle.pl_expr.specs.declared.expr.Expr.{Expr}
use Rattle.pl_expr.specs.declared.expr.Mode.TheVariants.{Condition}
use Rattle.pl_expr.specs.Conversions.{text_of}
use Rattle.pl_expr.specs.Grammar.{parses}
use Rattle.pl_expr.specs.Numerals.{number_in}
use Rattle.pl_literal.specs.Booleans.{boolean_in}
use Rattle.pl_literal.specs.Items.{Opened}
use Rattle.pl_base.specs.Texts.{is}
use Rattle.pl_schema_parts.specs.declared.fault.SchemaCode.{SchemaCode}
use Rattle.pl_schema_parts.specs.declared.fault.SchemaCode.TheVariants.{MissingKey, WrongShape}
use Rattle.pl_schema_parts.specs.declared.fault.SchemaCode.TheVariants.{BadNumber}
use Rattle.pl_schema_parts.specs.declared.fault.SchemaCode.TheVariants.{BadCondition}
use Rattle.pl_schema_parts.specs.declared.pipeline.DependSpec.{DependSpec}
use Rattle.pl_schema_parts.specs.Gives.{Fault}
use Rattle.pl_schema_parts.specs.Rows.{at_node, in_turn}
use Rattle.pl_reading.specs.Steps.{◌>>=◌}

-- what is there, or else a fault at the node
abbrev pub or_refuse : {X : Type 0} → SchemaCode → MarkedNode → Option X → Result X Fault
or_refuse code node None = at_node code node
or_refuse code node (Some value) = Ok value

-- a scalar by its text, which is its cast (Microsoft Learn, "Expressions", Type casting)
abbrev pub text_in : MarkedNode → Result (List ℕ) Fault
text_in node = or_refuse WrongShape node (text_of node.value)

-- a text that must be there
abbrev pub filled : MarkedNode → List ℕ → Result (List ℕ) Fault
filled node [] = at_node MissingKey node
filled node text = Ok text

abbrev pub filled_in : MarkedNode → Result (List ℕ) Fault
filled_in node = text_in node >>= filled node

-- a text that needn't be there: an empty one is none
abbrev pub some_text : List ℕ → Option (List ℕ)
some_text [] = None
some_text text = Some text

-- one of the eight texts that are Booleans
unfoldable pub truth_in : MarkedNode → Result Bool Fault
truth_in node = text_in node >>= λ text. or_refuse WrongShape node (boolean_in text)

-- `sequential` or `runLatest`, exactly
abbrev pub behaviour_named : List ℕ → Option Behaviour
behaviour_named text =
    if is text (codes "sequential") then Some Sequential
    else if is text (codes "runLatest") then Some RunLatest
    else None

unfoldable pub behaviour_in : MarkedNode → Result Behaviour Fault
behaviour_in node = text_in node >>= λ text. or_refuse WrongShape node (behaviour_named text)

-- a number from the first limit to the second one; an empty text is none
abbrev pub between : ℕ → ℕ → ℤ → Option ℕ
between low high (pos number) = if nat_le low number && nat_le number high then Some number
    else None
between low high (negsuc number) = None

abbrev pub limited : ℕ → ℕ → List ℕ → Option ℕ
limited low high [] = None
limited low high text = option_and_then (between low high) (number_in text)

unfoldable pub limited_in : ℕ → ℕ → MarkedNode → Result ℕ Fault
limited_in low high node = text_in node >>= λ text. or_refuse BadNumber node (limited low high text)

-- a condition
unfoldable pub condition_in : MarkedNode → Result Expr Fault
condition_in node = text_in node >>= λ text. or_refuse BadCondition node
    (result_ok (parses Condition text))

-- a mapping's pairs; an empty scalar is an empty mapping
abbrev pub pairs_from : MarkedNode → Opened → Result (List MarkedPair) Fault
pairs_from node (layer.Object pairs) = Ok pairs
pairs_from node layer.Null = Ok []
pairs_from node (layer.Str []) = Ok []
pairs_from node value = at_node WrongShape node

abbrev pub pairs_in : MarkedNode → Result (List MarkedPair) Fault
pairs_in node = pairs_from node (out-Value node.value)

-- a list's items; an empty scalar is an empty list
abbrev pub items_from : MarkedNode → Opened → Result (List MarkedNode) Fault
items_from node (layer.Array items) = Ok items
items_from node layer.Null = Ok []
items_from node (layer.Str []) = Ok []
items_from node value = at_node WrongShape node

abbrev pub items_in : MarkedNode → Result (List MarkedNode) Fault
items_in node = items_from node (out-Value node.value)

-- a list of scalars, each read by itself; one scalar is a list of one
abbrev pub just_one : {X : Type 0} → (MarkedNode → Result X Fault) → MarkedNode →
    Result (List X) Fault
just_one read node = read node >>= λ one. Ok (one ∷ [])

abbrev pub scalars_from : {X : Type 0} → (MarkedNode → Result X Fault) → MarkedNode → Opened →
    Result (List X) Fault
scalars_from read node (layer.Array items) = in_turn (λ before item. read item) [] items
scalars_from read node layer.Null = Ok []
scalars_from read node (layer.Str []) = Ok []
scalars_from read node value = just_one read node

unfoldable pub demands_in : MarkedNode → Result (List (List ℕ)) Fault
demands_in node = scalars_from text_in node (out-Value node.value)

-- a name that is waited for, and where it is written
abbrev pub depend_in : MarkedNode → Result DependSpec Fault
depend_in node = text_in node >>= λ text. Ok (record { name = text; place = node.origin.source })

unfoldable pub depends_in : MarkedNode → Result (List DependSpec) Fault
depends_in node = scalars_from depend_in node (out-Value node.value)
