-- The types of parameters by their names (Microsoft Learn, Azure Pipelines, "YAML schema
-- reference", parameters.parameter), and what each reads.
use Rattle.std.specs.Prelude.{ℕ, Bool, true, false, List, [], Option, Some, None, codes}
use Rattle.std.specs.Prelude.{if◌then◌else◌}
use Rattle.std.specs.Option.{option_map}
use Rattle.std.specs.List.{list_all}
use Rattle.pl_base.specs.declared.value.Value.{Value, Bool as Truth, Number, Str, Array, out-Value}
use Rattle.pl_base.specs.declared.value.Value.TheOpen as layer
use Rattle.pl_base.specs.declared.value.MarkedNode.{MarkedNode}
use Rattle.pl_expr.specs.Conversions.{text_of}
use Rattle.pl_expr.specs.Numerals.{number_in}
use Rattle.pl_literal.specs.Booleans.{boolean_in}
use Rattle.pl_literal.specs.Items.{Opened, kind_of_item}
use Rattle.pl_base.specs.Texts.{is}
use Rattle.pl_literal.specs.declared.items.ItemKind.{ItemKind}
use Rattle.pl_literal.specs.declared.items.ItemKind.TheVariants as item
use Rattle.pl_params.specs.declared.kind.ParamKind.{ParamKind}
use Rattle.pl_params.specs.declared.kind.ParamKind.TheVariants as kind

abbrev pub kind_named : List ℕ → Option ParamKind
kind_named name =
    if is name (codes "string") then Some kind.String
    else if is name (codes "number") then Some kind.Number
    else if is name (codes "boolean") then Some kind.Boolean
    else if is name (codes "object") then Some kind.Object
    else if is name (codes "step") then Some kind.Step
    else if is name (codes "stepList") then Some kind.StepList
    else if is name (codes "job") then Some kind.Job
    else if is name (codes "jobList") then Some kind.JobList
    else if is name (codes "deployment") then Some kind.Deployment
    else if is name (codes "deploymentList") then Some kind.DeploymentList
    else if is name (codes "stage") then Some kind.Stage
    else if is name (codes "stageList") then Some kind.StageList
    else None

-- ---- what a type reads in a value, None where the value isn't of the type

-- a string: the text that an atom converts to
abbrev pub string_in : Value → Option Value
string_in value = option_map Str (text_of value)

-- a number: one, or a text that is one and isn't empty
abbrev pub number_from : Opened → Option Value
number_from (layer.Number number) = Some (Number number)
number_from (layer.Str []) = None
number_from (layer.Str text) = option_map Number (number_in text)
number_from value = None

-- a boolean: one, or a text that is one of the eight
abbrev pub boolean_from : Opened → Option Value
boolean_from (layer.Bool truth) = Some (Truth truth)
boolean_from (layer.Str text) = option_map Truth (boolean_in text)
boolean_from value = None

-- an item of a kind, or the call of a template that stands for such items
abbrev pub stands_for : ItemKind → Option ItemKind → Bool
stands_for wanted None = false
stands_for wanted (Some item.Template) = true
stands_for item.Step (Some item.Step) = true
stands_for item.Job (Some item.Job) = true
stands_for item.Deployment (Some item.Deployment) = true
stands_for item.Stage (Some item.Stage) = true
stands_for wanted (Some found) = false

abbrev pub is_item : ItemKind → Value → Bool
is_item wanted value = stands_for wanted (kind_of_item value)

abbrev pub item_in : ItemKind → Value → Option Value
item_in wanted value = if is_item wanted value then Some value else None

-- a list of such items; an empty scalar is the empty list
abbrev pub items_from : ItemKind → Opened → Option Value
items_from wanted layer.Null = Some (Array [])
items_from wanted (layer.Str []) = Some (Array [])
items_from wanted (layer.Array items) = if list_all (λ node. is_item wanted node.value) items
    then Some (Array items) else None
items_from wanted value = None

abbrev pub value_as : ParamKind → Value → Option Value
value_as kind.String value = string_in value
value_as kind.Number value = number_from (out-Value value)
value_as kind.Boolean value = boolean_from (out-Value value)
value_as kind.Object value = Some value
value_as kind.Step value = item_in item.Step value
value_as kind.StepList value = items_from item.Step (out-Value value)
value_as kind.Job value = item_in item.Job value
value_as kind.JobList value = items_from item.Job (out-Value value)
value_as kind.Deployment value = item_in item.Deployment value
value_as kind.DeploymentList value = items_from item.Deployment (out-Value value)
value_as kind.Stage value = item_in item.Stage value
value_as kind.StageList value = items_from item.Stage (out-Value value)

-- a node, as its type reads it, with the origin that it has
abbrev pub with_value : MarkedNode → Value → MarkedNode
with_value node value = record { origin = node.origin; value = value }

abbrev pub read_as : ParamKind → MarkedNode → Option MarkedNode
read_as kind node = option_map (with_value node) (value_as kind node.value)
