-- Steps (Microsoft Learn, "YAML schema reference", steps).
use Rattle.std.specs.Prelude.{ℕ, Bool, true, false, find, List, [], ◌∷◌, codes, Option, Some, None}
use Rattle.std.specs.Prelude.{Result, Ok, if◌then◌else◌}
use Rattle.std.specs.Option.{option_and_then}
use Rattle.std.specs.List.{filter_map}
use Rattle.pl_base.specs.declared.value.Value.{out-Value}
use Rattle.pl_base.specs.declared.value.Value.TheOpen as layer
use Rattle.pl_base.specs.declared.value.MarkedNode.{MarkedNode}
use Rattle.pl_base.specs.declared.value.MarkedPair.{MarkedPair}
use Rattle.pl_expr.specs.Conversions.{text_of}
use Rattle.pl_literal.specs.declared.items.ItemKind.{ItemKind}
use Rattle.pl_literal.specs.declared.items.ItemKind.TheVariants as item
use Rattle.pl_literal.specs.Items.{Opened, kind_of_key}
use Rattle.pl_base.specs.Texts.{is}
use Rattle.pl_schema_parts.specs.declared.fault.SchemaCode.TheVariants.{FirstKey, TwoForms}
use Rattle.pl_schema_parts.specs.declared.pipeline.StepSpec.{StepSpec}
use Rattle.pl_schema_parts.specs.Gives.{Fault}
use Rattle.pl_schema_parts.specs.Names.{is_taken, name_in}
use Rattle.pl_schema_parts.specs.Rows.{at_node, at_key, in_order, in_turn}
use Rattle.pl_reading.specs.Steps.{◌>>=◌}
use Rattle.pl_schema_parts.specs.Scalars.{text_in, pairs_in, items_in}

abbrev pub is_step : Option ItemKind → Bool
is_step (Some item.Step) = true
is_step other = false

-- the keys with which a step begins
abbrev pub is_step_key : List ℕ → Bool
is_step_key key = is_step (kind_of_key key)

-- ---- the names of steps

abbrev pub name_under : Opened → Option (List ℕ)
name_under (layer.Object pairs) = option_and_then (λ pair. text_of pair.item.value)
    (find (λ pair. is pair.key (codes "name")) pairs)
name_under value = None

abbrev pub step_name : StepSpec → Option (List ℕ)
step_name step = name_under (out-Value step.body.value)

abbrev pub step_names : List StepSpec → List (List ℕ)
step_names steps = filter_map step_name steps

-- ---- a step: its step key is the first one and stands alone, and every other key but `name` is
-- passed on

-- a step key, once one has begun the step or not
abbrev pub read_form : Bool → MarkedPair → Result Bool Fault
read_form true pair = at_key TwoForms pair
read_form false pair = text_in pair.item >>= λ text. Ok true

abbrev pub step_pair : (List ℕ → Bool) → Bool → MarkedPair → Result Bool Fault
step_pair taken begun pair =
    if is_step_key pair.key then read_form begun pair
    else if is pair.key (codes "name") then (name_in taken pair.item >>= λ name. Ok begun)
    else Ok begun

abbrev pub step_from : (List ℕ → Bool) → MarkedNode → List MarkedPair → Result StepSpec Fault
step_from taken node [] = at_node FirstKey node
step_from taken node (first ∷ pairs) =
    if is_step_key first.key
    then (in_order (step_pair taken) false (first ∷ pairs)
    >>= λ begun. Ok (record { form = first.key; place = node.origin.source; body = node }))
    else at_node FirstKey node

unfoldable pub step_in : (List ℕ → Bool) → MarkedNode → Result StepSpec Fault
step_in taken node = pairs_in node >>= step_from taken node

-- a job may have no step
unfoldable pub steps_in : MarkedNode → Result (List StepSpec) Fault
steps_in node = items_in node >>= in_turn (λ steps item. step_in (is_taken (step_names steps)) item)
    []
