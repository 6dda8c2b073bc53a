-- A step of a job, as JSON.
use Rattle.std.specs.Prelude.{List, [], ◌∷◌, codes}
use Rattle.pl_base.specs.declared.value.Value.{Value, fold-Value, out-Value}
use Rattle.pl_base.specs.declared.value.Value.TheVariants as value
use Rattle.pl_base.specs.declared.value.Value.TheOpen.{Value-F, MarkedNode-F, MarkedPair-F, Null}
use Rattle.pl_base.specs.declared.value.Value.TheOpen.{Bool as Truth, Number, Version, Str, Array}
use Rattle.pl_base.specs.declared.value.Value.TheOpen.{Object}
use Rattle.pl_base.specs.declared.value.MarkedNode.{MarkedNode, fold-MarkedNode}
use Rattle.pl_base.specs.declared.value.MarkedPair.{MarkedPair, fold-MarkedPair}
use Rattle.pl_expr.specs.Conversions.{cast_text}
use Rattle.pl_json.specs.declared.json.Json.{Json}
use Rattle.pl_json.specs.declared.json.Json.TheVariants as json
use Rattle.pl_json.specs.declared.members.Member.{Member}
use Rattle.pl_json.specs.Members.{member}
use Rattle.pl_json.specs.Objects.{object}
use Rattle.pl_objects.specs.Origins.{origin_object}
use Rattle.pl_plan.specs.declared.plan.PlanStep.{PlanStep}
use Rattle.pl_refusals.specs.Rows.{text}

-- one level, with what is inside already seen as JSON: an atom is its cast to a text (Microsoft
-- Learn, Azure Pipelines, "Expressions", Type casting), an array an array, an object an object; of
-- one key the last pair counts
abbrev pub value_step : Value-F Json Json (Member Json) → Json
value_step Null = json.Text (cast_text value.Null)
value_step (Truth truth) = json.Text (cast_text (value.Bool truth))
value_step (Number number) = json.Text (cast_text (value.Number number))
value_step (Version segments) = json.Text (cast_text (value.Version segments))
value_step (Str told) = json.Text (cast_text (value.Str told))
value_step (Array items) = json.Array items
value_step (Object pairs) = object pairs

abbrev pub node_step : MarkedNode-F Json Json (Member Json) → Json
node_step node = node.value

abbrev pub pair_step : MarkedPair-F Json Json (Member Json) → Member Json
pair_step pair = member pair.key pair.item

abbrev pub value_json : Value → Json
value_json = fold-Value Json Json (Member Json) value_step node_step pair_step

abbrev pub node_json : MarkedNode → Json
node_json = fold-MarkedNode Json Json (Member Json) value_step node_step pair_step

abbrev pub pair_member : MarkedPair → Member Json
pair_member = fold-MarkedPair Json Json (Member Json) value_step node_step pair_step

-- where the first key of a mapping comes from; what is no mapping, or has no key, has none
abbrev pub first_key : List MarkedPair → Json
first_key [] = json.Null
first_key (pair ∷ pairs) = origin_object pair.key_origin

abbrev pub key_in : Value-F Value MarkedNode MarkedPair → Json
key_in (Object pairs) = first_key pairs
key_in _ = json.Null

-- a step: the key that it begins with, where that key and where its mapping come from, and the
-- mapping
abbrev pub step_object : PlanStep → Json
step_object step =
    object (text (codes "form") step.form
    ∷ member (codes "key") (key_in (out-Value step.body.value))
    ∷ member (codes "origin") (origin_object step.body.origin)
    ∷ member (codes "step") (node_json step.body) ∷ [])
