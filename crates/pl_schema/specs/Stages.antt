-- Stages (Microsoft Learn, "YAML schema reference", stages.stage).
use Rattle.std.specs.Prelude.{ℕ, Bool, List, [], ◌∷◌, map, codes, Some, None, Result}
use Rattle.std.specs.Prelude.{if◌then◌else◌}
use Rattle.pl_base.specs.declared.place.Place.{Place}
use Rattle.pl_base.specs.declared.value.MarkedNode.{MarkedNode}
use Rattle.pl_base.specs.declared.value.MarkedPair.{MarkedPair}
use Rattle.pl_base.specs.Texts.{is}
use Rattle.pl_schema_parts.specs.declared.fault.SchemaCode.TheVariants.{FirstKey}
use Rattle.pl_schema_parts.specs.declared.pipeline.StageSpec.{StageSpec}
use Rattle.pl_schema_parts.specs.declared.variables.Variables.{Variables}
use Rattle.pl_schema_parts.specs.Gives.{Fault}
use Rattle.pl_schema.specs.Jobs.{jobs_in}
use Rattle.pl_schema_parts.specs.Names.{is_taken, name_in}
use Rattle.pl_schema_parts.specs.Pools.{pool_in}
use Rattle.pl_schema_parts.specs.Rows.{reads, passed}
use Rattle.pl_schema_parts.specs.Rows.{at_node, Row, has, read_object, in_turn}
use Rattle.pl_reading.specs.Steps.{◌>>=◌}
use Rattle.pl_schema_parts.specs.Rows.{some_items}
use Rattle.pl_schema_parts.specs.Scalars.{pairs_in, items_in, condition_in, behaviour_in}
use Rattle.pl_schema_parts.specs.Scalars.{depends_in}
use Rattle.pl_schema_parts.specs.Variables.{variables_in}

-- a stage before its first key
abbrev pub new_stage : Place → StageSpec
new_stage place = record {
  name = [];
  place = place;
  depends = None;
  condition = None;
  variables = [];
  groups = [];
  pool = None;
  behaviour = None;
  jobs = [];
}

abbrev pub stage_variables : StageSpec → Variables → StageSpec
stage_variables stage read = record stage { variables = read.variables; groups = read.groups }

abbrev pub stage_row : (List ℕ → Bool) → Row StageSpec
stage_row taken =
    reads (codes "stage") (name_in taken) (λ stage name. record stage { name = name })
    ∷ reads (codes "dependsOn") depends_in (λ stage names. record stage { depends = Some names })
    ∷ reads (codes "condition") condition_in (λ stage e. record stage { condition = Some e })
    ∷ reads (codes "variables") variables_in stage_variables
    ∷ reads (codes "jobs") jobs_in (λ stage jobs. record stage { jobs = jobs })
    ∷ reads (codes "pool") pool_in (λ stage pool. record stage { pool = Some pool })
    ∷ reads (codes "lockBehavior") behaviour_in (λ stage b. record stage { behaviour = Some b })
    ∷ passed (codes "displayName")
    ∷ passed (codes "templateContext")
    ∷ []

-- a stage must have its jobs
unfoldable pub stage_of : (List ℕ → Bool) → MarkedNode → List MarkedPair → Result StageSpec Fault
stage_of taken node pairs = read_object node (has pairs (codes "jobs")) (stage_row taken)
    (new_stage node.origin.source) pairs

abbrev pub stage_from : (List ℕ → Bool) → MarkedNode → List MarkedPair → Result StageSpec Fault
stage_from taken node [] = at_node FirstKey node
stage_from taken node (first ∷ pairs) =
    if is first.key (codes "stage") then stage_of taken node (first ∷ pairs)
    else at_node FirstKey node

unfoldable pub stage_in : (List ℕ → Bool) → MarkedNode → Result StageSpec Fault
stage_in taken node = pairs_in node >>= stage_from taken node

abbrev pub stage_names : List StageSpec → List (List ℕ)
stage_names stages = map (λ stage. stage.name) stages

unfoldable pub stages_in : MarkedNode → Result (List StageSpec) Fault
stages_in node = items_in node >>= some_items node >>= in_turn
    (λ stages item. stage_in (is_taken (stage_names stages)) item) []
