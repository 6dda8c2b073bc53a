-- Jobs and deployments (Microsoft Learn, "YAML schema reference", jobs.job and jobs.deployment).
use Rattle.std.specs.Prelude.{ℕ, Bool, true, false, ◌&&◌, List, [], ◌∷◌, map, codes, Option, Some}
use Rattle.std.specs.Prelude.{None, Result}
use Rattle.pl_base.specs.declared.place.Place.{Place}
use Rattle.pl_base.specs.declared.value.MarkedNode.{MarkedNode}
use Rattle.pl_base.specs.declared.value.MarkedPair.{MarkedPair}
use Rattle.pl_literal.specs.declared.items.ItemKind.{ItemKind}
use Rattle.pl_literal.specs.declared.items.ItemKind.TheVariants as item
use Rattle.pl_literal.specs.Items.{kind_of_key}
use Rattle.pl_schema_parts.specs.declared.fault.SchemaCode.TheVariants.{FirstKey}
use Rattle.pl_schema_parts.specs.declared.legs.Legs.{Legs}
use Rattle.pl_schema_parts.specs.declared.pipeline.JobSpec.{JobSpec}
use Rattle.pl_schema_parts.specs.declared.pipeline.LegSpec.TheVariants.{One}
use Rattle.pl_schema_parts.specs.declared.pipeline.StepSpec.{StepSpec}
use Rattle.pl_schema_parts.specs.declared.variables.Variables.{Variables}
use Rattle.pl_schema_parts.specs.Gives.{Fault}
use Rattle.pl_schema_parts.specs.Legs.{legs_in}
use Rattle.pl_schema_parts.specs.Names.{is_taken, name_in}
use Rattle.pl_schema_parts.specs.Pools.{pool_in, environment_in}
use Rattle.pl_schema_parts.specs.Rows.{reads, passed}
use Rattle.pl_schema_parts.specs.Rows.{at_node, Row, sets, has, read_object, in_turn}
use Rattle.pl_reading.specs.Steps.{◌>>=◌}
use Rattle.pl_schema_parts.specs.Rows.{some_items}
use Rattle.pl_schema_parts.specs.Scalars.{pairs_in, items_in, truth_in, limited_in, condition_in}
use Rattle.pl_schema_parts.specs.Scalars.{depends_in}
use Rattle.pl_schema_parts.specs.Steps.{steps_in}
use Rattle.pl_schema_parts.specs.Variables.{variables_in}

-- a job before its first key
abbrev pub new_job : Bool → Place → JobSpec
new_job deployment place = record {
  name = [];
  place = place;
  deployment = deployment;
  depends = None;
  condition = None;
  variables = [];
  groups = [];
  pool = None;
  environment = None;
  legs = One;
  max_parallel = None;
  timeout = None;
  go_on = false;
  steps = [];
}

-- a job's time ends after 525,600 minutes at most, which is this project's own limit
abbrev pub minutes_in : MarkedNode → Result ℕ Fault
minutes_in node = limited_in 0 525600 node

abbrev pub job_legs : JobSpec → Legs → JobSpec
job_legs job read = record job { legs = read.legs; max_parallel = read.max_parallel }

abbrev pub job_variables : JobSpec → Variables → JobSpec
job_variables job read = record job { variables = read.variables; groups = read.groups }

-- the rows that jobs and deployments have alike
abbrev pub shared_row : Row JobSpec
shared_row =
    reads (codes "dependsOn") depends_in (λ job names. record job { depends = Some names })
    ∷ reads (codes "condition") condition_in (λ job e. record job { condition = Some e })
    ∷ reads (codes "continueOnError") truth_in (λ job truth. record job { go_on = truth })
    ∷ reads (codes "pool") pool_in (λ job pool. record job { pool = Some pool })
    ∷ reads (codes "timeoutInMinutes") minutes_in (λ job n. record job { timeout = Some n })
    ∷ reads (codes "variables") variables_in job_variables
    ∷ passed (codes "displayName")
    ∷ passed (codes "workspace")
    ∷ passed (codes "cancelTimeoutInMinutes")
    ∷ passed (codes "templateContext")
    ∷ []

abbrev pub job_row : (List ℕ → Bool) → Row JobSpec
job_row taken =
    reads (codes "job") (name_in taken) (λ job name. record job { name = name })
    ∷ reads (codes "strategy") legs_in job_legs
    ∷ reads (codes "steps") steps_in (λ job steps. record job { steps = steps })
    ∷ shared_row

-- a mapping with one key alone, which must be there
abbrev pub held_row : List ℕ → (MarkedNode → Result (List StepSpec) Fault) → Row (List StepSpec)
held_row key read = (key, sets read (λ before steps. steps)) ∷ []

abbrev pub holding : List ℕ → (MarkedNode → Result (List StepSpec) Fault) → MarkedNode →
    Result (List StepSpec) Fault
holding key read node =
    pairs_in node >>= λ pairs. read_object node (has pairs key) (held_row key read) [] pairs

-- a deployment's strategy holds its steps three levels down
unfoldable pub deploy_in : MarkedNode → Result (List StepSpec) Fault
deploy_in node = holding (codes "steps") steps_in node

unfoldable pub run_once_in : MarkedNode → Result (List StepSpec) Fault
run_once_in node = holding (codes "deploy") deploy_in node

unfoldable pub strategy_in : MarkedNode → Result (List StepSpec) Fault
strategy_in node = holding (codes "runOnce") run_once_in node

abbrev pub deployment_row : (List ℕ → Bool) → Row JobSpec
deployment_row taken =
    reads (codes "deployment") (name_in taken) (λ job name. record job { name = name })
    ∷ reads (codes "environment") environment_in (λ job e. record job { environment = Some e })
    ∷ reads (codes "strategy") strategy_in (λ job steps. record job { steps = steps })
    ∷ shared_row

-- a job must have its steps, a deployment its environment and its strategy
unfoldable pub job_of : (List ℕ → Bool) → MarkedNode → List MarkedPair → Result JobSpec Fault
job_of taken node pairs =
    read_object node (has pairs (codes "steps")) (job_row taken) (new_job false node.origin.source)
    pairs

abbrev pub is_whole_deployment : List MarkedPair → Bool
is_whole_deployment pairs = has pairs (codes "environment") && has pairs (codes "strategy")

unfoldable pub deployment_of : (List ℕ → Bool) → MarkedNode → List MarkedPair → Result JobSpec Fault
deployment_of taken node pairs =
    read_object node (is_whole_deployment pairs) (deployment_row taken)
    (new_job true node.origin.source) pairs

abbrev pub job_by : Option ItemKind → (List ℕ → Bool) → MarkedNode → List MarkedPair →
    Result JobSpec Fault
job_by (Some item.Job) taken node pairs = job_of taken node pairs
job_by (Some item.Deployment) taken node pairs = deployment_of taken node pairs
job_by other taken node pairs = at_node FirstKey node

abbrev pub job_from : (List ℕ → Bool) → MarkedNode → List MarkedPair → Result JobSpec Fault
job_from taken node [] = at_node FirstKey node
job_from taken node (first ∷ pairs) = job_by (kind_of_key first.key) taken node (first ∷ pairs)

unfoldable pub job_in : (List ℕ → Bool) → MarkedNode → Result JobSpec Fault
job_in taken node = pairs_in node >>= job_from taken node

abbrev pub job_names : List JobSpec → List (List ℕ)
job_names jobs = map (λ job. job.name) jobs

unfoldable pub jobs_in : MarkedNode → Result (List JobSpec) Fault
jobs_in node = items_in node >>= some_items node >>= in_turn
    (λ jobs item. job_in (is_taken (job_names jobs)) item) []
