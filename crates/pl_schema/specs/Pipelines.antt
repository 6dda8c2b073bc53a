-- Pipelines (Microsoft Learn, "YAML schema reference", pipeline).
use Rattle.std.specs.Prelude.{ℕ, Bool, true, false, ◌||◌, List, [], ◌∷◌, map, codes, Some}
use Rattle.std.specs.Prelude.{None, Result, Ok}
use Rattle.pl_base.specs.declared.expanded.Expanded.{Expanded}
use Rattle.pl_base.specs.declared.expanded.Repository.{Repository}
use Rattle.pl_base.specs.declared.place.FileKey.{FileKey}
use Rattle.pl_base.specs.declared.place.Place.{Place}
use Rattle.pl_base.specs.declared.value.MarkedNode.{MarkedNode}
use Rattle.pl_base.specs.declared.value.MarkedPair.{MarkedPair}
use Rattle.pl_schema_parts.specs.declared.fault.SchemaCode.TheVariants.{TwoForms}
use Rattle.pl_schema_parts.specs.declared.legs.Legs.{Legs}
use Rattle.pl_schema_parts.specs.declared.pipeline.JobSpec.{JobSpec}
use Rattle.pl_schema_parts.specs.declared.pipeline.Pipeline.{Pipeline}
use Rattle.pl_base.specs.declared.repo_ref.RepoRef.{RepoRef}
use Rattle.pl_schema_parts.specs.declared.pipeline.StageSpec.{StageSpec}
use Rattle.pl_schema_parts.specs.declared.pipeline.StepSpec.{StepSpec}
use Rattle.pl_schema.specs.declared.root.Form.{Form}
use Rattle.pl_schema.specs.declared.root.Form.TheVariants.{Nothing, Stages, Jobs, Steps}
use Rattle.pl_schema.specs.declared.root.Root.{Root}
use Rattle.pl_schema_parts.specs.declared.variables.Variables.{Variables}
use Rattle.pl_schema_parts.specs.Gives.{Fault}
use Rattle.pl_schema.specs.Jobs.{new_job, jobs_in}
use Rattle.pl_schema_parts.specs.Legs.{no_legs, legs_in}
use Rattle.pl_schema_parts.specs.Pools.{pool_in}
use Rattle.pl_schema_parts.specs.Rows.{reads, passed}
use Rattle.pl_schema_parts.specs.Rows.{Row, Reading, sets, alone, only_if, has}
use Rattle.pl_reading.specs.Steps.{◌>>=◌}
use Rattle.pl_schema_parts.specs.Rows.{read_object}
use Rattle.pl_schema_parts.specs.Scalars.{pairs_in, truth_in, behaviour_in}
use Rattle.pl_schema.specs.Stages.{new_stage, stages_in}
use Rattle.pl_schema_parts.specs.Steps.{steps_in}
use Rattle.pl_schema_parts.specs.Variables.{variables_in}

-- the root before its first key
abbrev pub new_root : Root
new_root = record {
  behaviour = None;
  pool = None;
  variables = [];
  groups = [];
  form = Nothing;
  strategy = no_legs;
  go_on = false;
}

abbrev pub has_form : Form → Bool
has_form Nothing = false
has_form form = true

-- a form of the root, of which one alone may stand
abbrev pub forms : {X : Type 0} → (MarkedNode → Result X Fault) → (X → Form) → Reading Root
forms read keep = alone (λ root. has_form root.form) TwoForms (sets read
    (λ root form. record root { form = keep form }))

abbrev pub set_stages : Reading Root
set_stages = forms stages_in Stages

abbrev pub set_jobs : Reading Root
set_jobs = forms jobs_in Jobs

abbrev pub set_steps : Reading Root
set_steps = forms steps_in Steps

-- `strategy` and `continueOnError` are those of the job to which `steps` belong
abbrev pub set_strategy : Bool → Reading Root
set_strategy steps = only_if steps (sets legs_in (λ root read. record root { strategy = read }))

abbrev pub set_go_on : Bool → Reading Root
set_go_on steps = only_if steps (sets truth_in (λ root go_on. record root { go_on = go_on }))

abbrev pub root_variables : Root → Variables → Root
root_variables root read = record root { variables = read.variables; groups = read.groups }

abbrev pub root_row : Bool → Row Root
root_row steps =
    (codes "stages", set_stages)
    ∷ (codes "jobs", set_jobs)
    ∷ (codes "steps", set_steps)
    ∷ reads (codes "variables") variables_in root_variables
    ∷ reads (codes "pool") pool_in (λ root pool. record root { pool = Some pool })
    ∷ reads (codes "lockBehavior") behaviour_in (λ root b. record root { behaviour = Some b })
    ∷ (codes "strategy", set_strategy steps)
    ∷ (codes "continueOnError", set_go_on steps)
    ∷ passed (codes "name")
    ∷ passed (codes "trigger")
    ∷ passed (codes "pr")
    ∷ passed (codes "schedules")
    ∷ passed (codes "appendCommitMessageToRunName")
    ∷ passed (codes "parameters")
    ∷ passed (codes "resources")
    ∷ passed (codes "workspace")
    ∷ []

abbrev pub has_some_form : List MarkedPair → Bool
has_some_form pairs = has pairs (codes "stages")
    || (has pairs (codes "jobs") || has pairs (codes "steps"))

unfoldable pub root_in : MarkedNode → Result Root Fault
root_in node =
    pairs_in node >>= λ pairs. read_object node (has_some_form pairs)
    (root_row (has pairs (codes "steps"))) new_root pairs

-- ---- jobs of the root are the jobs of one stage, and steps of the root are those of its one job

abbrev pub only_job : Place → Legs → Bool → List StepSpec → JobSpec
only_job place strategy go_on steps = record (new_job false place) {
  name = codes "Job";
  legs = strategy.legs;
  max_parallel = strategy.max_parallel;
  go_on = go_on;
  steps = steps;
}

abbrev pub only_stage : Place → List JobSpec → StageSpec
only_stage place jobs = record (new_stage place) { name = codes "__default"; jobs = jobs }

abbrev pub stages_of : Place → Legs → Bool → Form → List StageSpec
stages_of place strategy go_on Nothing = []
stages_of place strategy go_on (Stages stages) = stages
stages_of place strategy go_on (Jobs jobs) = only_stage place jobs ∷ []
stages_of place strategy go_on (Steps steps) =
    only_stage place (only_job place strategy go_on steps ∷ []) ∷ []

-- ---- the pipeline

abbrev pub repo_ref : List ℕ → List ℕ → RepoRef
repo_ref repo git_ref = record { repo = repo; git_ref = git_ref }

abbrev pub ref_of : Repository → RepoRef
ref_of repository = repo_ref repository.name repository.git_ref

-- the root file's ref, then those of all repositories
abbrev pub linked_refs : FileKey → List Repository → List RepoRef
linked_refs root repositories = repo_ref root.repo root.git_ref ∷ map ref_of repositories

abbrev pub pipeline_from : Expanded → Root → Pipeline
pipeline_from tree root = record {
  root = tree.root;
  extends = tree.extends;
  linked = linked_refs tree.root tree.repositories;
  repositories = tree.repositories;
  behaviour = root.behaviour;
  pool = root.pool;
  variables = root.variables;
  groups = root.groups;
  stages = stages_of tree.tree.origin.source root.strategy root.go_on root.form;
}

unfoldable pub pipeline_of : Expanded → Result Pipeline Fault
pipeline_of tree = root_in tree.tree >>= λ root. Ok (pipeline_from tree root)
