-- The resources that a stage uses (Microsoft Learn, "Approvals and checks": the kinds of resources;
-- "YAML schema reference": jobs.deployment.environment, variables.group, pool, steps.checkout).
use Rattle.std.specs.Prelude.{ℕ, ◌==◌, Bool, ◌||◌, List, [], ◌∷◌, ◌++◌, map, flat_map, codes}
use Rattle.std.specs.Prelude.{Option, Some, None, if◌then◌else◌}
use Rattle.std.specs.List.{list_any, before_first}
use Rattle.std.specs.BTreeSet.{insert_key}
use Rattle.std.specs.Ordering.{nat_cmp, ordering_then}
use Rattle.std.specs.declared.cmp.Ordering.{Ordering}
use Rattle.pl_base.specs.Files.{text_cmp}
use Rattle.pl_base.specs.declared.expanded.Repository.{Repository}
use Rattle.pl_base.specs.declared.resource.Kind.{Kind}
use Rattle.pl_base.specs.declared.resource.Kind.TheVariants.{Environment, Connection, Group, Pool}
use Rattle.pl_base.specs.declared.resource.Kind.TheVariants as kind
use Rattle.pl_base.specs.declared.resource.ResourceKey.{ResourceKey}
use Rattle.pl_base.specs.declared.value.Value.{Value, out-Value}
use Rattle.pl_base.specs.declared.value.Value.TheOpen as layer
use Rattle.pl_base.specs.declared.value.MarkedPair.{MarkedPair}
use Rattle.pl_expr.specs.Conversions.{text_of}
use Rattle.pl_literal.specs.Items.{Opened}
use Rattle.pl_base.specs.Texts.{is}
use Rattle.pl_schema_parts.specs.declared.pipeline.JobSpec.{JobSpec}
use Rattle.pl_schema_parts.specs.declared.pipeline.Pipeline.{Pipeline}
use Rattle.pl_schema_parts.specs.declared.pipeline.StageSpec.{StageSpec}
use Rattle.pl_schema_parts.specs.declared.pipeline.StepSpec.{StepSpec}
use Rattle.pl_uses.specs.declared.uses.Uses.{Uses}
use Rattle.pl_uses.specs.Pools.{pool_of, pool_name}

-- ---- each once, in order

-- the kinds in their order
abbrev pub rank : Kind → ℕ
rank Environment = 0
rank Connection = 1
rank Group = 2
rank Pool = 3
rank kind.Repository = 4

-- by kind, then by name
abbrev pub key_cmp : ResourceKey → ResourceKey → Ordering
key_cmp left right =
    ordering_then (nat_cmp (rank left.kind) (rank right.kind)) (text_cmp left.name right.name)

-- each of these is put at its place, unless it is there
abbrev pub put_all : List ResourceKey → List ResourceKey → List ResourceKey
put_all kept [] = kept
put_all kept (key ∷ keys) = put_all (insert_key key_cmp kept key) keys

-- what a set of resources keeps
abbrev pub kept : Uses → List ResourceKey
kept uses = uses.keys.keys

-- ---- what is used

abbrev pub use_of : Kind → List ℕ → ResourceKey
use_of of_kind name = record { kind = of_kind; name = name }

abbrev pub use_by : Kind → Option (List ℕ) → List ResourceKey
use_by of_kind None = []
use_by of_kind (Some name) = use_of of_kind name ∷ []

abbrev pub uses_by : Kind → List (List ℕ) → List ResourceKey
uses_by of_kind names = map (use_of of_kind) names

-- the environment of a deployment, whose name goes up to the first dot; behind it stands a resource
-- in the environment
abbrev pub environment_uses : Option (List ℕ) → List ResourceKey
environment_uses None = []
environment_uses (Some environment) =
    use_of Environment (before_first (λ byte. byte == 46) environment) ∷ []

-- the pairs of a mapping; any other value has none
abbrev pub pairs_in : Opened → List MarkedPair
pairs_in (layer.Object pairs) = pairs
pairs_in value = []

abbrev pub pairs_of : Value → List MarkedPair
pairs_of value = pairs_in (out-Value value)

-- the inputs of a task that name a connection; which these are is this project's own list
abbrev pub is_connection_input : List ℕ → Bool
is_connection_input input = list_any (is input)
    (codes "azureSubscription" ∷ codes "connectedServiceName" ∷ codes "containerRegistry"
    ∷ codes "kubernetesServiceConnection" ∷ [])

abbrev pub input_uses : MarkedPair → List ResourceKey
input_uses input =
    if is_connection_input input.key then use_by Connection (text_of input.item.value) else []

abbrev pub task_uses : MarkedPair → List ResourceKey
task_uses pair =
    if is pair.key (codes "inputs") then flat_map input_uses (pairs_of pair.item.value) else []

-- the repository with that alias by its name; a text that is no alias is a name itself
abbrev pub repository_named : List Repository → List ℕ → List ℕ
repository_named [] text = text
repository_named (repository ∷ repositories) text =
    if is text repository.alias then repository.name else repository_named repositories text

abbrev pub checkout_of : List Repository → Option (List ℕ) → List ResourceKey
checkout_of repositories None = []
checkout_of repositories (Some text) =
    if is text (codes "self") || is text (codes "none") then []
    else use_of kind.Repository (repository_named repositories text) ∷ []

abbrev pub checkout_uses : List Repository → MarkedPair → List ResourceKey
checkout_uses repositories pair =
    if is pair.key (codes "checkout") then checkout_of repositories (text_of pair.item.value)
    else []

abbrev pub step_uses : List Repository → StepSpec → List ResourceKey
step_uses repositories step =
    if is step.form (codes "task") then flat_map task_uses (pairs_of step.body.value)
    else if is step.form (codes "checkout")
    then flat_map (checkout_uses repositories) (pairs_of step.body.value)
    else []

abbrev pub job_uses : Pipeline → StageSpec → JobSpec → List ResourceKey
job_uses pipeline stage job =
    environment_uses job.environment
    ++ uses_by Group job.groups
    ++ use_of Pool (pool_name (pool_of pipeline stage job)) ∷ []
    ++ flat_map (step_uses pipeline.repositories) job.steps

-- the groups of the pipeline and of the stage, and what each of its jobs uses
abbrev pub all_uses : Pipeline → StageSpec → List ResourceKey
all_uses pipeline stage =
    uses_by Group pipeline.groups
    ++ uses_by Group stage.groups
    ++ flat_map (job_uses pipeline stage) stage.jobs

unfoldable pub uses_of : Pipeline → StageSpec → List ResourceKey
uses_of pipeline stage = put_all [] (all_uses pipeline stage)
