-- Stages, and jobs of a stage, that wait for one another: no plan may have such a cycle (Microsoft
-- Learn, "Stages" and "Jobs", Specify dependencies).
use Rattle.std.specs.Prelude.{◌≡◌, ℕ, ◌<◌, List, [], ◌∷◌, All, length, take, Option, Some, None}
use Rattle.std.specs.Prelude.{flat_map, slice_index, slice_get}
use Rattle.std.specs.Option.{option_map, option_or}
use Rattle.pl_graph.specs.Graph.{IsCycle, IsCanonicalCycle, IsTopological}
use Rattle.pl_graph.specs.Waits.{edges_by}
use Rattle.pl_schema_parts.specs.declared.pipeline.JobSpec.{JobSpec}
use Rattle.pl_schema_parts.specs.declared.pipeline.StageSpec.{StageSpec}
use Rattle.pl_depends.specs.declared.fault.PlanCode.TheVariants.{Cycle}
use Rattle.pl_depends.specs.declared.graph.Waiting.{Waiting}
use Rattle.pl_depends.specs.Gives.{Fault}
use Rattle.pl_depends.specs.Graph.{stage_graph, job_graph, waits_of}

-- there is an order in which each comes behind all for whom it waits, and no cycle
pub record IsAcyclic (graph : List Waiting) : Type 0 where
  pub order : List ℕ
  pub behind : IsTopological (length graph) (edges_by 0 (waits_of graph)) order
  pub none : (nodes : List ℕ) → IsCycle (edges_by 0 (waits_of graph)) nodes → ⊥

-- the cycle of a graph, if it has one: of several that one to which the walk leads from the first
-- who waits in vain, each time for the first such one, turned to begin with the first of its places
abbrev pub IsCycleOf : List Waiting → Option (List ℕ) → Type 0
IsCycleOf graph None = IsAcyclic graph
IsCycleOf graph (Some nodes) = IsCanonicalCycle (length graph) (edges_by 0 (waits_of graph)) nodes

-- there is one, and each is of the graph
abbrev pub AreOn : List Waiting → List ℕ → Type 0
AreOn graph nodes = (0 < length nodes) × All (λ node. node < length graph) nodes

-- a cycle is told by its names, at its first one
abbrev pub name_of : Option Waiting → List (List ℕ)
name_of None = []
name_of (Some waiting) = waiting.name ∷ []

abbrev pub names_on : List Waiting → List ℕ → List (List ℕ)
names_on graph nodes = flat_map (λ node. name_of (slice_get graph node)) nodes

abbrev pub cycle_fault : List Waiting → List ℕ → Option Fault
cycle_fault graph nodes = option_map (λ first. (Cycle (names_on graph nodes), first.place))
    (slice_get graph (slice_index nodes 0))

abbrev pub fault_of : List Waiting → Option (List ℕ) → Option Fault
fault_of graph None = None
fault_of graph (Some nodes) = cycle_fault graph nodes

-- ---- the first cycle of a pipeline, if it has one

-- the cycle of a stage's jobs
pub record JobCycle (jobs : List JobSpec) (there_is : Option Fault) : Type 0 where
  pub found : Option (List ℕ)
  pub is : IsCycleOf (job_graph jobs) found
  pub told : there_is ≡ fault_of (job_graph jobs) found

-- stage after stage, until one has a cycle
abbrev pub Goes : Option Fault → Type 0 → Option Fault → Type 0
Goes None later there_is = later
Goes (Some fault) later there_is = there_is ≡ Some fault

abbrev pub JobCycles : List StageSpec → Option Fault → Type 0
JobCycles [] there_is = there_is ≡ None
JobCycles (stage ∷ stages) there_is = (own : Option Fault) × JobCycle stage.jobs own
    × Goes own (JobCycles stages there_is) there_is

-- a cycle of stages comes where its first stage does, before one of that stage's jobs
abbrev pub stages_before : Option (List ℕ) → List StageSpec → List StageSpec
stages_before None stages = stages
stages_before (Some nodes) stages = take (slice_index nodes 0) stages

pub record FirstCycle (stages : List StageSpec) (there_is : Option Fault) : Type 0 where
  pub found : Option (List ℕ)
  pub of_jobs : Option Fault
  pub is : IsCycleOf (stage_graph stages) found
  pub before : JobCycles (stages_before found stages) of_jobs
  pub told : there_is ≡ option_or of_jobs (fault_of (stage_graph stages) found)

-- the fault, where the stages have that cycle
pub record IsBefore (stages : List StageSpec) (graph : List Waiting) (nodes : List ℕ)
    (fault : Fault) : Type 0 where
  pub of_jobs : Option Fault
  pub before : JobCycles (take (slice_index nodes 0) stages) of_jobs
  pub told : Some fault ≡ option_or of_jobs (cycle_fault graph nodes)

-- ---- a pipeline without a cycle

abbrev pub HaveNoCycle : List StageSpec → Type 0
HaveNoCycle stages = All (λ stage. IsAcyclic (job_graph stage.jobs)) stages

pub record HasNoCycle (stages : List StageSpec) : Type 0 where
  pub of_stages : IsAcyclic (stage_graph stages)
  pub of_jobs : HaveNoCycle stages
