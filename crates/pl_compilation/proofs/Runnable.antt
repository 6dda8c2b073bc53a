-- The plan of what was compiled can run.
use Rattle.std.proofs.Common.{◌≡◌, ℕ, zero, suc, ◌<◌, List, [], ◌∷◌, length, Option, Some, None, Ok}
use Rattle.std.proofs.Common.{refl, sym, subst, arith}
use Rattle.std.specs.Prelude.{slice_get}
use Rattle.std.specs.List.{AllByRecursion}
use Rattle.std.specs.Option.{option_map, option_or}
use Rattle.std.proofs.lemmas.List.Elements.{All-from_recursion, recursion_from_All}
use Rattle.std.proofs.lemmas.Option.{none-some}
use Rattle.pl_cond.proofs.Small.{can_run}
use Rattle.pl_depends.proofs.Within.{jobs_are_graph, on_cycle, stages_are_graph}
use Rattle.pl_depends.specs.Cycles.{AreOn, FirstCycle, Goes, HasNoCycle, IsAcyclic}
use Rattle.pl_depends.specs.Cycles.{IsCycleOf, JobCycle, JobCycles, cycle_fault, fault_of, names_on}
use Rattle.pl_depends.specs.Cycles.{stages_before}
use Rattle.pl_depends.specs.Gives.{Fault}
use Rattle.pl_depends.specs.Graph.{IsGraph, job_graph, stage_graph, waits_of}
use Rattle.pl_depends.specs.declared.fault.PlanCode.TheVariants.{Cycle}
use Rattle.pl_depends.specs.declared.graph.Waiting.{Waiting}
use Rattle.pl_graph.proofs.Walks.{canonical_is_cycle}
use Rattle.pl_graph.specs.Waits.{edges_by}
use Rattle.pl_plan.proofs.Sound.{plan_is_sound}
use Rattle.pl_plan.specs.Laws.{IsSound}
use Rattle.pl_plan.specs.Plans.{IsPlanOf}
use Rattle.pl_plan.specs.declared.plan.Compiled.{Compiled}
use Rattle.pl_plan.specs.declared.plan.Plan.{Plan}
use Rattle.pl_cond.specs.Below.pl_results.specs.Nodes.{CanRun}
use Rattle.pl_schema_parts.specs.declared.pipeline.JobSpec.{JobSpec}
use Rattle.pl_schema_parts.specs.declared.pipeline.Pipeline.{Pipeline}
use Rattle.pl_schema_parts.specs.declared.pipeline.StageSpec.{StageSpec}
use Rattle.pl_snapshots.specs.declared.snapshot.Snapshot.{Snapshot}
use Rattle.pl_compilation.specs.Made.{IsMadeOf}

-- ---- a graph of which no fault is told has no cycle

is_there : (graph : List Waiting) (node : ℕ) → node < length graph →
    slice_get graph node ≡ None → ⊥
is_there [] node within none = absurd (omega arith)
is_there (waiting ∷ graph) zero within none = none-some waiting (sym none)
is_there (waiting ∷ graph) (suc node) within none = is_there graph node (omega arith) none

none_found : {X Y : Type 0} (f : X → Y) (found : Option X) → option_map f found ≡ None →
    found ≡ None
none_found f None none = refl
none_found f (Some x) none = absurd (none-some (f x) (sym none))

first_on : (graph : List Waiting) (nodes : List ℕ) → AreOn graph nodes →
    cycle_fault graph nodes ≡ None → ⊥
first_on graph [] on none = absurd (omega (arith, on.0))
first_on graph (node ∷ nodes) on none =
    let fault : Waiting → Fault =
    λ first. (Cycle (names_on graph (node ∷ nodes)), first.place) in
    is_there graph node
    (recursion_from_All (λ (one : ℕ). one < length graph) (node ∷ nodes) on.1).0
    (none_found fault (slice_get graph node) none)

no_fault : (graph : List Waiting) (nodes : List ℕ) → IsGraph graph →
    IsCycleOf graph (Some nodes) → cycle_fault graph nodes ≡ None → ⊥
no_fault graph nodes is cycle none =
    let edges = edges_by 0 (waits_of graph) in
    first_on graph nodes (on_cycle edges graph nodes refl is
    (canonical_is_cycle (length graph) edges nodes cycle)) none

acyclic_of : (graph : List Waiting) (found : Option (List ℕ)) → IsGraph graph →
    IsCycleOf graph found → fault_of graph found ≡ None → IsAcyclic graph
acyclic_of graph None is cycle none = cycle
acyclic_of graph (Some nodes) is cycle none = absurd (no_fault graph nodes is cycle none)

-- ---- no more does a pipeline

abbrev AreAcyclic : List StageSpec → Type 0
AreAcyclic stages = AllByRecursion (λ (one : StageSpec). IsAcyclic (job_graph one.jobs)) stages

first_acyclic : (jobs : List JobSpec) (own : Option Fault) (later rest : Type 0) →
    (later → rest) → JobCycle jobs own → Goes own later None → IsAcyclic (job_graph jobs) × rest
first_acyclic jobs None later rest go_on cycle goes = (
  acyclic_of (job_graph jobs) cycle.found (jobs_are_graph jobs) cycle.is (sym cycle.told),
  go_on goes,
)
first_acyclic jobs (Some fault) later rest go_on cycle goes = absurd (none-some fault goes)

all_acyclic : (stages : List StageSpec) → JobCycles stages None → AreAcyclic stages
all_acyclic [] none = tt
all_acyclic (stage ∷ stages) none =
    first_acyclic stage.jobs none.0 (JobCycles stages None) (AreAcyclic stages)
    (all_acyclic stages) none.1 none.2

both_none : (own other : Option Fault) → None ≡ option_or own other →
    (own ≡ None) × (other ≡ None)
both_none None other is = (refl, sym is)
both_none (Some fault) other is = absurd (none-some fault is)

by_found : (stages : List StageSpec) (found : Option (List ℕ)) (own : Option Fault) →
    IsCycleOf (stage_graph stages) found → JobCycles (stages_before found stages) own →
    own ≡ None → fault_of (stage_graph stages) found ≡ None → HasNoCycle stages
by_found stages None own cycle before none told =
    record {
      of_stages = cycle;
      of_jobs =
          All-from_recursion (λ (one : StageSpec). IsAcyclic (job_graph one.jobs)) stages
          (all_acyclic stages (subst (JobCycles stages) none before));
    }
by_found stages (Some nodes) own cycle before none told =
    absurd (no_fault (stage_graph stages) nodes (stages_are_graph stages) cycle told)

no_cycle : (stages : List StageSpec) → FirstCycle stages None → HasNoCycle stages
no_cycle stages first =
    let both = both_none first.of_jobs (fault_of (stage_graph stages) first.found) first.told in
    by_found stages first.found first.of_jobs first.is first.before both.0 both.1

-- ---- so its plan can run

plan_sound : (pipeline : Pipeline) (plan : Plan) → IsPlanOf pipeline (Ok plan) → IsSound plan
plan_sound pipeline plan is =
    subst IsSound (sym is.2) (plan_is_sound pipeline (no_cycle pipeline.stages is.1) is.0)

pub compiled_can_run : (snapshot : Snapshot) (compiled : Compiled) →
    IsMadeOf snapshot (Ok compiled) → CanRun compiled.plan
compiled_can_run snapshot compiled is =
    can_run is.pipeline compiled.plan is.plans.0 is.plans.2
    (plan_sound is.pipeline compiled.plan is.plans)
