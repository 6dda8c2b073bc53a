-- Stage after stage, until one has a cycle.
use Rattle.std.proofs.Common.{◌≡◌, ℕ, ◌+◌, ◌<◌, ◌≤◌, Some, None, Ok, Err, Option, List, [], ◌∷◌}
use Rattle.std.proofs.Common.{length, get_or, take}
use Rattle.std.proofs.Common.{drop, refl, sym, ap, subst, ◌∙◌}
use Rattle.std.specs.Option.{option_or}
use Rattle.std.proofs.lemmas.List.{drop_more, drop_all, take_all}
use Rattle.std.proofs.lemmas.List.Elements.{All-more}
use Rattle.pl_schema_parts.specs.declared.pipeline.StageSpec.{StageSpec}
use Rattle.pl_schema_parts.specs.declared.pipeline.JobSpec.{JobSpec}
use Rattle.pl_schema_parts.specs.declared.fault.PlacedFault.{PlacedFault}
use Rattle.pl_schema_parts.specs.declared.fault.PlacedFault.TheVariants.{Refused, Memory}
use Rattle.pl_depends.specs.declared.fault.PlanCode.{PlanCode}
use Rattle.pl_depends.specs.declared.graph.Waiting.{Waiting}
use Rattle.pl_depends.specs.Cycles.{IsAcyclic, IsCycleOf, JobCycle, JobCycles, FirstCycle, IsBefore}
use Rattle.pl_depends.specs.Cycles.{cycle_fault, stages_before, HaveNoCycle}
use Rattle.pl_depends.specs.Gives.{Fault, Faults, FaultIs, Judges}
use Rattle.pl_depends.specs.Graph.{stage_graph, job_graph}

abbrev SoFar : List StageSpec → ℕ → Type 0
SoFar stages i =
    (there_is : Option Fault) → JobCycles (drop i stages) there_is → JobCycles stages there_is

front : (stages : List StageSpec) (i : ℕ) (stage : StageSpec) → i < length stages →
    stage ≡ get_or stages i stage → drop i stages ≡ stage ∷ drop (i + 1) stages
front stages i stage within is =
    drop_more stages i stage within ∙ ap (λ first. first ∷ drop (i + 1) stages) (sym is)

pub goes_on : (stages : List StageSpec) (i : ℕ) (stage : StageSpec) → SoFar stages i →
    i < length stages → stage ≡ get_or stages i stage → JobCycle stage.jobs None →
    SoFar stages (i + 1)
goes_on stages i stage so_far within is own there_is rest =
    let P : List StageSpec → Type 0 = λ left. JobCycles left there_is in
    so_far there_is (subst P (sym (front stages i stage within is)) (None, own, rest))

pub stops : (stages : List StageSpec) (i : ℕ) (stage : StageSpec) (fault : Fault) → SoFar stages i →
    i < length stages → stage ≡ get_or stages i stage → JobCycle stage.jobs (Some fault) →
    JobCycles stages (Some fault)
stops stages i stage fault so_far within is own =
    let P : List StageSpec → Type 0 = λ left. JobCycles left (Some fault) in
    so_far (Some fault) (subst P (sym (front stages i stage within is)) (Some fault, own, refl))

pub ends : (stages : List StageSpec) (i : ℕ) → SoFar stages i → length stages ≤ i →
    JobCycles stages None
ends stages i so_far past =
    let P : List StageSpec → Type 0 = λ left. JobCycles left None in
    so_far None (subst P (sym (drop_all i stages past)) refl)

pub job_cycle_at : (jobs made : List JobSpec) (there_is : Option Fault) → jobs ≡ made →
    JobCycle jobs there_is → JobCycle made there_is
job_cycle_at jobs made there_is same found =
    let P : List JobSpec → Type 0 = λ js. JobCycle js there_is in subst P same found

pub acyclic_at : (jobs made : List JobSpec) → jobs ≡ made → IsAcyclic (job_graph jobs) →
    IsAcyclic (job_graph made)
acyclic_at jobs made same acyclic =
    let P : List JobSpec → Type 0 = λ js. IsAcyclic (job_graph js) in subst P same acyclic

pub none_more : (stages : List StageSpec) (i : ℕ) (stage : StageSpec) →
    HaveNoCycle (take i stages) → i < length stages → stage ≡ get_or stages i stage →
    IsAcyclic (job_graph stage.jobs) → HaveNoCycle (take (i + 1) stages)
none_more stages i stage before within is acyclic =
    let P : StageSpec → Type 0 = λ s. IsAcyclic (job_graph s.jobs) in
    All-more P stages i stage within before (subst P is acyclic)

pub none_in_all : (stages : List StageSpec) (i : ℕ) → HaveNoCycle (take i stages) →
    length stages ≤ i → HaveNoCycle stages
none_in_all stages i before past = subst HaveNoCycle (take_all i stages past) before

abbrev FoundBy : (Option Fault → Type 0) → PlacedFault PlanCode → Type 0
FoundBy there_is fault = Judges {U = Unit {0}} (Err fault) there_is

pub stops_by : (stages : List StageSpec) (i : ℕ) (stage : StageSpec)
    (fault : PlacedFault PlanCode) → SoFar stages i → i < length stages → stage ≡ get_or stages i stage →
    FoundBy (JobCycle stage.jobs) fault → FoundBy (JobCycles stages) fault
stops_by stages i stage Memory so_far within is own = tt
stops_by stages i stage (Refused code place) so_far within is own =
    stops stages i stage (code, place) so_far within is own

-- ---- the jobs of one stage

pub no_job_cycle : (jobs : List JobSpec) (graph : List Waiting) → graph ≡ job_graph jobs →
    IsAcyclic graph → JobCycle jobs None
no_job_cycle jobs graph same acyclic = record {
  found = None;
  is = subst IsAcyclic same acyclic;
  told = refl;
}

pub job_cycle : (jobs : List JobSpec) (graph : List Waiting) (nodes : List ℕ)
    (fault : PlacedFault PlanCode) → graph ≡ job_graph jobs → IsCycleOf graph (Some nodes) →
    Faults fault (cycle_fault graph nodes) → FoundBy (JobCycle jobs) fault
job_cycle jobs graph nodes Memory same cycle told = tt
job_cycle jobs graph nodes (Refused code place) same cycle told =
    let P : List Waiting → Type 0 = λ g. IsCycleOf g (Some nodes) in
    record {
      found = Some nodes;
      is = subst P same cycle;
      told = sym told ∙ ap (λ g. cycle_fault g nodes) same;
    }

-- ---- the stages

pub before_by_jobs : (stages before : List StageSpec) (graph : List Waiting) (nodes : List ℕ)
    (fault : PlacedFault PlanCode) → before ≡ stages_before (Some nodes) stages →
    FoundBy (JobCycles before) fault → FaultIs fault (IsBefore stages graph nodes)
before_by_jobs stages before graph nodes Memory same found = tt
before_by_jobs stages before graph nodes (Refused code place) same found =
    let P : List StageSpec → Type 0 = λ left. JobCycles left (Some (code, place)) in
    record { of_jobs = Some (code, place); before = subst P same found; told = refl }

pub before_by_stages : (stages before : List StageSpec) (graph : List Waiting) (nodes : List ℕ)
    (fault : PlacedFault PlanCode) → before ≡ stages_before (Some nodes) stages →
    JobCycles before None →
    Faults fault (cycle_fault graph nodes) → FaultIs fault (IsBefore stages graph nodes)
before_by_stages stages before graph nodes Memory same none told = tt
before_by_stages stages before graph nodes (Refused code place) same none told =
    let P : List StageSpec → Type 0 = λ left. JobCycles left None in
    record { of_jobs = None; before = subst P same none; told = sym told }

pub stage_cycle : (stages : List StageSpec) (graph : List Waiting) (nodes : List ℕ)
    (fault : PlacedFault PlanCode) → graph ≡ stage_graph stages → IsCycleOf graph (Some nodes) →
    FaultIs fault (IsBefore stages graph nodes) → FoundBy (FirstCycle stages) fault
stage_cycle stages graph nodes Memory same cycle first = tt
stage_cycle stages graph nodes (Refused code place) same cycle first =
    let P : List Waiting → Type 0 = λ g. IsCycleOf g (Some nodes) in
    record {
      found = Some nodes;
      of_jobs = first.of_jobs;
      is = subst P same cycle;
      before = first.before;
      told = first.told ∙ ap (λ g. option_or first.of_jobs (cycle_fault g nodes)) same;
    }

pub jobs_alone : (stages : List StageSpec) (graph : List Waiting) (there_is : Option Fault) →
    graph ≡ stage_graph stages → IsAcyclic graph → JobCycles stages there_is →
    FirstCycle stages there_is
jobs_alone stages graph there_is same acyclic found = record {
  found = None;
  of_jobs = there_is;
  is = subst IsAcyclic same acyclic;
  before = found;
  told = sym (or_none there_is);
}
  where
    or_none : {X : Type 0} (o : Option X) → option_or o None ≡ o
    or_none None = refl
    or_none (Some x) = refl
