-- A plan's stages and jobs wait for some of their own lists, and not in a cycle.
use Rattle.std.proofs.Common.{◌≡◌, ℕ, zero, suc, ◌+◌, ◌<◌, ◌≤◌, Ok, Option, List, [], ◌∷◌, ◌++◌}
use Rattle.std.proofs.Common.{length}
use Rattle.std.proofs.Common.{map, refl, sym, ap, subst, ◌∙◌, arith, length-append}
use Rattle.std.specs.Prelude.{flat_map, replicate}
use Rattle.std.specs.List.{AllByRecursion}
use Rattle.std.proofs.lemmas.List.{length-replicate, map-append}
use Rattle.std.proofs.lemmas.List.Elements.{All-from_recursion, recursion_from_All}
use Rattle.pl_graph.specs.Waits.{edges_by, edges_of_one}
use Rattle.pl_schema_parts.specs.declared.pipeline.JobSpec.{JobSpec}
use Rattle.pl_schema_parts.specs.declared.pipeline.Pipeline.{Pipeline}
use Rattle.pl_schema_parts.specs.declared.pipeline.PoolSpec.{PoolSpec}
use Rattle.pl_schema_parts.specs.declared.pipeline.StageSpec.{StageSpec}
use Rattle.pl_depends.specs.Cycles.{IsAcyclic, HasNoCycle}
use Rattle.pl_depends.specs.Graph.{AreBelow, waits_of, stage_graph, waiting_stages}
use Rattle.pl_depends.specs.Graph.{job_graph, job_waits, stage_waits}
use Rattle.pl_depends.specs.Places.{Finding, places_under, places_from, leg_count, leg_entries}
use Rattle.pl_depends.specs.Places.{stage_entries, job_entries}
use Rattle.pl_depends.proofs.Within.{both, FindsBelow, EntriesBelow, IsEdge, found_below, job_below}
use Rattle.pl_depends.proofs.Within.{one_edges, are_edges, stages_are_graph, jobs_are_graph}
use Rattle.pl_uses.specs.Pools.{pool_of}
use Rattle.pl_plan.specs.declared.legs.Leg.{Leg}
use Rattle.pl_plan.specs.declared.plan.Plan.{Plan}
use Rattle.pl_plan.specs.declared.plan.PlanJob.{PlanJob}
use Rattle.pl_plan.specs.declared.plan.PlanStage.{PlanStage}
use Rattle.pl_plan.specs.declared.plan.PlanStep.{PlanStep}
use Rattle.pl_plan.specs.Laws.{waits_of_jobs, waits_of_stages, Ascend, IsOrderly, IsSound}
use Rattle.pl_plan.specs.Legs.{legs_of}
use Rattle.pl_plan.specs.Plans.{plan_leg, plan_job, plan_jobs, plan_stages, stages_of, plan_from}
use Rattle.pl_plan.specs.Plans.{judged, plan_step}
use Rattle.pl_plan.proofs.Acyclic.{no_cycle}
use Rattle.pl_plan.proofs.Ascending.{all_uses_ascend}
use Rattle.pl_plan.proofs.LegCounts.{IsCounted, AreCounted, all_counted}
use Rattle.pl_plan.proofs.LegEdges.{IsJobEdge, leg_edges, leg_waits, owner, under_both}

-- ---- each leg waits for some of the list

abbrev legs_end : ℕ → List JobSpec → ℕ
legs_end first [] = first
legs_end first (job ∷ jobs) = legs_end (first + leg_count job.legs) jobs

end_above : (first : ℕ) (jobs : List JobSpec) → first ≤ legs_end first jobs
end_above first [] = omega arith
end_above first (job ∷ jobs) =
    let later : first + leg_count job.legs ≤ legs_end (first + leg_count job.legs) jobs =
    end_above (first + leg_count job.legs) jobs in
    omega arith

length_waits : (find : Finding) (first : ℕ) (jobs : List JobSpec) →
    first + length (leg_waits find jobs) ≡ legs_end first jobs
length_waits find first [] = omega arith
length_waits find first (job ∷ jobs) =
    let count = leg_count job.legs in
    let own : List (List ℕ) = replicate count (job_waits find job.depends) in
    let len : length own ≡ count = length-replicate count (job_waits find job.depends) in
    let two : length (own ++ leg_waits find jobs) ≡ length own + length (leg_waits find jobs) =
    length-append own (leg_waits find jobs) in
    let later : first + count + length (leg_waits find jobs) ≡ legs_end (first + count) jobs =
    length_waits find (first + count) jobs in
    let sum : first + length (own ++ leg_waits find jobs) ≡
    first + count + length (leg_waits find jobs) = omega arith in
    sum ∙ later

places_below : (bound first count : ℕ) → first + count ≤ bound →
    AreBelow bound (places_from first count)
places_below bound first zero within = tt
places_below bound first (suc count) within =
    both (λ place. place < bound) (places_from first count) ((first + count) ∷ [])
    (places_below bound first count (omega arith)) (omega arith, tt)

entries_below : (bound first : ℕ) (jobs : List JobSpec) → legs_end first jobs ≤ bound →
    EntriesBelow bound (leg_entries first jobs)
entries_below bound first [] within = tt
entries_below bound first (job ∷ jobs) within =
    let above : first + leg_count job.legs ≤ legs_end (first + leg_count job.legs) jobs =
    end_above (first + leg_count job.legs) jobs in
    let inside : first + leg_count job.legs ≤ bound = omega arith in (
      places_below bound first (leg_count job.legs) inside,
      entries_below bound (first + leg_count job.legs) jobs within,
    )

same_below : (bound count : ℕ) (depends : List ℕ) → AreBelow bound depends →
    AllByRecursion (AreBelow bound) (replicate count depends)
same_below bound zero depends below = tt
same_below bound (suc count) depends below = (below, same_below bound count depends below)

waits_below : (bound : ℕ) (find : Finding) → FindsBelow bound find → (jobs : List JobSpec) →
    AllByRecursion (AreBelow bound) (leg_waits find jobs)
waits_below bound find below [] = tt
waits_below bound find below (job ∷ jobs) =
    both (AreBelow bound) (replicate (leg_count job.legs) (job_waits find job.depends))
    (leg_waits find jobs)
    (same_below bound (leg_count job.legs) (job_waits find job.depends)
    (job_below bound find below job.depends))
    (waits_below bound find below jobs)

edges_below : (bound at : ℕ) (waits : List (List ℕ)) → AllByRecursion (AreBelow bound) waits →
    at + length waits ≤ bound → AllByRecursion (IsEdge bound) (edges_by at waits)
edges_below bound at [] below within = tt
edges_below bound at (depends ∷ waits) below within =
    both (IsEdge bound) (edges_of_one at depends) (edges_by (at + 1) waits)
    (one_edges bound at depends (omega arith) below.0)
    (edges_below bound (at + 1) waits below.1 (omega arith))

legs_orderly : (jobs : List JobSpec) → IsAcyclic (job_graph jobs) →
    IsOrderly (leg_waits (places_under (leg_entries 0 jobs)) jobs)
legs_orderly jobs acyclic =
    let legs = places_under (leg_entries 0 jobs) in
    let find = places_under (job_entries 0 jobs) in
    let waits = leg_waits legs jobs in
    let edges = edges_by 0 (waits_of (job_graph jobs)) in
    let end : length waits ≡ legs_end 0 jobs =
    (let sum : 0 + length waits ≡ legs_end 0 jobs = length_waits legs 0 jobs in omega arith) in
    record {
      below = All-from_recursion (IsEdge (length waits)) (edges_by 0 waits)
          (edges_below (length waits) 0 waits (waits_below (length waits) legs
          (found_below (length waits) (leg_entries 0 jobs)
          (entries_below (length waits) 0 jobs (omega arith))) jobs) (omega arith));
      acyclic = λ nodes cycle. no_cycle (length (job_graph jobs)) edges (edges_by 0 waits)
          (owner 0 0 jobs) acyclic.order nodes
          (are_edges (job_graph jobs) (jobs_are_graph jobs)) acyclic.behind
          (All-from_recursion (IsJobEdge edges (owner 0 0 jobs)) (edges_by 0 waits)
          (leg_edges edges (owner 0 0 jobs) legs find
          (λ name place inside. (under_both jobs 0 0 name place inside).0) jobs 0 0
          (λ place low. refl) (λ edge inside. inside))) cycle;
    }

-- ---- the jobs of a plan

one_waits : (pool : Option PoolSpec) (depends : List ℕ) (steps : List PlanStep) (job : JobSpec)
    (legs : List Leg) →
    map (λ (made : PlanJob). made.depends) (map (plan_leg pool depends steps job) legs) ≡
    replicate (length legs) depends
one_waits pool depends steps job [] = refl
one_waits pool depends steps job (leg ∷ legs) =
    ap (λ rest. depends ∷ rest) (one_waits pool depends steps job legs)

jobs_wait : (pipeline : Pipeline) (stage : StageSpec) (find : Finding) (jobs : List JobSpec) →
    AllByRecursion IsCounted jobs →
    waits_of_jobs (flat_map (plan_job pipeline stage find) jobs) ≡ leg_waits find jobs
jobs_wait pipeline stage find [] counted = refl
jobs_wait pipeline stage find (job ∷ jobs) counted =
    map-append (λ (made : PlanJob). made.depends) (plan_job pipeline stage find job)
    (flat_map (plan_job pipeline stage find) jobs)
    ∙ ap (λ own. own ++ waits_of_jobs (flat_map (plan_job pipeline stage find) jobs))
    (one_waits (pool_of pipeline stage job) (job_waits find job.depends)
    (map plan_step job.steps) job (legs_of job.legs)
    ∙ ap (λ n. replicate n (job_waits find job.depends)) counted.0)
    ∙ ap (λ rest. replicate (leg_count job.legs) (job_waits find job.depends) ++ rest)
    (jobs_wait pipeline stage find jobs counted.1)

jobs_orderly : (pipeline : Pipeline) (stage : StageSpec) → IsAcyclic (job_graph stage.jobs) →
    AreCounted stage → IsOrderly (waits_of_jobs (plan_jobs pipeline stage))
jobs_orderly pipeline stage acyclic counted =
    subst IsOrderly (sym (jobs_wait pipeline stage (places_under (leg_entries 0 stage.jobs))
    stage.jobs counted)) (legs_orderly stage.jobs acyclic)

abbrev JobsOrderly : PlanStage → Type 0
JobsOrderly stage = IsOrderly (waits_of_jobs stage.jobs)

all_jobs_orderly : (pipeline : Pipeline) (find : Finding) (at : ℕ) (stages : List StageSpec) →
    AllByRecursion (λ stage. IsAcyclic (job_graph stage.jobs)) stages →
    AllByRecursion AreCounted stages →
    AllByRecursion JobsOrderly (plan_stages pipeline find at stages)
all_jobs_orderly pipeline find at [] acyclic counted = tt
all_jobs_orderly pipeline find at (stage ∷ stages) acyclic counted = (
  jobs_orderly pipeline stage acyclic.0 counted.0,
  all_jobs_orderly pipeline find (at + 1) stages acyclic.1 counted.1,
)

abbrev UsesAscend : PlanStage → Type 0
UsesAscend stage = Ascend stage.uses

-- ---- the stages of a plan

stage_edges : (pipeline : Pipeline) (find : Finding) (n at : ℕ) (stages : List StageSpec) →
    edges_by n (waits_of_stages (plan_stages pipeline find at stages)) ≡
    edges_by n (waits_of (waiting_stages find at stages))
stage_edges pipeline find n at [] = refl
stage_edges pipeline find n at (stage ∷ stages) =
    ap (λ rest. edges_of_one n (stage_waits find at stage.depends) ++ rest)
    (stage_edges pipeline find (n + 1) (at + 1) stages)

stage_lengths : (pipeline : Pipeline) (find : Finding) (at : ℕ) (stages : List StageSpec) →
    length (waits_of_stages (plan_stages pipeline find at stages)) ≡
    length (waiting_stages find at stages)
stage_lengths pipeline find at [] = refl
stage_lengths pipeline find at (stage ∷ stages) =
    ap (λ n. suc n) (stage_lengths pipeline find (at + 1) stages)

stages_orderly : (pipeline : Pipeline) → IsAcyclic (stage_graph pipeline.stages) →
    IsOrderly (waits_of_stages (stages_of pipeline))
stages_orderly pipeline acyclic =
    let find = places_under (stage_entries 0 pipeline.stages) in
    let edges = stage_edges pipeline find 0 0 pipeline.stages in
    let len = stage_lengths pipeline find 0 pipeline.stages in
    record {
      below = rw (edges, len) (are_edges (stage_graph pipeline.stages)
          (stages_are_graph pipeline.stages));
      acyclic = λ nodes cycle. acyclic.none nodes (rw edges at cycle);
    }

pub plan_is_sound : (pipeline : Pipeline) → HasNoCycle pipeline.stages →
    judged pipeline.stages ≡ Ok tt → IsSound (plan_from pipeline)
unfolding plan_from
plan_is_sound pipeline none passed =
    let find = places_under (stage_entries 0 pipeline.stages) in
    record {
      stages = stages_orderly pipeline none.of_stages;
      jobs = All-from_recursion JobsOrderly (stages_of pipeline)
          (all_jobs_orderly pipeline find 0 pipeline.stages
          (recursion_from_All (λ stage. IsAcyclic (job_graph stage.jobs)) pipeline.stages
          none.of_jobs)
          (all_counted pipeline.stages passed));
      uses = All-from_recursion UsesAscend (stages_of pipeline)
          (all_uses_ascend pipeline find 0 pipeline.stages);
    }

pub made_is_sound : (pipeline : Pipeline) (judges walks : List StageSpec) (plan : Plan) →
    judges ≡ pipeline.stages → walks ≡ pipeline.stages → judged judges ≡ Ok tt →
    HasNoCycle walks → plan ≡ plan_from pipeline → IsSound plan
made_is_sound pipeline judges walks plan judges_is walks_is passed none is =
    subst IsSound (sym is) (plan_is_sound pipeline (subst HasNoCycle walks_is none)
    (ap judged (sym judges_is) ∙ passed))
