-- The limits of plans: each of them has few stages, and each stage few jobs.
use Rattle.std.proofs.Common.{◌≡◌, ℕ, zero, suc, ◌+◌, ◌-◌, ◌<◌, ◌≤◌, ◌^◌, Some, None, Option, Ok}
use Rattle.std.proofs.Common.{Err}
use Rattle.std.proofs.Common.{List, [], ◌∷◌, ◌++◌, length, map, refl, sym, ap, subst, ◌∙◌, arith}
use Rattle.std.specs.Prelude.{Result, flat_map, replicate, slice_get, All}
use Rattle.std.specs.List.{AllByRecursion}
use Rattle.std.proofs.lemmas.List.{length-append, length-map, length-replicate}
use Rattle.std.proofs.lemmas.List.Elements.{All-from_recursion}
use Rattle.pl_base.specs.declared.place.Place.{Place}
use Rattle.pl_schema_parts.specs.declared.pipeline.JobSpec.{JobSpec}
use Rattle.pl_schema_parts.specs.declared.pipeline.Pipeline.{Pipeline}
use Rattle.pl_schema_parts.specs.declared.pipeline.StageSpec.{StageSpec}
use Rattle.pl_depends.specs.declared.fault.PlanCode.{PlanCode}
use Rattle.pl_depends.specs.declared.fault.PlanCode.TheVariants.{TooManyJobs, TooManyStages}
use Rattle.pl_depends.specs.declared.fault.PlanCode.TheVariants.{TooManySteps}
use Rattle.pl_depends.specs.Gives.{Fault}
use Rattle.pl_reading.specs.Steps.{◌>>=◌}
use Rattle.pl_depends.specs.Graph.{job_waits}
use Rattle.pl_depends.specs.Known.{names_known}
use Rattle.pl_depends.specs.Places.{Finding, leg_count, leg_entries, places_under}
use Rattle.pl_depends.specs.Places.{stage_entries}
use Rattle.pl_plan.specs.declared.plan.Plan.{Plan}
use Rattle.pl_plan.specs.declared.plan.PlanStage.{PlanStage}
use Rattle.pl_plan.specs.Laws.{IsSound}
use Rattle.pl_plan.specs.Legs.{all_legs_judged, legs_of}
use Rattle.pl_plan.specs.Limits.{at_most, left_by, leg_seats, limits_kept, seats_in, stage_seats}
use Rattle.pl_plan.specs.Limits.{step_seats}
use Rattle.pl_plan.specs.Plans.{judged, plan_from, plan_job, plan_leg, plan_stages, plan_step}
use Rattle.pl_plan.specs.Plans.{stages_of}
use Rattle.pl_plan.proofs.LegCounts.{AreCounted, IsCounted, all_counted}
use Rattle.pl_uses.specs.Pools.{pool_of}
use Rattle.pl_results.specs.Nodes.{CanRun}

-- ---- what passes

first_passes : {X : Type 0} (r : Result X Fault) (next : X → Result (Unit {0}) Fault) →
    (r >>= next) ≡ Ok tt → (x : X) × (r ≡ Ok x) × (next x ≡ Ok tt)
first_passes (Ok x) next e = (x, refl, e)
first_passes (Err fault) next e = absurd (cc)

kept_of_judged : (stages : List StageSpec) → judged stages ≡ Ok tt → limits_kept stages ≡ Ok tt
unfolding judged
kept_of_judged stages e =
    let first = first_passes (all_legs_judged stages)
    (λ done. limits_kept stages >>= λ done. names_known stages) e in
    (first_passes (limits_kept stages) (λ done. names_known stages) first.2).1

past : (places : List Place) (n : ℕ) → slice_get places n ≡ None → length places ≤ n
past [] n none = omega arith
past (place ∷ places) zero none = absurd (cc)
past (place ∷ places) (suc n) none =
    let rest : length places ≤ n = past places n none in omega (arith, rest)

abbrev passed : Result (Unit {0}) Fault
passed = Ok tt

few_by : (code : PlanCode) (most : ℕ) (places : List Place) (there : Option Place) →
    slice_get places most ≡ there →
    (left_by code (most - length places) there >>= λ left. passed) ≡ passed →
    length places ≤ most
few_by code most places None is e = past places most is
few_by code most places (Some place) is e = absurd (cc)

-- no more than may stand there
few : (code : PlanCode) (most : ℕ) (places : List Place) → at_most code most places ≡ Ok tt →
    length places ≤ most
few code most places e = few_by code most places (slice_get places most) refl e

few_stages : (stages : List StageSpec) → limits_kept stages ≡ Ok tt → length stages ≤ 64
unfolding limits_kept
few_stages stages e =
    let first = first_passes (at_most TooManyStages 64 (stage_seats stages))
    (λ done. at_most TooManyJobs 256 (seats_in leg_seats stages)
    >>= λ done. at_most TooManySteps 2000 (seats_in step_seats stages)) e in
    let bound : length (stage_seats stages) ≤ 64 = few TooManyStages 64 (stage_seats stages)
    first.1 in
    let same : length (stage_seats stages) ≡ length stages =
    length-map stages (λ (stage : StageSpec). stage.place) in
    omega (arith, bound, same)

few_jobs : (stages : List StageSpec) → limits_kept stages ≡ Ok tt →
    length (seats_in leg_seats stages) ≤ 256
unfolding limits_kept
few_jobs stages e =
    let first = first_passes (at_most TooManyStages 64 (stage_seats stages))
    (λ done. at_most TooManyJobs 256 (seats_in leg_seats stages)
    >>= λ done. at_most TooManySteps 2000 (seats_in step_seats stages)) e in
    let next = first_passes (at_most TooManyJobs 256 (seats_in leg_seats stages))
    (λ done. at_most TooManySteps 2000 (seats_in step_seats stages)) first.2 in
    few TooManyJobs 256 (seats_in leg_seats stages) next.1

-- ---- the plan has as many

stage_count : (pipeline : Pipeline) (find : Finding) (at : ℕ) (stages : List StageSpec) →
    length (plan_stages pipeline find at stages) ≡ length stages
stage_count pipeline find at [] = refl
stage_count pipeline find at (stage ∷ stages) =
    ap (λ n. suc n) (stage_count pipeline find (at + 1) stages)

job_count : (pipeline : Pipeline) (stage : StageSpec) (find : Finding) (jobs : List JobSpec) →
    AllByRecursion IsCounted jobs →
    length (flat_map (plan_job pipeline stage find) jobs) ≡ length (flat_map leg_seats jobs)
job_count pipeline stage find [] counted = refl
job_count pipeline stage find (job ∷ jobs) counted =
    let legs : length (plan_job pipeline stage find job) ≡ length (legs_of job.legs) =
    length-map (legs_of job.legs) (plan_leg (pool_of pipeline stage job)
    (job_waits find job.depends) (map plan_step job.steps) job) in
    let seats : length (leg_seats job) ≡ leg_count job.legs =
    length-replicate (leg_count job.legs) job.place in
    let own : length (legs_of job.legs) ≡ leg_count job.legs = counted.0 in
    let rest : length (flat_map (plan_job pipeline stage find) jobs) ≡
    length (flat_map leg_seats jobs) = job_count pipeline stage find jobs counted.1 in
    length-append (plan_job pipeline stage find job) (flat_map (plan_job pipeline stage find) jobs)
    ∙ (λ i. (legs ∙ own ∙ sym seats) i + rest i)
    ∙ sym (length-append (leg_seats job) (flat_map leg_seats jobs))

each_few : (pipeline : Pipeline) (find : Finding) (at bound : ℕ) (stages : List StageSpec) →
    AllByRecursion AreCounted stages → length (seats_in leg_seats stages) ≤ bound →
    AllByRecursion (λ stage. length stage.jobs ≤ bound) (plan_stages pipeline find at stages)
each_few pipeline find at bound [] counted within = tt
each_few pipeline find at bound (stage ∷ stages) counted within =
    let own : length (flat_map (plan_job pipeline stage
    (places_under (leg_entries 0 stage.jobs))) stage.jobs) ≡ length (flat_map leg_seats stage.jobs)
    = job_count pipeline stage (places_under (leg_entries 0 stage.jobs)) stage.jobs counted.0 in
    let all : length (seats_in leg_seats (stage ∷ stages)) ≡
    length (flat_map leg_seats stage.jobs) + length (seats_in leg_seats stages) =
    length-append (flat_map leg_seats stage.jobs) (seats_in leg_seats stages) in (
      omega (arith, within, own, all),
      each_few pipeline find (at + 1) bound stages counted.1 (omega (arith, within, all)),
    )

wider : (stages : List PlanStage) → AllByRecursion (λ stage. length stage.jobs ≤ 256) stages →
    AllByRecursion (λ stage. length stage.jobs < 2 ^ 32) stages
wider [] all = tt
wider (stage ∷ stages) all = (omega (arith, all.0), wider stages all.1)

-- ---- the law

pub can_run : (pipeline : Pipeline) (plan : Plan) → judged pipeline.stages ≡ Ok tt →
    plan ≡ plan_from pipeline → IsSound plan → CanRun plan
unfolding plan_from
can_run pipeline plan passed made sound =
    let stages : plan.stages ≡ stages_of pipeline = ap (λ (p : Plan). p.stages) made in
    let kept = kept_of_judged pipeline.stages passed in
    let find = places_under (stage_entries 0 pipeline.stages) in
    let count : length plan.stages ≡ length pipeline.stages =
    ap (λ (ss : List PlanStage). length ss) stages ∙ stage_count pipeline find 0 pipeline.stages in
    let few : length pipeline.stages ≤ 64 = few_stages pipeline.stages kept in
    let jobs : All (λ (stage : PlanStage). length stage.jobs < 2 ^ 32) (stages_of pipeline) =
    All-from_recursion (λ (stage : PlanStage). length stage.jobs < 2 ^ 32) (stages_of pipeline)
    (wider (stages_of pipeline) (each_few pipeline find 0 256 pipeline.stages
    (all_counted pipeline.stages passed) (few_jobs pipeline.stages kept))) in
    let P : List PlanStage → Type 0 = λ ss. All (λ (stage : PlanStage). length stage.jobs < 2 ^ 32)
    ss
    in record {
      sound = sound;
      stages = omega (arith, count, few);
      jobs = subst P (sym stages) jobs;
    }
