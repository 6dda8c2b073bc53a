-- How many stages, jobs and steps a pipeline may have. These limits are this project's own.
use Rattle.std.specs.Prelude.{ℕ, ◌-◌, List, map, length, replicate, flat_map, slice_get, Option}
use Rattle.std.specs.Prelude.{Some, None, Result, Ok, Err}
use Rattle.pl_base.specs.declared.place.Place.{Place}
use Rattle.pl_schema_parts.specs.declared.pipeline.JobSpec.{JobSpec}
use Rattle.pl_schema_parts.specs.declared.pipeline.StageSpec.{StageSpec}
use Rattle.pl_depends.specs.declared.fault.PlanCode.{PlanCode}
use Rattle.pl_depends.specs.declared.fault.PlanCode.TheVariants.{TooManyStages, TooManyJobs}
use Rattle.pl_depends.specs.declared.fault.PlanCode.TheVariants.{TooManySteps}
use Rattle.pl_depends.specs.Gives.{Fault}
use Rattle.pl_reading.specs.Steps.{◌>>=◌}
use Rattle.pl_depends.specs.Places.{leg_count}

-- how many more may follow, where these are no more than may stand there; the first one too many is
-- refused
abbrev pub left_by : PlanCode → ℕ → Option Place → Result ℕ Fault
left_by code left None = Ok left
left_by code left (Some place) = Err (code, place)

abbrev pub left_over : PlanCode → ℕ → List Place → Result ℕ Fault
left_over code left places = left_by code (left - length places) (slice_get places left)

-- so many at most
abbrev pub at_most : PlanCode → ℕ → List Place → Result (Unit {0}) Fault
at_most code most places = left_over code most places >>= λ left. Ok tt

abbrev pub stage_seats : List StageSpec → List Place
stage_seats stages = map (λ stage. stage.place) stages

-- each leg is a job, at the place of the job that was cut
abbrev pub leg_seats : JobSpec → List Place
leg_seats job = replicate (leg_count job.legs) job.place

-- steps count once, into however many legs their job is cut
abbrev pub step_seats : JobSpec → List Place
step_seats job = map (λ step. step.place) job.steps

abbrev pub seats_in : (JobSpec → List Place) → List StageSpec → List Place
seats_in seats stages = flat_map (λ stage. flat_map seats stage.jobs) stages

unfoldable pub limits_kept : List StageSpec → Result (Unit {0}) Fault
limits_kept stages =
    at_most TooManyStages 64 (stage_seats stages)
    >>= λ done. at_most TooManyJobs 256 (seats_in leg_seats stages)
    >>= λ done. at_most TooManySteps 2000 (seats_in step_seats stages)
