-- Whether moments stand together: an end behind its start, a start behind the ends that it waits
-- for, and none behind the service's.
use Rattle.std.specs.Prelude.{ℕ, ◌+◌, nat_eq, nat_le, nat_lt, Bool, true, false, not, ◌&&◌, ◌||◌, List}
use Rattle.std.specs.Prelude.{[], ◌∷◌, Option, Some, None}
use Rattle.std.specs.List.{list_any}
use Rattle.std.specs.Option.{option_and_then, option_map, option_map_or}
use Rattle.pl_keeper.specs.declared.records.KeptJob.{KeptJob}
use Rattle.pl_keeper.specs.declared.records.KeptRun.{KeptRun}
use Rattle.pl_keeper.specs.declared.records.KeptStage.{KeptStage}
use Rattle.pl_keeper.specs.declared.records.Meta.{Meta}
use Rattle.pl_plan.specs.declared.plan.PlanJob.{PlanJob}
use Rattle.pl_plan.specs.declared.plan.PlanStage.{PlanStage}
use Rattle.pl_torn.specs.Looking.{job_told, stage_told}
use Rattle.pl_torn.specs.declared.seen.Seen.{Seen}

-- ---- the moments of records

abbrev pub stage_ended : KeptStage → Option ℕ
stage_ended told = option_map (λ ended. ended.moment) told.ended

abbrev pub job_begun : KeptJob → Option ℕ
job_begun told = option_map (λ taking. taking.moment) told.taken

abbrev pub job_ended : KeptJob → Option ℕ
job_ended told = option_map (λ ended. ended.moment) told.ended

-- ---- none is above that of the last entry

abbrev pub is_late : Option Meta → ℕ → Bool
is_late numbers moment = option_map_or (λ told. nat_lt told.moment moment) numbers false

abbrev pub may_be_late : Option Meta → Option ℕ → Bool
may_be_late numbers moment = option_map_or (is_late numbers) moment false

abbrev pub is_run_late : Option Meta → KeptRun → Bool
is_run_late numbers told = is_late numbers told.moment || may_be_late numbers told.canceled

abbrev pub is_stage_late : Option Meta → KeptStage → Bool
is_stage_late numbers told =
    may_be_late numbers told.started || may_be_late numbers (stage_ended told)

abbrev pub is_job_late : Option Meta → KeptJob → Bool
is_job_late numbers told =
    may_be_late numbers (job_begun told) || may_be_late numbers (job_ended told)

-- ---- one after the other

-- an end before its start
abbrev pub ends_early : Option ℕ → Option ℕ → Bool
ends_early (Some begun) (Some ended) = nat_lt ended begun
ends_early _ _ = false

-- a start at whose moment what it waits for hasn't ended
abbrev pub starts_early : Option ℕ → Option ℕ → Bool
starts_early None ended = false
starts_early (Some begun) ended = not (option_map_or (λ moment. nat_le moment begun) ended false)

-- ---- in a list where each waits for some by their places; of two the later one is told

-- this one began before the end of one in front for which it waits
abbrev pub starts_before : (ended : ℕ → Option ℕ) → List ℕ → ℕ → Option ℕ → Bool
starts_before ended depends at begun =
    list_any (λ other. nat_lt other at && starts_early begun (ended other)) depends

-- ---- stages of a run

abbrev pub started_at : List Seen → ℕ → ℕ → Option ℕ
started_at all run stage = option_and_then (λ told. told.started) (stage_told run stage all)

abbrev pub stage_ended_at : List Seen → ℕ → ℕ → Option ℕ
stage_ended_at all run stage = option_and_then stage_ended (stage_told run stage all)

-- one in front, of a plan's stages from a place on, that waits for this one was started before its
-- end
abbrev pub stage_ends_behind : List Seen → KeptStage → ℕ → List PlanStage → Bool
stage_ends_behind all told at [] = false
stage_ends_behind all told at (other ∷ stages) = (nat_lt at told.position &&
    (list_any (nat_eq told.position) other.depends &&
    starts_early (started_at all told.run at) (stage_ended told))) ||
    stage_ends_behind all told (at + 1) stages

abbrev pub is_stage_off : List Seen → List PlanStage → PlanStage → KeptStage → Bool
is_stage_off all stages planned told = ends_early told.started (stage_ended told) ||
    (starts_before (stage_ended_at all told.run) planned.depends told.position told.started ||
    stage_ends_behind all told 0 stages)

-- ---- jobs of a stage

abbrev pub taken_at : List Seen → ℕ → ℕ → ℕ → Option ℕ
taken_at all run stage job = option_and_then job_begun (job_told run stage job all)

abbrev pub job_ended_at : List Seen → ℕ → ℕ → ℕ → Option ℕ
job_ended_at all run stage job = option_and_then job_ended (job_told run stage job all)

-- the same of a stage's jobs
abbrev pub job_ends_behind : List Seen → KeptJob → ℕ → List PlanJob → Bool
job_ends_behind all told at [] = false
job_ends_behind all told at (other ∷ jobs) = (nat_lt at told.position &&
    (list_any (nat_eq told.position) other.depends &&
    starts_early (taken_at all told.run told.stage at) (job_ended told))) ||
    job_ends_behind all told (at + 1) jobs

abbrev pub is_job_off : List Seen → List PlanJob → PlanJob → KeptJob → Bool
is_job_off all jobs planned told = ends_early (job_begun told) (job_ended told) ||
    (starts_before (job_ended_at all told.run told.stage) planned.depends told.position
    (job_begun told) || job_ends_behind all told 0 jobs)
