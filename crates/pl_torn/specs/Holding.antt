-- Who holds jobs, and whether he may.
use Rattle.std.specs.Prelude.{ℕ, ◌==◌, nat_le, Bool, false, not, ◌&&◌, ◌||◌, List, Option, None}
use Rattle.std.specs.Prelude.{is_none, is_some, if◌then◌else◌, slice_get, count_by}
use Rattle.std.specs.List.{list_any}
use Rattle.std.specs.Option.{option_map, option_map_or}
use Rattle.std.specs.Ordering.{is_eq}
use Rattle.pl_base.specs.Files.{text_cmp}
use Rattle.pl_keeper.specs.declared.records.KeptJob.{KeptJob}
use Rattle.pl_keeper.specs.declared.records.KeptStage.{KeptStage}
use Rattle.pl_plan.specs.declared.plan.PlanJob.{PlanJob}
use Rattle.pl_plan.specs.declared.plan.PlanStage.{PlanStage}
use Rattle.pl_torn.specs.Seen.{job_of}
use Rattle.pl_torn.specs.declared.seen.Seen.{Seen}

-- ---- a job in its stage

abbrev pub has_started : Option KeptStage → Bool
has_started stage = option_map_or (λ told. is_some told.started) stage false

abbrev pub has_run_out : Option KeptStage → Bool
has_run_out stage =
    option_map_or (λ told. is_some told.started && is_some told.ended) stage false

-- It is taken or has ended, and its stage wasn't started; or its stage was started and has ended,
-- and it hasn't.
abbrev pub is_out_of_stage : Option KeptStage → KeptJob → Bool
is_out_of_stage stage told =
    ((is_some told.taken || is_some told.ended) && not (has_started stage)) ||
    (is_none told.ended && has_run_out stage)

-- ---- who holds it

-- the agent that took it holds it until it ends
abbrev pub holder : KeptJob → Option (List ℕ)
holder told =
    if is_some told.ended then None else option_map (λ taking. taking.agent) told.taken

abbrev pub is_holder : List ℕ → KeptJob → Bool
is_holder agent told =
    option_map_or (λ other. is_eq (text_cmp other agent)) (holder told) false

-- whether it is the row of a job that this agent holds
abbrev pub holds : List ℕ → Seen → Bool
holds agent one = option_map_or (is_holder agent) (job_of one) false

-- its agent holds another job, of a row in front
abbrev pub has_other : List Seen → KeptJob → Bool
has_other before told =
    option_map_or (λ agent. list_any (holds agent) before) (holder told) false

-- ---- legs

-- whether two jobs of one stage are legs of one job: they have one name
abbrev pub is_leg_of : PlanStage → PlanJob → ℕ → Bool
is_leg_of planned job at = option_map_or (λ other. is_eq (text_cmp other.name job.name))
    (slice_get planned.jobs at) false

-- whether it is the row of a leg of this job, in the stage of that job's row, that is held
abbrev pub is_held_leg : PlanStage → PlanJob → KeptJob → Seen → Bool
is_held_leg planned job told one = option_map_or
    (λ other. is_some (holder other) && ((other.run == told.run && other.stage == told.stage) &&
    is_leg_of planned job other.position)) (job_of one) false

-- it is held, and so many in front are that it is one more than may be at once
abbrev pub is_leg_too_many : PlanStage → PlanJob → List Seen → KeptJob → Bool
is_leg_too_many planned job before told = is_some (holder told) &&
    nat_le job.max_parallel (count_by (is_held_leg planned job told) before)
