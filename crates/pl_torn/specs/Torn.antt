-- Which kept rows are torn, and at which row.
--
-- Rows are looked at in order of table and key. A row is bad by what it says itself and by what
-- those in front of it say; of a run it is also where a row is wanting behind it. What is wrong
-- between two rows is so at the later one. The first bad row is told.
use Rattle.std.specs.Prelude.{ℕ, ◌-◌, nat_eq, Bool, true, false, ◌&&◌, ◌||◌, List, [], ◌∷◌, ◌++◌}
use Rattle.std.specs.Prelude.{length}
use Rattle.std.specs.Prelude.{Option, Some, None, is_none, if◌then◌else◌, slice_get}
use Rattle.std.specs.Option.{option_and_then, option_map_or}
use Rattle.pl_base.specs.declared.digest.Digest.{Digest}
use Rattle.pl_changes.specs.Differing.{stands_at}
use Rattle.pl_keeper.specs.Keeping.{place}
use Rattle.pl_keeper.specs.declared.records.KeptDecision.{KeptDecision}
use Rattle.pl_keeper.specs.declared.records.KeptJob.{KeptJob}
use Rattle.pl_keeper.specs.declared.records.KeptRun.{KeptRun}
use Rattle.pl_keeper.specs.declared.records.KeptStage.{KeptStage}
use Rattle.pl_keeper.specs.declared.records.Record.{Record}
use Rattle.pl_keeper.specs.declared.records.Record.TheVariants as kept
use Rattle.pl_plan.specs.declared.plan.Compiled.{Compiled}
use Rattle.pl_plan.specs.declared.plan.PlanJob.{PlanJob}
use Rattle.pl_plan.specs.declared.plan.PlanStage.{PlanStage}
use Rattle.pl_torn.specs.Exclusive.{is_held}
use Rattle.pl_torn.specs.Holding.{has_other, is_leg_too_many, is_out_of_stage}
use Rattle.pl_torn.specs.Looking.{meta_told, plan_told, planned_stage, stage_told}
use Rattle.pl_torn.specs.Moments.{is_job_late, is_job_off, is_late, is_run_late, is_stage_late}
use Rattle.pl_torn.specs.Moments.{is_stage_off}
use Rattle.pl_torn.specs.Names.{is_reserved_pipeline, is_reserved_principal}
use Rattle.pl_torn.specs.Plans.{is_above, lacks_rows}
use Rattle.pl_torn.specs.Seen.{meta_in}
use Rattle.pl_torn.specs.declared.seen.Seen.{Seen}

-- ---- a row whatever it says: the first one is that of the service's numbers, none stands where the
-- one in front stands, and each says something

abbrev pub is_second : List Seen → Seen → Bool
is_second before one = option_map_or (λ last. stands_at (place one.row.now) last.row.now)
    (slice_get before (length before - 1)) false

abbrev pub lacks_numbers : List Seen → Seen → Bool
lacks_numbers before one =
    nat_eq (length before) 0 && is_none (option_and_then meta_in one.kept)

-- ---- a row by what it says, of the plan that it names

abbrev pub is_bad_run : List Seen → Option Compiled → KeptRun → Bool
is_bad_run all compiled told =
    lacks_rows all compiled told ||
    (is_above (meta_told all) told || is_run_late (meta_told all) told)

abbrev pub is_bad_stage_of : List Seen → List Seen → List PlanStage → KeptStage → PlanStage → Bool
is_bad_stage_of all before stages told planned = is_stage_off all stages planned told ||
    (is_stage_late (meta_told all) told || is_held all before planned told)

abbrev pub is_bad_job_of : List Seen → List Seen → KeptJob → PlanStage → PlanJob → Bool
is_bad_job_of all before told planned job =
    is_out_of_stage (stage_told told.run told.stage all) told || (has_other before told ||
    (is_leg_too_many planned job before told || (is_job_off all planned.jobs job told ||
    is_job_late (meta_told all) told)))

-- a stage, a job that no plan has
abbrev pub is_bad_stage : List Seen → List Seen → KeptStage → Bool
is_bad_stage all before told = option_map_or (λ plan. option_map_or
    (is_bad_stage_of all before plan.stages told) (slice_get plan.stages told.position) true)
    (plan_told told.run all) true

abbrev pub is_bad_job : List Seen → List Seen → KeptJob → Bool
is_bad_job all before told = option_map_or (λ planned. option_map_or
    (is_bad_job_of all before told planned) (slice_get planned.jobs told.position) true)
    (planned_stage told.run told.stage all) true

abbrev pub is_bad_decision : List Seen → KeptDecision → Bool
is_bad_decision all told =
    is_none (planned_stage told.run told.stage all) || is_late (meta_told all) told.moment

-- a line a table
abbrev pub is_bad_record : Digest → List Seen → List Seen → Option Compiled → Record → Bool
is_bad_record admin all before compiled (kept.Meta told) = false
is_bad_record admin all before compiled (kept.File told) = false
is_bad_record admin all before compiled (kept.Pipeline told) = is_reserved_pipeline told
is_bad_record admin all before compiled (kept.Resource told) = false
is_bad_record admin all before compiled (kept.Principal told) =
    is_reserved_principal admin before told
is_bad_record admin all before compiled (kept.Agent told) = false
is_bad_record admin all before compiled (kept.Run told) = is_bad_run all compiled told
is_bad_record admin all before compiled (kept.Stage told) = is_bad_stage all before told
is_bad_record admin all before compiled (kept.Job told) = is_bad_job all before told
is_bad_record admin all before compiled (kept.Decision told) = is_bad_decision all told

-- of all rows, with those before it in front
abbrev pub is_bad : Digest → List Seen → List Seen → Seen → Bool
is_bad admin all before one = lacks_numbers before one || (is_second before one ||
    option_map_or (is_bad_record admin all before one.compiled) one.kept true)

-- ---- the first bad row

abbrev pub torn_from : Digest → List Seen → List Seen → List Seen → Option Seen
torn_from admin all before [] = None
torn_from admin all before (one ∷ later) = if is_bad admin all before one then Some one
    else torn_from admin all (before ++ one ∷ []) later

abbrev pub torn : Digest → List Seen → Option Seen
torn admin all = torn_from admin all [] all
