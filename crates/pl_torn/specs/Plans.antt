-- Whether each stage and each job of a plan has its row.
use Rattle.std.specs.Prelude.{ℕ, ◌+◌, nat_lt, Bool, true, false, ◌||◌, List, [], ◌∷◌, Option, is_none}
use Rattle.std.specs.Option.{option_map_or}
use Rattle.pl_keeper.specs.declared.records.KeptRun.{KeptRun}
use Rattle.pl_keeper.specs.declared.records.Meta.{Meta}
use Rattle.pl_plan.specs.declared.plan.Compiled.{Compiled}
use Rattle.pl_plan.specs.declared.plan.PlanJob.{PlanJob}
use Rattle.pl_plan.specs.declared.plan.PlanStage.{PlanStage}
use Rattle.pl_torn.specs.Looking.{job_place, stage_place}
use Rattle.pl_torn.specs.Seen.{seen_at}
use Rattle.pl_torn.specs.declared.seen.Seen.{Seen}

-- whether a job has no row, from a place in a stage's list on
abbrev pub lack_job : List Seen → ℕ → ℕ → ℕ → List PlanJob → Bool
lack_job all run stage at [] = false
lack_job all run stage at (job ∷ jobs) =
    is_none (seen_at (job_place run stage at) all) || lack_job all run stage (at + 1) jobs

-- whether a stage, or a job of it, has none, from a place in a plan's list on
abbrev pub lack_stage : List Seen → ℕ → ℕ → List PlanStage → Bool
lack_stage all run at [] = false
lack_stage all run at (stage ∷ stages) = is_none (seen_at (stage_place run at) all) ||
    (lack_job all run at 0 stage.jobs || lack_stage all run (at + 1) stages)

-- The sources don't compile to a plan of these same sources, or a stage or a job of it has no row.
abbrev pub lacks_rows : List Seen → Option Compiled → KeptRun → Bool
lacks_rows all compiled told =
    option_map_or (λ made. lack_stage all told.run 0 made.plan.stages) compiled true

-- The run is above the one that was queued last.
abbrev pub is_above : Option Meta → KeptRun → Bool
is_above numbers told = option_map_or (λ one. nat_lt one.run told.run) numbers false
