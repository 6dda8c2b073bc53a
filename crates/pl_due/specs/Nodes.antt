-- The stages of runs and their jobs: how far they are, and what their conditions say (Microsoft
-- Learn, "Specify conditions").
use Rattle.std.specs.Prelude.{◌≡◌, ℕ, ◌+◌, ◌*◌, nat_lt, nat_le, Bool, false, ◌&&◌, List, length}
use Rattle.std.specs.Prelude.{Some, slice_get, is_some, is_none}
use Rattle.std.specs.List.{filter_map, list_all, range_with_len}
use Rattle.std.specs.Option.{option_map_or}
use Rattle.pl_base.specs.declared.outcome.Outcome.{Outcome}
use Rattle.pl_facts.specs.declared.fact.Fact.{Fact}
use Rattle.pl_facts.specs.declared.fact.QueuedRun.{QueuedRun}
use Rattle.pl_plan.specs.declared.plan.PlanStage.{PlanStage}
use Rattle.pl_results.specs.declared.members.PlanNode.{PlanNode}
use Rattle.pl_journal.specs.Runs.{canceling, holding, job_ending, outcome_told, queueing, run_told}
use Rattle.pl_journal.specs.Runs.{stage_end, stage_start, taking}
use Rattle.pl_journal.specs.Settings.{by}
use Rattle.pl_views.specs.Ready.{is_ready, job_has_ended, job_is_ready}
use Rattle.pl_views.specs.RunViews.{run_view}
use Rattle.pl_cond.specs.Conditions.{holds}

-- ---- stages

-- the run was queued so, and its plan has this stage at this place
pub record IsStageOf (facts : List Fact) (run stage : ℕ) (told : QueuedRun) (one : PlanStage) :
    Type 0 where
  pub queued : by run_told (queueing run facts) ≡ Some told
  pub planned : slice_get told.compiled.plan.stages stage ≡ Some one

-- started, and not ended
abbrev pub is_running : ℕ → ℕ → List Fact → Bool
is_running run stage facts =
    is_some (stage_start run stage facts) && is_none (stage_end run stage facts)

-- neither started nor ended, and all that it waits for has ended
abbrev pub is_waiting : PlanStage → ℕ → ℕ → List Fact → Bool
is_waiting one run stage facts = is_none (stage_start run stage facts)
    && is_none (stage_end run stage facts) && is_ready one run facts

abbrev pub is_canceled : ℕ → List Fact → Bool
is_canceled run facts = is_some (canceling run facts)

-- what the condition of a stage or of a job of the run says
abbrev pub condition : QueuedRun → ℕ → PlanNode → List Fact → Bool
condition told run node facts =
    holds told.compiled.plan (run_view told.compiled.plan run facts) node

-- ---- jobs, by their places in their stage

-- a job that was taken at that moment has had its minutes; with 0 it has no end
abbrev pub has_had : ℕ → ℕ → ℕ → Bool
has_had minutes taken moment = nat_lt 0 minutes && nat_le (taken + 60 * minutes) moment

-- taken, not ended, and out of time
abbrev pub is_out_of_time : ℕ → PlanStage → ℕ → ℕ → ℕ → List Fact → Bool
is_out_of_time moment one run stage job facts = option_map_or
    (λ planned. option_map_or (λ fact. has_had planned.timeout fact.moment moment)
    (holding run stage job facts) false)
    (slice_get one.jobs job) false

-- neither taken nor ended, and all that it waits for has ended
abbrev pub awaits_agent : PlanStage → ℕ → ℕ → ℕ → List Fact → Bool
awaits_agent one run stage job facts = option_map_or
    (λ planned. is_none (taking run stage job facts)
    && is_none (job_ending run stage job facts) && job_is_ready planned run stage facts)
    (slice_get one.jobs job) false

-- whether all jobs of a stage have ended, and how they did
abbrev pub has_done_all : PlanStage → ℕ → ℕ → List Fact → Bool
has_done_all one run stage facts =
    list_all (job_has_ended run stage facts) (range_with_len 0 (length one.jobs))

abbrev pub outcomes : PlanStage → ℕ → ℕ → List Fact → List Outcome
outcomes one run stage facts = filter_map
    (λ job. by outcome_told (job_ending run stage job facts))
    (range_with_len 0 (length one.jobs))
