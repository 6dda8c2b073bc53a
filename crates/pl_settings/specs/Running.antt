-- The stages that are running on a resource.
use Rattle.std.specs.Prelude.{ℕ, Bool, ◌&&◌, List, [], flat_map, length, Option, Some, None}
use Rattle.std.specs.Prelude.{is_some, slice_get, if◌then◌else◌}
use Rattle.std.specs.List.{filter_map, list_any, range_with_len}
use Rattle.std.specs.Option.{option_and_then, option_map_or}
use Rattle.std.specs.Ordering.{is_eq}
use Rattle.pl_base.specs.declared.resource.ResourceKey.{ResourceKey}
use Rattle.pl_facts.specs.declared.fact.Fact.{Fact}
use Rattle.pl_journal.specs.Runs.{queueing, run_told, stage_start}
use Rattle.pl_journal.specs.Settings.{by}
use Rattle.pl_log.specs.Keys.{resource_cmp}
use Rattle.pl_open_runs.specs.Open.{is_open_stage, queued_runs}
use Rattle.pl_plan.specs.declared.plan.PlanStage.{PlanStage}

abbrev pub uses : ResourceKey → PlanStage → Bool
uses key planned = list_any (λ one. is_eq (resource_cmp one key)) planned.uses

-- it was started and hasn't ended
abbrev pub is_running : ℕ → ℕ → List Fact → Bool
is_running run stage facts =
    is_some (stage_start run stage facts) && is_open_stage run stage facts

-- a stage by its run's number and its name
abbrev pub Stage : Type 0
Stage = ℕ × List ℕ

module _ (facts : List Fact) (key : ResourceKey) (run : ℕ) where
  -- the one at a place, where it is running on the resource
  abbrev pub running_at : List PlanStage → ℕ → Option Stage
  running_at stages stage = option_and_then
      (λ planned. if uses key planned && is_running run stage facts then Some (run, planned.name)
      else None)
      (slice_get stages stage)

  abbrev pub running_among : List PlanStage → List Stage
  running_among stages =
      filter_map (running_at stages) (range_with_len 0 (length stages))

  abbrev pub running_of : List Stage
  running_of = option_map_or (λ queued. running_among queued.compiled.plan.stages)
      (by run_told (queueing run facts)) []

-- those of all runs that were queued, by run, then by place
abbrev pub running_on : List Fact → ResourceKey → List Stage
running_on facts key = flat_map (running_of facts key) (queued_runs facts)
