-- The stages that run, and those that wait for no other stage, in order.
use Rattle.std.specs.Prelude.{ℕ, Bool, false, List, [], map, flat_map, filter, length, slice_get}
use Rattle.std.specs.List.{range_with_len}
use Rattle.std.specs.Option.{option_map_or}
use Rattle.pl_facts.specs.declared.fact.Fact.{Fact}
use Rattle.pl_journal.specs.Runs.{queueing, run_told}
use Rattle.pl_journal.specs.Settings.{by}
use Rattle.pl_open_runs.specs.Open.{open_runs}
use Rattle.pl_plan.specs.declared.plan.PlanStage.{PlanStage}
use Rattle.pl_due.specs.declared.open_stages.Place.{Place}
use Rattle.pl_due.specs.Nodes.{is_running, is_waiting}

abbrev pub at_place : ℕ → ℕ → Place
at_place run stage = record { run = run; stage = stage }

-- a test of the stages of a run, by their places
abbrev pub Test : Type 0
Test = List PlanStage → ℕ → ℕ → Bool

-- those of the first so many stages of a run that pass
abbrev pub passing : Test → List PlanStage → ℕ → ℕ → List Place
passing test stages run count =
    map (at_place run) (filter (test stages run) (range_with_len 0 count))

-- those of a run that was queued
abbrev pub of_run : List Fact → Test → ℕ → List Place
of_run facts test run = option_map_or (λ told. passing test told.compiled.plan.stages run
    (length told.compiled.plan.stages)) (by run_told (queueing run facts)) []

-- those of all open runs
abbrev pub of_open : List Fact → Test → List Place
of_open facts test = flat_map (of_run facts test) (open_runs facts)

-- ---- the tests

abbrev pub runs : List Fact → List PlanStage → ℕ → ℕ → Bool
runs facts stages run stage = is_running run stage facts

abbrev pub waits : List Fact → List PlanStage → ℕ → ℕ → Bool
waits facts stages run stage =
    option_map_or (λ one. is_waiting one run stage facts) (slice_get stages stage) false
