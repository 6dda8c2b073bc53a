-- The rows of a state, read again.
use Rattle.std.specs.Prelude.{◌≡◌, ◌⊎◌, ℕ, List, [], ◌∷◌, ◌++◌, map, Some, IfSome, IsTrue, is_some}
use Rattle.std.specs.Prelude.{◌<◌, ◌^◌, ◌||◌, true, false, slice_get, Option}
use Rattle.std.specs.Option.{option_and_then, option_map}
use Rattle.pl_facts.specs.declared.fact.Fact.{Fact}
use Rattle.pl_facts.specs.declared.fact.QueuedRun.{QueuedRun}
use Rattle.pl_plan.specs.declared.plan.Compiled.{Compiled}
use Rattle.pl_plan.specs.declared.plan.PlanJob.{PlanJob}
use Rattle.pl_plan.specs.declared.plan.PlanStage.{PlanStage}
use Rattle.pl_journal.specs.Runs.{queueing, run_told}
use Rattle.pl_journal.specs.Settings.{by}
use Rattle.pl_base.specs.declared.digest.Digest.{Digest}
use Rattle.std.specs.List.{AllByRecursion}
use Rattle.pl_journal.specs.Log.{Log}
use Rattle.pl_keeper.specs.Keeping.{place}
use Rattle.pl_keeper.specs.Limits.{is_within}
use Rattle.pl_keeper.specs.Rows.{IsKept}
use Rattle.pl_keeper.specs.declared.records.Record.{Record}
use Rattle.pl_keeper.specs.declared.records.Record.TheVariants as kept
use Rattle.pl_kept.specs.Kept.{kept_at, numbers_kept, planned_stage, Where}
use Rattle.pl_places.specs.Places.{place_at, Fits}
use Rattle.pl_read.specs.Reading.{IsRead}
use Rattle.pl_rows.specs.State.{AreRows}
use Rattle.pl_torn.specs.Looking.{meta_told, run_place}
use Rattle.pl_torn.specs.Moments.{is_run_late}
use Rattle.pl_torn.specs.Names.{is_reserved_pipeline, is_reserved_principal}
use Rattle.pl_torn.specs.Plans.{is_above}
use Rattle.pl_torn.specs.Seen.{record_at, seen_at}
use Rattle.pl_torn.specs.Torn.{is_bad_decision, is_bad_job_of, is_bad_record, is_bad_stage_of}
use Rattle.pl_torn.specs.declared.seen.Seen.{Seen}

-- its fields are values of their types, and within the limits
pub record IsGood (kept : Record) : Type 0 where
  pub fits : IsKept kept
  pub within : IsTrue (is_within kept)

-- each row of a state, read; and all that is kept can be read again
pub record AreReread (change : ℕ) (log : Log) (all : List Seen) : Type 0 where
  pub are : AreRows change log (map (λ one. one.row.now) all)
  pub read : AllByRecursion (λ one. IsRead one.row.now one.kept) all
  pub good : (at : Where) → IfSome (kept_at at log.facts) IsGood
  pub numbers : IfSome (numbers_kept change log) IsGood

-- a row of what is kept at a place
pub record IsToldAt (log : Log) (one : Seen) : Type 0 where
  pub here : Where
  pub fits : Fits here
  pub there : place one.row.now ≡ place_at here
  pub told : one.kept ≡ kept_at here log.facts
  pub some : is_some one.kept ≡ true

-- the row of the service's numbers
pub record AreTheNumbers (change : ℕ) (log : Log) (one : Seen) : Type 0 where
  pub there : place one.row.now ≡ (0, [])
  pub told : one.kept ≡ numbers_kept change log
  pub some : is_some one.kept ≡ true

-- the rows tell what is kept
pub record AreToldBy (change : ℕ) (log : Log) (all : List Seen) : Type 0 where
  pub each : (here : Where) → Fits here → record_at (place_at here) all ≡ kept_at here log.facts
  pub numbers : record_at (0, []) all ≡ numbers_kept change log
  pub own : AllByRecursion (λ one. AreTheNumbers change log one ⊎ IsToldAt log one) all

-- no record says something that is bad beside the others
abbrev pub SayNothingBad : Digest → List Seen → Type 0
SayNothingBad admin all = (front : List Seen) (one : Seen) (rest : List Seen) →
    front ++ one ∷ rest ≡ all → (told : Record) → one.kept ≡ Some told →
    is_bad_record admin all front one.compiled told ≡ false

-- what a run that was queued was compiled to
abbrev pub compiled_of : ℕ → List Fact → Option Compiled
compiled_of run facts = option_map (λ told. told.compiled) (by run_told (queueing run facts))

-- of each run's row, what its sources compile to is what the run was compiled to
abbrev pub AreMade : Log → List Seen → Type 0
AreMade log all = (run : ℕ) → run < 2 ^ 64 →
    option_and_then (λ one. one.compiled) (seen_at (run_place run) all) ≡
    compiled_of run log.facts

-- ---- what is left to be said of records, whose plans and whose rows are there

-- names are free; a run isn't above the last one nor late; a stage and a job stand together with
-- the others of their plan; a decision is of a stage that is planned
abbrev pub SaysNothing : Digest → List Seen → List Seen → Log → Record → Type 0
SaysNothing admin all front log (kept.Pipeline told) = is_reserved_pipeline told ≡ false
SaysNothing admin all front log (kept.Principal told) =
    is_reserved_principal admin front told ≡ false
SaysNothing admin all front log (kept.Run told) =
    (is_above (meta_told all) told || is_run_late (meta_told all) told) ≡ false
SaysNothing admin all front log (kept.Stage told) = (queued : QueuedRun) (planned : PlanStage) →
    by run_told (queueing told.run log.facts) ≡ Some queued →
    slice_get queued.compiled.plan.stages told.position ≡ Some planned →
    is_bad_stage_of all front queued.compiled.plan.stages told planned ≡ false
SaysNothing admin all front log (kept.Job told) = (planned : PlanStage) (job : PlanJob) →
    planned_stage told.run told.stage log.facts ≡ Some planned →
    slice_get planned.jobs told.position ≡ Some job →
    is_bad_job_of all front told planned job ≡ false
SaysNothing admin all front log (kept.Decision told) = is_bad_decision all told ≡ false
SaysNothing admin all front log _ = Unit {0}

abbrev pub LeaveNothing : Digest → Log → List Seen → Type 0
LeaveNothing admin log all = (front : List Seen) (one : Seen) (rest : List Seen) →
    front ++ one ∷ rest ≡ all → (told : Record) → one.kept ≡ Some told →
    SaysNothing admin all front log told
