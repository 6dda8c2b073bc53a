-- The plans of runs, and the rows of their stages and jobs, are there.
use Rattle.std.proofs.Common.{◌≡◌, ◌⊎◌, inl, inr, ℕ, zero, suc, ◌+◌, ◌<◌, ◌^◌, Bool, true, false, ◌||◌}
use Rattle.std.proofs.Common.{List, [], ◌∷◌, slice_get, Option, Some, None, refl, sym, ap, ◌∙◌}
use Rattle.std.proofs.Common.{arith, subst}
use Rattle.std.specs.List.{AllByRecursion}
use Rattle.std.specs.Option.{option_and_then, option_map, option_map_or}
use Rattle.std.specs.Prelude.{is_none, is_some, unwrap_or, IfSome}
use Rattle.pl_base.specs.declared.row.Row.{Row}
use Rattle.pl_facts.specs.declared.fact.Fact.{Fact}
use Rattle.pl_facts.specs.declared.fact.QueuedRun.{QueuedRun}
use Rattle.pl_journal.specs.Log.{Log}
use Rattle.pl_journal.specs.Runs.{queueing, run_told}
use Rattle.pl_journal.specs.Settings.{by}
use Rattle.pl_keeper.specs.Keeping.{comes_before, place, place_cmp}
use Rattle.pl_keeper.specs.declared.records.KeptJob.{KeptJob}
use Rattle.pl_keeper.specs.declared.records.KeptRun.{KeptRun}
use Rattle.pl_keeper.specs.declared.records.KeptStage.{KeptStage}
use Rattle.pl_keeper.specs.declared.records.Record.{Record}
use Rattle.pl_keeper.specs.declared.records.Record.TheVariants as kept
use Rattle.pl_changes.specs.Differing.{stands_at, Ascend}
use Rattle.pl_changes.proofs.Leading.{none_some, or_false}
use Rattle.pl_changes.proofs.Places.{if_false, if_true, is_less, itself, then_not}
use Rattle.pl_kept.specs.Kept.{kept_at, planned_job, planned_stage, Where, Job, Stage}
use Rattle.pl_plan.specs.declared.plan.Compiled.{Compiled}
use Rattle.pl_plan.specs.declared.plan.Plan.{Plan}
use Rattle.pl_plan.specs.declared.plan.PlanJob.{PlanJob}
use Rattle.pl_plan.specs.declared.plan.PlanStage.{PlanStage}
use Rattle.pl_torn.specs.Looking.{job_place, plan_told, stage_place}
use Rattle.pl_torn.specs.Looking as torn
use Rattle.pl_torn.specs.Plans.{lack_job, lack_stage, lacks_rows}
use Rattle.pl_torn.specs.Seen.{record_at, seen_at}
use Rattle.pl_torn.specs.declared.seen.Seen.{Seen}
use Rattle.pl_reread.specs.Reread.{AreMade, AreToldBy, IsGood, compiled_of}
use Rattle.pl_reread.proofs.Rereading.{both, each_row, rows_in}

-- ---- a row is found at its own place

pub own_seen : (all : List Seen) → Ascend (rows_in all) →
    AllByRecursion (λ one. seen_at (place one.row.now) all ≡ Some one) all
own_seen [] ascend = tt
own_seen (one ∷ all) ascend = (
  if_true (stands_at (place one.row.now) one.row.now) (Some one)
      (seen_at (place one.row.now) all) (itself (place one.row.now)),
  both (λ later. comes_before one.row.now later.row.now ≡ true)
      (λ later. seen_at (place later.row.now) all ≡ Some later)
      (λ later. seen_at (place later.row.now) (one ∷ all) ≡ Some later)
      (λ later before is. if_false (stands_at (place later.row.now) one.row.now) (Some one)
      (seen_at (place later.row.now) all) (then_not (place one.row.now) (place later.row.now)
      (is_less (place_cmp (place one.row.now) (place later.row.now)) before)) ∙ is) all
      (each_row (λ row. comes_before one.row.now row ≡ true) all ascend.0)
      (own_seen all ascend.1),
)

-- ---- plans

staged : (stage : ℕ) (told : Option QueuedRun) →
    option_and_then (λ plan. slice_get plan.stages stage) (option_map (λ made. made.plan)
    (option_map (λ queued. queued.compiled) told)) ≡
    option_and_then (λ queued. slice_get queued.compiled.plan.stages stage) told
staged stage None = refl
staged stage (Some told) = refl

-- a row is there where what is read at its place is
seen_there : (at : ℕ × List ℕ) (all : List Seen) (told : Record) → record_at at all ≡ Some told →
    is_none (seen_at at all) ≡ false
seen_there at all told e = by (seen_at at all) refl where
  by : (o : Option Seen) → seen_at at all ≡ o → is_none (seen_at at all) ≡ false
  by None f = absurd (none_some (record_at at all) told
      (ap (option_and_then (λ one. one.kept)) f) e)
  by (Some one) f = ap is_none f

module _ (change : ℕ) (log : Log) (all : List Seen) (is : AreToldBy change log all)
    (made : AreMade log all) (good : (at : Where) → IfSome (kept_at at log.facts) IsGood) where
  pub stage_is : (run stage : ℕ) → run < 2 ^ 64 →
      torn.planned_stage run stage all ≡ planned_stage run stage log.facts
  stage_is run stage fits =
      ap (λ (told : Option Compiled). option_and_then (λ plan. slice_get plan.stages stage)
      (option_map (λ one. one.plan) told)) (made run fits) ∙
      staged stage (by run_told (queueing run log.facts))

  pub job_is : (run stage job : ℕ) → run < 2 ^ 64 →
      torn.planned_job run stage job all ≡ planned_job run stage job log.facts
  job_is run stage job fits =
      ap (option_and_then (λ planned. slice_get planned.jobs job)) (stage_is run stage fits)

  -- the row of a stage that is planned is there, and that of a job
  stage_fits : (run stage : ℕ) (planned : PlanStage) →
      planned_stage run stage log.facts ≡ Some planned → (run < 2 ^ 64) × (stage < 2 ^ 32)
  stage_fits run stage planned e =
      let fine = subst (λ (o : Option Record). IfSome o IsGood) (ap (option_map _) e)
      (good (Stage run stage)) in
      fine.fits.0

  stage_there : (run stage : ℕ) (planned : PlanStage) →
      planned_stage run stage log.facts ≡ Some planned →
      is_none (seen_at (stage_place run stage) all) ≡ false
  stage_there run stage planned e = seen_there (stage_place run stage) all _
      (is.each (Stage run stage) (stage_fits run stage planned e) ∙ ap (option_map _) e)

  job_fits : (run stage job : ℕ) (planned : PlanJob) →
      planned_job run stage job log.facts ≡ Some planned →
      (run < 2 ^ 64) × ((stage < 2 ^ 32) × (job < 2 ^ 32))
  job_fits run stage job planned e =
      let fine = subst (λ (o : Option Record). IfSome o IsGood) (ap (option_map _) e)
      (good (Job run stage job)) in
      fine.fits.0

  job_there : (run stage job : ℕ) (planned : PlanJob) →
      planned_job run stage job log.facts ≡ Some planned →
      is_none (seen_at (job_place run stage job) all) ≡ false
  job_there run stage job planned e = seen_there (job_place run stage job) all _
      (is.each (Job run stage job) (job_fits run stage job planned e) ∙ ap (option_map _) e)

  -- no stage of a plan, and no job of one, lacks its row
  jobs_there : (run stage at : ℕ) (jobs : List PlanJob) →
      ((k : ℕ) (job : PlanJob) → slice_get jobs k ≡ Some job →
      planned_job run stage (at + k) log.facts ≡ Some job) →
      lack_job all run stage at jobs ≡ false
  jobs_there run stage at [] planned = refl
  jobs_there run stage at (job ∷ jobs) planned =
      or_false (is_none (seen_at (job_place run stage at) all)) _
      (job_there run stage at job (subst (λ n. planned_job run stage n log.facts ≡ Some job)
      (omega arith) (planned 0 job refl)))
      (jobs_there run stage (at + 1) jobs (λ k one e.
      subst (λ n. planned_job run stage n log.facts ≡ Some one) (omega arith)
      (planned (k + 1) one (next_of k one e)))) where
        next_of : (k : ℕ) (one : PlanJob) → slice_get jobs k ≡ Some one →
            slice_get (job ∷ jobs) (k + 1) ≡ Some one
        next_of k one e =
            ap (slice_get (job ∷ jobs)) (let same : k + 1 ≡ suc k = omega arith in same) ∙ e

  stages_there : (run at : ℕ) (stages : List PlanStage) →
      ((k : ℕ) (stage : PlanStage) → slice_get stages k ≡ Some stage →
      planned_stage run (at + k) log.facts ≡ Some stage) →
      lack_stage all run at stages ≡ false
  stages_there run at [] planned = refl
  stages_there run at (stage ∷ stages) planned =
      let here : planned_stage run at log.facts ≡ Some stage =
      subst (λ n. planned_stage run n log.facts ≡ Some stage) (omega arith)
      (planned 0 stage refl) in
      or_false (is_none (seen_at (stage_place run at) all)) _ (stage_there run at stage here)
      (or_false (lack_job all run at 0 stage.jobs) _
      (jobs_there run at 0 stage.jobs (λ k job e.
      subst (λ n. planned_job run at n log.facts ≡ Some job) (omega arith)
      (ap (option_and_then (λ (one : PlanStage). slice_get one.jobs k)) here ∙ e)))
      (stages_there run (at + 1) stages (λ k one e.
      subst (λ n. planned_stage run n log.facts ≡ Some one) (omega arith)
      (planned (k + 1) one (next_of k one e))))) where
        next_of : (k : ℕ) (one : PlanStage) → slice_get stages k ≡ Some one →
            slice_get (stage ∷ stages) (k + 1) ≡ Some one
        next_of k one e =
            ap (slice_get (stage ∷ stages)) (let same : k + 1 ≡ suc k = omega arith in same) ∙ e

  -- of a run that was queued nothing lacks
  pub no_rows_lack : (told : KeptRun) (queued : QueuedRun) →
      by run_told (queueing told.run log.facts) ≡ Some queued →
      lacks_rows all (Some queued.compiled) told ≡ false
  no_rows_lack told queued e = stages_there told.run 0 queued.compiled.plan.stages (λ k stage f.
      subst (λ n. planned_stage told.run n log.facts ≡ Some stage) (omega arith)
      (ap (option_and_then (λ (one : QueuedRun). slice_get one.compiled.plan.stages k)) e ∙ f))
