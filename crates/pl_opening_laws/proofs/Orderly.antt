-- The facts that whole rows tell are orderly, and an exclusive resource has one holder at most.
use Rattle.std.proofs.Common.{◌≡◌, ◌⊎◌, ℕ, ◌≤◌, Bool, true, false, true≢false, ◌&&◌, ◌||◌, not}
use Rattle.std.proofs.Common.{cond}
use Rattle.std.proofs.Common.{List, [], ◌∷◌, ◌++◌, Option, Some, None, refl, sym, ap, subst, ◌∙◌}
use Rattle.std.proofs.Common.{inl, inr}
use Rattle.std.specs.List.{filter, list_any, Contains}
use Rattle.std.specs.Option.{option_and_then, option_map, option_map_or, option_or}
use Rattle.std.specs.Ordering.{is_eq}
use Rattle.std.specs.Prelude.{is_none, is_some, slice_get}
use Rattle.std.proofs.lemmas.List.Elements.{All-contains, All-from_recursion}
use Rattle.pl_base.specs.declared.digest.Digest.{Digest}
use Rattle.pl_base.specs.declared.resource.ResourceKey.{ResourceKey}
use Rattle.pl_base.specs.declared.row.Row.{Row}
use Rattle.pl_due.specs.Checked.{is_exclusive}
use Rattle.pl_due.specs.Nodes.{is_running}
use Rattle.pl_facts.specs.declared.fact.Fact.{Fact}
use Rattle.pl_facts.specs.declared.fact.QueuedRun.{QueuedRun}
use Rattle.pl_opening.specs.Below.pl_granting.specs.Grantable.{AreDone}
use Rattle.pl_opening.specs.Below.pl_granting.specs.Named.{IsJobOf, JobOf}
use Rattle.pl_opening.specs.Below.pl_granting_laws.specs.Histories.{AreOrderly}
use Rattle.pl_journal.specs.About.{is_about}
use Rattle.pl_journal.specs.Kinds.{is_stage_end, is_start}
use Rattle.pl_journal.specs.Runs.{job_end, job_ending, queueing, run_told, skipping, stage_end}
use Rattle.pl_journal.specs.Runs.{stage_start}
use Rattle.pl_journal.specs.Settings.{by, default_pool, resource_set}
use Rattle.pl_keeper.specs.declared.records.KeptJob.{KeptJob}
use Rattle.pl_keeper.specs.declared.records.KeptStage.{KeptStage}
use Rattle.pl_keeper.specs.declared.records.Record.{Record}
use Rattle.pl_keeper.specs.declared.records.Record.TheVariants as kept
use Rattle.pl_kept.specs.Kept.{planned_job, planned_stage, Where, Stage, Job, Run}
use Rattle.pl_log.specs.Keys as named
use Rattle.pl_plan.specs.declared.plan.Plan.{Plan}
use Rattle.pl_plan.specs.declared.plan.PlanStage.{PlanStage}
use Rattle.pl_torn.specs.Holding.{has_run_out, is_out_of_stage}
use Rattle.pl_torn.specs.Looking.{stage_told}
use Rattle.pl_torn.specs.Seen.{seen_at, stage_in}
use Rattle.pl_torn.specs.declared.seen.Seen.{Seen}
use Rattle.pl_opening.specs.Below.pl_opened_laws.proofs.Again.{end_found, job_end_found, job_planned_of, stage_planned_of}
use Rattle.pl_opening.specs.Below.pl_opened_laws.proofs.Again.{start_found, IsStagePlanned}
use Rattle.pl_opening.specs.Below.pl_opened_laws.proofs.Good.{neither}
use Rattle.pl_opening.specs.Below.pl_opened_laws.proofs.Known.{finds, seen_of, AreOpened, IsOf}
use Rattle.pl_opening.specs.Below.pl_opened_laws.proofs.Lists.{never_some, some_is, In}
use Rattle.pl_opening.specs.Below.pl_opened_laws.proofs.Runs.{is_there, row_of_run, IsQueued}
use Rattle.pl_opening.specs.Below.pl_opened_laws.proofs.Telling.{where_of}
use Rattle.pl_opening.specs.Below.pl_opened_laws.proofs.Tests.{end_at, right_of, start_at}
use Rattle.pl_opening.specs.Below.pl_opened_laws.proofs.There.{job_there, queued_there, stage_queued, stage_there}

-- ---- a stage's row, and a job's

pub record IsStageRow (all : List Seen) (run stage : ℕ) : Type 0 where
  pub one : Seen
  pub there : In one all
  pub told : KeptStage
  pub is : one.kept ≡ Some (kept.Stage told)
  pub run_is : told.run ≡ run
  pub stage_is : told.position ≡ stage

abbrev run_in : Where → ℕ
run_in (Stage run stage) = run
run_in (Job run stage job) = run
run_in _ = 0

abbrev stage_at : Where → ℕ
stage_at (Stage run stage) = stage
stage_at (Job run stage job) = stage
stage_at _ = 0

abbrev job_at : Where → ℕ
job_at (Job run stage job) = job
job_at _ = 0

abbrev is_stage : Option Where → Bool
is_stage (Some (Stage run stage)) = true
is_stage _ = false

abbrev is_job : Option Where → Bool
is_job (Some (Job run stage job)) = true
is_job _ = false

stage_row_by : (all : List Seen) (run stage : ℕ) (one : Seen) → In one all → (told : Record) →
    one.kept ≡ Some told → where_of told ≡ Some (Stage run stage) → IsStageRow all run stage
stage_row_by all run stage one there (kept.Stage told) is e =
    let same = some_is (Stage told.run told.position) (Stage run stage) e in
    record {
      one = one;
      there = there;
      told = told;
      is = is;
      run_is = ap run_in same;
      stage_is = ap stage_at same;
    }
stage_row_by all run stage one there _ is e = absurd (true≢false (sym (ap is_stage e)))

pub stage_row_of : (all : List Seen) (run stage : ℕ) → IsOf all (Stage run stage) →
    IsStageRow all run stage
stage_row_of all run stage row =
    stage_row_by all run stage row.one row.there row.told row.is row.here

record IsJobRow (all : List Seen) (run stage job : ℕ) : Type 0 where
  one : Seen
  there : In one all
  told : KeptJob
  is : one.kept ≡ Some (kept.Job told)
  run_is : told.run ≡ run
  stage_is : told.stage ≡ stage
  job_is : told.position ≡ job

job_row_by : (all : List Seen) (run stage job : ℕ) (one : Seen) → In one all → (told : Record) →
    one.kept ≡ Some told → where_of told ≡ Some (Job run stage job) → IsJobRow all run stage job
job_row_by all run stage job one there (kept.Job told) is e =
    let same = some_is (Job told.run told.stage told.position) (Job run stage job) e in
    record {
      one = one;
      there = there;
      told = told;
      is = is;
      run_is = ap run_in same;
      stage_is = ap stage_at same;
      job_is = ap job_at same;
    }
job_row_by all run stage job one there _ is e = absurd (true≢false (sym (ap is_job e)))

-- ---- options

some_of : {X : Type 0} (o : Option X) → (o ≡ None → ⊥) → is_some o ≡ true
some_of None has = absurd (has refl)
some_of (Some x) has = refl

mapped_some : {X Y : Type 0} (f : X → Y) (o : Option X) → is_some (option_map f o) ≡ is_some o
mapped_some f None = refl
mapped_some f (Some x) = refl

mapped_none : {X Y : Type 0} (f : X → Y) (o : Option X) → is_none (option_map f o) ≡ is_none o
mapped_none f None = refl
mapped_none f (Some x) = refl

pub both_of : (a b : Bool) → a ≡ true → b ≡ true → (a && b) ≡ true
both_of true b x y = y
both_of false b x y = x

pub off_of : (a b : Bool) → (a && b) ≡ false → b ≡ true → a ≡ false
off_of true b e on = absurd (true≢false (sym on ∙ e))
off_of false b e on = refl

module _ {admin : Digest} {rows : List Row} {all : List Seen} {facts : List Fact}
    (opens : AreOpened admin rows all facts) where
  -- ---- a stage that was started is of a run that was queued

  start_row : (run stage : ℕ) (fact : Fact) → stage_start run stage facts ≡ Some fact →
      IsOf all (Stage run stage)
  start_row run stage fact e = (finds opens
      (λ fact. is_about (named.Stage run stage) fact && is_start fact.event) (Stage run stage)
      (λ fact. start_at run stage fact) fact e).row

  pub queued_of : (run stage : ℕ) → IsStageRow all run stage → IsQueued all facts run
  queued_of run stage row =
      let planned = stage_planned_of opens row.one row.there row.told row.is in
      subst (λ (r : ℕ). IsQueued all facts r) row.run_is
      (stage_queued opens row.told.run row.told.position planned.planned planned.stage)

  started_by : (run stage : ℕ) (o : Option Fact) → stage_start run stage facts ≡ o →
      (o ≡ None → ⊥) → queueing run facts ≡ None → ⊥
  started_by run stage None is has none = has refl
  started_by run stage (Some fact) is has none =
      let queued = queued_of run stage
      (stage_row_of all run stage (start_row run stage fact is)) in
      never_some _ (sym queued.queued ∙ none)

  -- ---- in a stage that was started and has ended every job has ended

  -- what the facts tell of a stage is what its row tells
  pub starts_as : (run stage : ℕ) (row : IsStageRow all run stage) →
      is_some (stage_start run stage facts) ≡ is_some row.told.started
  starts_as run stage row =
      (λ i. is_some (stage_start (sym row.run_is i) (sym row.stage_is i) facts)) ∙
      (ap is_some (start_found opens row.one row.there row.told row.is) ∙
      mapped_some _ row.told.started)

  pub ends_as : (run stage : ℕ) (row : IsStageRow all run stage) →
      is_none (stage_end run stage facts) ≡ is_none row.told.ended
  ends_as run stage row =
      (λ i. is_none (stage_end (sym row.run_is i) (sym row.stage_is i) facts)) ∙
      (ap is_none (end_found opens row.one row.there row.told row.is) ∙
      mapped_none _ row.told.ended)

  has_ended : (run stage : ℕ) (row : IsStageRow all run stage) →
      is_some (stage_end run stage facts) ≡ is_some row.told.ended
  has_ended run stage row =
      (λ i. is_some (stage_end (sym row.run_is i) (sym row.stage_is i) facts)) ∙
      (ap is_some (end_found opens row.one row.there row.told row.is) ∙
      mapped_some _ row.told.ended)

  stage_seen : (run stage : ℕ) (row : IsStageRow all run stage) →
      stage_told run stage all ≡ Some row.told
  stage_seen run stage row =
      let here : where_of (kept.Stage row.told) ≡ Some (Stage run stage) =
      λ i. Some (Stage (row.run_is i) (row.stage_is i)) in
      ap (λ (o : Option Seen). option_and_then stage_in
      (option_and_then (λ (s : Seen). s.kept) o)) (seen_of opens (Stage run stage) (record {
        one = row.one;
        there = row.there;
        told = kept.Stage row.told;
        is = row.is;
        here = here;
      })) ∙ ap (λ (o : Option Record). option_and_then stage_in o) row.is

  job_done : (run stage job : ℕ) (row : IsJobRow all run stage job)
      (above : IsStageRow all run stage) → (stage_start run stage facts ≡ None → ⊥) →
      (stage_end run stage facts ≡ None → ⊥) → job_ending run stage job facts ≡ None → ⊥
  job_done run stage job row above started ended none =
      let planned = job_planned_of opens row.one row.there row.told row.is in
      let out : is_out_of_stage (stage_told row.told.run row.told.stage all) row.told ≡ false =
      (neither (is_out_of_stage (stage_told row.told.run row.told.stage all) row.told) _
      planned.good).0 in
      let off : (is_none row.told.ended &&
      has_run_out (stage_told row.told.run row.told.stage all)) ≡ false = (neither _
      (is_none row.told.ended && has_run_out (stage_told row.told.run row.told.stage all)) out).1 in
      let seen : stage_told row.told.run row.told.stage all ≡ Some above.told =
      (λ i. stage_told (row.run_is i) (row.stage_is i) all) ∙ stage_seen run stage above in
      let runs_out : has_run_out (stage_told row.told.run row.told.stage all) ≡ true =
      ap has_run_out seen ∙ both_of (is_some above.told.started) (is_some above.told.ended)
      (sym (starts_as run stage above) ∙ some_of (stage_start run stage facts) started)
      (sym (has_ended run stage above) ∙ some_of (stage_end run stage facts) ended) in
      let end = is_there row.told.ended (off_of (is_none row.told.ended)
      (has_run_out (stage_told row.told.run row.told.stage all)) off runs_out) in
      let found = job_end_found opens row.one row.there row.told row.is ∙
      ap (option_map _) end.1 in
      let here = (λ i. job_end (sym row.run_is i) (sym row.stage_is i) (sym row.job_is i) facts) ∙
      found in
      never_some _ (sym (ap (λ (o : Option Fact). option_or o (skipping run stage facts)) here) ∙
      none)

  done_by : (at : JobOf) → IsJobOf facts at → (o : Option Fact) →
      stage_start at.run at.stage facts ≡ o → (o ≡ None → ⊥) →
      (stage_end at.run at.stage facts ≡ None → ⊥) →
      job_ending at.run at.stage at.job facts ≡ None → ⊥
  done_by at is None e started ended none = started refl
  done_by at is (Some fact) e started ended none =
      let planned : planned_job at.run at.stage at.job facts ≡ Some at.planned =
      ap (λ (o : Option QueuedRun). option_and_then (λ told. slice_get told.jobs at.job)
      (option_and_then (λ told. slice_get told.compiled.plan.stages at.stage) o)) is.queued ∙
      (ap (λ (o : Option PlanStage). option_and_then (λ told. slice_get told.jobs at.job) o)
      is.staged ∙ is.planned) in
      let row = job_there opens at.run at.stage at.job at.planned planned in
      job_done at.run at.stage at.job
      (job_row_by all at.run at.stage at.job row.one row.there row.told row.is row.here)
      (stage_row_of all at.run at.stage (start_row at.run at.stage fact e))
      (λ gone. started (sym e ∙ gone)) ended none

  pub are_orderly : AreOrderly facts
  are_orderly = record {
    of_runs = λ run stage has none.
        started_by run stage (stage_start run stage facts) refl has none;
    done = λ at is started ended none.
        done_by at is (stage_start at.run at.stage facts) refl started ended none;
  }

  -- ---- each run that was queued has its row

  pub queued_row : (run : ℕ) → (queueing run facts ≡ None → ⊥) → (o : Option Fact) →
      queueing run facts ≡ o → IsOf all (Run run)
  queued_row run has None is = absurd (has is)
  queued_row run has (Some fact) is = row_of_run opens run (queued_there opens run fact is)
