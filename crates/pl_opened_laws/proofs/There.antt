-- What the facts keep at a place, a row tells that stands there.
use Rattle.std.proofs.Common.{◌≡◌, ℕ, Bool, ◌&&◌, List, Option, Some, None, refl, sym, ap, ◌∙◌}
use Rattle.std.specs.Option.{option_and_then, option_map}
use Rattle.std.specs.Prelude.{slice_get}
use Rattle.pl_base.specs.declared.digest.Digest.{Digest}
use Rattle.pl_base.specs.declared.row.Row.{Row}
use Rattle.pl_facts.specs.declared.fact.Fact.{Fact}
use Rattle.pl_journal.specs.About.{is_about}
use Rattle.pl_journal.specs.Kinds.{is_decision_by, is_job_end, is_queueing, is_stage_end, is_start}
use Rattle.pl_journal.specs.Kinds.{is_taking}
use Rattle.pl_journal.specs.Runs.{canceling, queueing, run_told}
use Rattle.pl_journal.specs.Settings.{agent_told, by, pipeline_told, principal_told, resource_told}
use Rattle.pl_journal.specs.Settings.{text_told}
use Rattle.pl_keeper.specs.declared.records.Record.{Record}
use Rattle.pl_keeper.specs.declared.records.Record.TheVariants as kept
use Rattle.pl_kept.specs.Kept.{decided_kept, kept_at, planned_job, planned_stage, queued_kept}
use Rattle.pl_kept.specs.Kept.{Where, File, Pipeline, Resource, Principal, Agent, Run, Stage, Job}
use Rattle.pl_kept.specs.Kept.{Decision}
use Rattle.pl_kept.specs.Told.{moment_of}
use Rattle.pl_log.specs.Keys as named
use Rattle.pl_log.specs.Latest.{latest}
use Rattle.pl_plan.specs.declared.plan.PlanJob.{PlanJob}
use Rattle.pl_plan.specs.declared.plan.PlanStage.{PlanStage}
use Rattle.pl_torn.specs.declared.seen.Seen.{Seen}
use Rattle.pl_opened_laws.proofs.Known.{finds, AreOpened, IsAt, IsOf}
use Rattle.pl_opened_laws.proofs.Lists.{never_some}
use Rattle.pl_opened_laws.proofs.Runs.{job_row, queued_at, stage_is, stage_row, IsQueued}
use Rattle.pl_opened_laws.proofs.Tests.{about, about_kind, decision_at}

-- of what is kept by what is planned, something is planned
planned_by : {X : Type 0} (f : X → Record) (o : Option X) (told : Record) →
    option_map f o ≡ Some told → (x : X) × (o ≡ Some x)
planned_by f None told e = absurd (never_some told (sym e))
planned_by f (Some x) told e = (x, refl)

inner_by : {X Y : Type 0} (f : X → Option Y) (o : Option X) (y : Y) →
    option_and_then f o ≡ Some y → (x : X) × (o ≡ Some x) × (f x ≡ Some y)
inner_by f None y e = absurd (never_some y (sym e))
inner_by f (Some x) y e = (x, refl, e)

module _ {admin : Digest} {rows : List Row} {all : List Seen} {facts : List Fact}
    (opens : AreOpened admin rows all facts) where
  -- what comes of the latest fact that passes a test comes of a row
  row_by : (test : Fact → Bool) (at : Where) → IsAt opens test at → {X : Type 0}
      (f : Option Fact → Option X) → f None ≡ None → (x : X) → (o : Option Fact) →
      latest test facts ≡ o → f o ≡ Some x → IsOf all at
  row_by test at is_at f none x None is e = absurd (never_some x (sym e ∙ none))
  row_by test at is_at f none x (Some fact) is e = (finds opens test at is_at fact is).row

  pub queued_there : (run : ℕ) (fact : Fact) → queueing run facts ≡ Some fact →
      IsQueued all facts run
  queued_there run fact e = queued_at opens run
      (finds opens (λ fact. is_about (named.Run run) fact && is_queueing fact.event) (Run run)
      (about_kind (named.Run run) (Run run) is_queueing refl) fact e).row

  queued_by : (run : ℕ) {X : Type 0} (f : Option Fact → Option X) → f None ≡ None → (x : X) →
      (o : Option Fact) → queueing run facts ≡ o → f o ≡ Some x → IsQueued all facts run
  queued_by run f none x None is e = absurd (never_some x (sym e ∙ none))
  queued_by run f none x (Some fact) is e = queued_there run fact is

  -- a stage that is planned is one of a run's plan
  pub stage_queued : (run stage : ℕ) (planned : PlanStage) →
      planned_stage run stage facts ≡ Some planned → IsQueued all facts run
  stage_queued run stage planned e = queued_by run
      (λ o. option_and_then (λ told. slice_get told.compiled.plan.stages stage) (by run_told o))
      refl planned (queueing run facts) refl e

  pub stage_there : (run stage : ℕ) (planned : PlanStage) →
      planned_stage run stage facts ≡ Some planned → IsOf all (Stage run stage)
  stage_there run stage planned e =
      let queued = stage_queued run stage planned e in
      stage_row opens run queued stage planned (sym (stage_is opens run queued stage) ∙ e)

  pub job_there : (run stage job : ℕ) (one : PlanJob) →
      planned_job run stage job facts ≡ Some one → IsOf all (Job run stage job)
  job_there run stage job one e =
      let found = inner_by (λ told. slice_get told.jobs job) (planned_stage run stage facts) one e in
      let queued = stage_queued run stage found.0 found.1 in
      job_row opens run queued stage found.0 job one
      (sym (stage_is opens run queued stage) ∙ found.1) found.2

  -- ---- a line a table

  pub row_there : (at : Where) (told : Record) → kept_at at facts ≡ Some told → IsOf all at
  row_there (File key) told e = row_by (is_about (named.File key)) (File key)
      (about (named.File key) (File key) refl)
      (λ o. option_map (λ text. kept.File (record { key = key; text = text })) (by text_told o))
      refl told (latest (is_about (named.File key)) facts) refl e
  row_there (Pipeline name) told e = row_by (is_about (named.Pipeline name)) (Pipeline name)
      (about (named.Pipeline name) (Pipeline name) refl)
      (λ o. option_map (λ set. kept.Pipeline (record {
        name = name;
        repo = set.repo;
        path = set.path;
      })) (by pipeline_told o)) refl told (latest (is_about (named.Pipeline name)) facts) refl e
  row_there (Resource key) told e = row_by (is_about (named.Resource key)) (Resource key)
      (about (named.Resource key) (Resource key) refl)
      (λ o. option_map (λ set. kept.Resource (record {
        key = key;
        exclusive = set.exclusive;
        pipelines = set.pipelines;
        checks = set.checks;
      })) (by resource_told o)) refl told (latest (is_about (named.Resource key)) facts) refl e
  row_there (Principal name) told e = row_by (is_about (named.Principal name)) (Principal name)
      (about (named.Principal name) (Principal name) refl)
      (λ o. option_map (λ set. kept.Principal (record {
        name = name;
        roles = set.roles;
        digest = set.digest;
      })) (by principal_told o)) refl told (latest (is_about (named.Principal name)) facts) refl e
  row_there (Agent name) told e = row_by (is_about (named.Agent name)) (Agent name)
      (about (named.Agent name) (Agent name) refl)
      (λ o. option_map (λ set. kept.Agent (record {
        name = name;
        pool = set.pool;
        capabilities = set.capabilities;
      })) (by agent_told o)) refl told (latest (is_about (named.Agent name)) facts) refl e
  row_there (Run run) told e =
      row_by (λ fact. is_about (named.Run run) fact && is_queueing fact.event) (Run run)
      (about_kind (named.Run run) (Run run) is_queueing refl)
      (λ o. option_and_then (queued_kept run (option_map moment_of (canceling run facts))) o)
      refl told (queueing run facts) refl e
  row_there (Stage run stage) told e =
      let planned = planned_by _ (planned_stage run stage facts) told e in
      stage_there run stage planned.0 planned.1
  row_there (Job run stage job) told e =
      let planned = planned_by _ (planned_job run stage job facts) told e in
      job_there run stage job planned.0 planned.1
  row_there (Decision run stage name) told e =
      row_by (λ fact. is_about (named.Stage run stage) fact && is_decision_by name fact.event)
      (Decision run stage name) (λ fact. decision_at run stage fact name)
      (λ o. option_and_then (decided_kept run stage name) o) refl told
      (latest (λ fact. is_about (named.Stage run stage) fact && is_decision_by name fact.event)
      facts) refl e
