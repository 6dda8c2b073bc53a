-- At each place the facts keep the record that its row is read as.
use Rattle.std.proofs.Common.{◌≡◌, ℕ, ◌^◌, ◌<◌, Bool, true, false, ◌&&◌, List, [], ◌∷◌, ◌++◌, map, Option, Some}
use Rattle.std.proofs.Common.{None, refl, sym, ap, subst, ◌∙◌}
use Rattle.std.specs.Option.{option_and_then, option_map, option_map_or}
use Rattle.std.specs.Prelude.{slice_get}
use Rattle.pl_base.specs.declared.digest.Digest.{Digest}
use Rattle.pl_base.specs.declared.row.Row.{Row}
use Rattle.pl_facts.specs.declared.fact.Event.{Event}
use Rattle.pl_facts.specs.declared.fact.Event.TheVariants as event
use Rattle.pl_facts.specs.declared.fact.Fact.{Fact}
use Rattle.pl_facts.specs.declared.fact.QueuedRun.{QueuedRun}
use Rattle.pl_journal.specs.About.{is_about}
use Rattle.pl_journal.specs.Kinds.{is_decision_by, is_job_end, is_stage_end, is_start, is_taking}
use Rattle.pl_journal.specs.Runs.{canceling, decision, job_end, queueing, run_told, stage_end}
use Rattle.pl_journal.specs.Runs.{stage_start, taking}
use Rattle.pl_journal.specs.Settings.{agent_told, by, pipeline_told, principal_told, resource_told}
use Rattle.pl_journal.specs.Settings.{text_told}
use Rattle.pl_keeper.specs.declared.records.JobEnd.{JobEnd}
use Rattle.pl_keeper.specs.declared.records.KeptAgent.{KeptAgent}
use Rattle.pl_keeper.specs.declared.records.KeptDecision.{KeptDecision}
use Rattle.pl_keeper.specs.declared.records.KeptFile.{KeptFile}
use Rattle.pl_keeper.specs.declared.records.KeptJob.{KeptJob}
use Rattle.pl_keeper.specs.declared.records.KeptPipeline.{KeptPipeline}
use Rattle.pl_keeper.specs.declared.records.KeptPrincipal.{KeptPrincipal}
use Rattle.pl_keeper.specs.declared.records.KeptResource.{KeptResource}
use Rattle.pl_keeper.specs.declared.records.KeptRun.{KeptRun}
use Rattle.pl_keeper.specs.declared.records.KeptStage.{KeptStage}
use Rattle.pl_keeper.specs.declared.records.Record.{Record}
use Rattle.pl_keeper.specs.declared.records.Record.TheVariants as kept
use Rattle.pl_keeper.specs.declared.records.StageEnd.{StageEnd}
use Rattle.pl_keeper.specs.declared.records.Taking.{Taking}
use Rattle.pl_kept.specs.Kept.{decided_kept, kept_at, planned_job, planned_stage, queued_kept}
use Rattle.pl_kept.specs.Kept.{Where, File, Pipeline, Resource, Principal, Agent, Run, Stage, Job}
use Rattle.pl_kept.specs.Kept.{Decision}
use Rattle.pl_kept.specs.Told.{job_end_told, moment_of, stage_end_told, taking_told, used_file}
use Rattle.pl_log.specs.Keys as named
use Rattle.pl_log.specs.Keys.{same_key}
use Rattle.pl_log.specs.Latest.{latest}
use Rattle.pl_log.proofs.Naming.{key_itself}
use Rattle.pl_opened.specs.Told as tells
use Rattle.pl_plan.specs.declared.plan.Plan.{Plan}
use Rattle.pl_plan.specs.declared.plan.PlanJob.{PlanJob}
use Rattle.pl_plan.specs.declared.plan.PlanStage.{PlanStage}
use Rattle.pl_plan.specs.declared.plan.Sources.{Sources}
use Rattle.pl_seeing.specs.Seeing.{pair_of, sources_of}
use Rattle.pl_torn.specs.Looking.{plan_told, planned_stage as stage_in_plan, run_place}
use Rattle.pl_torn.specs.Seen.{seen_at}
use Rattle.pl_torn.specs.Torn.{is_bad_job_of, is_bad_stage_of}
use Rattle.pl_torn.specs.declared.seen.Seen.{Seen}
use Rattle.pl_opened_laws.proofs.Good.{inner}
use Rattle.pl_opened_laws.proofs.Known.{fits_of, good_of, first, second, single, standing}
use Rattle.pl_opened_laws.proofs.Known.{AreOpened, IsOf}
use Rattle.pl_opened_laws.proofs.Lists.{never_some, some_is, In}
use Rattle.pl_opened_laws.proofs.Runs.{cancel_found, compile_of, plan_is, queued_at, queues, stage_is}
use Rattle.pl_opened_laws.proofs.Runs.{IsQueued}
use Rattle.pl_opened_laws.proofs.Standing.{seen_is}
use Rattle.pl_opened_laws.proofs.Telling.{where_of}
use Rattle.pl_opened_laws.proofs.Tests.{about, about_kind, and_false, and_true, both_true, decision_at, end_at}
use Rattle.pl_opened_laws.proofs.Tests.{start_at}

-- ---- what is told of something is that again

files_again : (files : List KeptFile) → map used_file (map pair_of files) ≡ files
files_again [] = refl
files_again (file ∷ files) = ap (λ (fs : List KeptFile). file ∷ fs) (files_again files)

moment_again : (one : Event) (o : Option ℕ) →
    option_map moment_of (option_map (λ moment. tells.at moment one) o) ≡ o
moment_again one None = refl
moment_again one (Some moment) = refl

stage_end_again : (told : KeptStage) (o : Option StageEnd) →
    stage_end_told (option_map (tells.stage_end told) o) ≡ o
stage_end_again told None = refl
stage_end_again told (Some ended) = refl

taking_again : (run stage job : ℕ) (o : Option Taking) →
    taking_told (option_map (tells.taking run stage job) o) ≡ o
taking_again run stage job None = refl
taking_again run stage job (Some taken) = refl

job_end_again : (run stage job : ℕ) (o : Option JobEnd) →
    job_end_told (option_map (tells.job_end run stage job) o) ≡ o
job_end_again run stage job None = refl
job_end_again run stage job (Some ended) = refl

module _ {admin : Digest} {rows : List Row} {all : List Seen} {facts : List Fact}
    (opens : AreOpened admin rows all facts) where
  abbrev pub IsAgain : Where → Record → Type 0
  IsAgain at told = kept_at at facts ≡ Some told

  -- ---- settings

  module _ (one : Seen) (there : In one all) where
    file_again : (told : KeptFile) → one.kept ≡ Some (kept.File told) →
        IsAgain (File told.key) (kept.File told)
    file_again told is = ap (λ (o : Option Fact). option_map (λ (text : List ℕ).
        kept.File (record { key = told.key; text = text })) (by text_told o))
        (single opens (File told.key)
        (record { one = one; there = there; told = kept.File told; is = is; here = refl })
        (is_about (named.File told.key)) (about (named.File told.key) (File told.key) refl)
        (tells.at 0 (event.FilePut (record { key = told.key; text = told.text }))) refl
        (key_itself (named.File told.key)))

    pipeline_again : (told : KeptPipeline) → one.kept ≡ Some (kept.Pipeline told) →
        IsAgain (Pipeline told.name) (kept.Pipeline told)
    pipeline_again told is = ap (λ (o : Option Fact). option_map (λ set. kept.Pipeline (record {
      name = told.name;
      repo = set.repo;
      path = set.path;
    })) (by pipeline_told o))
        (single opens (Pipeline told.name)
        (record { one = one; there = there; told = kept.Pipeline told; is = is; here = refl })
        (is_about (named.Pipeline told.name))
        (about (named.Pipeline told.name) (Pipeline told.name) refl)
        (tells.at 0 (event.PipelineSet (record {
          name = told.name;
          repo = told.repo;
          path = told.path;
        }))) refl (key_itself (named.Pipeline told.name)))

    resource_again : (told : KeptResource) → one.kept ≡ Some (kept.Resource told) →
        IsAgain (Resource told.key) (kept.Resource told)
    resource_again told is = ap (λ (o : Option Fact). option_map (λ set. kept.Resource (record {
      key = told.key;
      exclusive = set.exclusive;
      pipelines = set.pipelines;
      checks = set.checks;
    })) (by resource_told o))
        (single opens (Resource told.key)
        (record { one = one; there = there; told = kept.Resource told; is = is; here = refl })
        (is_about (named.Resource told.key))
        (about (named.Resource told.key) (Resource told.key) refl)
        (tells.at 0 (event.ResourceSet (record {
          key = told.key;
          pipelines = told.pipelines;
          exclusive = told.exclusive;
          checks = told.checks;
        }))) refl (key_itself (named.Resource told.key)))

    principal_again : (told : KeptPrincipal) → one.kept ≡ Some (kept.Principal told) →
        IsAgain (Principal told.name) (kept.Principal told)
    principal_again told is = ap (λ (o : Option Fact). option_map (λ set. kept.Principal (record {
      name = told.name;
      roles = set.roles;
      digest = set.digest;
    })) (by principal_told o))
        (single opens (Principal told.name)
        (record { one = one; there = there; told = kept.Principal told; is = is; here = refl })
        (is_about (named.Principal told.name))
        (about (named.Principal told.name) (Principal told.name) refl)
        (tells.at 0 (event.PrincipalSet (record {
          name = told.name;
          roles = told.roles;
          digest = told.digest;
        }))) refl (key_itself (named.Principal told.name)))

    agent_again : (told : KeptAgent) → one.kept ≡ Some (kept.Agent told) →
        IsAgain (Agent told.name) (kept.Agent told)
    agent_again told is = ap (λ (o : Option Fact). option_map (λ set. kept.Agent (record {
      name = told.name;
      pool = set.pool;
      capabilities = set.capabilities;
    })) (by agent_told o))
        (single opens (Agent told.name)
        (record { one = one; there = there; told = kept.Agent told; is = is; here = refl })
        (is_about (named.Agent told.name)) (about (named.Agent told.name) (Agent told.name) refl)
        (tells.at 0 (event.AgentSet (record {
          name = told.name;
          pool = told.pool;
          capabilities = told.capabilities;
        }))) refl (key_itself (named.Agent told.name)))

    -- ---- decisions

    decision_again : (told : KeptDecision) → one.kept ≡ Some (kept.Decision told) →
        IsAgain (Decision told.run told.stage told.approver) (kept.Decision told)
    decision_again told is =
        let key = named.Stage told.run told.stage in
        let found : decision told.run told.stage told.approver facts ≡ Some (tells.decision told) =
        single opens (Decision told.run told.stage told.approver)
        (record { one = one; there = there; told = kept.Decision told; is = is; here = refl })
        (λ fact. is_about key fact && is_decision_by told.approver fact.event)
        (λ fact. decision_at told.run told.stage fact told.approver) (tells.decision told) refl
        (both_true (same_key key key) (is_decision_by told.approver (tells.decision told).event)
        (key_itself key) (key_itself (named.Agent told.approver))) in
        ap (λ (o : Option Fact). option_and_then
        (decided_kept told.run told.stage told.approver) o) found

    -- ---- runs

    run_again : (told : KeptRun) → one.kept ≡ Some (kept.Run told) →
        IsAgain (Run told.run) (kept.Run told)
    run_again told is =
        let queued = queues opens one there told is in
        let canceled : option_map moment_of (canceling told.run facts) ≡ told.canceled =
        ap (option_map moment_of) (cancel_found opens one there told is) ∙
        moment_again (event.RunCanceled told.run) told.canceled in
        ap (λ (o : Option Fact). option_and_then (queued_kept told.run
        (option_map moment_of (canceling told.run facts))) o) queued.queued ∙
        ap (λ (o : Option ℕ). option_and_then (queued_kept told.run o)
        (Some (tells.queueing told queued.made))) canceled ∙
        ap (λ (s : Sources). Some (kept.Run (record {
          run = told.run;
          pipeline = told.pipeline;
          requester = told.requester;
          moment = told.moment;
          root = s.root;
          arguments = s.arguments;
          files = map used_file s.files;
          canceled = told.canceled;
        }))) (compile_of opens told.run queued).same ∙
        ap (λ (fs : List KeptFile). Some (kept.Run (record told { files = fs })))
        (files_again told.files)

    -- ---- stages

    module _ (told : KeptStage) (is : one.kept ≡ Some (kept.Stage told)) where
      abbrev pub stage_row_of : IsOf all (Stage told.run told.position)
      stage_row_of =
          record { one = one; there = there; told = kept.Stage told; is = is; here = refl }

      abbrev pub starts : ℕ → Fact
      starts moment = tells.at moment (event.StageStarted told.run told.position)

      abbrev own_stage : Bool
      own_stage = same_key (named.Stage told.run told.position)
          (named.Stage told.run told.position)

      stage_itself : own_stage ≡ true
      stage_itself = key_itself (named.Stage told.run told.position)

      pub start_found : stage_start told.run told.position facts ≡ option_map starts told.started
      start_found = first opens (Stage told.run told.position) stage_row_of
          (λ fact. is_about (named.Stage told.run told.position) fact && is_start fact.event)
          (λ fact. start_at told.run told.position fact) starts (tells.stage_end told)
          told.started told.ended refl (λ moment. and_true own_stage stage_itself)
          (λ ended. and_false own_stage)

      pub end_found : stage_end told.run told.position facts ≡
          option_map (tells.stage_end told) told.ended
      end_found = second opens (Stage told.run told.position) stage_row_of
          (λ fact. is_about (named.Stage told.run told.position) fact && is_stage_end fact.event)
          (λ fact. end_at told.run told.position fact) starts (tells.stage_end told)
          told.started told.ended refl (λ moment. and_false own_stage)
          (λ ended. and_true own_stage stage_itself)

    -- ---- jobs

    module _ (told : KeptJob) (is : one.kept ≡ Some (kept.Job told)) where
      abbrev pub job_row_of : IsOf all (Job told.run told.stage told.position)
      job_row_of =
          record { one = one; there = there; told = kept.Job told; is = is; here = refl }

      abbrev job_key : named.Named
      job_key = named.Job told.run told.stage told.position

      abbrev pub takes : Taking → Fact
      takes taken = tells.taking told.run told.stage told.position taken

      abbrev pub ends : JobEnd → Fact
      ends ended = tells.job_end told.run told.stage told.position ended

      pub taking_found : taking told.run told.stage told.position facts ≡
          option_map takes told.taken
      taking_found = first opens (Job told.run told.stage told.position) job_row_of
          (λ fact. is_about job_key fact && is_taking fact.event)
          (about_kind job_key (Job told.run told.stage told.position) is_taking refl)
          takes ends told.taken told.ended refl
          (λ taken. and_true (same_key job_key job_key) (key_itself job_key))
          (λ ended. and_false (same_key job_key job_key))

      pub job_end_found : job_end told.run told.stage told.position facts ≡
          option_map ends told.ended
      job_end_found = second opens (Job told.run told.stage told.position) job_row_of
          (λ fact. is_about job_key fact && is_job_end fact.event)
          (about_kind job_key (Job told.run told.stage told.position) is_job_end refl)
          takes ends told.taken told.ended refl
          (λ taken. and_false (same_key job_key job_key))
          (λ ended. and_true (same_key job_key job_key) (key_itself job_key))

  -- ---- the plans of rows are those of the facts

  -- a run whose plan the rows tell is one that the facts tell, with that plan
  pub record IsPlanned (run : ℕ) (plan : Plan) : Type 0 where
    pub queued : IsQueued all facts run
    pub same : queued.made.plan ≡ plan

  planned_by : (run : ℕ) → run < 2 ^ 64 → (plan : Plan) → (o : Option Seen) →
      seen_at (run_place run) all ≡ o → option_map (λ made. made.plan)
      (option_and_then (λ (s : Seen). s.compiled) o) ≡ Some plan → IsPlanned run plan
  planned_by run within plan None is e = absurd (never_some plan (sym e))
  planned_by run within plan (Some one) is e =
      let found = seen_is (run_place run) all one is in
      let queued = queued_at opens run (standing opens one found.0 (Run run) within found.1) in
      record {
        queued = queued;
        same = some_is queued.made.plan plan (sym (plan_is opens run queued) ∙
            (ap (λ (o : Option Seen). option_map (λ made. made.plan)
            (option_and_then (λ (s : Seen). s.compiled) o)) is ∙ e));
      }

  pub plan_again : (run : ℕ) → run < 2 ^ 64 → (plan : Plan) → plan_told run all ≡ Some plan →
      IsPlanned run plan
  plan_again run within plan e = planned_by run within plan (seen_at (run_place run) all) refl e

  stage_planned : (run stage : ℕ) (plan : Plan) (planned : PlanStage) → IsPlanned run plan →
      slice_get plan.stages stage ≡ Some planned → planned_stage run stage facts ≡ Some planned
  stage_planned run stage plan planned is e = stage_is opens run is.queued stage ∙
      (ap (λ (p : Plan). slice_get p.stages stage) is.same ∙ e)

  -- the plan's stage of a stage's row, and its job of a job's row
  module _ (one : Seen) (there : In one all) where
    pub record IsStagePlanned (told : KeptStage) : Type 0 where
      pub plan : Plan
      pub is_plan : plan_told told.run all ≡ Some plan
      pub planned : PlanStage
      pub is_stage : slice_get plan.stages told.position ≡ Some planned
      pub before : List Seen
      pub later : List Seen
      pub whole : all ≡ before ++ one ∷ later
      pub good : is_bad_stage_of all before plan.stages told planned ≡ false
      pub stage : planned_stage told.run told.position facts ≡ Some planned

    pub stage_planned_of : (told : KeptStage) → one.kept ≡ Some (kept.Stage told) →
        IsStagePlanned told
    stage_planned_of told is =
        let good = good_of opens one there (kept.Stage told) is in
        let plan = inner (λ (plan : Plan). option_map_or
        (is_bad_stage_of all good.before plan.stages told) (slice_get plan.stages told.position) true)
        (plan_told told.run all) good.good in
        let planned = inner (is_bad_stage_of all good.before plan.one.stages told)
        (slice_get plan.one.stages told.position) plan.good in
        let within = (fits_of opens one there (kept.Stage told) is
        (Stage told.run told.position) refl).0 in
        record {
          plan = plan.one;
          is_plan = plan.is;
          planned = planned.one;
          is_stage = planned.is;
          before = good.before;
          later = good.later;
          whole = good.whole;
          good = planned.good;
          stage = stage_planned told.run told.position plan.one planned.one
              (plan_again told.run within plan.one plan.is) planned.is;
        }

    stage_again : (told : KeptStage) → one.kept ≡ Some (kept.Stage told) →
        IsAgain (Stage told.run told.position) (kept.Stage told)
    stage_again told is =
        let started : option_map moment_of (stage_start told.run told.position facts) ≡
        told.started = ap (option_map moment_of) (start_found one there told is) ∙
        moment_again (event.StageStarted told.run told.position) told.started in
        let ended : stage_end_told (stage_end told.run told.position facts) ≡ told.ended =
        ap stage_end_told (end_found one there told is) ∙ stage_end_again told told.ended in
        ap (λ (o : Option PlanStage). option_map (λ _. kept.Stage (record {
          run = told.run;
          position = told.position;
          started = option_map moment_of (stage_start told.run told.position facts);
          ended = stage_end_told (stage_end told.run told.position facts);
        })) o) (stage_planned_of told is).stage ∙
        ap (λ (o : Option ℕ). Some (kept.Stage (record {
          run = told.run;
          position = told.position;
          started = o;
          ended = stage_end_told (stage_end told.run told.position facts);
        }))) started ∙
        ap (λ (o : Option StageEnd). Some (kept.Stage (record told { ended = o }))) ended

    pub record IsJobPlanned (told : KeptJob) : Type 0 where
      pub plan : Plan
      pub is_plan : plan_told told.run all ≡ Some plan
      pub planned : PlanStage
      pub is_stage : slice_get plan.stages told.stage ≡ Some planned
      pub job : PlanJob
      pub is_job : slice_get planned.jobs told.position ≡ Some job
      pub before : List Seen
      pub later : List Seen
      pub whole : all ≡ before ++ one ∷ later
      pub good : is_bad_job_of all before told planned job ≡ false
      pub stands : planned_job told.run told.stage told.position facts ≡ Some job

    job_planned_by : (told : KeptJob) → told.run < 2 ^ 64 → (planned : PlanStage)
        (o : Option Plan) → plan_told told.run all ≡ o →
        option_and_then (λ plan. slice_get plan.stages told.stage) o ≡ Some planned →
        (plan : Plan) × (plan_told told.run all ≡ Some plan)
        × (slice_get plan.stages told.stage ≡ Some planned)
    job_planned_by told within planned None is e = absurd (never_some planned (sym e))
    job_planned_by told within planned (Some plan) is e = (plan, is, e)

    pub job_planned_of : (told : KeptJob) → one.kept ≡ Some (kept.Job told) → IsJobPlanned told
    job_planned_of told is =
        let good = good_of opens one there (kept.Job told) is in
        let planned = inner (λ (planned : PlanStage). option_map_or
        (is_bad_job_of all good.before told planned) (slice_get planned.jobs told.position) true)
        (stage_in_plan told.run told.stage all) good.good in
        let job = inner (is_bad_job_of all good.before told planned.one)
        (slice_get planned.one.jobs told.position) planned.good in
        let within = (fits_of opens one there (kept.Job told) is
        (Job told.run told.stage told.position) refl).0 in
        let plan = job_planned_by told within planned.one (plan_told told.run all) refl
        planned.is in
        record {
          plan = plan.0;
          is_plan = plan.1;
          planned = planned.one;
          is_stage = plan.2;
          job = job.one;
          is_job = job.is;
          before = good.before;
          later = good.later;
          whole = good.whole;
          good = job.good;
          stands = ap (λ (o : Option PlanStage). option_and_then
              (λ one. slice_get one.jobs told.position) o)
              (stage_planned told.run told.stage plan.0 planned.one
              (plan_again told.run within plan.0 plan.1) plan.2) ∙ job.is;
        }

    job_again : (told : KeptJob) → one.kept ≡ Some (kept.Job told) →
        IsAgain (Job told.run told.stage told.position) (kept.Job told)
    job_again told is =
        let taken : taking_told (taking told.run told.stage told.position facts) ≡ told.taken =
        ap taking_told (taking_found one there told is) ∙
        taking_again told.run told.stage told.position told.taken in
        let ended : job_end_told (job_end told.run told.stage told.position facts) ≡ told.ended =
        ap job_end_told (job_end_found one there told is) ∙
        job_end_again told.run told.stage told.position told.ended in
        ap (λ (o : Option PlanJob). option_map (λ _. kept.Job (record {
          run = told.run;
          stage = told.stage;
          position = told.position;
          taken = taking_told (taking told.run told.stage told.position facts);
          ended = job_end_told (job_end told.run told.stage told.position facts);
        })) o) (job_planned_of told is).stands ∙
        ap (λ (o : Option Taking). Some (kept.Job (record {
          run = told.run;
          stage = told.stage;
          position = told.position;
          taken = o;
          ended = job_end_told (job_end told.run told.stage told.position facts);
        }))) taken ∙
        ap (λ (o : Option JobEnd). Some (kept.Job (record told { ended = o }))) ended

    -- ---- a line a table

    pub kept_again : (told : Record) → one.kept ≡ Some told → (at : Where) →
        where_of told ≡ Some at → kept_at at facts ≡ Some told
    kept_again (kept.Meta told) is at e = absurd (never_some at (sym e))
    kept_again (kept.File told) is at e = subst (λ (w : Where). IsAgain w (kept.File told))
        (some_is (File told.key) at e) (file_again one there told is)
    kept_again (kept.Pipeline told) is at e = subst (λ (w : Where). IsAgain w (kept.Pipeline told))
        (some_is (Pipeline told.name) at e) (pipeline_again one there told is)
    kept_again (kept.Resource told) is at e = subst (λ (w : Where). IsAgain w (kept.Resource told))
        (some_is (Resource told.key) at e) (resource_again one there told is)
    kept_again (kept.Principal told) is at e =
        subst (λ (w : Where). IsAgain w (kept.Principal told))
        (some_is (Principal told.name) at e) (principal_again one there told is)
    kept_again (kept.Agent told) is at e = subst (λ (w : Where). IsAgain w (kept.Agent told))
        (some_is (Agent told.name) at e) (agent_again one there told is)
    kept_again (kept.Run told) is at e = subst (λ (w : Where). IsAgain w (kept.Run told))
        (some_is (Run told.run) at e) (run_again one there told is)
    kept_again (kept.Stage told) is at e = subst (λ (w : Where). IsAgain w (kept.Stage told))
        (some_is (Stage told.run told.position) at e) (stage_again told is)
    kept_again (kept.Job told) is at e = subst (λ (w : Where). IsAgain w (kept.Job told))
        (some_is (Job told.run told.stage told.position) at e) (job_again told is)
    kept_again (kept.Decision told) is at e = subst (λ (w : Where). IsAgain w (kept.Decision told))
        (some_is (Decision told.run told.stage told.approver) at e)
        (decision_again one there told is)
