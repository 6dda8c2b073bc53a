-- Where the same is kept, the same is found.
use Rattle.std.proofs.Common.{◌≡◌, ℕ, nat_lt, Bool, true, false, List, Option, Some, None, Ok, map}
use Rattle.std.proofs.Common.{refl, sym, ap, subst, ◌∙◌}
use Rattle.std.proofs.Common.{if◌then◌else◌, slice_get}
use Rattle.std.specs.Option.{option_and_then, option_map}
use Rattle.std.specs.Prelude.{unwrap_or}
use Rattle.pl_base.specs.declared.expanded.Argument.{Argument}
use Rattle.pl_base.specs.declared.place.FileKey.{FileKey}
use Rattle.pl_base.specs.declared.resource.ResourceKey.{ResourceKey}
use Rattle.pl_facts.specs.declared.fact.Event.{Event}
use Rattle.pl_facts.specs.declared.fact.Event.TheVariants as event
use Rattle.pl_facts.specs.declared.fact.Fact.{Fact}
use Rattle.pl_facts.specs.declared.fact.QueuedRun.{QueuedRun}
use Rattle.pl_journal.specs.About.{key_of, latest_about}
use Rattle.pl_journal.specs.Kinds.{is_canceling, is_decision_by, is_job_end, is_queueing}
use Rattle.pl_journal.specs.Kinds.{is_stage_end, is_start, is_taking}
use Rattle.pl_journal.specs.Runs.{canceling, decision, job_end, queueing, run_told, stage_end}
use Rattle.pl_journal.specs.Runs.{stage_start, taking}
use Rattle.pl_journal.specs.Settings.{agent_set, agent_told, by, file, file_put, file_told}
use Rattle.pl_journal.specs.Settings.{pipeline, pipeline_told, principal_set, principal_told}
use Rattle.pl_journal.specs.Settings.{resource_set, resource_told, text_told}
use Rattle.pl_keeper.specs.declared.records.Record.{Record}
use Rattle.pl_keeper.specs.declared.records.Record.TheVariants as kept
use Rattle.pl_keeper.specs.declared.records.JobEnd.{JobEnd}
use Rattle.pl_keeper.specs.declared.records.KeptFile.{KeptFile}
use Rattle.pl_keeper.specs.declared.records.StageEnd.{StageEnd}
use Rattle.pl_keeper.specs.declared.records.Taking.{Taking}
use Rattle.pl_kept.specs.Kept.{decided_kept, kept_at, planned_job, planned_stage, queued_kept}
use Rattle.pl_kept.specs.Kept.{run_record, Where}
use Rattle.pl_kept.specs.Kept.{Agent, Decision, File, Job, Pipeline, Principal, Resource, Run, Stage}
use Rattle.pl_kept.specs.Told.{job_end_at, job_end_told, moment_of, stage_end_at, stage_end_told}
use Rattle.pl_kept.specs.Told.{taking_at, taking_told, used_file}
use Rattle.pl_log.proofs.Naming.{exact_key}
use Rattle.pl_log.specs.Keys.{same_key}
use Rattle.pl_log.specs.Keys as key
use Rattle.pl_plan.specs.declared.plan.Compiled.{Compiled}
use Rattle.pl_plan.specs.declared.plan.PlanJob.{PlanJob}
use Rattle.pl_plan.specs.declared.plan.PlanStage.{PlanStage}
use Rattle.pl_plan.specs.declared.plan.Sources.{Sources}
use Rattle.pl_requests.specs.declared.settings.AgentSetting.{AgentSetting}
use Rattle.pl_requests.specs.declared.settings.FileText.{FileText}
use Rattle.pl_requests.specs.declared.settings.PipelineSetting.{PipelineSetting}
use Rattle.pl_requests.specs.declared.settings.PrincipalSetting.{PrincipalSetting}
use Rattle.pl_requests.specs.declared.settings.ResourceSetting.{ResourceSetting}
use Rattle.pl_never_torn.specs.Own.{AreOwn, IsOwn}
use Rattle.pl_never_torn.proofs.Late.{latest_has}
use Rattle.pl_never_torn.proofs.Making.{own_of, pairs_again}
use Rattle.pl_same_step.specs.Below.pl_same_lookups.specs.Alike.{LookAlike}
use Rattle.pl_same_step.specs.Below.pl_same_lookups.proofs.Finding.{never, same_some}
use Rattle.pl_same_past.specs.Rooted.{AreRooted}
use Rattle.pl_same_past.proofs.Shapes.{canceling_is, decision_is, end_is, found_is, job_end_is}
use Rattle.pl_same_past.proofs.Shapes.{named_by, one_made, one_told, queueing_is, start_is, taking_is}
use Rattle.pl_same_past.proofs.Shapes.{IsDecision, IsJobEnd, IsQueued, IsStageEnd, IsTaking}
use Rattle.pl_never_torn.specs.Below.pl_seeing.specs.Seeing.{pair_of, IsCompileOf}
use Rattle.pl_never_torn.specs.Below.pl_sources.specs.Again.{CompilesToOne}

-- ---- settings, each read of its record

abbrev text_in : Record → Option (List ℕ)
text_in (kept.File told) = Some told.text
text_in _ = None

abbrev pipeline_in : Record → Option PipelineSetting
pipeline_in (kept.Pipeline told) =
    Some (record { name = told.name; repo = told.repo; path = told.path })
pipeline_in _ = None

abbrev resource_in : Record → Option ResourceSetting
resource_in (kept.Resource told) = Some (record {
  key = told.key;
  pipelines = told.pipelines;
  exclusive = told.exclusive;
  checks = told.checks;
})
resource_in _ = None

abbrev principal_in : Record → Option PrincipalSetting
principal_in (kept.Principal told) =
    Some (record { name = told.name; roles = told.roles; digest = told.digest })
principal_in _ = None

abbrev agent_in : Record → Option AgentSetting
agent_in (kept.Agent told) =
    Some (record { name = told.name; pool = told.pool; capabilities = told.capabilities })
agent_in _ = None

-- what is found by a name has it

file_named : (name : FileKey) (one : Event) (told : FileText) → file_told one ≡ Some told →
    same_key (key_of one) (key.File name) ≡ true → told.key ≡ name
file_named name (event.FilePut it) told e is =
    let k : key.File it.key ≡ key.File name = exact_key (key.File it.key) (key.File name) is in
    let n : it.key ≡ name = cc in
    ap (λ (x : FileText). x.key) (sym (same_some it told e)) ∙ n
file_named name one told e is = absurd (never told e)

pipeline_named : (name : List ℕ) (one : Event) (told : PipelineSetting) →
    pipeline_told one ≡ Some told → same_key (key_of one) (key.Pipeline name) ≡ true →
    told.name ≡ name
pipeline_named name (event.PipelineSet it) told e is =
    let k : key.Pipeline it.name ≡ key.Pipeline name =
    exact_key (key.Pipeline it.name) (key.Pipeline name) is in
    let n : it.name ≡ name = cc in
    ap (λ (x : PipelineSetting). x.name) (sym (same_some it told e)) ∙ n
pipeline_named name one told e is = absurd (never told e)

resource_named : (name : ResourceKey) (one : Event) (told : ResourceSetting) →
    resource_told one ≡ Some told → same_key (key_of one) (key.Resource name) ≡ true →
    told.key ≡ name
resource_named name (event.ResourceSet it) told e is =
    let k : key.Resource it.key ≡ key.Resource name =
    exact_key (key.Resource it.key) (key.Resource name) is in
    let n : it.key ≡ name = cc in
    ap (λ (x : ResourceSetting). x.key) (sym (same_some it told e)) ∙ n
resource_named name one told e is = absurd (never told e)

principal_named : (name : List ℕ) (one : Event) (told : PrincipalSetting) →
    principal_told one ≡ Some told → same_key (key_of one) (key.Principal name) ≡ true →
    told.name ≡ name
principal_named name (event.PrincipalSet it) told e is =
    let k : key.Principal it.name ≡ key.Principal name =
    exact_key (key.Principal it.name) (key.Principal name) is in
    let n : it.name ≡ name = cc in
    ap (λ (x : PrincipalSetting). x.name) (sym (same_some it told e)) ∙ n
principal_named name one told e is = absurd (never told e)

agent_named : (name : List ℕ) (one : Event) (told : AgentSetting) → agent_told one ≡ Some told →
    same_key (key_of one) (key.Agent name) ≡ true → told.name ≡ name
agent_named name (event.AgentSet it) told e is =
    let k : key.Agent it.name ≡ key.Agent name =
    exact_key (key.Agent it.name) (key.Agent name) is in
    let n : it.name ≡ name = cc in
    ap (λ (x : AgentSetting). x.name) (sym (same_some it told e)) ∙ n
agent_named name one told e is = absurd (never told e)

-- what was put at a key, of its text
put_is : (facts : List Fact) (name : FileKey) →
    file_put name facts ≡
    option_map (λ text. record { key = name; text = text }) (file name facts)
put_is facts name = go (latest_about (key.File name) facts) refl where
  by_event : (one : Event) → ((told : FileText) → file_told one ≡ Some told → told.key ≡ name) →
      file_told one ≡ option_map (λ text. record { key = name; text = text }) (text_told one)
  by_event (event.FilePut it) named =
      λ i. Some (record { key = named it refl i; text = it.text })
  by_event _ named = refl

  go : (o : Option Fact) → latest_about (key.File name) facts ≡ o →
      by file_told o ≡ option_map (λ text. record { key = name; text = text }) (by text_told o)
  go None e = refl
  go (Some fact) e = by_event fact.event (λ told f. named_by file_told (key.File name)
      (λ (x : FileText). x.key ≡ name) (file_named name) facts told
      (ap (λ (o : Option Fact). by file_told o) e ∙ f))

-- ---- the facts of each kind, read of what is told of them

abbrev at : ℕ → Event → Fact
at moment told = record { moment = moment; event = told }

abbrev ended_in : ℕ → ℕ → StageEnd → Option Fact
ended_in run stage told = Some (at told.moment (event.StageEnded run stage told.outcome told.rule))

abbrev taken_in : ℕ → ℕ → ℕ → Taking → Option Fact
taken_in run stage job told = Some (at told.moment (event.JobTaken run stage job told.agent))

abbrev job_ended_in : ℕ → ℕ → ℕ → JobEnd → Option Fact
job_ended_in run stage job told = Some (at told.moment
    (event.JobEnded told.outcome told.reported stage job run told.rule told.outputs))

abbrev decided_in : Record → Option Fact
decided_in (kept.Decision told) =
    Some (at told.moment (event.DecisionMade told.run told.stage told.approver told.approve))
decided_in _ = None

-- the fields of the records of runs, stages and jobs

abbrev run_in : QueuedRun → Option Record → QueuedRun
run_in d (Some (kept.Run told)) = record d {
  pipeline = told.pipeline;
  requester = told.requester;
}
run_in d _ = d

abbrev run_moment_in : Option Record → ℕ
run_moment_in (Some (kept.Run told)) = told.moment
run_moment_in _ = 0

abbrev sources_in : Sources → Option Record → Sources
sources_in d (Some (kept.Run told)) = record {
  root = told.root;
  arguments = told.arguments;
  files = map pair_of told.files;
}
sources_in d _ = d

abbrev canceled_in : Option Record → Option ℕ
canceled_in (Some (kept.Run told)) = told.canceled
canceled_in _ = None

abbrev started_in : Option Record → Option ℕ
started_in (Some (kept.Stage told)) = told.started
started_in _ = None

abbrev stage_ended_in : Option Record → Option StageEnd
stage_ended_in (Some (kept.Stage told)) = told.ended
stage_ended_in _ = None

abbrev job_taken_in : Option Record → Option Taking
job_taken_in (Some (kept.Job told)) = told.taken
job_taken_in _ = None

abbrev job_end_in : Option Record → Option JobEnd
job_end_in (Some (kept.Job told)) = told.ended
job_end_in _ = None

same_sources : (sources : Sources) → record {
  root = sources.root;
  arguments = sources.arguments;
  files = map pair_of (map used_file sources.files);
} ≡ sources
same_sources sources = λ i. record sources { files = pairs_again sources.files i }

-- what this rests on, of each of the two
pub record IsBased (facts : List Fact) : Type 0 where
  pub own : AreOwn facts
  pub taken : (run stage job : ℕ) → ¬ (taking run stage job facts ≡ None) →
      ¬ (planned_job run stage job facts ≡ None)
  pub rooted : AreRooted facts

module _ (one_thing : CompilesToOne) where
  -- plans of one's own sources
  compiled_same : (left right : Compiled) → IsCompileOf left.sources left →
      IsCompileOf right.sources right → left.sources ≡ right.sources → left ≡ right
  compiled_same left right is also same =
      let its : IsCompileOf left.sources right =
      subst (λ (s : Sources). IsCompileOf s right) (sym same) also in
      one_thing _ left.sources.root left.sources.arguments right (Ok left) its.is is.is

module _ (one_thing : CompilesToOne) (facts other : List Fact) (left : IsBased facts)
    (right : IsBased other) (each : (here : Where) → kept_at here facts ≡ kept_at here other) where
  -- ---- settings

  files_found : (name : FileKey) → file_put name facts ≡ file_put name other
  files_found name = put_is facts name
      ∙ (ap (option_map (λ text. record { key = name; text = text }))
      (one_made (λ (text : List ℕ). Unit {0}) text_in
      (λ text. kept.File (record { key = name; text = text })) (λ text _. refl)
      (file name facts) (file name other) (λ text _. tt) (λ text _. tt) (each (File name)))
      ∙ sym (put_is other name))

  pipelines_found : (name : List ℕ) → pipeline name facts ≡ pipeline name other
  pipelines_found name = one_made (λ (told : PipelineSetting). told.name ≡ name) pipeline_in
      (λ told. kept.Pipeline (record { name = name; repo = told.repo; path = told.path }))
      (λ told named. λ i. Some (record { name = sym named i; repo = told.repo; path = told.path }))
      (pipeline name facts) (pipeline name other)
      (named_by pipeline_told (key.Pipeline name) (λ (told : PipelineSetting). told.name ≡ name)
      (pipeline_named name) facts)
      (named_by pipeline_told (key.Pipeline name) (λ (told : PipelineSetting). told.name ≡ name)
      (pipeline_named name) other) (each (Pipeline name))

  resources_found : (name : ResourceKey) → resource_set name facts ≡ resource_set name other
  resources_found name = one_made (λ (told : ResourceSetting). told.key ≡ name) resource_in
      (λ told. kept.Resource (record {
        key = name;
        exclusive = told.exclusive;
        pipelines = told.pipelines;
        checks = told.checks;
      }))
      (λ told named. λ i. Some (record {
        key = sym named i;
        pipelines = told.pipelines;
        exclusive = told.exclusive;
        checks = told.checks;
      }))
      (resource_set name facts) (resource_set name other)
      (named_by resource_told (key.Resource name) (λ (told : ResourceSetting). told.key ≡ name)
      (resource_named name) facts)
      (named_by resource_told (key.Resource name) (λ (told : ResourceSetting). told.key ≡ name)
      (resource_named name) other) (each (Resource name))

  principals_found : (name : List ℕ) → principal_set name facts ≡ principal_set name other
  principals_found name = one_made (λ (told : PrincipalSetting). told.name ≡ name) principal_in
      (λ told. kept.Principal (record { name = name; roles = told.roles; digest = told.digest }))
      (λ told named. λ i.
      Some (record { name = sym named i; roles = told.roles; digest = told.digest }))
      (principal_set name facts) (principal_set name other)
      (named_by principal_told (key.Principal name) (λ (told : PrincipalSetting). told.name ≡ name)
      (principal_named name) facts)
      (named_by principal_told (key.Principal name) (λ (told : PrincipalSetting). told.name ≡ name)
      (principal_named name) other) (each (Principal name))

  agents_found : (name : List ℕ) → agent_set name facts ≡ agent_set name other
  agents_found name = one_made (λ (told : AgentSetting). told.name ≡ name) agent_in
      (λ told. kept.Agent (record {
        name = name;
        pool = told.pool;
        capabilities = told.capabilities;
      }))
      (λ told named. λ i. Some (record {
        name = sym named i;
        pool = told.pool;
        capabilities = told.capabilities;
      }))
      (agent_set name facts) (agent_set name other)
      (named_by agent_told (key.Agent name) (λ (told : AgentSetting). told.name ≡ name)
      (agent_named name) facts)
      (named_by agent_told (key.Agent name) (λ (told : AgentSetting). told.name ≡ name)
      (agent_named name) other) (each (Agent name))

  -- ---- runs

  queued_in : (fs : List Fact) (run : ℕ) (fact : Fact) → queueing run fs ≡ Some fact →
      IsQueued run fact.event
  queued_in fs run fact e =
      found_is (key.Run run) is_queueing (IsQueued run) (queueing_is run) fs fact e

  -- what is kept of a run that was queued
  run_is : (fs : List Fact) (run : ℕ) (fact : Fact) (e : queueing run fs ≡ Some fact)
      (told : QueuedRun) → fact.event ≡ event.RunQueued told →
      kept_at (Run run) fs
      ≡ Some (run_record run (option_map moment_of (canceling run fs)) fact.moment told)
  run_is fs run fact e told is = ap (option_and_then
      (queued_kept run (option_map moment_of (canceling run fs)))) e
      ∙ ap (λ (one : Event). option_map (run_record run (option_map moment_of (canceling run fs))
      fact.moment) (run_told one)) is

  own_in : (fs : List Fact) → AreOwn fs → (run : ℕ) (fact : Fact) →
      queueing run fs ≡ Some fact → (told : QueuedRun) → fact.event ≡ event.RunQueued told →
      IsCompileOf told.compiled.sources told.compiled
  own_in fs own run fact e told is = subst IsOwn is
      (latest_has (λ (it : Fact). IsOwn it.event) _ fs fact own e)

  both_queued : (run : ℕ) (fact its : Fact) → queueing run facts ≡ Some fact →
      queueing run other ≡ Some its → fact ≡ its
  both_queued run fact its e f =
      let one = queued_in facts run fact e in
      let two = queued_in other run its f in
      let c = option_map moment_of (canceling run facts) in
      let d = option_map moment_of (canceling run other) in
      let same : Some (run_record run c fact.moment one.0) ≡
      Some (run_record run d its.moment two.0) =
      sym (run_is facts run fact e one.0 one.1) ∙ (each (Run run)
      ∙ run_is other run its f two.0 two.1) in
      let when : fact.moment ≡ its.moment = ap run_moment_in same in
      let sources : one.0.compiled.sources ≡ two.0.compiled.sources =
      sym (same_sources one.0.compiled.sources) ∙ (ap (sources_in one.0.compiled.sources) same
      ∙ same_sources two.0.compiled.sources) in
      let compiled : one.0.compiled ≡ two.0.compiled = compiled_same one_thing one.0.compiled
      two.0.compiled (own_in facts left.own run fact e one.0 one.1)
      (own_in other right.own run its f two.0 two.1) sources in
      let who : run_in one.0 (Some (run_record run c fact.moment one.0)) ≡
      run_in one.0 (Some (run_record run d its.moment two.0)) = ap (run_in one.0) same in
      let number : one.0.run ≡ two.0.run = one.2 ∙ sym two.2 in
      let told : one.0 ≡ two.0 = λ i. record {
        run = number i;
        pipeline = (who i).pipeline;
        requester = (who i).requester;
        compiled = compiled i;
      } in
      let happened : fact.event ≡ its.event =
      one.1 ∙ (ap event.RunQueued told ∙ sym two.1) in
      λ i. at (when i) (happened i)

  queued_found : (run : ℕ) → queueing run facts ≡ queueing run other
  queued_found run = go (queueing run facts) refl (queueing run other) refl where
    one_only : (fs gs : List Fact) → kept_at (Run run) fs ≡ kept_at (Run run) gs →
        (fact : Fact) → queueing run fs ≡ Some fact → queueing run gs ≡ None → ⊥
    one_only fs gs same fact e f =
        let one = queued_in fs run fact e in
        never (run_record run (option_map moment_of (canceling run fs)) fact.moment one.0)
        (sym (ap (option_and_then (queued_kept run (option_map moment_of (canceling run gs)))) f)
        ∙ (sym same ∙ run_is fs run fact e one.0 one.1))

    go : (o : Option Fact) → queueing run facts ≡ o → (p : Option Fact) →
        queueing run other ≡ p → queueing run facts ≡ queueing run other
    go None e None f = e ∙ sym f
    go (Some fact) e (Some its) f = e ∙ (ap Some (both_queued run fact its e f) ∙ sym f)
    go (Some fact) e None f = absurd (one_only facts other (each (Run run)) fact e f)
    go None e (Some its) f = absurd (one_only other facts (sym (each (Run run))) its f e)

  canceled_found : (run : ℕ) → canceling run facts ≡ canceling run other
  canceled_found run = go (queueing run facts) refl where
    nothing : (o : Option Fact) → ¬ ¬ (o ≡ None) → o ≡ None
    nothing None h = refl
    nothing (Some fact) h = absurd (h (λ e. never fact (sym e)))

    is_it : (fs : List Fact) (fact : Fact) → canceling run fs ≡ Some fact →
        fact.event ≡ event.RunCanceled run
    is_it fs fact e = found_is (key.Run run) is_canceling
        (λ (one : Event). one ≡ event.RunCanceled run) (canceling_is run) fs fact e

    go : (o : Option Fact) → queueing run facts ≡ o → canceling run facts ≡ canceling run other
    go None e = nothing (canceling run facts) (λ there. left.rooted.canceled run there e)
        ∙ sym (nothing (canceling run other)
        (λ there. right.rooted.canceled run there (sym (queued_found run) ∙ e)))
    go (Some fact) e =
        let f : queueing run other ≡ Some fact = sym (queued_found run) ∙ e in
        let one = queued_in facts run fact e in
        one_made (λ (it : Fact). it.event ≡ event.RunCanceled run)
        (λ (moment : ℕ). Some (at moment (event.RunCanceled run))) moment_of
        (λ it is. λ i. Some (at it.moment (sym is i))) (canceling run facts) (canceling run other)
        (is_it facts) (is_it other)
        (ap canceled_in (sym (run_is facts run fact e one.0 one.1) ∙ (each (Run run)
        ∙ run_is other run fact f one.0 one.1)))

  -- ---- stages

  stage_planned : (run stage : ℕ) →
      planned_stage run stage facts ≡ planned_stage run stage other
  stage_planned run stage = λ i. option_and_then
      (λ (told : QueuedRun). slice_get told.compiled.plan.stages stage)
      (by run_told (queued_found run i))

  abbrev stage_record : ℕ → ℕ → List Fact → Record
  stage_record run stage fs = kept.Stage (record {
    run = run;
    position = stage;
    started = option_map moment_of (stage_start run stage fs);
    ended = stage_end_told (stage_end run stage fs);
  })

  -- where a stage is planned its record is the same
  stage_same : (run stage : ℕ) (planned : PlanStage) →
      planned_stage run stage facts ≡ Some planned →
      Some (stage_record run stage facts) ≡ Some (stage_record run stage other)
  stage_same run stage planned e =
      sym (ap (option_map (λ _. stage_record run stage facts)) e) ∙ (each (Stage run stage)
      ∙ ap (option_map (λ _. stage_record run stage other))
      (sym (stage_planned run stage) ∙ e))

  -- where it isn't planned nothing has become of it
  off_plan : {X : Type 0} (o p : Option X) (a b : Option PlanStage) → a ≡ None → b ≡ None →
      (¬ (o ≡ None) → ¬ (a ≡ None)) → (¬ (p ≡ None) → ¬ (b ≡ None)) → o ≡ p
  off_plan None None a b e f there here = refl
  off_plan (Some x) p a b e f there here = absurd (there (λ g. never x (sym g)) e)
  off_plan None (Some y) a b e f there here = absurd (here (λ g. never y (sym g)) f)

  starts_found : (run stage : ℕ) → stage_start run stage facts ≡ stage_start run stage other
  starts_found run stage = go (planned_stage run stage facts) refl where
    is_it : (fs : List Fact) (fact : Fact) → stage_start run stage fs ≡ Some fact →
        fact.event ≡ event.StageStarted run stage
    is_it fs fact e = found_is (key.Stage run stage) is_start
        (λ (one : Event). one ≡ event.StageStarted run stage) (start_is run stage) fs fact e

    go : (o : Option PlanStage) → planned_stage run stage facts ≡ o →
        stage_start run stage facts ≡ stage_start run stage other
    go None e = off_plan (stage_start run stage facts) (stage_start run stage other)
        (planned_stage run stage facts) (planned_stage run stage other) e
        (sym (stage_planned run stage) ∙ e) (left.rooted.started run stage)
        (right.rooted.started run stage)
    go (Some planned) e = one_made (λ (it : Fact). it.event ≡ event.StageStarted run stage)
        (λ (moment : ℕ). Some (at moment (event.StageStarted run stage))) moment_of
        (λ it is. λ i. Some (at it.moment (sym is i))) (stage_start run stage facts)
        (stage_start run stage other) (is_it facts) (is_it other)
        (ap started_in (stage_same run stage planned e))

  ends_found : (run stage : ℕ) → stage_end run stage facts ≡ stage_end run stage other
  ends_found run stage = go (planned_stage run stage facts) refl where
    is_it : (fs : List Fact) (fact : Fact) → stage_end run stage fs ≡ Some fact →
        IsStageEnd run stage fact.event
    is_it fs fact e = found_is (key.Stage run stage) is_stage_end (IsStageEnd run stage)
        (end_is run stage) fs fact e

    go : (o : Option PlanStage) → planned_stage run stage facts ≡ o →
        stage_end run stage facts ≡ stage_end run stage other
    go None e = off_plan (stage_end run stage facts) (stage_end run stage other)
        (planned_stage run stage facts) (planned_stage run stage other) e
        (sym (stage_planned run stage) ∙ e) (left.rooted.ended run stage)
        (right.rooted.ended run stage)
    go (Some planned) e = one_told (λ (it : Fact). IsStageEnd run stage it.event)
        (ended_in run stage) (λ (it : Fact). stage_end_at it.moment it.event)
        (λ it is. ap (λ (one : Event). option_and_then (ended_in run stage)
        (stage_end_at it.moment one)) is.2 ∙ (λ i. Some (at it.moment (sym is.2 i))))
        (stage_end run stage facts) (stage_end run stage other) (is_it facts) (is_it other)
        (ap stage_ended_in (stage_same run stage planned e))

  -- ---- jobs

  job_planned : (run stage job : ℕ) →
      planned_job run stage job facts ≡ planned_job run stage job other
  job_planned run stage job = λ i. option_and_then
      (λ (told : PlanStage). slice_get told.jobs job) (stage_planned run stage i)

  abbrev job_record : ℕ → ℕ → ℕ → List Fact → Record
  job_record run stage job fs = kept.Job (record {
    run = run;
    stage = stage;
    position = job;
    taken = taking_told (taking run stage job fs);
    ended = job_end_told (job_end run stage job fs);
  })

  job_same : (run stage job : ℕ) (planned : PlanJob) →
      planned_job run stage job facts ≡ Some planned →
      Some (job_record run stage job facts) ≡ Some (job_record run stage job other)
  job_same run stage job planned e =
      sym (ap (option_map (λ _. job_record run stage job facts)) e)
      ∙ (each (Job run stage job) ∙ ap (option_map (λ _. job_record run stage job other))
      (sym (job_planned run stage job) ∙ e))

  off_job : {X : Type 0} (o p : Option X) (a b : Option PlanJob) → a ≡ None → b ≡ None →
      (¬ (o ≡ None) → ¬ (a ≡ None)) → (¬ (p ≡ None) → ¬ (b ≡ None)) → o ≡ p
  off_job None None a b e f there here = refl
  off_job (Some x) p a b e f there here = absurd (there (λ g. never x (sym g)) e)
  off_job None (Some y) a b e f there here = absurd (here (λ g. never y (sym g)) f)

  takings_found : (run stage job : ℕ) →
      taking run stage job facts ≡ taking run stage job other
  takings_found run stage job = go (planned_job run stage job facts) refl where
    is_it : (fs : List Fact) (fact : Fact) → taking run stage job fs ≡ Some fact →
        IsTaking run stage job fact.event
    is_it fs fact e = found_is (key.Job run stage job) is_taking (IsTaking run stage job)
        (taking_is run stage job) fs fact e

    go : (o : Option PlanJob) → planned_job run stage job facts ≡ o →
        taking run stage job facts ≡ taking run stage job other
    go None e = off_job (taking run stage job facts) (taking run stage job other)
        (planned_job run stage job facts) (planned_job run stage job other) e
        (sym (job_planned run stage job) ∙ e) (left.taken run stage job)
        (right.taken run stage job)
    go (Some planned) e = one_told (λ (it : Fact). IsTaking run stage job it.event)
        (taken_in run stage job) (λ (it : Fact). taking_at it.moment it.event)
        (λ it is. ap (λ (one : Event). option_and_then (taken_in run stage job)
        (taking_at it.moment one)) is.1 ∙ (λ i. Some (at it.moment (sym is.1 i))))
        (taking run stage job facts) (taking run stage job other) (is_it facts) (is_it other)
        (ap job_taken_in (job_same run stage job planned e))

  job_ends_found : (run stage job : ℕ) →
      job_end run stage job facts ≡ job_end run stage job other
  job_ends_found run stage job = go (planned_job run stage job facts) refl where
    is_it : (fs : List Fact) (fact : Fact) → job_end run stage job fs ≡ Some fact →
        IsJobEnd run stage job fact.event
    is_it fs fact e = found_is (key.Job run stage job) is_job_end (IsJobEnd run stage job)
        (job_end_is run stage job) fs fact e

    go : (o : Option PlanJob) → planned_job run stage job facts ≡ o →
        job_end run stage job facts ≡ job_end run stage job other
    go None e = off_job (job_end run stage job facts) (job_end run stage job other)
        (planned_job run stage job facts) (planned_job run stage job other) e
        (sym (job_planned run stage job) ∙ e) (left.rooted.job_ended run stage job)
        (right.rooted.job_ended run stage job)
    go (Some planned) e = one_told (λ (it : Fact). IsJobEnd run stage job it.event)
        (job_ended_in run stage job) (λ (it : Fact). job_end_at it.moment it.event)
        (λ it is. ap (λ (one : Event). option_and_then (job_ended_in run stage job)
        (job_end_at it.moment one)) is.4 ∙ (λ i. Some (at it.moment (sym is.4 i))))
        (job_end run stage job facts) (job_end run stage job other) (is_it facts) (is_it other)
        (ap job_end_in (job_same run stage job planned e))

  -- ---- decisions

  decisions_found : (run stage : ℕ) (name : List ℕ) →
      decision run stage name facts ≡ decision run stage name other
  decisions_found run stage name = one_told
      (λ (it : Fact). IsDecision run stage name it.event) decided_in
      (decided_kept run stage name)
      (λ it is. ap (λ (one : Event). option_and_then decided_in
      (decided_kept run stage name (at it.moment one))) is.1
      ∙ (λ i. Some (at it.moment (sym is.1 i))))
      (decision run stage name facts) (decision run stage name other) (is_it facts) (is_it other)
      (each (Decision run stage name))
    where
      is_it : (fs : List Fact) (fact : Fact) → decision run stage name fs ≡ Some fact →
          IsDecision run stage name fact.event
      is_it fs fact e = found_is (key.Stage run stage) (is_decision_by name)
          (IsDecision run stage name) (decision_is run stage name) fs fact e

  pub look_alike : LookAlike facts other
  look_alike = record {
    files = files_found;
    pipelines = pipelines_found;
    resources = resources_found;
    principals = principals_found;
    agents = agents_found;
    queueings = queued_found;
    cancelings = canceled_found;
    starts = starts_found;
    ends = ends_found;
    takings = takings_found;
    job_ends = job_ends_found;
    decisions = decisions_found;
  }
