-- What is seen of stages and jobs where the same is found.
use Rattle.std.proofs.Common.{◌≡◌, ◌&&◌, ℕ, Bool, true, false, List, [], ◌∷◌, length, map, filter, find, flat_map}
use Rattle.std.proofs.Common.{filter_map, Option, Some, None, is_some, is_none, not, refl, ap, ◌∙◌}
use Rattle.std.proofs.Common.{count_by, option_map, slice_get, if◌then◌else◌, sym}
use Rattle.std.specs.List.{list_all, range_with_len}
use Rattle.std.specs.Option.{option_and_then, option_map_or, option_or}
use Rattle.std.specs.Ordering.{is_eq}
use Rattle.std.specs.Prelude.{unwrap_or}
use Rattle.pl_base.specs.declared.outcome.Outcome.{Outcome}
use Rattle.pl_base.specs.declared.place.FileKey.{FileKey}
use Rattle.pl_base.specs.declared.resource.ResourceKey.{ResourceKey}
use Rattle.pl_base.specs.Files.{text_cmp}
use Rattle.pl_base.specs.Texts.{is}
use Rattle.pl_checks.specs.declared.check.Check.{Check}
use Rattle.pl_step_laws.specs.Below.pl_step.specs.Below.pl_decisions.specs.Below.pl_due.specs.Below.pl_cond.specs.Conditions.{holds}
use Rattle.pl_step_laws.specs.Below.pl_step.specs.Below.pl_decisions.specs.Below.pl_due.specs.Checked.{all_checks, checks_on, exclusive_uses, is_among, is_exclusive}
use Rattle.pl_step_laws.specs.Below.pl_step.specs.Below.pl_decisions.specs.Below.pl_due.specs.Checked.{is_permitted, permits}
use Rattle.pl_step_laws.specs.Below.pl_step.specs.Below.pl_decisions.specs.Below.pl_due.specs.Contention.{contender_of}
use Rattle.pl_step_laws.specs.Below.pl_step.specs.Below.pl_decisions.specs.Below.pl_due.specs.Nodes.{awaits_agent, condition, has_done_all, has_had, is_canceled}
use Rattle.pl_step_laws.specs.Below.pl_step.specs.Below.pl_decisions.specs.Below.pl_due.specs.Nodes.{is_out_of_time, is_running, is_waiting, outcomes}
use Rattle.pl_facts.specs.declared.fact.Event.{Event}
use Rattle.pl_facts.specs.declared.fact.Event.TheVariants as event
use Rattle.pl_facts.specs.declared.fact.Fact.{Fact}
use Rattle.pl_facts.specs.declared.fact.QueuedRun.{QueuedRun}
use Rattle.pl_step_laws.specs.Below.pl_step.specs.Below.pl_granting.specs.Named.{JobOf}
use Rattle.pl_step_laws.specs.Below.pl_step.specs.Below.pl_granting.specs.Rules.{is_leg_taken, legs_taken}
use Rattle.pl_journal.specs.About.{latest_about}
use Rattle.pl_journal.specs.Runs.{canceling, holding, job_ending, outcome_told, outputs_told}
use Rattle.pl_journal.specs.Runs.{queueing, run_told, skipping, stage_end}
use Rattle.pl_journal.specs.Settings.{admin, admin_agent, agent, by, default_pool, file, file_told}
use Rattle.pl_journal.specs.Settings.{resource, text_told}
use Rattle.pl_judgement.specs.Kinds.{by_kind}
use Rattle.pl_locks.specs.declared.contender.Contender.{Contender}
use Rattle.pl_log.specs.Keys.{File, resource_cmp}
use Rattle.pl_plan.specs.declared.plan.Plan.{Plan}
use Rattle.pl_plan.specs.declared.plan.PlanJob.{PlanJob}
use Rattle.pl_plan.specs.declared.plan.PlanStage.{PlanStage}
use Rattle.pl_requests.specs.declared.settings.AgentSetting.{AgentSetting}
use Rattle.pl_requests.specs.declared.settings.FileText.{FileText}
use Rattle.pl_requests.specs.declared.settings.ResourceSetting.{ResourceSetting}
use Rattle.pl_step_laws.specs.Below.pl_step.specs.Below.pl_decisions.specs.Below.pl_results.specs.Nodes.{jobs_of}
use Rattle.pl_step_laws.specs.Below.pl_step.specs.Below.pl_decisions.specs.Below.pl_results.specs.declared.members.PlanNode.{PlanNode}
use Rattle.pl_step_laws.specs.Below.pl_step.specs.Below.pl_decisions.specs.Below.pl_results.specs.declared.view.JobView.{JobView}
use Rattle.pl_step_laws.specs.Below.pl_step.specs.Below.pl_decisions.specs.Below.pl_results.specs.declared.view.RunView.{RunView}
use Rattle.pl_same_lookups.specs.Alike.{LookAlike}
use Rattle.pl_step_laws.specs.Below.pl_step.specs.Below.pl_granting.specs.Below.pl_views.specs.Ready.{awaited_job, awaited_stage, has_ended, is_ready, job_has_ended}
use Rattle.pl_step_laws.specs.Below.pl_step.specs.Below.pl_granting.specs.Below.pl_views.specs.Ready.{job_is_ready, latest_moment, ready_moment}
use Rattle.pl_step_laws.specs.Below.pl_step.specs.Below.pl_granting.specs.Below.pl_views.specs.RunViews.{job_view, job_views, places, run_view}

-- a file's text is that of what was put
text_by : (one : Event) → text_told one ≡ option_map (λ (told : FileText). told.text) (file_told one)
text_by (event.FilePut told) = refl
text_by _ = refl

text_of : (one : Option Fact) →
    by text_told one ≡ option_map (λ (told : FileText). told.text) (by file_told one)
text_of None = refl
text_of (Some fact) = text_by fact.event

module _ (facts other : List Fact) (alike : LookAlike facts other) where
  -- ---- settings

  pub file_same : (key : FileKey) → file key facts ≡ file key other
  file_same key = text_of (latest_about (File key) facts)
      ∙ (ap (option_map (λ (told : FileText). told.text)) (alike.files key)
      ∙ sym (text_of (latest_about (File key) other)))

  pub resource_same : (key : ResourceKey) → resource key facts ≡ resource key other
  resource_same key = λ i. option_or (alike.resources key i)
      (if is_eq (resource_cmp key default_pool.key) then Some default_pool else None)

  pub agent_same : (name : List ℕ) → agent name facts ≡ agent name other
  agent_same name = λ i. option_or (alike.agents name i)
      (if is_eq (text_cmp name admin) then Some admin_agent else None)

  pub exclusive_same : (key : ResourceKey) → is_exclusive facts key ≡ is_exclusive other key
  exclusive_same key = λ i.
      option_map_or (λ (told : ResourceSetting). told.exclusive) (resource_same key i) false

  pub uses_same : (one : PlanStage) → exclusive_uses facts one ≡ exclusive_uses other one
  uses_same one = λ i. filter (λ key. exclusive_same key i) one.uses

  pub permits_same : (name : List ℕ) (key : ResourceKey) →
      permits facts name key ≡ permits other name key
  permits_same name key = λ i. option_map_or (λ (told : ResourceSetting).
      option_map_or (λ names. is_among names name) told.pipelines true)
      (resource_same key i) false

  pub permitted_same : (told : QueuedRun) (one : PlanStage) →
      is_permitted facts told one ≡ is_permitted other told one
  permitted_same told one = λ i. list_all (λ key. permits_same told.pipeline key i) one.uses

  pub checks_same : (key : ResourceKey) → checks_on facts key ≡ checks_on other key
  checks_same key = λ i.
      option_map_or (λ (told : ResourceSetting). told.checks) (resource_same key i) []

  pub all_checks_same : (uses : List ResourceKey) → all_checks facts uses ≡ all_checks other uses
  all_checks_same uses = λ i. by_kind (flat_map (λ key. checks_same key i) uses)

  -- ---- stages and jobs

  pub queued_same : (run : ℕ) → by run_told (queueing run facts) ≡ by run_told (queueing run other)
  queued_same run = λ i. by run_told (alike.queueings run i)

  pub canceled_same : (run : ℕ) → is_canceled run facts ≡ is_canceled run other
  canceled_same run = λ i. is_some (alike.cancelings run i)

  pub ready_same : (one : PlanStage) (run : ℕ) → is_ready one run facts ≡ is_ready one run other
  ready_same one run = λ i. list_all (λ stage. is_some (alike.ends run stage i)) one.depends

  pub awaited_same : (one : PlanStage) (run : ℕ) →
      awaited_stage one run facts ≡ awaited_stage one run other
  awaited_same one run = λ i. find (λ stage. not (is_some (alike.ends run stage i))) one.depends

  skipping_same : (run stage : ℕ) → skipping run stage facts ≡ skipping run stage other
  skipping_same run stage = λ i.
      if is_some (alike.starts run stage i) then None else alike.ends run stage i

  pub ending_same : (run stage job : ℕ) →
      job_ending run stage job facts ≡ job_ending run stage job other
  ending_same run stage job = λ i.
      option_or (alike.job_ends run stage job i) (skipping_same run stage i)

  pub holding_same : (run stage job : ℕ) →
      holding run stage job facts ≡ holding run stage job other
  holding_same run stage job = λ i.
      if is_some (ending_same run stage job i) then None else alike.takings run stage job i

  pub job_ready_same : (one : PlanJob) (run stage : ℕ) →
      job_is_ready one run stage facts ≡ job_is_ready one run stage other
  job_ready_same one run stage = λ i.
      list_all (λ job. is_some (ending_same run stage job i)) one.depends

  pub awaited_job_same : (one : PlanJob) (run stage : ℕ) →
      awaited_job one run stage facts ≡ awaited_job one run stage other
  awaited_job_same one run stage = λ i.
      find (λ job. not (is_some (ending_same run stage job i))) one.depends

  pub since_same : (one : PlanStage) (run : ℕ) →
      ready_moment one run facts ≡ ready_moment one run other
  since_same one run = λ i. latest_moment
      (alike.queueings run i ∷ map (λ stage. alike.ends run stage i) one.depends)

  pub running_same : (run stage : ℕ) → is_running run stage facts ≡ is_running run stage other
  running_same run stage = λ i.
      is_some (alike.starts run stage i) && is_none (alike.ends run stage i)

  pub waiting_same : (one : PlanStage) (run stage : ℕ) →
      is_waiting one run stage facts ≡ is_waiting one run stage other
  waiting_same one run stage = λ i. is_none (alike.starts run stage i)
      && is_none (alike.ends run stage i) && ready_same one run i

  -- ---- a run as its conditions see it

  job_view_same : (run stage job : ℕ) → job_view run stage facts job ≡ job_view run stage other job
  job_view_same run stage job = λ i. record {
    result = by outcome_told (ending_same run stage job i);
    outputs = unwrap_or (by outputs_told (ending_same run stage job i)) [];
  }

  pub view_same : (plan : Plan) (run : ℕ) → run_view plan run facts ≡ run_view plan run other
  view_same plan run = λ i. record {
    canceled = is_some (alike.cancelings run i);
    stages = map (λ stage. by outcome_told (alike.ends run stage i)) (places plan.stages);
    jobs = map (λ stage. map (λ job. job_view_same run stage job i) (places (jobs_of plan stage)))
        (places plan.stages);
  }

  pub condition_same : (told : QueuedRun) (run : ℕ) (node : PlanNode) →
      condition told run node facts ≡ condition told run node other
  condition_same told run node = λ i.
      holds told.compiled.plan (view_same told.compiled.plan run i) node

  -- ---- jobs

  pub over_same : (moment : ℕ) (one : PlanStage) (run stage job : ℕ) →
      is_out_of_time moment one run stage job facts ≡ is_out_of_time moment one run stage job other
  over_same moment one run stage job = λ i. option_map_or (λ (planned : PlanJob).
      option_map_or (λ (fact : Fact). has_had planned.timeout fact.moment moment)
      (holding_same run stage job i) false) (slice_get one.jobs job) false

  pub awaits_same : (one : PlanStage) (run stage job : ℕ) →
      awaits_agent one run stage job facts ≡ awaits_agent one run stage job other
  awaits_same one run stage job = λ i. option_map_or (λ (planned : PlanJob).
      is_none (alike.takings run stage job i) && is_none (ending_same run stage job i)
      && job_ready_same planned run stage i) (slice_get one.jobs job) false

  pub done_same : (one : PlanStage) (run stage : ℕ) →
      has_done_all one run stage facts ≡ has_done_all one run stage other
  done_same one run stage = λ i. list_all (λ job. is_some (ending_same run stage job i))
      (range_with_len 0 (length one.jobs))

  pub outcomes_same : (one : PlanStage) (run stage : ℕ) →
      outcomes one run stage facts ≡ outcomes one run stage other
  outcomes_same one run stage = λ i. filter_map
      (λ job. by outcome_told (ending_same run stage job i)) (range_with_len 0 (length one.jobs))

  -- ---- legs

  leg_same : (at : JobOf) (place : ℕ) → is_leg_taken facts at place ≡ is_leg_taken other at place
  leg_same at place = λ i. option_map_or (λ (one : PlanJob). is one.name at.planned.name
      && is_some (holding_same at.run at.stage place i)) (slice_get at.staged.jobs place) false

  pub legs_same : (at : JobOf) → legs_taken facts at ≡ legs_taken other at
  legs_same at = λ i.
      count_by (λ place. leg_same at place i) (range_with_len 0 (length at.staged.jobs))

  -- ---- contenders

  pub contender_same : (told : QueuedRun) (one : PlanStage) (run stage : ℕ) →
      contender_of facts told one run stage ≡ contender_of other told one run stage
  contender_same told one run stage = λ i. record {
    run = run;
    position = stage;
    pipeline = told.pipeline;
    name = one.name;
    behaviour = one.behaviour;
    resources = uses_same one i;
  }

-- the other way round
pub turned : (facts other : List Fact) → LookAlike facts other → LookAlike other facts
turned facts other alike = record {
  files = λ key. sym (alike.files key);
  pipelines = λ name. sym (alike.pipelines name);
  resources = λ key. sym (alike.resources key);
  principals = λ name. sym (alike.principals name);
  agents = λ name. sym (alike.agents name);
  queueings = λ run. sym (alike.queueings run);
  cancelings = λ run. sym (alike.cancelings run);
  starts = λ run stage. sym (alike.starts run stage);
  ends = λ run stage. sym (alike.ends run stage);
  takings = λ run stage job. sym (alike.takings run stage job);
  job_ends = λ run stage job. sym (alike.job_ends run stage job);
  decisions = λ run stage name. sym (alike.decisions run stage name);
}
