-- What a request is answered where the same is found.
use Rattle.std.proofs.Common.{◌≡◌, ◌&&◌, ◌+◌, ◌≤◌, ℕ, nat_le, Bool, true, false, List, [], ◌∷◌}
use Rattle.std.proofs.Common.{length, not, map, take, find, flat_map, filter_map, slice_get, min}
use Rattle.std.proofs.Common.{Option, Some, None, Ok, Err, is_some, is_none, if◌then◌else◌, inl, inr}
use Rattle.std.proofs.Common.{codes, refl, sym, ap, subst, ◌∙◌, arith}
use Rattle.std.specs.List.{list_any, range_with_len}
use Rattle.std.specs.Option.{option_and_then, option_map_or}
use Rattle.std.specs.Ordering.{is_eq}
use Rattle.pl_step_laws.specs.Below.pl_step.specs.Below.pl_answers.specs.Answers.{empty_object, numbered, refused, with_fact, with_json}
use Rattle.pl_step_laws.specs.Below.pl_step.specs.Below.pl_answers.specs.Answers.{without_fact}
use Rattle.pl_step_laws.specs.Below.pl_step.specs.Below.pl_answers.specs.declared.answer.Answer.{Answer}
use Rattle.pl_base.specs.Files.{text_cmp}
use Rattle.pl_base.specs.Texts.{is}
use Rattle.pl_base.specs.declared.digest.Digest.{Digest}
use Rattle.pl_base.specs.declared.outcome.Outcome.{Outcome}
use Rattle.pl_base.specs.declared.place.FileKey.{FileKey}
use Rattle.pl_base.specs.declared.resource.ResourceKey.{ResourceKey}
use Rattle.pl_checks.specs.declared.check.Check.{Check}
use Rattle.pl_step_laws.specs.Below.pl_step.specs.Below.pl_decisions.specs.Below.pl_due.specs.Below.pl_cond.specs.Variables.{variables_of}
use Rattle.pl_step_laws.specs.Below.pl_step.specs.Below.pl_decisions.specs.Decisions.{closed, decide, decide_again, decide_at, decide_first}
use Rattle.pl_step_laws.specs.Below.pl_step.specs.Below.pl_decisions.specs.Decisions.{decide_in, decide_run, decide_waiting, kept, lists}
use Rattle.pl_step_laws.specs.Below.pl_step.specs.Below.pl_decisions.specs.Decisions.{lists_requester, some_check, some_on, stage_named, unfit}
use Rattle.pl_step_laws.specs.Below.pl_step.specs.Below.pl_decisions.specs.Decisions.{verdict_reply}
use Rattle.pl_facts.specs.Sizes.{counted}
use Rattle.pl_facts.specs.declared.fact.Event.TheVariants as event
use Rattle.pl_facts.specs.declared.fact.Fact.{Fact}
use Rattle.pl_facts.specs.declared.fact.QueuedRun.{QueuedRun}
use Rattle.pl_step_laws.specs.Below.pl_step.specs.Below.pl_granting.specs.Named.{job_named, JobOf}
use Rattle.pl_step_laws.specs.Below.pl_step.specs.Below.pl_jobs.specs.Granting.{give, give_drawn, give_named, job_reply, AsAgent, Asks, AsksAs}
use Rattle.pl_step_laws.specs.Below.pl_step.specs.Below.pl_jobs.specs.Granting.{Claims, ClaimsAs, Draws, DrawsAs}
use Rattle.pl_step_laws.specs.Below.pl_step.specs.Below.pl_jobs.specs.Reports.{are_same, effective, ended_otherwise, has_outputs, is_outcome}
use Rattle.pl_step_laws.specs.Below.pl_step.specs.Below.pl_jobs.specs.Reports.{is_taker, report, report_again, report_job, report_taken, reported}
use Rattle.pl_step_laws.specs.Below.pl_step.specs.Below.pl_jobs.specs.Reports.{reported_told, stranger, taker, was_ended, Outputs}
use Rattle.pl_journal.specs.Log.{last_run, version, Log}
use Rattle.pl_journal.specs.Runs.{outcome_told, outputs_told, rule_told, taker_told, verdict_told}
use Rattle.pl_journal.specs.Settings.{admin, admin_principal, agent, by, principal_with}
use Rattle.pl_objects.specs.Jobs.{job_object}
use Rattle.pl_objects.specs.Runs.{run_object}
use Rattle.pl_objects.specs.declared.status.JobStatus.{JobStatus}
use Rattle.pl_objects.specs.declared.status.RunStatus.{RunStatus}
use Rattle.pl_objects.specs.declared.status.StageStatus.{StageStatus}
use Rattle.pl_step_laws.specs.Below.pl_step.specs.Below.pl_decisions.specs.Below.pl_due.specs.Below.pl_open_runs.specs.Open.{is_open, queued_runs}
use Rattle.pl_plan.specs.declared.plan.Compiled.{Compiled}
use Rattle.pl_plan.specs.declared.plan.PlanStage.{PlanStage}
use Rattle.pl_step_laws.specs.Below.pl_step.specs.Below.pl_queueing.specs.Queueing.{next_run, queue, queue_compiled, queue_run, unknown_use, Made}
use Rattle.pl_requests.specs.declared.reply.Body.TheVariants as body
use Rattle.pl_requests.specs.declared.reply.Reply.{Reply}
use Rattle.pl_requests.specs.declared.request.JobName.{JobName}
use Rattle.pl_requests.specs.declared.request.Report.{Report}
use Rattle.pl_requests.specs.declared.request.Request.{Request}
use Rattle.pl_requests.specs.declared.request.Request.TheVariants as request
use Rattle.pl_requests.specs.declared.settings.AgentSetting.{AgentSetting}
use Rattle.pl_requests.specs.declared.settings.FileText.{FileText}
use Rattle.pl_requests.specs.declared.settings.PrincipalSetting.{PrincipalSetting}
use Rattle.pl_requests.specs.declared.settings.ResourceSetting.{ResourceSetting}
use Rattle.pl_rules.specs.declared.rule.Rule.{Rule}
use Rattle.pl_rules.specs.declared.rule.Rule.TheVariants as rules
use Rattle.pl_rules.specs.declared.state.State.{State}
use Rattle.pl_rules.specs.declared.state.State.TheVariants as state
use Rattle.pl_step_laws.specs.Below.pl_step.specs.Below.pl_runs.specs.Runs.{cancel, cancel_queued, job_count, job_status, progress, read_run}
use Rattle.pl_step_laws.specs.Below.pl_step.specs.Below.pl_runs.specs.Runs.{run_status, stage_status}
use Rattle.pl_step_laws.specs.Below.pl_step.specs.Below.pl_settings.specs.Files.{get_file, next_version, put_file, remove_file, versioned}
use Rattle.pl_step_laws.specs.Below.pl_step.specs.Below.pl_settings.specs.Running.{running_on, running_of, uses, Stage}
use Rattle.pl_step_laws.specs.Below.pl_step.specs.Below.pl_settings.specs.Settings.{busy, busy_with, set_principal}
use Rattle.pl_step_laws.specs.Below.pl_step.specs.Below.pl_settings.specs.Settings.{set_resource}
use Rattle.pl_step_laws.specs.Below.pl_step.specs.Answering.{Answers}
use Rattle.pl_same_lookups.specs.Alike.{FindAlike, LookAlike}
use Rattle.pl_same_step.specs.Same.{LogsAlike}
use Rattle.pl_same_step.proofs.Granting.{drawn_same, ended_same, is_held_same, job_named_same}
use Rattle.pl_same_step.proofs.Granting.{name_broken_same}
use Rattle.pl_same_step.proofs.Queued.{queued_runs_same}
use Rattle.pl_same_step.proofs.Seeing.{agent_same, checks_same, ending_same, file_same, queued_same}
use Rattle.pl_same_step.proofs.Seeing.{resource_same, view_same}

module _ (facts other : List Fact) (alike : LookAlike facts other)
    (finds : FindAlike facts other) where
  -- ---- jobs that are given

  reply_same : (at : JobOf) → job_reply facts at ≡ job_reply other at
  reply_same at = λ i. with_json 200 (job_object at.run at.staged at.planned
      (variables_of at.queued.compiled.plan
      (view_same facts other alike at.queued.compiled.plan at.run i) at.stage at.job))

  give_same : (who : AgentSetting) (at : JobOf) → give facts who at ≡ give other who at
  give_same who at = λ i. if is_held_same facts other alike finds who.name at i
      then without_fact (reply_same at i)
      else with_fact (reply_same at i) (event.JobTaken at.run at.stage at.job who.name)

  give_drawn_same : (who : AgentSetting) (found : Option JobOf) →
      give_drawn facts who found ≡ give_drawn other who found
  give_drawn_same who None = refl
  give_drawn_same who (Some at) = give_same who at

  give_named_same : (who : AgentSetting) (name : JobName) (found : Option Rule) →
      give_named facts who name found ≡ give_named other who name found
  give_named_same who name (Some rule) = refl
  give_named_same who name None = λ i. option_map_or (λ at. give_same who at i)
      (job_named_same facts other alike finds name i) (refused 403 rules.JobUnknown)

  as_agent_same : (name : List ℕ) (R Q : AgentSetting → Answer → Type 0) (answer : Answer) →
      ((who : AgentSetting) → R who answer → Q who answer) → AsAgent facts name R answer →
      AsAgent other name Q answer
  as_agent_same name R Q answer to (inl is) =
      inl (sym (agent_same facts other alike name) ∙ is.0, is.1)
  as_agent_same name R Q answer to (inr is) =
      inr (is.0, sym (agent_same facts other alike name) ∙ is.1, to is.0 is.2)

  -- ---- reports

  reported_same : (at : JobOf) → reported facts at ≡ reported other at
  reported_same at = λ i. by reported_told (alike.job_ends at.run at.stage at.job i)

  outputs_same : (at : JobOf) (outputs : Outputs) →
      has_outputs facts at outputs ≡ has_outputs other at outputs
  outputs_same at outputs = λ i. option_map_or (λ kept. are_same kept outputs)
      (by outputs_told (alike.job_ends at.run at.stage at.job i)) false

  taker_same : (at : JobOf) → taker facts at ≡ taker other at
  taker_same at = λ i. by taker_told (alike.takings at.run at.stage at.job i)

  is_taker_same : (at : JobOf) (name : List ℕ) → is_taker facts at name ≡ is_taker other at name
  is_taker_same at name = λ i. option_map_or (is name) (taker_same at i) false

  otherwise_same : (at : JobOf) → ended_otherwise facts at ≡ ended_otherwise other at
  otherwise_same at = λ i.
      if is_some (by rule_told (ending_same facts other alike at.run at.stage at.job i))
      then ended_same facts other alike finds at i else None

  again_same : (at : JobOf) (told : Report) (before : Outcome) →
      report_again facts at told before ≡ report_again other at told before
  again_same at told before = λ i.
      if is_outcome before told.outcome && outputs_same at told.outputs i
      then without_fact empty_object else refused 409 (rules.ReportChanged before)

  report_taken_same : (at : JobOf) (told : Report) →
      report_taken facts at told ≡ report_taken other at told
  report_taken_same at told = λ i. option_map_or (λ before. again_same at told before i)
      (reported_same at i) (with_fact empty_object
      (event.JobEnded (effective at.planned.go_on told.outcome) (Some told.outcome) at.stage at.job
      at.run None told.outputs))

  report_job_same : (caller : List ℕ) (told : Report) (at : JobOf) →
      report_job facts caller told at ≡ report_job other caller told at
  report_job_same caller told at = λ i. option_map_or (refused 409) (otherwise_same at i)
      (if is_taker_same at caller i then report_taken_same at told i
      else refused 409 (rules.ReportStranger (taker_same at i)))

  report_same : (caller : List ℕ) (name : JobName) (told : Report) →
      report facts caller name told ≡ report other caller name told
  report_same caller name told = λ i. option_map_or (λ at. report_job_same caller told at i)
      (job_named_same facts other alike finds name i) (refused 404 rules.JobUnknown)

  -- ---- decisions

  some_check_same : (planned : PlanStage) (test : Check → Bool) →
      some_check facts planned test ≡ some_check other planned test
  some_check_same planned test = λ i.
      list_any (λ key. list_any test (checks_same facts other alike key i)) planned.uses

  unfit_same : (name : List ℕ) (queued : QueuedRun) (planned : PlanStage) →
      unfit facts name queued planned ≡ unfit other name queued planned
  unfit_same name queued planned = λ i.
      if not (some_check_same planned (lists name) i) then Some rules.ApproverUnlisted
      else if is name queued.requester && not (some_check_same planned (lists_requester name) i)
      then Some rules.ApproverRequester else None

  closed_same : (run stage : ℕ) → closed facts run stage ≡ closed other run stage
  closed_same run stage = λ i. if is_some (alike.ends run stage i) then Some state.Ended
      else if is_some (alike.starts run stage i) then Some state.Running else None

  module _ (name : List ℕ) (approve : Bool) where
    waiting_decided : (run stage : ℕ) (queued : QueuedRun) (planned : PlanStage) →
        decide_waiting facts name approve run stage queued planned
        ≡ decide_waiting other name approve run stage queued planned
    waiting_decided run stage queued planned = λ i. option_map_or (refused 403)
        (unfit_same name queued planned i)
        (with_fact (verdict_reply approve) (event.DecisionMade run stage name approve))

    first_decided : (run stage : ℕ) (queued : QueuedRun) (planned : PlanStage) →
        decide_first facts name approve run stage queued planned
        ≡ decide_first other name approve run stage queued planned
    first_decided run stage queued planned = λ i.
        option_map_or (λ far. refused 409 (rules.DecisionClosed far)) (closed_same run stage i)
        (waiting_decided run stage queued planned i)

    at_decided : (run stage : ℕ) (queued : QueuedRun) (planned : PlanStage) →
        decide_at facts name approve run stage queued planned
        ≡ decide_at other name approve run stage queued planned
    at_decided run stage queued planned = λ i.
        option_map_or (λ before. decide_again before approve)
        (by verdict_told (alike.decisions run stage name i))
        (first_decided run stage queued planned i)

    in_decided : (run : ℕ) (queued : QueuedRun) (stage : ℕ) →
        decide_in facts name approve run queued stage ≡ decide_in other name approve run queued stage
    in_decided run queued stage = λ i. option_map_or
        (λ planned. at_decided run stage queued planned i)
        (slice_get queued.compiled.plan.stages stage) (refused 404 rules.StageUnknown)

    run_decided : (run : ℕ) (stage : List ℕ) (queued : QueuedRun) →
        decide_run facts name run stage approve queued ≡ decide_run other name run stage approve queued
    run_decided run stage queued = λ i. option_map_or (λ place. in_decided run queued place i)
        (stage_named stage queued.compiled.plan.stages) (refused 404 rules.StageUnknown)

    decide_same : (run : ℕ) (stage : List ℕ) →
        decide facts name run stage approve ≡ decide other name run stage approve
    decide_same run stage = λ i. option_map_or (λ queued. run_decided run stage queued i)
        (queued_same facts other alike run i) (refused 404 rules.RunUnknown)

  -- ---- runs

  job_status_same : (run stage job : ℕ) →
      job_status facts run stage job ≡ job_status other run stage job
  job_status_same run stage job = λ i. record {
    agent = by taker_told (alike.takings run stage job i);
    progress = progress (is_some (alike.takings run stage job i))
        (ending_same facts other alike run stage job i);
  }

  stage_status_same : (run : ℕ) (stages : List PlanStage) (stage : ℕ) →
      stage_status facts run stages stage ≡ stage_status other run stages stage
  stage_status_same run stages stage = λ i. record {
    progress = progress (is_some (alike.starts run stage i)) (alike.ends run stage i);
    jobs = map (λ job. job_status_same run stage job i)
        (range_with_len 0 (job_count stages stage));
  }

  run_status_same : (run : ℕ) (stages : List PlanStage) →
      run_status facts run stages ≡ run_status other run stages
  run_status_same run stages = λ i. record {
    canceled = is_some (alike.cancelings run i);
    stages = map (λ stage. stage_status_same run stages stage i)
        (range_with_len 0 (length stages));
  }

  read_same : (run : ℕ) → read_run facts run ≡ read_run other run
  read_same run = λ i. option_map_or (λ (queued : QueuedRun). without_fact (with_json 200
      (run_object queued (run_status_same run queued.compiled.plan.stages i))))
      (queued_same facts other alike run i) (refused 404 rules.RunUnknown)

  open_same : (run : ℕ) → is_open run facts ≡ is_open run other
  open_same run = λ i. option_map_or (λ (queued : QueuedRun).
      list_any (λ stage. is_none (alike.ends run stage i))
      (range_with_len 0 (length queued.compiled.plan.stages)))
      (queued_same facts other alike run i) false

  cancel_queued_same : (run : ℕ) → cancel_queued facts run ≡ cancel_queued other run
  cancel_queued_same run = λ i. if is_some (alike.cancelings run i)
      then without_fact empty_object
      else if open_same run i then with_fact empty_object (event.RunCanceled run)
      else refused 409 rules.RunEnded

  cancel_same : (run : ℕ) → cancel facts run ≡ cancel other run
  cancel_same run = λ i. if is_some (queued_same facts other alike run i)
      then cancel_queued_same run i else refused 404 rules.RunUnknown

  -- ---- files and resources

  got_same : (key : FileKey) → get_file facts key ≡ get_file other key
  got_same key = λ i. option_map_or
      (λ (told : FileText). without_fact (record { status = 200; body = body.Raw told }))
      (alike.files key i) (refused 404 rules.FileUnknown)

  running_of_same : (key : ResourceKey) (run : ℕ) →
      running_of facts key run ≡ running_of other key run
  running_of_same key run = λ i. option_map_or (λ (queued : QueuedRun). filter_map
      (λ stage. option_and_then (λ (planned : PlanStage).
      if uses key planned && (is_some (alike.starts run stage i)
      && is_none (alike.ends run stage i)) then Some (run, planned.name) else None)
      (slice_get queued.compiled.plan.stages stage))
      (range_with_len 0 (length queued.compiled.plan.stages)))
      (queued_same facts other alike run i) []

  running_on_same : (key : ResourceKey) → running_on facts key ≡ running_on other key
  running_on_same key = λ i.
      flat_map (λ run. running_of_same key run i) (queued_runs_same facts other alike i)

  busy_same : (told : ResourceSetting) → busy facts told ≡ busy other told
  busy_same told = λ i. if told.exclusive then busy_with (running_on_same told.key i) else None

  unknown_same : (stages : List PlanStage) → unknown_use facts stages ≡ unknown_use other stages
  unknown_same stages = λ i. find (λ key. is_none (resource_same facts other alike key i))
      (flat_map (λ (planned : PlanStage). planned.uses) stages)

-- ---- numbers that are counted on

counted_more : (a b : ℕ) → counted a ≡ counted b → counted (a + 1) ≡ counted (b + 1)
counted_more a b e = omega (arith, e)

-- ---- requests

module _ (log other : Log) (same : LogsAlike log other) where
  pub owner_same : (token : List ℕ) → principal_with log.admin token log.facts
      ≡ principal_with other.admin token other.facts
  owner_same token = λ i. if is_eq (text_cmp token (same.admin i).bytes)
      then Some (admin_principal (same.admin i)) else same.finds.tokens token i

  versioned_same : versioned log ≡ versioned other
  versioned_same = λ i. numbered 200 (codes "version")
      (counted_more (version log) (version other) same.version i)

  put_same : (told : FileText) → put_file log told ≡ put_file other told
  put_same told = λ i. with_fact (versioned_same i) (event.FilePut told)

  removed_same : (key : FileKey) → remove_file log key ≡ remove_file other key
  removed_same key = λ i. if is_some (file_same log.facts other.facts same.look key i)
      then with_fact (versioned_same i) (event.FileRemoved key) else refused 404 rules.FileUnknown

  resource_set_same : (told : ResourceSetting) → set_resource log told ≡ set_resource other told
  resource_set_same told = λ i. option_map_or (refused 409)
      (busy_same log.facts other.facts same.look same.finds told i)
      (with_fact empty_object (event.ResourceSet told))

  principal_set_same : (told : PrincipalSetting) → set_principal log told ≡ set_principal other told
  principal_set_same told = λ i. if is told.name admin then refused 409 rules.PrincipalReserved
      else option_map_or (λ name. refused 409 (rules.TokenTaken name))
      (option_and_then (λ (owner : PrincipalSetting).
      if is owner.name told.name then None else Some owner.name) (owner_same told.digest.bytes i))
      (with_fact empty_object (event.PrincipalSet told))

  next_run_same : next_run log ≡ next_run other
  next_run_same = λ i. counted (same.run i + 1)

  queue_same : (pipeline requester : List ℕ) (made : Made) →
      queue log pipeline requester made ≡ queue other pipeline requester made
  queue_same pipeline requester None = refl
  queue_same pipeline requester (Some (Err refusal)) = refl
  queue_same pipeline requester (Some (Ok compiled)) = λ i.
      option_map_or (λ key. refused 422 (rules.ResourceUnknown key))
      (unknown_same log.facts other.facts same.look same.finds compiled.plan.stages i)
      (with_fact (numbered 201 (codes "run") (next_run_same i)) (event.RunQueued (record {
        run = next_run_same i;
        pipeline = pipeline;
        requester = requester;
        compiled = compiled;
      })))

module _ (log other : Log) (same : LogsAlike log other) (again : LogsAlike other log) where
  draws_same : (caller : List ℕ) (answer : Answer) → Draws log.facts caller answer →
      Draws other.facts caller answer
  draws_same caller answer is = as_agent_same log.facts other.facts same.look same.finds caller
      (DrawsAs log.facts) (DrawsAs other.facts) answer (λ who draws. (
        draws.0,
        drawn_same log.facts other.facts same.look again.look same.finds again.finds who draws.0
            draws.1,
        draws.2 ∙ give_drawn_same log.facts other.facts same.look same.finds who draws.0,
      )) is

  claims_same : (moment : ℕ) (caller : List ℕ) (name : JobName) (answer : Answer) →
      Claims log.facts moment caller name answer → Claims other.facts moment caller name answer
  claims_same moment caller name answer is = as_agent_same log.facts other.facts same.look
      same.finds caller (ClaimsAs log.facts moment name) (ClaimsAs other.facts moment name) answer
      (λ who claims. (
        claims.0,
        name_broken_same log.facts other.facts same.look again.look same.finds moment who name
            claims.0 claims.1,
        claims.2 ∙ give_named_same log.facts other.facts same.look same.finds who name claims.0,
      )) is

  asks_same : (moment : ℕ) (named : List ℕ) (name : JobName) (answer : Answer) →
      Asks log.facts moment named name answer → Asks other.facts moment named name answer
  asks_same moment named name answer is = as_agent_same log.facts other.facts same.look
      same.finds named (AsksAs log.facts moment name) (AsksAs other.facts moment name) answer
      (λ who asks. (
        asks.0,
        name_broken_same log.facts other.facts same.look again.look same.finds moment who name
            asks.0 asks.1,
        asks.2,
      )) is

  pub answers_same : (moment : ℕ) (who : List ℕ) (made : Made) (asked : Request)
      (answer : Answer) → Answers log moment who made asked answer →
      Answers other moment who made asked answer
  answers_same moment who made (request.PutFile told) answer is =
      is ∙ put_same log other same told
  answers_same moment who made (request.RemoveFile key) answer is =
      is ∙ removed_same log other same key
  answers_same moment who made (request.GetFile key) answer is =
      is ∙ got_same log.facts other.facts same.look same.finds key
  answers_same moment who made (request.SetPipeline told) answer is = is
  answers_same moment who made (request.SetResource told) answer is =
      is ∙ resource_set_same log other same told
  answers_same moment who made (request.SetPrincipal told) answer is =
      is ∙ principal_set_same log other same told
  answers_same moment who made (request.SetAgent told) answer is = is
  answers_same moment who made (request.QueueText text) answer is =
      is ∙ queue_same log other same (codes "text") who made
  answers_same moment who made (request.Queue order) answer is =
      is ∙ queue_same log other same order.pipeline who made
  answers_same moment who made (request.ReadRun run) answer is =
      is ∙ read_same log.facts other.facts same.look same.finds run
  answers_same moment who made (request.Cancel run) answer is =
      is ∙ cancel_same log.facts other.facts same.look same.finds run
  answers_same moment who made (request.Decide run stage approve) answer is =
      is ∙ decide_same log.facts other.facts same.look same.finds who approve run stage
  answers_same moment who made request.Draw answer is = draws_same who answer is
  answers_same moment who made (request.Claim job) answer is = claims_same moment who job answer is
  answers_same moment who made (request.Why job named) answer is =
      asks_same moment named job answer is
  answers_same moment who made (request.Report job told) answer is =
      is ∙ report_same log.facts other.facts same.look same.finds who job told
  answers_same moment who made request.Shutdown answer is = is
