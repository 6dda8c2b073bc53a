-- Where a request adds that a run was queued, the run's plan can run: no other request adds that.
use Rattle.std.proofs.Common.{◌&&◌, ℕ, Bool, true, false, List, Option, Some, None, Ok, Err}
use Rattle.std.proofs.Common.{is_some}
use Rattle.std.proofs.Common.{slice_get, sym, subst, inl, inr}
use Rattle.std.specs.Option.{option_map_or}
use Rattle.std.specs.Prelude.{codes, if◌then◌else◌}
use Rattle.pl_answers.specs.Answers.{empty_object, refused, with_fact, without_fact}
use Rattle.pl_answers.specs.declared.answer.Answer.{Answer}
use Rattle.pl_base.specs.Texts.{is as is_text}
use Rattle.pl_base.specs.declared.outcome.Outcome.{Outcome}
use Rattle.pl_decisions.specs.Decisions as decisions
use Rattle.pl_facts.specs.declared.fact.Event.TheVariants as event
use Rattle.pl_facts.specs.declared.fact.Fact.{Fact}
use Rattle.pl_facts.specs.declared.fact.QueuedRun.{QueuedRun}
use Rattle.pl_jobs.specs.Below.pl_granting.specs.Named.{JobOf, job_named}
use Rattle.pl_jobs.specs.Below.pl_granting.specs.Rules.{is_held_by}
use Rattle.pl_jobs.specs.Granting.{AsAgent, AsksAs, ClaimsAs, DrawsAs, give, job_reply}
use Rattle.pl_jobs.specs.Reports as reports
use Rattle.pl_journal.specs.Log.{Log}
use Rattle.pl_journal.specs.Runs.{canceling, queueing, run_told}
use Rattle.pl_journal.specs.Settings as settings
use Rattle.pl_journal.specs.Settings.{by}
use Rattle.pl_open_runs.specs.Open.{is_open}
use Rattle.pl_plan.specs.declared.plan.PlanStage.{PlanStage}
use Rattle.pl_queueing.specs.Queueing.{Made, queue, queue_run, unknown_use}
use Rattle.pl_requests.specs.declared.reply.Body.TheVariants as body
use Rattle.pl_requests.specs.declared.request.JobName.{JobName}
use Rattle.pl_requests.specs.declared.request.Report.{Report}
use Rattle.pl_requests.specs.declared.request.Request.{Request}
use Rattle.pl_requests.specs.declared.request.Request.TheVariants as request
use Rattle.pl_requests.specs.declared.settings.AgentSetting.{AgentSetting}
use Rattle.pl_requests.specs.declared.settings.PrincipalSetting.{PrincipalSetting}
use Rattle.pl_rules.specs.declared.rule.Rule.TheVariants as rules
use Rattle.pl_runs.specs.Runs.{cancel_queued, read_queued}
use Rattle.pl_settings.specs.Files as files
use Rattle.pl_settings.specs.Settings as sets
use Rattle.pl_step.specs.Answering.{Answers}
use Rattle.pl_step.specs.Fits.{CanHappen, CanRunMade}

abbrev Fits : Answer → Type 0
Fits answer = CanHappen answer.event

-- ---- by cases

if_so : (b : Bool) (x y : Answer) → Fits x → Fits y → Fits (if b then x else y)
if_so true x y fits others = fits
if_so false x y fits others = others

if_some : {X : Type 0} (f : X → Answer) (o : Option X) (y : Answer) → ((x : X) → Fits (f x)) →
    Fits y → Fits (option_map_or f o y)
if_some f None y fits others = others
if_some f (Some x) y fits others = fits x

-- ---- what queues a run, what reads one and what cancels one

queues : (log : Log) (pipeline who : List ℕ) (made : Made) → CanRunMade made →
    Fits (queue log pipeline who made)
queues log pipeline who None runs = tt
queues log pipeline who (Some (Err refusal)) runs = tt
queues log pipeline who (Some (Ok compiled)) runs =
    if_some (λ key. refused 422 (rules.ResourceUnknown key))
    (unknown_use log.facts compiled.plan.stages) (queue_run log pipeline who compiled) (λ key. tt)
    runs

cancels : (facts : List Fact) (run : ℕ) → Fits (cancel_queued facts run)
cancels facts run = if_so (is_some (canceling run facts)) (without_fact empty_object)
    (if is_open run facts then with_fact empty_object (event.RunCanceled run)
    else refused 409 rules.RunEnded) tt
    (if_so (is_open run facts) (with_fact empty_object (event.RunCanceled run))
    (refused 409 rules.RunEnded) tt tt)

-- ---- decisions

module _ (facts : List Fact) (name : List ℕ) (approve : Bool) (run : ℕ) where
  decides_at : (stage : ℕ) (queued : QueuedRun) (planned : PlanStage) →
      Fits (decisions.decide_at facts name approve run stage queued planned)
  decides_at stage queued planned =
      let made = with_fact (decisions.verdict_reply approve)
      (event.DecisionMade run stage name approve) in
      let waiting = decisions.decide_waiting facts name approve run stage queued planned in
      let first = decisions.decide_first facts name approve run stage queued planned in
      if_some (λ before. decisions.decide_again before approve)
      (decisions.kept facts name run stage) first
      (λ before. if_so (decisions.is_same before approve)
      (without_fact (decisions.verdict_reply approve))
      (refused 409 (rules.DecisionChanged before)) tt tt)
      (if_some (λ far. refused 409 (rules.DecisionClosed far)) (decisions.closed facts run stage)
      waiting (λ far. tt)
      (if_some (refused 403) (decisions.unfit facts name queued planned) made (λ rule. tt) tt))

  decides_run : (stage : List ℕ) (queued : QueuedRun) →
      Fits (decisions.decide_run facts name run stage approve queued)
  decides_run stage queued =
      if_some (decisions.decide_in facts name approve run queued)
      (decisions.stage_named stage queued.compiled.plan.stages) (refused 404 rules.StageUnknown)
      (λ place. if_some (decisions.decide_at facts name approve run place queued)
      (slice_get queued.compiled.plan.stages place) (refused 404 rules.StageUnknown)
      (decides_at place queued) tt) tt

-- ---- jobs

module _ (facts : List Fact) where
  gives : (who : AgentSetting) (at : JobOf) → Fits (give facts who at)
  gives who at = if_so (is_held_by facts who.name at) (without_fact (job_reply facts at))
      (with_fact (job_reply facts at) (event.JobTaken at.run at.stage at.job who.name)) tt tt

  as_agent : (name : List ℕ) (Told : AgentSetting → Answer → Type 0) →
      ((who : AgentSetting) (answer : Answer) → Told who answer → Fits answer) →
      (answer : Answer) → AsAgent facts name Told answer → Fits answer
  as_agent name Told fits answer (inl (none, is)) = subst Fits (sym is) tt
  as_agent name Told fits answer (inr (who, there, told)) = fits who answer told

  draws : (who : AgentSetting) (answer : Answer) → DrawsAs facts who answer → Fits answer
  draws who answer (None, drawn, is) = subst Fits (sym is) tt
  draws who answer (Some at, drawn, is) = subst Fits (sym is) (gives who at)

  module _ (moment : ℕ) (name : JobName) where
    claims : (who : AgentSetting) (answer : Answer) → ClaimsAs facts moment name who answer →
        Fits answer
    claims who answer (Some rule, broken, is) = subst Fits (sym is) tt
    claims who answer (None, broken, is) = subst Fits (sym is)
        (if_some (give facts who) (job_named name facts) (refused 403 rules.JobUnknown)
        (gives who) tt)

    asks : (who : AgentSetting) (answer : Answer) → AsksAs facts moment name who answer →
        Fits answer
    asks who answer (Some rule, broken, is) = subst Fits (sym is) tt
    asks who answer (None, broken, is) = subst Fits (sym is) tt

  reports_again : (at : JobOf) (told : Report) (kept : Outcome) →
      Fits (reports.report_again facts at told kept)
  reports_again at told kept =
      if_so (reports.is_outcome kept told.outcome && reports.has_outputs facts at told.outputs)
      (without_fact empty_object) (refused 409 (rules.ReportChanged kept)) tt tt

  reports_job : (caller : List ℕ) (told : Report) (at : JobOf) →
      Fits (reports.report_job facts caller told at)
  reports_job caller told at =
      let ends = with_fact empty_object (event.JobEnded
      (reports.effective at.planned.go_on told.outcome) (Some told.outcome) at.stage at.job at.run
      None told.outputs) in
      let taken = reports.report_taken facts at told in
      let strange = refused 409 (reports.stranger facts at) in
      if_some (refused 409) (reports.ended_otherwise facts at)
      (if reports.is_taker facts at caller then taken else strange) (λ rule. tt)
      (if_so (reports.is_taker facts at caller) taken strange
      (if_some (reports.report_again facts at told) (reports.reported facts at) ends
      (reports_again at told) tt) tt)

-- ---- all requests

module _ (log : Log) (moment : ℕ) (who : List ℕ) (made : Made) (runs : CanRunMade made) where
  pub fits : (asked : Request) (answer : Answer) → Answers log moment who made asked answer →
      Fits answer
  fits (request.PutFile file) answer is = subst Fits (sym is) tt
  fits (request.RemoveFile key) answer is = subst Fits (sym is)
      (if_so (is_some (settings.file key log.facts))
      (with_fact (files.versioned log) (event.FileRemoved key)) (refused 404 rules.FileUnknown)
      tt tt)
  fits (request.GetFile key) answer is = subst Fits (sym is)
      (if_some (λ told. without_fact (record { status = 200; body = body.Raw told }))
      (settings.file_put key log.facts) (refused 404 rules.FileUnknown) (λ told. tt) tt)
  fits (request.SetPipeline told) answer is = subst Fits (sym is)
      (if_so (is_text told.name (codes "text")) (refused 409 rules.PipelineReserved)
      (with_fact empty_object (event.PipelineSet told)) tt tt)
  fits (request.SetResource told) answer is = subst Fits (sym is)
      (if_some (refused 409) (sets.busy log.facts told)
      (with_fact empty_object (event.ResourceSet told)) (λ rule. tt) tt)
  fits (request.SetPrincipal told) answer is = subst Fits (sym is) (sets_principal told)
    where
      sets_principal : (told : PrincipalSetting) → Fits (sets.set_principal log told)
      sets_principal told =
          let set = with_fact empty_object (event.PrincipalSet told) in
          let taken = λ (name : List ℕ). refused 409 (rules.TokenTaken name) in
          if_so (is_text told.name settings.admin) (refused 409 rules.PrincipalReserved)
          (option_map_or taken (sets.other_owner log told) set) tt
          (if_some taken (sets.other_owner log told) set (λ name. tt) tt)
  fits (request.SetAgent told) answer is = subst Fits (sym is) tt
  fits (request.QueueText text) answer is = subst Fits (sym is)
      (queues log (codes "text") who made runs)
  fits (request.Queue order) answer is = subst Fits (sym is)
      (queues log order.pipeline who made runs)
  fits (request.ReadRun run) answer is = subst Fits (sym is)
      (if_some (read_queued log.facts run) (by run_told (queueing run log.facts))
      (refused 404 rules.RunUnknown) (λ queued. tt) tt)
  fits (request.Cancel run) answer is = subst Fits (sym is)
      (if_so (is_some (by run_told (queueing run log.facts))) (cancel_queued log.facts run)
      (refused 404 rules.RunUnknown) (cancels log.facts run) tt)
  fits (request.Decide run stage approve) answer is = subst Fits (sym is)
      (if_some (decisions.decide_run log.facts who run stage approve)
      (by run_told (queueing run log.facts)) (refused 404 rules.RunUnknown)
      (decides_run log.facts who approve run stage) tt)
  fits request.Draw answer is = as_agent log.facts who (DrawsAs log.facts) (draws log.facts)
      answer is
  fits (request.Claim job) answer is =
      as_agent log.facts who (ClaimsAs log.facts moment job) (claims log.facts moment job) answer is
  fits (request.Why job named) answer is =
      as_agent log.facts named (AsksAs log.facts moment job) (asks log.facts moment job) answer is
  fits (request.Report job told) answer is = subst Fits (sym is)
      (if_some (reports.report_job log.facts who told) (job_named job log.facts)
      (refused 404 rules.JobUnknown) (reports_job log.facts who told) tt)
  fits request.Shutdown answer is = subst Fits (sym is) tt
