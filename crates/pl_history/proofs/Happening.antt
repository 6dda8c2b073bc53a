-- What may happen by a request.
use Rattle.std.proofs.Common.{◌≡◌, ◌&&◌, ℕ, Bool, true, false, cond, List, Option, Some, None}
use Rattle.std.proofs.Common.{Ok, Err, refl, sym, subst, inl, inr}
use Rattle.std.specs.Prelude.{codes, is_some, slice_get}
use Rattle.std.specs.Option.{option_map_or}
use Rattle.pl_step.specs.Below.pl_answers.specs.Answers.{empty_object, refused, with_fact}
use Rattle.pl_step.specs.Below.pl_answers.specs.declared.answer.Answer.{Answer}
use Rattle.pl_base.specs.Texts.{is}
use Rattle.pl_base.specs.declared.place.FileKey.{FileKey}
use Rattle.pl_step.specs.Below.pl_decisions.specs.Decisions.{closed, decide, is_same, kept}
use Rattle.pl_step.specs.Below.pl_decisions.specs.Decisions.{stage_named, unfit}
use Rattle.pl_facts.specs.declared.fact.Event.{Event}
use Rattle.pl_facts.specs.declared.fact.Event.TheVariants as event
use Rattle.pl_facts.specs.declared.fact.QueuedRun.{QueuedRun}
use Rattle.pl_granting_laws.specs.Below.pl_granting.specs.Named.{JobOf, job_named}
use Rattle.pl_granting_laws.specs.Below.pl_granting.specs.Rules.{is_held_by}
use Rattle.pl_step.specs.Below.pl_jobs.specs.Granting.{Asks, AsksAs, AsAgent, Claims, ClaimsAs}
use Rattle.pl_step.specs.Below.pl_jobs.specs.Granting.{Draws, DrawsAs}
use Rattle.pl_step.specs.Below.pl_jobs.specs.Granting.{give, give_drawn, give_named, why_answer}
use Rattle.pl_step.specs.Below.pl_jobs.specs.Reports.{ended_otherwise, has_outputs, is_outcome}
use Rattle.pl_step.specs.Below.pl_jobs.specs.Reports.{is_taker, report}
use Rattle.pl_step.specs.Below.pl_jobs.specs.Reports.{reported}
use Rattle.pl_journal.specs.Log.{Log}
use Rattle.pl_journal.specs.Runs.{canceling, queueing, run_told}
use Rattle.pl_journal.specs.Settings.{admin, by, file, file_put}
use Rattle.pl_open_runs.specs.Open.{is_open}
use Rattle.pl_step.specs.Below.pl_queueing.specs.Queueing.{Made, next_run, queue, unknown_use}
use Rattle.pl_requests.specs.declared.request.JobName.{JobName}
use Rattle.pl_requests.specs.declared.request.Report.{Report}
use Rattle.pl_requests.specs.declared.request.Request.{Request}
use Rattle.pl_requests.specs.declared.request.Request.TheVariants as request
use Rattle.pl_requests.specs.declared.settings.AgentSetting.{AgentSetting}
use Rattle.pl_requests.specs.declared.settings.PipelineSetting.{PipelineSetting}
use Rattle.pl_requests.specs.declared.settings.PrincipalSetting.{PrincipalSetting}
use Rattle.pl_requests.specs.declared.settings.ResourceSetting.{ResourceSetting}
use Rattle.pl_rules.specs.declared.rule.Rule.{Rule}
use Rattle.pl_step.specs.Below.pl_runs.specs.Runs.{cancel, read_run}
use Rattle.pl_step.specs.Below.pl_settings.specs.Files.{get_file, remove_file}
use Rattle.pl_step.specs.Below.pl_settings.specs.Settings.{busy, other_owner, set_pipeline}
use Rattle.pl_step.specs.Below.pl_settings.specs.Settings.{set_principal}
use Rattle.pl_step.specs.Answering.{Answers}

-- no stage starts or ends by a request; what becomes exclusive isn't busy; a run that is queued has
-- the next number
abbrev pub Happens : Log → Event → Type 0
Happens log (event.ResourceSet told) = busy log.facts told ≡ None
Happens log (event.RunQueued told) = told.run ≡ next_run log
Happens log (event.StageStarted run stage) = ⊥
Happens log (event.StageEnded run stage outcome rule) = ⊥
Happens log _ = Unit {0}

abbrev pub MayHappen : Log → Option Event → Type 0
MayHappen log None = Unit {0}
MayHappen log (Some told) = Happens log told

abbrev Fine : Log → Answer → Type 0
Fine log answer = MayHappen log answer.event

-- ---- answers by cases

or_by : {X : Type 0} (P : Answer → Type 0) (f : X → Answer) (o : Option X) (d : Answer) →
    ((x : X) → P (f x)) → P d → P (option_map_or f o d)
or_by P f None d some none = none
or_by P f (Some x) d some none = some x

cond_by : (P : Answer → Type 0) (b : Bool) (x y : Answer) → P x → P y → P (cond b x y)
cond_by P true x y left right = left
cond_by P false x y left right = right

-- ---- request by request

module _ (log : Log) where
  files_removed : (key : FileKey) → Fine log (remove_file log key)
  files_removed key = cond_by (Fine log) (is_some (file key log.facts)) _ _ tt tt

  files_got : (key : FileKey) → Fine log (get_file log.facts key)
  files_got key = or_by (Fine log) _ (file_put key log.facts) _ (λ told. tt) tt

  pipeline_set : (told : PipelineSetting) → Fine log (set_pipeline told)
  pipeline_set told = cond_by (Fine log) (is told.name (codes "text")) _ _ tt tt

  resource_by : (told : ResourceSetting) (o : Option Rule) → busy log.facts told ≡ o →
      Fine log (option_map_or (refused 409) o (with_fact empty_object (event.ResourceSet told)))
  resource_by told None free = free
  resource_by told (Some rule) free = tt

  principal_set : (told : PrincipalSetting) → Fine log (set_principal log told)
  principal_set told = cond_by (Fine log) (is told.name admin) _ _ tt
      (or_by (Fine log) _ (other_owner log told) _ (λ name. tt) tt)

  run_queued : (pipeline requester : List ℕ) (made : Made) →
      Fine log (queue log pipeline requester made)
  run_queued pipeline requester None = tt
  run_queued pipeline requester (Some (Err refusal)) = tt
  run_queued pipeline requester (Some (Ok compiled)) =
      or_by (Fine log) _ (unknown_use log.facts compiled.plan.stages) _ (λ key. tt) refl

  run_read : (run : ℕ) → Fine log (read_run log.facts run)
  run_read run = or_by (Fine log) _ (by run_told (queueing run log.facts)) _ (λ queued. tt) tt

  run_canceled : (run : ℕ) → Fine log (cancel log.facts run)
  run_canceled run = cond_by (Fine log) (is_some (by run_told (queueing run log.facts))) _ _
      (cond_by (Fine log) (is_some (canceling run log.facts)) _ _ tt
      (cond_by (Fine log) (is_open run log.facts) _ _ tt tt)) tt

  decided : (who : List ℕ) (run : ℕ) (stage : List ℕ) (approve : Bool) →
      Fine log (decide log.facts who run stage approve)
  decided who run stage approve = or_by (Fine log) _ (by run_told (queueing run log.facts)) _
      (λ (queued : QueuedRun). or_by (Fine log) _
      (stage_named stage queued.compiled.plan.stages) _
      (λ place. or_by (Fine log) _ (slice_get queued.compiled.plan.stages place) _
      (λ planned. or_by (Fine log) _ (kept log.facts who run place) _
      (λ before. cond_by (Fine log) (is_same before approve) _ _ tt tt)
      (or_by (Fine log) _ (closed log.facts run place) _ (λ far. tt)
      (or_by (Fine log) _ (unfit log.facts who queued planned) _ (λ rule. tt) tt))) tt) tt) tt

  given : (who : AgentSetting) (at : JobOf) → Fine log (give log.facts who at)
  given who at = cond_by (Fine log) (is_held_by log.facts who.name at) _ _ tt tt

  given_drawn : (who : AgentSetting) (found : Option JobOf) →
      Fine log (give_drawn log.facts who found)
  given_drawn who None = tt
  given_drawn who (Some at) = given who at

  given_named : (who : AgentSetting) (name : JobName) (found : Option Rule) →
      Fine log (give_named log.facts who name found)
  given_named who name (Some rule) = tt
  given_named who name None =
      or_by (Fine log) _ (job_named name log.facts) _ (given who) tt

  of : (answer other : Answer) → answer ≡ other → Fine log other → Fine log answer
  of answer other same fine = subst (Fine log) (sym same) fine

  as_agent : (name : List ℕ) (R : AgentSetting → Answer → Type 0) (answer : Answer) →
      ((who : AgentSetting) → R who answer → Fine log answer) → AsAgent log.facts name R answer →
      Fine log answer
  as_agent name R answer each (inl unknown) = of answer _ unknown.1 tt
  as_agent name R answer each (inr known) = each known.0 known.2

  drawn : (who : List ℕ) (answer : Answer) → Draws log.facts who answer → Fine log answer
  drawn who answer is = as_agent who (DrawsAs log.facts) answer
      (λ agent draws. of answer _ draws.2 (given_drawn agent draws.0)) is

  claimed : (moment : ℕ) (who : List ℕ) (name : JobName) (answer : Answer) →
      Claims log.facts moment who name answer → Fine log answer
  claimed moment who name answer is = as_agent who (ClaimsAs log.facts moment name) answer
      (λ agent claims. of answer _ claims.2 (given_named agent name claims.0)) is

  why_told : (found : Option Rule) → Fine log (why_answer found)
  why_told None = tt
  why_told (Some rule) = tt

  asked : (moment : ℕ) (named : List ℕ) (name : JobName) (answer : Answer) →
      Asks log.facts moment named name answer → Fine log answer
  asked moment named name answer is = as_agent named (AsksAs log.facts moment name) answer
      (λ agent asks. of answer _ asks.2 (why_told asks.0)) is

  reports : (who : List ℕ) (name : JobName) (told : Report) →
      Fine log (report log.facts who name told)
  reports who name told = or_by (Fine log) _ (job_named name log.facts) _
      (λ at. or_by (Fine log) _ (ended_otherwise log.facts at) _ (λ rule. tt)
      (cond_by (Fine log) (is_taker log.facts at who) _ _
      (or_by (Fine log) _ (reported log.facts at) _
      (λ before. cond_by (Fine log)
      (is_outcome before told.outcome && has_outputs log.facts at told.outputs) _ _ tt tt) tt)
      tt)) tt

  pub happens : (moment : ℕ) (who : List ℕ) (made : Made) (told : Request) (answer : Answer) →
      Answers log moment who made told answer → MayHappen log answer.event
  happens moment who made (request.PutFile one) answer is = of answer _ is tt
  happens moment who made (request.RemoveFile key) answer is = of answer _ is (files_removed key)
  happens moment who made (request.GetFile key) answer is = of answer _ is (files_got key)
  happens moment who made (request.SetPipeline one) answer is = of answer _ is (pipeline_set one)
  happens moment who made (request.SetResource one) answer is =
      of answer _ is (resource_by one (busy log.facts one) refl)
  happens moment who made (request.SetPrincipal one) answer is =
      of answer _ is (principal_set one)
  happens moment who made (request.SetAgent one) answer is = of answer _ is tt
  happens moment who made (request.QueueText text) answer is =
      of answer _ is (run_queued (codes "text") who made)
  happens moment who made (request.Queue order) answer is =
      of answer _ is (run_queued order.pipeline who made)
  happens moment who made (request.ReadRun run) answer is = of answer _ is (run_read run)
  happens moment who made (request.Cancel run) answer is = of answer _ is (run_canceled run)
  happens moment who made (request.Decide run stage approve) answer is =
      of answer _ is (decided who run stage approve)
  happens moment who made request.Draw answer is = drawn who answer is
  happens moment who made (request.Claim job) answer is = claimed moment who job answer is
  happens moment who made (request.Why job named) answer is = asked moment named job answer is
  happens moment who made (request.Report job one) answer is =
      of answer _ is (reports who job one)
  happens moment who made request.Shutdown answer is = of answer _ is tt
