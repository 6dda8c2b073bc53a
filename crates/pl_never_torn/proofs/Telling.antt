-- What a fact that happens by a request tells of the facts before it.
use Rattle.std.proofs.Common.{◌≡◌, ◌&&◌, ℕ, Bool, true, false, cond, List, Option, Some, None}
use Rattle.std.proofs.Common.{Ok, Err, true≢false, refl, sym, ap, subst, ◌∙◌, inl, inr}
use Rattle.std.specs.Prelude.{codes, is_some, slice_get, unwrap_or}
use Rattle.std.specs.Option.{option_map_or}
use Rattle.pl_base.specs.Texts.{is}
use Rattle.pl_base.specs.declared.place.FileKey.{FileKey}
use Rattle.pl_facts.specs.declared.fact.Event.{Event}
use Rattle.pl_facts.specs.declared.fact.Event.TheVariants as event
use Rattle.pl_facts.specs.declared.fact.Fact.{Fact}
use Rattle.pl_facts.specs.declared.fact.QueuedRun.{QueuedRun}
use Rattle.pl_plan.specs.declared.plan.PlanStage.{PlanStage}
use Rattle.pl_journal.specs.Log.{Log}
use Rattle.pl_journal.specs.Runs.{canceling, queueing, run_told, taker_told, taking}
use Rattle.pl_journal.specs.Settings.{admin, by, file, file_put}
use Rattle.pl_requests.specs.declared.request.JobName.{JobName}
use Rattle.pl_requests.specs.declared.request.Report.{Report}
use Rattle.pl_requests.specs.declared.request.Request.{Request}
use Rattle.pl_requests.specs.declared.request.Request.TheVariants as request
use Rattle.pl_requests.specs.declared.settings.AgentSetting.{AgentSetting}
use Rattle.pl_requests.specs.declared.settings.PipelineSetting.{PipelineSetting}
use Rattle.pl_requests.specs.declared.settings.PrincipalSetting.{PrincipalSetting}
use Rattle.pl_requests.specs.declared.settings.ResourceSetting.{ResourceSetting}
use Rattle.pl_rules.specs.declared.rule.Rule.{Rule}
use Rattle.pl_history.specs.Claims.{MayBeGiven}
use Rattle.pl_history.proofs.Granted.{named_there}
use Rattle.pl_history.specs.Below.pl_step.specs.Answering.{Answers}
use Rattle.pl_answers.specs.declared.answer.Answer.{Answer}
use Rattle.pl_history.specs.Below.pl_step.specs.Below.pl_decisions.specs.Decisions.{closed, decide}
use Rattle.pl_history.specs.Below.pl_step.specs.Below.pl_decisions.specs.Decisions.{is_same, kept}
use Rattle.pl_history.specs.Below.pl_step.specs.Below.pl_decisions.specs.Decisions.{stage_named}
use Rattle.pl_history.specs.Below.pl_step.specs.Below.pl_decisions.specs.Decisions.{unfit}
use Rattle.pl_granting.specs.Broken.{NameBroken}
use Rattle.pl_granting.specs.Drawn.{Drawn}
use Rattle.pl_granting.specs.Grantable.{IsFree, IsGrantable}
use Rattle.pl_granting.specs.Named.{IsJobOf, JobOf, job_named}
use Rattle.pl_granting.specs.Rules.{is_held_by}
use Rattle.pl_history.specs.Below.pl_step.specs.Below.pl_jobs.specs.Granting.{AsAgent, Asks, AsksAs}
use Rattle.pl_history.specs.Below.pl_step.specs.Below.pl_jobs.specs.Granting.{Claims, ClaimsAs}
use Rattle.pl_history.specs.Below.pl_step.specs.Below.pl_jobs.specs.Granting.{Draws, DrawsAs, give}
use Rattle.pl_history.specs.Below.pl_step.specs.Below.pl_jobs.specs.Granting.{give_drawn}
use Rattle.pl_history.specs.Below.pl_step.specs.Below.pl_jobs.specs.Granting.{give_named}
use Rattle.pl_history.specs.Below.pl_step.specs.Below.pl_jobs.specs.Granting.{why_answer}
use Rattle.pl_history.specs.Below.pl_step.specs.Below.pl_jobs.specs.Reports.{ended_otherwise}
use Rattle.pl_history.specs.Below.pl_step.specs.Below.pl_jobs.specs.Reports.{has_outputs}
use Rattle.pl_history.specs.Below.pl_step.specs.Below.pl_jobs.specs.Reports.{is_outcome}
use Rattle.pl_history.specs.Below.pl_step.specs.Below.pl_jobs.specs.Reports.{is_taker, report}
use Rattle.pl_history.specs.Below.pl_step.specs.Below.pl_jobs.specs.Reports.{reported}
use Rattle.pl_open_runs.specs.Open.{is_open}
use Rattle.pl_history.specs.Below.pl_queueing.specs.Queueing.{Made, next_run}
use Rattle.pl_history.specs.Below.pl_queueing.specs.Queueing.{queue, unknown_use}
use Rattle.pl_history.specs.Below.pl_step.specs.Below.pl_runs.specs.Runs.{cancel, read_run}
use Rattle.pl_history.specs.Below.pl_step.specs.Below.pl_settings.specs.Files.{get_file}
use Rattle.pl_history.specs.Below.pl_step.specs.Below.pl_settings.specs.Files.{remove_file}
use Rattle.pl_history.specs.Below.pl_step.specs.Below.pl_settings.specs.Settings.{busy, other_owner}
use Rattle.pl_history.specs.Below.pl_step.specs.Below.pl_settings.specs.Settings.{set_pipeline}
use Rattle.pl_history.specs.Below.pl_step.specs.Below.pl_settings.specs.Settings.{set_principal}
use Rattle.pl_history.specs.Below.pl_step.specs.Below.pl_settings.specs.Settings.{set_resource}

-- a job that an agent may be given is taken
pub record IsTakenSo (facts : List Fact) (run stage job : ℕ) (agent : List ℕ) : Type 0 where
  pub who : AgentSetting
  pub named : who.name ≡ agent
  pub at : JobOf
  pub of_run : at.run ≡ run
  pub of_stage : at.stage ≡ stage
  pub of_job : at.job ≡ job
  pub there : IsJobOf facts at
  pub free : IsFree facts who at

-- a job that was taken is reported, of which nothing was reported and which no rule ended
pub record IsReportedSo (facts : List Fact) (run stage job : ℕ) : Type 0 where
  pub at : JobOf
  pub of_run : at.run ≡ run
  pub of_stage : at.stage ≡ stage
  pub of_job : at.job ≡ job
  pub taken : ¬ (taking at.run at.stage at.job facts ≡ None)
  pub unreported : reported facts at ≡ None
  pub unended : ended_otherwise facts at ≡ None

-- where no rule is broken the job may be given
abbrev pub Grants : List Fact → ℕ → Type 0
Grants facts moment = (who : AgentSetting) (name : JobName) →
    NameBroken facts moment who name None → MayBeGiven facts who name

-- no name is reserved, and no other principal has the token; what becomes exclusive isn't busy; a
-- run has the next number, and was compiled to what was made; a run that is canceled was queued; a
-- decision is about a stage of a queued run; no stage starts or ends by a request
abbrev pub Tells : Log → Made → Event → Type 0
Tells log made (event.ResourceSet told) = busy log.facts told ≡ None
Tells log made (event.PipelineSet told) = is told.name (codes "text") ≡ false
Tells log made (event.PrincipalSet told) =
    (is told.name admin ≡ false) × (other_owner log told ≡ None)
Tells log made (event.RunQueued told) =
    (told.run ≡ next_run log) × (made ≡ Some (Ok told.compiled))
Tells log made (event.DecisionMade run stage approver approve) = (queued : QueuedRun)
    × (planned : PlanStage) × (by run_told (queueing run log.facts) ≡ Some queued)
    × (slice_get queued.compiled.plan.stages stage ≡ Some planned)
Tells log made (event.JobTaken run stage job agent) = IsTakenSo log.facts run stage job agent
Tells log made (event.JobEnded outcome reported stage job run rule outputs) =
    (is_some reported ≡ true) × IsReportedSo log.facts run stage job
Tells log made (event.RunCanceled run) = ¬ (queueing run log.facts ≡ None)
Tells log made (event.StageStarted run stage) = ⊥
Tells log made (event.StageEnded run stage outcome rule) = ⊥
Tells log made _ = Unit {0}

abbrev pub MayTell : Log → Made → Option Event → Type 0
MayTell log made None = Unit {0}
MayTell log made (Some told) = Tells log made told

abbrev Fine : Log → Made → Answer → Type 0
Fine log made answer = MayTell log made answer.event

-- ---- answers by cases

or_by : {X : Type 0} (P : Answer → Type 0) (f : X → Answer) (o : Option X) (d : Answer) →
    ((x : X) → o ≡ Some x → P (f x)) → (o ≡ None → P d) → P (option_map_or f o d)
or_by P f None d some none = none refl
or_by P f (Some x) d some none = some x refl

cond_by : (P : Answer → Type 0) (b : Bool) (x y : Answer) → (b ≡ true → P x) →
    (b ≡ false → P y) → P (cond b x y)
cond_by P true x y left right = left refl
cond_by P false x y left right = right refl

-- ---- request by request

module _ (log : Log) (made : Made) where
  files_removed : (key : FileKey) → Fine log made (remove_file log key)
  files_removed key = cond_by (Fine log made) (is_some (file key log.facts)) _ _ (λ e. tt) (λ e. tt)

  files_got : (key : FileKey) → Fine log made (get_file log.facts key)
  files_got key = or_by (Fine log made) _ (file_put key log.facts) _ (λ told e. tt) (λ e. tt)

  pipeline_set : (told : PipelineSetting) → Fine log made (set_pipeline told)
  pipeline_set told =
      cond_by (Fine log made) (is told.name (codes "text")) _ _ (λ e. tt) (λ free. free)

  resource_set : (told : ResourceSetting) → Fine log made (set_resource log told)
  resource_set told = or_by (Fine log made) _ (busy log.facts told) _ (λ rule e. tt) (λ free. free)

  principal_set : (told : PrincipalSetting) → Fine log made (set_principal log told)
  principal_set told = cond_by (Fine log made) (is told.name admin) _ _ (λ e. tt)
      (λ free. or_by (Fine log made) _ (other_owner log told) _ (λ name e. tt) (λ none. (
        free,
        none,
      )))

  run_queued : (pipeline requester : List ℕ) (its : Made) → made ≡ its →
      Fine log made (queue log pipeline requester its)
  run_queued pipeline requester None e = tt
  run_queued pipeline requester (Some (Err refusal)) e = tt
  run_queued pipeline requester (Some (Ok compiled)) e = or_by (Fine log made) _
      (unknown_use log.facts compiled.plan.stages) _ (λ key f. tt) (λ f. (refl, e))

  run_read : (run : ℕ) → Fine log made (read_run log.facts run)
  run_read run =
      or_by (Fine log made) _ (by run_told (queueing run log.facts)) _ (λ queued e. tt) (λ e. tt)

  run_canceled : (run : ℕ) → Fine log made (cancel log.facts run)
  run_canceled run = cond_by (Fine log made) (is_some (by run_told (queueing run log.facts))) _ _
      (λ e. cond_by (Fine log made) (is_some (canceling run log.facts)) _ _ (λ f. tt)
      (λ f. cond_by (Fine log made) (is_open run log.facts) _ _ (λ g none. true≢false (sym e
      ∙ ap (λ (o : Option Fact). is_some (by run_told o)) none)) (λ g. tt))) (λ e. tt)

  decided : (who : List ℕ) (run : ℕ) (stage : List ℕ) (approve : Bool) →
      Fine log made (decide log.facts who run stage approve)
  decided who run stage approve = or_by (Fine log made) _ (by run_told (queueing run log.facts)) _
      (λ (queued : QueuedRun) is_queued. or_by (Fine log made) _
      (stage_named stage queued.compiled.plan.stages) _
      (λ place e. or_by (Fine log made) _ (slice_get queued.compiled.plan.stages place) _
      (λ planned is_planned. or_by (Fine log made) _ (kept log.facts who run place) _
      (λ before f. cond_by (Fine log made) (is_same before approve) _ _ (λ g. tt) (λ g. tt))
      (λ f. or_by (Fine log made) _ (closed log.facts run place) _ (λ far g. tt)
      (λ g. or_by (Fine log made) _ (unfit log.facts who queued planned) _ (λ rule h. tt)
      (λ h. (queued, planned, is_queued, is_planned))))) (λ f. tt)) (λ e. tt)) (λ e. tt)

  free_of : (who : AgentSetting) (at : JobOf) → IsGrantable log.facts who at →
      is_held_by log.facts who.name at ≡ false → IsFree log.facts who at
  free_of who at (inl held) e = absurd (true≢false (sym held ∙ e))
  free_of who at (inr free) e = free

  given : (who : AgentSetting) (at : JobOf) → IsJobOf log.facts at →
      IsGrantable log.facts who at → Fine log made (give log.facts who at)
  given who at there may = cond_by (Fine log made) (is_held_by log.facts who.name at) _ _
      (λ e. tt) (λ e. record {
        who = who;
        named = refl;
        at = at;
        of_run = refl;
        of_stage = refl;
        of_job = refl;
        there = there;
        free = free_of who at may e;
      })

  given_drawn : (who : AgentSetting) (found : Option JobOf) → Drawn log.facts who found →
      Fine log made (give_drawn log.facts who found)
  given_drawn who None drawn = tt
  given_drawn who (Some at) drawn = given who at drawn.0.0 drawn.0.1

  given_named : (moment : ℕ) → Grants log.facts moment → (who : AgentSetting) (name : JobName)
      (found : Option Rule) → NameBroken log.facts moment who name found →
      Fine log made (give_named log.facts who name found)
  given_named moment grants who name (Some rule) broken = tt
  given_named moment grants who name None broken =
      or_by (Fine log made) _ (job_named name log.facts) _ (λ at e. given who at
      (named_there name log.facts at e) (its at e (grants who name broken))) (λ e. tt)
    where
      its : (at : JobOf) → job_named name log.facts ≡ Some at → MayBeGiven log.facts who name →
          IsGrantable log.facts who at
      its at e may = subst (IsGrantable log.facts who)
          (ap (λ (o : Option JobOf). unwrap_or o at) (sym may.1 ∙ e)) may.2

  of : (answer other : Answer) → answer ≡ other → Fine log made other → Fine log made answer
  of answer other same fine = subst (Fine log made) (sym same) fine

  as_agent : (name : List ℕ) (R : AgentSetting → Answer → Type 0) (answer : Answer) →
      ((who : AgentSetting) → R who answer → Fine log made answer) → AsAgent log.facts name R answer
      →
      Fine log made answer
  as_agent name R answer each (inl unknown) = of answer _ unknown.1 tt
  as_agent name R answer each (inr known) = each known.0 known.2

  drawn : (who : List ℕ) (answer : Answer) → Draws log.facts who answer → Fine log made answer
  drawn who answer is = as_agent who (DrawsAs log.facts) answer
      (λ agent draws. of answer _ draws.2 (given_drawn agent draws.0 draws.1)) is

  claimed : (moment : ℕ) → Grants log.facts moment → (who : List ℕ) (name : JobName)
      (answer : Answer) → Claims log.facts moment who name answer → Fine log made answer
  claimed moment grants who name answer is = as_agent who (ClaimsAs log.facts moment name) answer
      (λ agent claims. of answer _ claims.2
      (given_named moment grants agent name claims.0 claims.1)) is

  why_told : (found : Option Rule) → Fine log made (why_answer found)
  why_told None = tt
  why_told (Some rule) = tt

  asked : (moment : ℕ) (named : List ℕ) (name : JobName) (answer : Answer) →
      Asks log.facts moment named name answer → Fine log made answer
  asked moment named name answer is = as_agent named (AsksAs log.facts moment name) answer
      (λ agent asks. of answer _ asks.2 (why_told asks.0)) is

  reports : (who : List ℕ) (name : JobName) (told : Report) →
      Fine log made (report log.facts who name told)
  reports who name told = or_by (Fine log made) _ (job_named name log.facts) _
      (λ at e. or_by (Fine log made) _ (ended_otherwise log.facts at) _ (λ rule f. tt)
      (λ f. cond_by (Fine log made) (is_taker log.facts at who) _ _
      (λ g. or_by (Fine log made) _ (reported log.facts at) _
      (λ before h. cond_by (Fine log made)
      (is_outcome before told.outcome && has_outputs log.facts at told.outputs) _ _
      (λ i. tt) (λ i. tt)) (λ h. (
        refl,
        record {
          at = at;
          of_run = refl;
          of_stage = refl;
          of_job = refl;
          taken = taken_by at g;
          unreported = h;
          unended = f;
        },
      ))) (λ g. tt))) (λ e. tt)
    where
      taken_by : (at : JobOf) → is_taker log.facts at who ≡ true →
          ¬ (taking at.run at.stage at.job log.facts ≡ None)
      taken_by at g none = true≢false (sym g ∙ ap (λ (o : Option Fact).
          option_map_or (is who) (by taker_told o) false) none)

  pub tells : (moment : ℕ) (who : List ℕ) (told : Request) (answer : Answer) →
      ((name : JobName) → told ≡ request.Claim name → Grants log.facts moment) →
      Answers log moment who made told answer → MayTell log made answer.event
  tells moment who (request.PutFile one) answer grants is = of answer _ is tt
  tells moment who (request.RemoveFile key) answer grants is = of answer _ is (files_removed key)
  tells moment who (request.GetFile key) answer grants is = of answer _ is (files_got key)
  tells moment who (request.SetPipeline one) answer grants is = of answer _ is (pipeline_set one)
  tells moment who (request.SetResource one) answer grants is = of answer _ is (resource_set one)
  tells moment who (request.SetPrincipal one) answer grants is = of answer _ is (principal_set one)
  tells moment who (request.SetAgent one) answer grants is = of answer _ is tt
  tells moment who (request.QueueText text) answer grants is =
      of answer _ is (run_queued (codes "text") who made refl)
  tells moment who (request.Queue order) answer grants is =
      of answer _ is (run_queued order.pipeline who made refl)
  tells moment who (request.ReadRun run) answer grants is = of answer _ is (run_read run)
  tells moment who (request.Cancel run) answer grants is = of answer _ is (run_canceled run)
  tells moment who (request.Decide run stage approve) answer grants is =
      of answer _ is (decided who run stage approve)
  tells moment who request.Draw answer grants is = drawn who answer is
  tells moment who (request.Claim job) answer grants is = claimed moment (grants job refl) who job
      answer is
  tells moment who (request.Why job named) answer grants is = asked moment named job answer is
  tells moment who (request.Report job one) answer grants is =
      of answer _ is (reports who job one)
  tells moment who request.Shutdown answer grants is = of answer _ is tt
