-- That a step leaves no choice: what is due doesn't, what a request is answered doesn't, and so
-- neither does what is given.
use Rattle.std.proofs.Common.{◌≡◌, ◌++◌, ℕ, true, false, List, Option, Some, None, inl, inr, sym}
use Rattle.std.proofs.Common.{ap}
use Rattle.std.proofs.Common.{subst, ◌∙◌}
use Rattle.std.proofs.lemmas.Option.{none-some}
use Rattle.pl_answers.specs.declared.answer.Answer.{Answer}
use Rattle.pl_facts.specs.declared.fact.Fact.{Fact}
use Rattle.pl_step.specs.Below.pl_granting.specs.Broken.{Broken, BrokenOf}
use Rattle.pl_step.specs.Below.pl_granting.specs.Drawn.{Drawn}
use Rattle.pl_step.specs.Below.pl_granting.specs.Named.{JobOf, job_named}
use Rattle.pl_step.specs.Below.pl_jobs.specs.Granting.{AsAgent, Asks, AsksAs, Claims, ClaimsAs}
use Rattle.pl_step.specs.Below.pl_jobs.specs.Granting.{Draws, DrawsAs}
use Rattle.pl_step.specs.Below.pl_jobs.specs.Granting.{give_drawn, give_named, why_answer}
use Rattle.pl_journal.specs.Log.{Log}
use Rattle.pl_journal.specs.Settings.{agent, principal_with}
use Rattle.pl_queueing.specs.Queueing.{Made}
use Rattle.pl_requests.specs.declared.call.Call.{Call}
use Rattle.pl_requests.specs.declared.request.JobName.{JobName}
use Rattle.pl_requests.specs.declared.request.Request.{Request}
use Rattle.pl_requests.specs.declared.request.Request.TheVariants as request
use Rattle.pl_requests.specs.declared.settings.AgentSetting.{AgentSetting}
use Rattle.pl_requests.specs.declared.settings.PrincipalSetting.{PrincipalSetting}
use Rattle.pl_rules.specs.declared.rule.Rule.{Rule}
use Rattle.pl_settling.specs.Settles.{Settles}
use Rattle.pl_step.specs.Answering.{Answers}
use Rattle.pl_step.specs.Callers.{may_call}
use Rattle.pl_step.specs.Full.{with_facts}
use Rattle.pl_step.specs.Step.{IsStep, Serves, SettlesFor, StepsAs, given, happened, stepped_with}
use Rattle.pl_step.specs.declared.held.Held.{Held}
use Rattle.pl_step.specs.declared.stepped.Stepped.{Stepped}

-- ---- what this rests on: rules, draws and settling leave no choice

abbrev OneRule : Type 0
OneRule = (facts : List Fact) (moment : ℕ) (agent : AgentSetting) (at : JobOf)
    (left right : Option Rule) → Broken facts moment agent at left →
    Broken facts moment agent at right → left ≡ right

abbrev OneDrawn : Type 0
OneDrawn = (facts : List Fact) (agent : AgentSetting) (left right : Option JobOf) →
    Drawn facts agent left → Drawn facts agent right → left ≡ right

abbrev OneSettling : Type 0
OneSettling = (moment : ℕ) (facts left right : List Fact) → Settles moment facts left →
    Settles moment facts right → left ≡ right

-- ---- what an agent of a name is answered

one_as : (facts : List Fact) (name : List ℕ) (R : AgentSetting → Answer → Type 0) →
    ((who : AgentSetting) (left right : Answer) → R who left → R who right → left ≡ right) →
    (left right : Answer) → AsAgent facts name R left → AsAgent facts name R right → left ≡ right
one_as facts name R one left right (inl a) (inl b) = a.1 ∙ sym b.1
one_as facts name R one left right (inl a) (inr (who, known, is)) =
    absurd (none-some who (sym a.0 ∙ known))
one_as facts name R one left right (inr (who, known, is)) (inl b) =
    absurd (none-some who (sym b.0 ∙ known))
one_as facts name R one left right (inr (who, known, is)) (inr (other, also, has)) =
    let e : Some other ≡ Some who = sym also ∙ known in
    let same : other ≡ who = cc in
    one who left right is (subst (λ (a : AgentSetting). R a right) same has)

one_of : OneRule → (facts : List Fact) (moment : ℕ) (who : AgentSetting) (job : Option JobOf)
    (left right : Option Rule) → BrokenOf facts moment who job left →
    BrokenOf facts moment who job right → left ≡ right
one_of one facts moment who None left right a b = a ∙ sym b
one_of one facts moment who (Some at) left right a b = one facts moment who at left right a b

-- ---- what a request is answered

module _ (one : OneRule) (drawn : OneDrawn) where
  one_draw : (facts : List Fact) (caller : List ℕ) (left right : Answer) →
      Draws facts caller left → Draws facts caller right → left ≡ right
  one_draw facts caller left right a b = one_as facts caller (DrawsAs facts) (λ who l r x y.
      x.2 ∙ ap (give_drawn facts who) (drawn facts who x.0 y.0 x.1 y.1) ∙ sym y.2) left right a b

  one_claim : (facts : List Fact) (moment : ℕ) (caller : List ℕ) (name : JobName)
      (left right : Answer) → Claims facts moment caller name left →
      Claims facts moment caller name right → left ≡ right
  one_claim facts moment caller name left right a b =
      one_as facts caller (ClaimsAs facts moment name) (λ who l r x y.
      x.2 ∙ ap (give_named facts who name)
      (one_of one facts moment who (job_named name facts) x.0 y.0 x.1 y.1) ∙ sym y.2) left right a b

  one_asked : (facts : List Fact) (moment : ℕ) (named : List ℕ) (name : JobName)
      (left right : Answer) → Asks facts moment named name left →
      Asks facts moment named name right → left ≡ right
  one_asked facts moment named name left right a b =
      one_as facts named (AsksAs facts moment name) (λ who l r x y.
      x.2 ∙ ap why_answer
      (one_of one facts moment who (job_named name facts) x.0 y.0 x.1 y.1) ∙ sym y.2) left right a b

  one_answer : (log : Log) (moment : ℕ) (who : List ℕ) (made : Made) (asked : Request)
      (left right : Answer) → Answers log moment who made asked left →
      Answers log moment who made asked right → left ≡ right
  one_answer log moment who made (request.PutFile file) left right a b = a ∙ sym b
  one_answer log moment who made (request.RemoveFile key) left right a b = a ∙ sym b
  one_answer log moment who made (request.GetFile key) left right a b = a ∙ sym b
  one_answer log moment who made (request.SetPipeline told) left right a b = a ∙ sym b
  one_answer log moment who made (request.SetResource told) left right a b = a ∙ sym b
  one_answer log moment who made (request.SetPrincipal told) left right a b = a ∙ sym b
  one_answer log moment who made (request.SetAgent told) left right a b = a ∙ sym b
  one_answer log moment who made (request.QueueText text) left right a b = a ∙ sym b
  one_answer log moment who made (request.Queue order) left right a b = a ∙ sym b
  one_answer log moment who made (request.ReadRun run) left right a b = a ∙ sym b
  one_answer log moment who made (request.Cancel run) left right a b = a ∙ sym b
  one_answer log moment who made (request.Decide run stage approve) left right a b = a ∙ sym b
  one_answer log moment who made request.Draw left right a b =
      one_draw log.facts who left right a b
  one_answer log moment who made (request.Claim job) left right a b =
      one_claim log.facts moment who job left right a b
  one_answer log moment who made (request.Why job named) left right a b =
      one_asked log.facts moment named job left right a b
  one_answer log moment who made (request.Report job told) left right a b = a ∙ sym b
  one_answer log moment who made request.Shutdown left right a b = a ∙ sym b

-- ---- what is due

one_due : OneSettling → (asked : Request) (moment : ℕ) (facts left right : List Fact) →
    SettlesFor asked moment facts left → SettlesFor asked moment facts right → left ≡ right
one_due one (request.PutFile file) moment facts left right a b = one moment facts left right a b
one_due one (request.RemoveFile key) moment facts left right a b = one moment facts left right a b
one_due one (request.GetFile key) moment facts left right a b = one moment facts left right a b
one_due one (request.SetPipeline told) moment facts left right a b = one moment facts left right a b
one_due one (request.SetResource told) moment facts left right a b = one moment facts left right a b
one_due one (request.SetPrincipal told) moment facts left right a b = one moment facts left right a b
one_due one (request.SetAgent told) moment facts left right a b = one moment facts left right a b
one_due one (request.QueueText text) moment facts left right a b = one moment facts left right a b
one_due one (request.Queue order) moment facts left right a b = one moment facts left right a b
one_due one (request.ReadRun run) moment facts left right a b = one moment facts left right a b
one_due one (request.Cancel run) moment facts left right a b = one moment facts left right a b
one_due one (request.Decide run stage approve) moment facts left right a b = one moment facts left right a b
one_due one request.Draw moment facts left right a b = one moment facts left right a b
one_due one (request.Claim job) moment facts left right a b = one moment facts left right a b
one_due one (request.Why job named) moment facts left right a b = one moment facts left right a b
one_due one (request.Report job told) moment facts left right a b = one moment facts left right a b
one_due one request.Shutdown moment facts left right a b = a ∙ sym b

-- ---- the step

module _ (one : OneRule) (drawn : OneDrawn) (settling : OneSettling) (held : Held) (log : Log)
    (call : Call) (made : Made) where
  one_served : (who : List ℕ) (left right : Stepped) → Serves held log call made who left →
      Serves held log call made who right → left ≡ right
  one_served who left right a b =
      let due : a.due ≡ b.due =
      one_due settling call.request call.moment log.facts a.due b.due a.settles b.settles in
      let answers : Answers (with_facts log b.due) call.moment who made call.request a.answer =
      subst (λ (facts : List Fact).
      Answers (with_facts log facts) call.moment who made call.request a.answer) due a.answers in
      let answer : a.answer ≡ b.answer = one_answer one drawn (with_facts log b.due) call.moment who
      made call.request a.answer b.answer answers b.answers in
      a.gives
      ∙ ap (λ (facts : List Fact). given held log call.request
      (stepped_with a.answer.reply (facts ++ happened call.moment a.answer.event))) due
      ∙ ap (λ (told : Answer). given held log call.request
      (stepped_with told.reply (b.due ++ happened call.moment told.event))) answer
      ∙ sym b.gives

  one_by : (caller : Option PrincipalSetting) (left right : Stepped) →
      StepsAs held log call made left caller → StepsAs held log call made right caller →
      left ≡ right
  one_by None left right a b = a ∙ sym b
  one_by (Some who) left right (inl a) (inl b) = a.1 ∙ sym b.1
  one_by (Some who) left right (inl a) (inr b) =
      let e : false ≡ true = sym a.0 ∙ b.0 in absurd (cc)
  one_by (Some who) left right (inr a) (inl b) =
      let e : false ≡ true = sym b.0 ∙ a.0 in absurd (cc)
  one_by (Some who) left right (inr a) (inr b) = one_served who.name left right a.1 b.1

pub one_step : OneRule → OneDrawn → OneSettling → (held : Held) (log : Log) (call : Call)
    (made : Made) (left right : Stepped) → IsStep held log call made left →
    IsStep held log call made right → left ≡ right
one_step one drawn settling held log call made left right a b =
    one_by one drawn settling held log call made
    (principal_with log.admin call.caller.bytes log.facts) left right a b
