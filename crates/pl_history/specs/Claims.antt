-- Where a claim is answered with the job: exactly where its agent may have it, which is said
-- without an order of rules; else it is refused by the first rule that is broken.
use Rattle.std.specs.Prelude.{◌≡◌, ◌≤◌, ◌↔◌, ◌++◌, ℕ, true, List, [], Option, None, Some}
use Rattle.std.specs.Prelude.{if◌then◌else◌}
use Rattle.pl_step.specs.Below.pl_answers.specs.Answers.{refused}
use Rattle.pl_facts.specs.declared.fact.Event.TheVariants as event
use Rattle.pl_facts.specs.declared.fact.Fact.{Fact}
use Rattle.pl_granting_laws.specs.Below.pl_granting.specs.Broken.{NameBroken}
use Rattle.pl_granting_laws.specs.Below.pl_granting.specs.Grantable.{IsGrantable}
use Rattle.pl_granting_laws.specs.Below.pl_granting.specs.Named.{JobOf, job_named}
use Rattle.pl_granting_laws.specs.Below.pl_granting.specs.Rules.{is_held_by}
use Rattle.pl_granting_laws.specs.Histories.{AreOrderly}
use Rattle.pl_history.specs.History.{Opening}
use Rattle.pl_step.specs.Below.pl_jobs.specs.Granting.{job_reply, why_answer}
use Rattle.pl_journal.specs.Log.{Log}
use Rattle.pl_journal.specs.Runs.{queueing}
use Rattle.pl_journal.specs.Settings.{agent, principal_with}
use Rattle.pl_requests.specs.declared.call.Call.{Call}
use Rattle.pl_requests.specs.declared.request.JobName.{JobName}
use Rattle.pl_requests.specs.declared.request.Request.TheVariants as request
use Rattle.pl_requests.specs.declared.settings.AgentSetting.{AgentSetting}
use Rattle.pl_requests.specs.declared.settings.PrincipalSetting.{PrincipalSetting}
use Rattle.pl_rules.specs.declared.rule.Rule.{Rule}
use Rattle.pl_rules.specs.declared.rule.Rule.TheVariants as rules
use Rattle.pl_granting_laws.specs.Below.pl_settling.specs.Settles.{Settles}
use Rattle.pl_step.specs.Callers.{may_call}
use Rattle.pl_step.specs.Step.{happened, refusing, stepped_with}
use Rattle.pl_step.specs.declared.stepped.Stepped.{Stepped}

-- What this asks of an opening: its stages were started of queued runs alone, the jobs of a started
-- stage have ended where the stage has, and no run's number is above that of the last one.
pub record IsOrderly (opening : Opening) : Type 0 where
  pub orderly : AreOrderly opening.facts
  pub numbers : (run : ℕ) → ¬ (queueing run opening.facts ≡ None) → run ≤ opening.run

-- there is a job of that name, and the agent holds it or may be given it
abbrev pub MayBeGiven : List Fact → AgentSetting → JobName → Type 0
MayBeGiven facts who name =
    (at : JobOf) × (job_named name facts ≡ Some at) × IsGrantable facts who at

-- the call is made by somebody who may make it, and this is due before it is answered
pub record IsCallOf (log : Log) (call : Call) (caller : PrincipalSetting)
    (due : List Fact) : Type 0 where
  pub known : principal_with log.admin call.caller.bytes log.facts ≡ Some caller
  pub may : may_call caller call.request ≡ true
  pub settles : Settles call.moment log.facts due

-- ... and it claims a job for the agent of the caller's name, of which there is one
pub record IsClaim (log : Log) (call : Call) (name : JobName) (who : AgentSetting)
    (due : List Fact) : Type 0 where
  pub claims : call.request ≡ request.Claim name
  pub caller : PrincipalSetting
  pub made : IsCallOf log call caller due
  pub named : agent caller.name (log.facts ++ due) ≡ Some who

-- ... or it asks by which rule an agent would be refused a job
pub record IsQuestion (log : Log) (call : Call) (name : JobName) (who : AgentSetting)
    (due : List Fact) : Type 0 where
  pub asked : List ℕ
  pub asks : call.request ≡ request.Why name asked
  pub caller : PrincipalSetting
  pub made : IsCallOf log call caller due
  pub named : agent asked (log.facts ++ due) ≡ Some who

-- the journal would be full: nothing is added, nor what was due
abbrev pub IsFull : Stepped → Type 0
IsFull stepped = stepped ≡ refusing 409 rules.JournalFull

-- an agent takes a job, unless it holds it already
abbrev pub taken_by : List Fact → ℕ → AgentSetting → JobOf → List Fact
taken_by facts moment who at = if is_held_by facts who.name at then []
    else happened moment (Some (event.JobTaken at.run at.stage at.job who.name))

-- On settled facts a claim is answered 200 exactly where the agent may have the job. There the
-- reply is the job's, and the agent takes it unless it holds it already. Else the claim is refused
-- by the first rule that it breaks, and nothing happens but what was due.
pub record IsAnsweredExactly (facts : List Fact) (moment : ℕ) (name : JobName)
    (who : AgentSetting) (due : List Fact) (stepped : Stepped) : Type 0 where
  pub exactly : (stepped.reply.status ≡ 200) ↔ MayBeGiven facts who name
  pub given : (at : JobOf) → job_named name facts ≡ Some at → IsGrantable facts who at →
      stepped ≡ stepped_with (job_reply facts at) (due ++ taken_by facts moment who at)
  pub refuses : ¬ MayBeGiven facts who name → (rule : Rule)
      × NameBroken facts moment who name (Some rule)
      × (stepped ≡ stepped_with (refused 403 rule).reply due)

-- who asks is told the first rule that a claim would break, and none exactly where it would be
-- answered with the job
pub record IsToldExactly (facts : List Fact) (moment : ℕ) (name : JobName) (who : AgentSetting)
    (due : List Fact) (stepped : Stepped) : Type 0 where
  pub found : Option Rule
  pub broken : NameBroken facts moment who name found
  pub exactly : (found ≡ None) ↔ MayBeGiven facts who name
  pub told : stepped ≡ stepped_with (why_answer found).reply due
