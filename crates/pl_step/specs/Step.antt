-- The step: what a call is answered, and the facts that it adds. First who calls, then what is due,
-- then the request itself.
use Rattle.std.specs.Prelude.{◌≡◌, ◌⊎◌, ◌++◌, ℕ, true, false, List, [], ◌∷◌, Option, Some, None}
use Rattle.std.specs.Prelude.{if◌then◌else◌}
use Rattle.pl_answers.specs.Answers.{refused}
use Rattle.pl_answers.specs.declared.answer.Answer.{Answer}
use Rattle.pl_facts.specs.declared.fact.Event.{Event}
use Rattle.pl_facts.specs.declared.fact.Fact.{Fact}
use Rattle.pl_journal.specs.Log.{Log}
use Rattle.pl_journal.specs.Settings.{principal_with}
use Rattle.pl_queueing.specs.Queueing.{Made}
use Rattle.pl_requests.specs.declared.call.Call.{Call}
use Rattle.pl_requests.specs.declared.reply.Reply.{Reply}
use Rattle.pl_requests.specs.declared.request.Request.{Request}
use Rattle.pl_requests.specs.declared.request.Request.TheVariants as request
use Rattle.pl_requests.specs.declared.settings.PrincipalSetting.{PrincipalSetting}
use Rattle.pl_rules.specs.declared.rule.Rule.{Rule}
use Rattle.pl_rules.specs.declared.rule.Rule.TheVariants as rules
use Rattle.pl_jobs.specs.Below.pl_settling.specs.Settles.{Settles}
use Rattle.pl_step.specs.Answering.{Answers}
use Rattle.pl_step.specs.Callers.{may_call, wanted_roles}
use Rattle.pl_step.specs.Full.{is_too_much, with_facts}
use Rattle.pl_step.specs.declared.held.Held.{Held}
use Rattle.pl_step.specs.declared.stepped.Stepped.{Stepped}

-- what is due comes first; a shutdown leaves it
abbrev pub SettlesFor : Request → ℕ → List Fact → List Fact → Type 0
SettlesFor request.Shutdown moment facts due = due ≡ []
SettlesFor _ moment facts due = Settles moment facts due

-- what the request adds
abbrev pub happened : ℕ → Option Event → List Fact
happened moment None = []
happened moment (Some event) = record { moment = moment; event = event } ∷ []

abbrev pub stepped_with : Reply → List Fact → Stepped
stepped_with reply added = record { reply = reply; added = added }

abbrev pub refusing : ℕ → Rule → Stepped
refusing status rule = stepped_with (refused status rule).reply []

abbrev pub forbidden : Request → Stepped
forbidden asked = refusing 403 (rules.RoleMissing (wanted_roles asked))

-- the facts are one entry, unless it is too much: then nothing is added, nor what was due
abbrev pub given : Held → Log → Request → Stepped → Stepped
given held log asked stepped =
    if is_too_much held log asked stepped.added
    then refusing 409 rules.JournalFull else stepped

-- a call by somebody who may call it
pub record Serves (held : Held) (log : Log) (call : Call) (made : Made) (who : List ℕ)
    (stepped : Stepped) : Type 0 where
  pub due : List Fact
  pub settles : SettlesFor call.request call.moment log.facts due
  pub answer : Answer
  pub answers : Answers (with_facts log due) call.moment who made call.request answer
  pub gives : stepped ≡ given held log call.request
      (stepped_with answer.reply (due ++ happened call.moment answer.event))

-- by whoever has the token
abbrev pub StepsAs : Held → Log → Call → Made → Stepped → Option PrincipalSetting → Type 0
StepsAs held log call made stepped None = stepped ≡ refusing 401 rules.TokenUnknown
StepsAs held log call made stepped (Some who) =
    ((may_call who call.request ≡ false) × (stepped ≡ forbidden call.request))
    ⊎ ((may_call who call.request ≡ true) × Serves held log call made who.name stepped)

abbrev pub IsStep : Held → Log → Call → Made → Stepped → Type 0
IsStep held log call made stepped = StepsAs held log call made stepped
    (principal_with log.admin call.caller.bytes log.facts)
