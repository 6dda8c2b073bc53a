-- Jobs that agents draw, claim and ask for (Microsoft Learn, Azure Pipelines: "Agents and pools",
-- "Jobs").
use Rattle.std.specs.Prelude.{◌≡◌, ◌⊎◌, ℕ, List, Option, Some, None, if◌then◌else◌}
use Rattle.std.specs.Option.{option_map_or}
use Rattle.pl_answers.specs.Answers.{no_content, refused, with_fact, with_json, without_fact}
use Rattle.pl_answers.specs.declared.answer.Answer.{Answer}
use Rattle.pl_cond.specs.Variables.{variables_of}
use Rattle.pl_facts.specs.declared.fact.Event.TheVariants as event
use Rattle.pl_facts.specs.declared.fact.Fact.{Fact}
use Rattle.pl_granting.specs.Broken.{NameBroken}
use Rattle.pl_granting.specs.Drawn.{Drawn}
use Rattle.pl_granting.specs.Named.{JobOf, job_named}
use Rattle.pl_granting.specs.Rules.{is_held_by}
use Rattle.pl_journal.specs.Settings.{agent}
use Rattle.pl_objects.specs.Jobs.{job_object}
use Rattle.pl_refusals.specs.Rows.{rule_object}
use Rattle.pl_requests.specs.declared.reply.Reply.{Reply}
use Rattle.pl_requests.specs.declared.request.JobName.{JobName}
use Rattle.pl_requests.specs.declared.settings.AgentSetting.{AgentSetting}
use Rattle.pl_rules.specs.declared.rule.Rule.{Rule}
use Rattle.pl_rules.specs.declared.rule.Rule.TheVariants as rules
use Rattle.pl_granting.specs.Below.pl_views.specs.RunViews.{run_view}

-- ---- a job that is given: its object; it is taken, or given once more where the agent holds it

abbrev pub job_reply : List Fact → JobOf → Reply
job_reply facts at = with_json 200 (job_object at.run at.staged at.planned
    (variables_of at.queued.compiled.plan (run_view at.queued.compiled.plan at.run facts) at.stage
    at.job))

abbrev pub give : List Fact → AgentSetting → JobOf → Answer
give facts who at = if is_held_by facts who.name at then without_fact (job_reply facts at)
    else with_fact (job_reply facts at) (event.JobTaken at.run at.stage at.job who.name)

-- ---- what an agent of a name is answered

-- where there is no such agent the request is refused
abbrev pub AsAgent : List Fact → List ℕ → (AgentSetting → Answer → Type 0) → Answer → Type 0
AsAgent facts name Asks answer =
    ((agent name facts ≡ None) × (answer ≡ refused 404 rules.AgentUnknown))
    ⊎ ((who : AgentSetting) × (agent name facts ≡ Some who) × Asks who answer)

-- ---- draws: the job that the agent holds, else the least that it may be given, else nothing

abbrev pub give_drawn : List Fact → AgentSetting → Option JobOf → Answer
give_drawn facts who None = without_fact no_content
give_drawn facts who (Some at) = give facts who at

abbrev pub DrawsAs : List Fact → AgentSetting → Answer → Type 0
DrawsAs facts who answer =
    (found : Option JobOf) × Drawn facts who found × (answer ≡ give_drawn facts who found)

abbrev pub Draws : List Fact → List ℕ → Answer → Type 0
Draws facts caller answer = AsAgent facts caller (DrawsAs facts) answer

-- ---- claims: the job, or the first rule that is broken

abbrev pub give_named : List Fact → AgentSetting → JobName → Option Rule → Answer
give_named facts who name (Some rule) = refused 403 rule
give_named facts who name None =
    option_map_or (give facts who) (job_named name facts) (refused 403 rules.JobUnknown)

abbrev pub ClaimsAs : List Fact → ℕ → JobName → AgentSetting → Answer → Type 0
ClaimsAs facts moment name who answer =
    (found : Option Rule) × NameBroken facts moment who name found
    × (answer ≡ give_named facts who name found)

abbrev pub Claims : List Fact → ℕ → List ℕ → JobName → Answer → Type 0
Claims facts moment caller name answer = AsAgent facts caller (ClaimsAs facts moment name) answer

-- ---- why: the rule that a claim by the named agent would break, or none

abbrev pub why_answer : Option Rule → Answer
why_answer None = without_fact (with_json 200 (rule_object rules.NoRule))
why_answer (Some rule) = without_fact (with_json 200 (rule_object rule))

abbrev pub AsksAs : List Fact → ℕ → JobName → AgentSetting → Answer → Type 0
AsksAs facts moment name who answer =
    (found : Option Rule) × NameBroken facts moment who name found × (answer ≡ why_answer found)

abbrev pub Asks : List Fact → ℕ → List ℕ → JobName → Answer → Type 0
Asks facts moment named name answer = AsAgent facts named (AsksAs facts moment name) answer
