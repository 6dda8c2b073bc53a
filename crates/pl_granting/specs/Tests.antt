-- What is asked of a job where one is looked for that an agent may be given, which holds none.
use Rattle.std.specs.Prelude.{◌≡◌, ◌&&◌, ℕ, nat_lt, Bool, true, false, List, is_none}
use Rattle.std.specs.List.{list_all}
use Rattle.std.specs.Option.{option_map_or}
use Rattle.pl_base.specs.Texts.{is}
use Rattle.pl_facts.specs.declared.fact.Fact.{Fact}
use Rattle.pl_facts.specs.declared.fact.QueuedRun.{QueuedRun}
use Rattle.pl_journal.specs.Runs.{job_ending}
use Rattle.pl_plan.specs.declared.plan.PlanStage.{PlanStage}
use Rattle.pl_requests.specs.declared.settings.AgentSetting.{AgentSetting}
use Rattle.pl_due.specs.Nodes.{is_running}
use Rattle.pl_granting.specs.Grantable.{IsFree}
use Rattle.pl_granting.specs.Named.{IsJobOf, JobOf, job_in}
use Rattle.pl_granting.specs.Rules.{holder, legs_taken, meets}
use Rattle.pl_views.specs.Ready.{is_ready, job_is_ready}

-- the agent is of its pool and has what it demands
abbrev pub is_able : AgentSetting → JobOf → Bool
is_able agent at = is agent.pool at.planned.pool && list_all (meets agent) at.planned.demands

-- no other agent holds it, and it hasn't ended
abbrev pub is_untaken : List Fact → List ℕ → JobOf → Bool
is_untaken facts agent at = option_map_or (λ other. is other agent) (holder facts at) true

abbrev pub is_left : List Fact → List ℕ → JobOf → Bool
is_left facts agent at = is_untaken facts agent at
    && is_none (job_ending at.run at.stage at.job facts)

-- it waits for no job, and fewer legs of it run than may at once
abbrev pub is_in_turn : List Fact → JobOf → Bool
is_in_turn facts at = job_is_ready at.planned at.run at.stage facts
    && nat_lt (legs_taken facts at) at.planned.max_parallel

abbrev pub may_take : List Fact → AgentSetting → JobOf → Bool
may_take facts agent at =
    is_able agent at && (is_left facts agent.name at && is_in_turn facts at)

-- of the job at a place of a stage
abbrev pub may_take_at : List Fact → AgentSetting → ℕ → ℕ → QueuedRun → PlanStage → ℕ → Bool
may_take_at facts agent run stage queued staged job =
    option_map_or (may_take facts agent) (job_in run stage queued staged job) false

-- the stage runs, and waits for no stage
abbrev pub is_at_work : List Fact → ℕ → ℕ → PlanStage → Bool
is_at_work facts run stage staged = is_running run stage facts && is_ready staged run facts

-- ---- jobs that are there and may be given

abbrev pub IsOpenTo : List Fact → AgentSetting → JobOf → Type 0
IsOpenTo facts agent at = IsJobOf facts at × IsFree facts agent at

abbrev pub OfRun : List Fact → AgentSetting → ℕ → JobOf → Type 0
OfRun facts agent run at = IsOpenTo facts agent at × (at.run ≡ run)

abbrev pub OfStage : List Fact → AgentSetting → ℕ → ℕ → JobOf → Type 0
OfStage facts agent run stage at = OfRun facts agent run at × (at.stage ≡ stage)
