-- The rules by which an agent isn't given a job, one after the other (Microsoft Learn, Azure
-- Pipelines: "Agents and pools", demands; "Dependencies and conditions"; "Pipeline permissions";
-- "Define approvals and checks"; "Jobs", maxParallel). Their order and what each tells are this
-- project's own. Each is what it tells where it is broken, and None where it isn't.
use Rattle.std.specs.Prelude.{◌==◌, ℕ, nat_le, Bool, true, false, not, ◌&&◌, List, [], length}
use Rattle.std.specs.Prelude.{Option, Some, None, slice_get, is_some, codes, if◌then◌else◌, find}
use Rattle.std.specs.List.{count_by, list_any, range_with_len}
use Rattle.std.specs.Option.{option_and_then, option_map, option_map_or}
use Rattle.pl_base.specs.Texts.{is}
use Rattle.pl_facts.specs.declared.fact.Event.{Event}
use Rattle.pl_facts.specs.declared.fact.Event.TheVariants as event
use Rattle.pl_facts.specs.declared.fact.Fact.{Fact}
use Rattle.pl_journal.specs.Runs.{held_by, holding, job_ending, outcome_told, rule_told}
use Rattle.pl_journal.specs.Runs.{stage_start, taker_told}
use Rattle.pl_journal.specs.Settings.{by}
use Rattle.pl_plan.specs.Labels.{label}
use Rattle.pl_plan.specs.declared.plan.PlanJob.{PlanJob}
use Rattle.pl_plan.specs.declared.plan.PlanStage.{PlanStage}
use Rattle.pl_refusals.specs.Rows.{name_of}
use Rattle.pl_requests.specs.declared.settings.AgentSetting.{AgentSetting}
use Rattle.pl_rules.specs.declared.rule.Rule.{Rule}
use Rattle.pl_rules.specs.declared.rule.Rule.TheVariants as rules
use Rattle.pl_uses.specs.declared.demand.Demand.{Demand}
use Rattle.pl_due.specs.Checked.{permits}
use Rattle.pl_granting.specs.Named.{JobOf, job_at}
use Rattle.pl_views.specs.Ready.{awaited_job, awaited_stage}

-- ---- it has ended: its result, and the rule that ended it, or its report

abbrev pub ended_by : Option Rule → List ℕ
ended_by rule = option_map_or name_of rule (codes "report")

abbrev pub ended_as : Option Fact → Option Rule
ended_as ending = option_map (λ outcome. rules.JobEnded outcome (ended_by (by rule_told ending)))
    (by outcome_told ending)

abbrev pub ended : List Fact → JobOf → Option Rule
ended facts at = ended_as (job_ending at.run at.stage at.job facts)

-- ---- another agent holds it

-- the agent that took it, until it ends
abbrev pub holder : List Fact → JobOf → Option (List ℕ)
holder facts at = by taker_told (holding at.run at.stage at.job facts)

abbrev pub taken : List Fact → List ℕ → JobOf → Option Rule
taken facts agent at = option_and_then
    (λ other. if is other agent then None else Some (rules.JobTaken other)) (holder facts at)

-- ---- the agent holds another one

abbrev pub job_taken : List Fact → Event → Option JobOf
job_taken facts (event.JobTaken run stage job agent) = job_at run stage job facts
job_taken facts _ = None

-- the job that an agent holds, until that ends
abbrev pub held_job : List Fact → List ℕ → Option JobOf
held_job facts agent = option_and_then (λ fact. job_taken facts fact.event) (held_by agent facts)

abbrev pub is_same_job : JobOf → JobOf → Bool
is_same_job one other = (one.run == other.run) && (one.stage == other.stage)
    && (one.job == other.job)

-- it holds this one
abbrev pub is_held_by : List Fact → List ℕ → JobOf → Bool
is_held_by facts agent at = option_map_or (is_same_job at) (held_job facts agent) false

abbrev pub busy_with : JobOf → Rule
busy_with other = rules.AgentBusy other.run other.staged.name (label other.planned)

-- asked only where it doesn't hold the job that it wants
abbrev pub busy : List Fact → List ℕ → Option Rule
busy facts agent = option_map busy_with (held_job facts agent)

-- ---- what the agent is

abbrev pub other_pool : AgentSetting → JobOf → Option Rule
other_pool agent at = if is agent.pool at.planned.pool then None
    else Some (rules.PoolMismatch agent.pool at.planned.pool)

-- the agent has the capability, and with the value that is asked for, if one is
abbrev pub has_value : Option (List ℕ) → List ℕ → Bool
has_value wanted value = option_map_or (is value) wanted true

abbrev pub meets : AgentSetting → Demand → Bool
meets agent demand = list_any
    (λ one. is one.0 demand.name && has_value demand.value one.1) agent.capabilities

abbrev pub lacks : AgentSetting → JobOf → Option Rule
lacks agent at = option_map (λ demand. rules.CapabilityMissing demand.name)
    (find (λ demand. not (meets agent demand)) at.planned.demands)

-- ---- its stage waits for a stage

abbrev pub stage_name : List PlanStage → ℕ → List ℕ
stage_name stages place = option_map_or (λ one. one.name) (slice_get stages place) []

abbrev pub stage_waits : List Fact → JobOf → Option Rule
stage_waits facts at = option_map
    (λ place. rules.StageDepends (stage_name at.queued.compiled.plan.stages place))
    (awaited_stage at.staged at.run facts)

-- ---- its stage wasn't started, and its pipeline may not use what it uses

abbrev pub is_started : List Fact → JobOf → Bool
is_started facts at = is_some (stage_start at.run at.stage facts)

abbrev pub unpermitted : List Fact → JobOf → Option Rule
unpermitted facts at = option_map (λ key. rules.PermissionMissing key)
    (find (λ key. not (permits facts at.queued.pipeline key)) at.staged.uses)

-- ---- it waits for a job

abbrev pub job_label : List PlanJob → ℕ → List ℕ
job_label jobs place = option_map_or label (slice_get jobs place) []

abbrev pub job_waits : List Fact → JobOf → Option Rule
job_waits facts at = option_map (λ place. rules.JobDepends (job_label at.staged.jobs place))
    (awaited_job at.planned at.run at.stage facts)

-- ---- as many legs of the job run as may at once

-- the job at a place of the stage is a leg of the same job, and some agent holds it
abbrev pub is_leg_taken : List Fact → JobOf → ℕ → Bool
is_leg_taken facts at place = option_map_or (λ one. is one.name at.planned.name
    && is_some (holding at.run at.stage place facts)) (slice_get at.staged.jobs place) false

abbrev pub legs_taken : List Fact → JobOf → ℕ
legs_taken facts at = count_by (is_leg_taken facts at) (range_with_len 0 (length at.staged.jobs))

abbrev pub full : List Fact → JobOf → Option Rule
full facts at = if nat_le at.planned.max_parallel (legs_taken facts at)
    then Some (rules.ParallelFull at.planned.max_parallel) else None
