-- Where an agent is given a job: in the words of who guards production, and without an order of
-- rules.
use Rattle.std.specs.Prelude.{◌≡◌, ◌<◌, ◌⊎◌, ℕ, true, List, None, Some}
use Rattle.std.specs.List.{list_all}
use Rattle.pl_facts.specs.declared.fact.Fact.{Fact}
use Rattle.pl_journal.specs.Runs.{job_ending, stage_end, stage_start}
use Rattle.pl_requests.specs.declared.settings.AgentSetting.{AgentSetting}
use Rattle.pl_due.specs.Nodes.{is_running}
use Rattle.pl_granting.specs.Named.{IsJobOf, JobOf}
use Rattle.pl_granting.specs.Rules.{held_job, holder, is_held_by, legs_taken, meets}
use Rattle.pl_views.specs.Ready.{is_ready, job_is_ready}

-- a job that the agent doesn't hold, and that it may be given
pub record IsFree (facts : List Fact) (agent : AgentSetting) (at : JobOf) : Type 0 where
  -- it hasn't ended, no other agent holds it, and the agent holds none
  pub unended : job_ending at.run at.stage at.job facts ≡ None
  pub untaken : (other : List ℕ) → holder facts at ≡ Some other → other ≡ agent.name
  pub idle : held_job facts agent.name ≡ None
  -- the agent is of its pool and has what it demands
  pub pool : agent.pool ≡ at.planned.pool
  pub able : list_all (meets agent) at.planned.demands ≡ true
  -- its stage waits for no stage, was started and hasn't ended: there its condition, its
  -- permissions, its checks and its locks let it start
  pub ready : is_ready at.staged at.run facts ≡ true
  pub runs : is_running at.run at.stage facts ≡ true
  -- it waits for no job, and fewer legs of it run than may at once
  pub job_ready : job_is_ready at.planned at.run at.stage facts ≡ true
  pub room : legs_taken facts at < at.planned.max_parallel

-- the agent holds the job already, or may be given it
abbrev pub IsGrantable : List Fact → AgentSetting → JobOf → Type 0
IsGrantable facts agent at = (is_held_by facts agent.name at ≡ true) ⊎ IsFree facts agent at

-- in each stage that was started and has ended, every job has ended
abbrev pub AreDone : List Fact → Type 0
AreDone facts = (at : JobOf) → IsJobOf facts at → ¬ (stage_start at.run at.stage facts ≡ None) →
    ¬ (stage_end at.run at.stage facts ≡ None) → ¬ (job_ending at.run at.stage at.job facts ≡ None)
