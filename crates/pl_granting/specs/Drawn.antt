-- The job that an agent is given where it asks for any.
use Rattle.std.specs.Prelude.{◌≡◌, ◌⊎◌, ◌<◌, List, Option, Some, None}
use Rattle.pl_facts.specs.declared.fact.Fact.{Fact}
use Rattle.pl_requests.specs.declared.settings.AgentSetting.{AgentSetting}
use Rattle.pl_granting.specs.Grantable.{IsGrantable}
use Rattle.pl_granting.specs.Named.{IsJobOf, JobOf}

-- by run, then by stage, then by place
abbrev pub Precedes : JobOf → JobOf → Type 0
Precedes one other = (one.run < other.run) ⊎ ((one.run ≡ other.run)
    × ((one.stage < other.stage) ⊎ ((one.stage ≡ other.stage) × (one.job < other.job))))

-- the least job of which something holds, or None where it holds of none
abbrev pub Least : (JobOf → Type 0) → Option JobOf → Type 0
Least P None = (at : JobOf) → ¬ P at
Least P (Some at) = P at × ((other : JobOf) → P other → ¬ Precedes other at)

abbrev pub MayHave : List Fact → AgentSetting → JobOf → Type 0
MayHave facts agent at = IsJobOf facts at × IsGrantable facts agent at

-- the least job that it may have: where it holds one this is the only one
abbrev pub Drawn : List Fact → AgentSetting → Option JobOf → Type 0
Drawn facts agent found = Least (MayHave facts agent) found
