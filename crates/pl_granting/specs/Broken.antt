-- The first rule that is broken where an agent asks for a job, and where none is.
use Rattle.std.specs.Prelude.{◌≡◌, ◌⊎◌, ℕ, true, false, List, [], ◌∷◌, Option, Some, None}
use Rattle.pl_facts.specs.declared.fact.Fact.{Fact}
use Rattle.pl_requests.specs.declared.request.JobName.{JobName}
use Rattle.pl_requests.specs.declared.settings.AgentSetting.{AgentSetting}
use Rattle.pl_rules.specs.declared.rule.Rule.{Rule}
use Rattle.pl_rules.specs.declared.rule.Rule.TheVariants as rules
use Rattle.pl_granting.specs.Locked.{Awaits, IsBehindRule, IsHeldRule}
use Rattle.pl_granting.specs.Named.{JobOf, job_named}
use Rattle.pl_granting.specs.Rules.{busy, ended, full, is_held_by, is_started, job_waits, lacks}
use Rattle.pl_granting.specs.Rules.{other_pool, stage_waits, taken, unpermitted}

-- ---- the first of some rules that is broken

-- what a rule tells where it is broken, and None where it isn't
abbrev pub Telling : Type 1
Telling = Option Rule → Type 0

abbrev pub Tells : Option Rule → Telling
Tells rule found = found ≡ rule

abbrev pub FirstBroken : List Telling → Telling
FirstBroken [] found = found ≡ None
FirstBroken (one ∷ others) found =
    ((rule : Rule) × (found ≡ Some rule) × one (Some rule))
    ⊎ (one None × FirstBroken others found)

-- a rule of stages that wait to be started isn't broken by one that was
abbrev pub UnlessStarted : List Fact → JobOf → Telling → Telling
UnlessStarted facts at telling found =
    ((is_started facts at ≡ true) × (found ≡ None))
    ⊎ ((is_started facts at ≡ false) × telling found)

-- ---- the rules in their order, of a job that is there and that the agent doesn't hold

abbrev pub asked_rules : List Fact → ℕ → AgentSetting → JobOf → List Telling
asked_rules facts moment agent at =
    Tells (ended facts at)
    ∷ Tells (taken facts agent.name at)
    ∷ Tells (busy facts agent.name)
    ∷ Tells (other_pool agent at)
    ∷ Tells (lacks agent at)
    ∷ Tells (stage_waits facts at)
    ∷ UnlessStarted facts at (Tells (unpermitted facts at))
    ∷ UnlessStarted facts at (Awaits facts moment at)
    ∷ UnlessStarted facts at (IsHeldRule facts moment at)
    ∷ UnlessStarted facts at (IsBehindRule facts moment at)
    ∷ Tells (job_waits facts at)
    ∷ Tells (full facts at)
    ∷ []

-- where the agent holds the job no rule is broken
abbrev pub Broken : List Fact → ℕ → AgentSetting → JobOf → Telling
Broken facts moment agent at found =
    ((is_held_by facts agent.name at ≡ true) × (found ≡ None))
    ⊎ ((is_held_by facts agent.name at ≡ false)
    × FirstBroken (asked_rules facts moment agent at) found)

-- ---- of a job that is named

abbrev pub BrokenOf : List Fact → ℕ → AgentSetting → Option JobOf → Telling
BrokenOf facts moment agent None found = found ≡ Some rules.JobUnknown
BrokenOf facts moment agent (Some at) found = Broken facts moment agent at found

abbrev pub NameBroken : List Fact → ℕ → AgentSetting → JobName → Telling
NameBroken facts moment agent name found =
    BrokenOf facts moment agent (job_named name facts) found
