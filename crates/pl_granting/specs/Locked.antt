-- What keeps a stage from being started that waits for no stage and is permitted: an open approval,
-- closed hours, and other stages on its exclusive resources (Microsoft Learn, Azure Pipelines,
-- "Define approvals and checks").
use Rattle.std.specs.Prelude.{◌≡◌, ◌⊎◌, ℕ, List, [], ◌∷◌, All, Contains, Option, Some, None}
use Rattle.pl_base.specs.declared.resource.ResourceKey.{ResourceKey}
use Rattle.pl_checks.specs.declared.view.Verdict.{Verdict}
use Rattle.pl_facts.specs.declared.fact.Fact.{Fact}
use Rattle.pl_judgement.specs.Said.{first_wait}
use Rattle.pl_locks.specs.Locks.{ComesFirst, Locks, Precedes}
use Rattle.pl_locks.specs.declared.contender.Contender.{Contender}
use Rattle.pl_rules.specs.declared.rule.Rule.{Rule}
use Rattle.pl_rules.specs.declared.rule.Rule.TheVariants as rules
use Rattle.pl_due.specs.Checked.{AreVerdictsOf, exclusive_uses}
use Rattle.pl_due.specs.Contention.{IsContention, contender_of}
use Rattle.pl_granting.specs.Named.{JobOf}

-- ---- the first check that waits: all approvals come before all hours

abbrev pub Awaits : List Fact → ℕ → JobOf → Option Rule → Type 0
Awaits facts moment at found = (verdicts : List Verdict)
    × AreVerdictsOf facts moment at.queued at.staged at.run at.stage verdicts
    × (found ≡ first_wait verdicts)

-- ---- the stage that holds the first of some resources that one holds

abbrev pub HasIt : List Contender → ResourceKey → Contender → Type 0
HasIt holders key stage = Contains holders stage × Contains stage.resources key

-- the one that holds the resource; were there several, the least
pub record IsHolderOf (holders : List Contender) (key : ResourceKey) (stage : Contender) :
    Type 0 where
  pub has : HasIt holders key stage
  pub least : (other : Contender) → HasIt holders key other → ¬ Precedes other stage

abbrev pub HolderOf : List Contender → ResourceKey → Option Contender → Type 0
HolderOf holders key None = (stage : Contender) → ¬ HasIt holders key stage
HolderOf holders key (Some stage) = IsHolderOf holders key stage

abbrev pub FirstHeld : List Contender → List ResourceKey → Option Contender → Type 0
FirstHeld holders [] found = found ≡ None
FirstHeld holders (key ∷ keys) found =
    ((stage : Contender) × (found ≡ Some stage) × HolderOf holders key (Some stage))
    ⊎ (HolderOf holders key None × FirstHeld holders keys found)

-- ---- the least of the eligible stages that come first

pub record IsLeastFirst (eligible : List Contender) (stage first : Contender) : Type 0 where
  pub is_eligible : Contains eligible first
  pub comes : ComesFirst eligible first stage
  pub least : (other : Contender) → Contains eligible other → ComesFirst eligible other stage →
      ¬ Precedes other first

abbrev pub LeastFirst : List Contender → Contender → Option Contender → Type 0
LeastFirst eligible stage None = All (λ other. ¬ ComesFirst eligible other stage) eligible
LeastFirst eligible stage (Some first) = IsLeastFirst eligible stage first

-- ---- as rules

abbrev pub held_rule : Option Contender → Option Rule
held_rule None = None
held_rule (Some stage) = Some (rules.LockHeld stage.run stage.name)

abbrev pub behind_rule : Option Contender → Option Rule
behind_rule None = None
behind_rule (Some stage) = Some (rules.LockBehind stage.run stage.name)

-- the job's stage as one that wants its exclusive resources
abbrev pub as_contender : List Fact → JobOf → Contender
as_contender facts at = contender_of facts at.queued at.staged at.run at.stage

-- a stage holds one of the exclusive resources that it uses
pub record IsHeldRule (facts : List Fact) (moment : ℕ) (at : JobOf) (found : Option Rule) :
    Type 0 where
  pub locks : Locks
  pub contention : IsContention facts moment locks
  pub stage : Option Contender
  pub held : FirstHeld locks.holders (exclusive_uses facts at.staged) stage
  pub gets : found ≡ held_rule stage

-- a stage comes first that wants one of them
pub record IsBehindRule (facts : List Fact) (moment : ℕ) (at : JobOf) (found : Option Rule) :
    Type 0 where
  pub locks : Locks
  pub contention : IsContention facts moment locks
  pub stage : Option Contender
  pub first : LeastFirst locks.eligible (as_contender facts at) stage
  pub gets : found ≡ behind_rule stage
