-- Exclusive locks between the stages of runs (Microsoft Learn, Azure Pipelines, "Define approvals
-- and checks", Exclusive lock: runLatest and sequential). Which stages give way, and that the least
-- by run and position comes first, are this project's own rules.
use Rattle.std.specs.Prelude.{◌≡◌, ◌⊎◌, ℕ, ◌<◌, ◌≤◌, List, Any, Contains}
use Rattle.pl_base.specs.declared.outcome.Behaviour.TheVariants.{RunLatest}
use Rattle.pl_locks.specs.declared.contender.Contender.{Contender}

-- the stages that may be started as far as their checks go, and those that hold their resources
pub record Locks : Type 0 where
  pub eligible : List Contender
  pub holders : List Contender

-- the stage of this run at this position
abbrev pub IsAt : ℕ → ℕ → Contender → Type 0
IsAt run position stage = (stage.run ≡ run) × (stage.position ≡ position)

-- of an earlier run, or at an earlier position of the same run
abbrev pub Precedes : Contender → Contender → Type 0
Precedes left right =
    (left.run < right.run) ⊎ ((left.run ≡ right.run) × (left.position < right.position))

-- they use one and the same exclusive resource
abbrev pub Shares : Contender → Contender → Type 0
Shares left right = Any (Contains right.resources) left.resources

-- only the latest of these stages is to run, and the later one is the stage of the same name in a
-- later run of the same pipeline, and shares a resource with it
pub record GivesWay (stage later : Contender) : Type 0 where
  pub behaviour : stage.behaviour ≡ RunLatest
  pub pipeline : later.pipeline ≡ stage.pipeline
  pub name : later.name ≡ stage.name
  pub run : stage.run < later.run
  pub shares : Shares stage later

-- it gives way to an eligible stage
abbrev pub IsSuperseded : List Contender → Contender → Type 0
IsSuperseded eligible stage = Any (GivesWay stage) eligible

-- some holder has one of its resources
abbrev pub IsHeld : List Contender → Contender → Type 0
IsHeld holders stage = Any (Shares stage) holders

-- it is earlier, isn't superseded, and wants one of the stage's resources
pub record ComesFirst (eligible : List Contender) (other stage : Contender) : Type 0 where
  pub precedes : Precedes other stage
  pub shares : Shares other stage
  pub stands : ¬ IsSuperseded eligible other

-- some eligible stage comes first
abbrev pub IsBehind : List Contender → Contender → Type 0
IsBehind eligible stage = Any (λ other. ComesFirst eligible other stage) eligible

-- nothing stands in its way
pub record MayStart (eligible holders : List Contender) (stage : Contender) : Type 0 where
  pub stands : ¬ IsSuperseded eligible stage
  pub unheld : ¬ IsHeld holders stage
  pub first : ¬ IsBehind eligible stage

-- the least of the eligible stages in whose way nothing stands
pub record IsNext (eligible holders : List Contender) (stage : Contender) : Type 0 where
  pub is_eligible : Contains eligible stage
  pub may_start : MayStart eligible holders stage
  pub least : (other : Contender) → Contains eligible other → MayStart eligible holders other →
      ¬ Precedes other stage

-- the least of the superseded stages
pub record IsLeastSuperseded (eligible : List Contender) (stage : Contender) : Type 0 where
  pub is_eligible : Contains eligible stage
  pub superseded : IsSuperseded eligible stage
  pub least : (other : Contender) → Contains eligible other → IsSuperseded eligible other →
      ¬ Precedes other stage

-- the least run to whose stage it gives way
pub record IsLeastLaterRun (eligible : List Contender) (stage : Contender) (run : ℕ) : Type 0 where
  pub some : Any (λ later. GivesWay stage later × (later.run ≡ run)) eligible
  pub least : (later : Contender) → Contains eligible later → GivesWay stage later → run ≤ later.run
