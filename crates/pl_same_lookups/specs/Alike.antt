-- Pasts in which the same is found.
use Rattle.std.specs.Prelude.{◌≡◌, ℕ, List}
use Rattle.pl_base.specs.declared.place.FileKey.{FileKey}
use Rattle.pl_base.specs.declared.resource.ResourceKey.{ResourceKey}
use Rattle.pl_facts.specs.declared.fact.Fact.{Fact}
use Rattle.pl_journal.specs.Runs.{canceling, decision, held_by, job_end, queueing, stage_end}
use Rattle.pl_journal.specs.Runs.{stage_start, taking}
use Rattle.pl_journal.specs.Settings.{agent_set, file_put, pipeline, principal_set, resource_set}
use Rattle.pl_journal.specs.Settings.{token_set}

-- at each place: the file, the pipeline, the resource, the principal and the agent as they were set
-- last, and the fact that counts of a run's queueing and canceling, of a stage's start and end, of a
-- job's taking and end, and of somebody's decision
pub record LookAlike (facts other : List Fact) : Type 0 where
  pub files : (key : FileKey) → file_put key facts ≡ file_put key other
  pub pipelines : (name : List ℕ) → pipeline name facts ≡ pipeline name other
  pub resources : (key : ResourceKey) → resource_set key facts ≡ resource_set key other
  pub principals : (name : List ℕ) → principal_set name facts ≡ principal_set name other
  pub agents : (name : List ℕ) → agent_set name facts ≡ agent_set name other
  pub queueings : (run : ℕ) → queueing run facts ≡ queueing run other
  pub cancelings : (run : ℕ) → canceling run facts ≡ canceling run other
  pub starts : (run stage : ℕ) → stage_start run stage facts ≡ stage_start run stage other
  pub ends : (run stage : ℕ) → stage_end run stage facts ≡ stage_end run stage other
  pub takings : (run stage job : ℕ) → taking run stage job facts ≡ taking run stage job other
  pub job_ends : (run stage job : ℕ) → job_end run stage job facts ≡ job_end run stage job other
  pub decisions : (run stage : ℕ) (name : List ℕ) →
      decision run stage name facts ≡ decision run stage name other

-- and what isn't found at a place: whose a token is, and which job an agent holds
pub record FindAlike (facts other : List Fact) : Type 0 where
  pub tokens : (token : List ℕ) → token_set token facts ≡ token_set token other
  pub holders : (agent : List ℕ) → held_by agent facts ≡ held_by agent other
