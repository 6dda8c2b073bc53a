-- What settling makes sure of.
use Rattle.std.specs.Prelude.{◌≡◌, ◌≤◌, ℕ, true, List, [], ◌∷◌, ◌++◌, Contains, None}
use Rattle.std.specs.List.{count_by}
use Rattle.pl_base.specs.declared.resource.ResourceKey.{ResourceKey}
use Rattle.pl_checks.specs.declared.view.Verdict.{Verdict}
use Rattle.pl_facts.specs.declared.fact.Event.{Event}
use Rattle.pl_facts.specs.declared.fact.Event.TheVariants as event
use Rattle.pl_facts.specs.declared.fact.Fact.{Fact}
use Rattle.pl_facts.specs.declared.fact.QueuedRun.{QueuedRun}
use Rattle.pl_due.specs.Below.pl_journal.specs.About.{is_about}
use Rattle.pl_due.specs.Below.pl_journal.specs.Runs.{stage_end, stage_start}
use Rattle.pl_locks.specs.Locks.{IsAt, IsBehind, IsHeld, IsNext, Locks}
use Rattle.pl_locks.specs.declared.contender.Contender.{Contender}
use Rattle.pl_log.specs.Keys.{Stage, Job}
use Rattle.pl_facts.specs.Below.pl_plan.specs.declared.plan.PlanStage.{PlanStage}
use Rattle.pl_due.specs.Below.pl_views.specs.Ready.{is_ready}
use Rattle.pl_judgement.specs.Said.{first_wait}
use Rattle.pl_due.specs.Checked.{AreVerdictsOf, exclusive_uses, is_permitted}
use Rattle.pl_due.specs.Contention.{IsContention, IsEligible, contender_of}
use Rattle.pl_due.specs.Nodes.{IsStageOf, is_running}

-- something holds of each of these facts and all facts before it
abbrev pub Along : (List Fact → Fact → Type 0) → List Fact → List Fact → Type 0
Along R facts [] = Unit {0}
Along R facts (one ∷ added) = R facts one × Along R (facts ++ one ∷ []) added

-- ---- a stage that starts was the next one

-- this running stage uses the resource, which is exclusive
abbrev pub Occupies : List Fact → ResourceKey → ℕ → ℕ → Type 0
Occupies facts key run stage = (told : QueuedRun) × (one : PlanStage)
    × IsStageOf facts run stage told one × (is_running run stage facts ≡ true)
    × Contains (exclusive_uses facts one) key

pub record WasNext (facts : List Fact) (moment run stage : ℕ) : Type 0 where
  pub told : QueuedRun
  pub one : PlanStage
  pub there : IsStageOf facts run stage told one
  -- it waited for nothing more, its condition was true, its pipeline was permitted, and every check
  -- passed
  pub eligible : IsEligible facts moment told one run stage
  -- every exclusive use was free
  pub free : (key : ResourceKey) → Contains (exclusive_uses facts one) key → (r s : ℕ) →
      ¬ Occupies facts key r s
  -- it was the next one
  pub locks : Locks
  pub contention : IsContention facts moment locks
  pub contender : Contender
  pub next : IsNext locks.eligible locks.holders contender
  pub at : IsAt run stage contender

abbrev pub NextIfStart : List Fact → ℕ → Event → Type 0
NextIfStart facts moment (event.StageStarted run stage) = WasNext facts moment run stage
NextIfStart facts moment _ = Unit {0}

abbrev pub StartsAsNext : List Fact → Fact → Type 0
StartsAsNext facts one = NextIfStart facts one.moment one.event

-- ---- an exclusive resource has one holder at most

abbrev pub HasOneHolder : List Fact → Type 0
HasOneHolder facts = (key : ResourceKey) (run stage r s : ℕ) → Occupies facts key run stage →
    Occupies facts key r s → (run ≡ r) × (stage ≡ s)

abbrev pub StillOneHolder : List Fact → Fact → Type 0
StillOneHolder facts one = HasOneHolder (facts ++ one ∷ [])

-- ---- a stage that is neither started nor ended is kept waiting by something

-- a stage that is neither, and that no stage, no permission, no open approval or closed hours, no
-- holder and no earlier stage keep waiting
pub record Gap (facts : List Fact) (moment run stage : ℕ) : Type 0 where
  pub told : QueuedRun
  pub one : PlanStage
  pub there : IsStageOf facts run stage told one
  pub unstarted : stage_start run stage facts ≡ None
  pub unended : stage_end run stage facts ≡ None
  pub ready : is_ready one run facts ≡ true
  pub permitted : is_permitted facts told one ≡ true
  pub verdicts : List Verdict
  pub are : AreVerdictsOf facts moment told one run stage verdicts
  pub waits : first_wait verdicts ≡ None
  pub locks : Locks
  pub contention : IsContention facts moment locks
  pub unheld : ¬ IsHeld locks.holders (contender_of facts told one run stage)
  pub first : ¬ IsBehind locks.eligible (contender_of facts told one run stage)

-- ---- a job gets at most one fact, a stage at most two

pub record IsOnce (added : List Fact) : Type 0 where
  pub job : (run stage one : ℕ) → count_by (is_about (Job run stage one)) added ≤ 1
  pub stage : (run stage : ℕ) → count_by (is_about (Stage run stage)) added ≤ 2
