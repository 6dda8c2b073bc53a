-- What is due where the same is found is the same.
use Rattle.std.proofs.Common.{◌≡◌, ◌++◌, ℕ, true, List, [], ◌∷◌, Option, Some, None}
use Rattle.std.proofs.Common.{inl, inr, refl, sym, ap, subst, ◌∙◌}
use Rattle.std.proofs.lemmas.List.Elements.{All-weaker}
use Rattle.pl_checks.specs.declared.view.Verdict.{Verdict}
use Rattle.pl_step_laws.specs.Below.pl_step.specs.Below.pl_decisions.specs.Below.pl_due.specs.Contention.{AreThose, Holds, InRun, IsContention, IsEligible, IsOne}
use Rattle.pl_step_laws.specs.Below.pl_step.specs.Below.pl_decisions.specs.Below.pl_due.specs.Due.{findings, Among, IsDue, Next, Superseded}
use Rattle.pl_step_laws.specs.Below.pl_step.specs.Below.pl_decisions.specs.Below.pl_due.specs.Kinds.{false_job_end, false_stage_end, Fails, IsDone, IsPassedOver}
use Rattle.pl_step_laws.specs.Below.pl_step.specs.Below.pl_decisions.specs.Below.pl_due.specs.Kinds.{JobIsPassedOver, TimesOut}
use Rattle.pl_step_laws.specs.Below.pl_step.specs.Below.pl_decisions.specs.Below.pl_due.specs.Least.{FirstOf, InStage, IsLeastOf, Least, OfStages, Precedes}
use Rattle.pl_step_laws.specs.Below.pl_step.specs.Below.pl_decisions.specs.Below.pl_due.specs.Nodes.{IsStageOf}
use Rattle.pl_facts.specs.declared.fact.Event.{Event}
use Rattle.pl_facts.specs.declared.fact.Event.TheVariants.{StageEnded}
use Rattle.pl_facts.specs.declared.fact.Fact.{Fact}
use Rattle.pl_facts.specs.declared.fact.QueuedRun.{QueuedRun}
use Rattle.pl_locks.specs.Locks.{Locks}
use Rattle.pl_locks.specs.declared.contender.Contender.{Contender}
use Rattle.pl_plan.specs.declared.plan.PlanStage.{PlanStage}
use Rattle.pl_step_laws.specs.Below.pl_step.specs.Below.pl_decisions.specs.Below.pl_results.specs.Combining.{combined}
use Rattle.pl_step_laws.specs.Below.pl_step.specs.Below.pl_decisions.specs.Below.pl_results.specs.declared.members.PlanNode.TheVariants.{Job, Stage}
use Rattle.pl_same_lookups.specs.Alike.{LookAlike}
use Rattle.pl_same_lookups.proofs.More.{alike_more}
use Rattle.pl_same_step.proofs.Saying.{verdicts_same}
use Rattle.pl_same_step.proofs.Seeing.{awaits_same, canceled_same, condition_same, contender_same}
use Rattle.pl_same_step.proofs.Seeing.{done_same, outcomes_same, over_same, permitted_same}
use Rattle.pl_same_step.proofs.Seeing.{queued_same, running_same, turned, waiting_same}
use Rattle.pl_step_laws.specs.Below.pl_step.specs.Below.pl_jobs.specs.Below.pl_settling.specs.Settles.{Settles}

-- ---- the first of some findings

abbrev Finding : Type 1
Finding = Option Event → Type 0

abbrev Implies : List Finding → List Finding → Type 0
Implies [] [] = Unit {0}
Implies [] (one ∷ others) = ⊥
Implies (one ∷ others) [] = ⊥
Implies (one ∷ others) (its ∷ theirs) =
    ((found : Option Event) → one found → its found) × Implies others theirs

first_same : (ones others : List Finding) (found : Option Event) → Implies ones others →
    FirstOf ones found → FirstOf others found
first_same [] [] found all is = is
first_same [] (its ∷ theirs) found all is = absurd all
first_same (one ∷ ones) [] found all is = absurd all
first_same (one ∷ ones) (its ∷ theirs) found all (inl is) =
    inl (is.0, is.1, all.0 (Some is.0) is.2)
first_same (one ∷ ones) (its ∷ theirs) found all (inr is) =
    inr (all.0 None is.0, first_same ones theirs found all.1 is.1)

-- ---- kinds

module _ (facts other : List Fact) (alike : LookAlike facts other)
    (back : LookAlike other facts) where
  pub there_same : (run stage : ℕ) (told : QueuedRun) (one : PlanStage) →
      IsStageOf facts run stage told one → IsStageOf other run stage told one
  there_same run stage told one is = record {
    queued = sym (queued_same facts other alike run) ∙ is.queued;
    planned = is.planned;
  }

  eligible_same : (moment : ℕ) (told : QueuedRun) (one : PlanStage) (run stage : ℕ) →
      IsEligible facts moment told one run stage → IsEligible other moment told one run stage
  eligible_same moment told one run stage is = record {
    waits = sym (waiting_same facts other alike one run stage) ∙ is.waits;
    says = sym (condition_same facts other alike told run (Stage stage)) ∙ is.says;
    permitted = sym (permitted_same facts other alike told one) ∙ is.permitted;
    verdicts = is.verdicts;
    are = verdicts_same told one run stage facts other alike back moment is.verdicts is.are;
    pass = is.pass;
  }

  holds_same : (told : QueuedRun) (one : PlanStage) (run stage : ℕ) →
      Holds facts told one run stage → Holds other told one run stage
  holds_same told one run stage is = sym (running_same facts other alike run stage) ∙ is

  times_same : (moment : ℕ) (told : QueuedRun) (one : PlanStage) (run stage job : ℕ)
      (event : Event) → TimesOut facts moment told one run stage job event →
      TimesOut other moment told one run stage job event
  times_same moment told one run stage job event is = record {
    runs = sym (running_same facts other alike run stage) ∙ is.runs;
    over = sym (over_same facts other alike moment one run stage job) ∙ is.over;
    gets = is.gets;
  }

  job_over_same : (told : QueuedRun) (one : PlanStage) (run stage job : ℕ) (event : Event) →
      JobIsPassedOver facts told one run stage job event →
      JobIsPassedOver other told one run stage job event
  job_over_same told one run stage job event is = record {
    runs = sym (running_same facts other alike run stage) ∙ is.runs;
    awaits = sym (awaits_same facts other alike one run stage job) ∙ is.awaits;
    says = sym (condition_same facts other alike told run (Job stage job)) ∙ is.says;
    gets = is.gets
        ∙ ap (λ b. false_job_end b run stage job) (canceled_same facts other alike run);
  }

  is_done_same : (told : QueuedRun) (one : PlanStage) (run stage job : ℕ) (event : Event) →
      IsDone facts told one run stage job event → IsDone other told one run stage job event
  is_done_same told one run stage job event is = record {
    itself = is.itself;
    runs = sym (running_same facts other alike run stage) ∙ is.runs;
    all = sym (done_same facts other alike one run stage) ∙ is.all;
    gets = is.gets ∙ ap (λ results. StageEnded run stage (combined results) None)
        (outcomes_same facts other alike one run stage);
  }

  passed_same : (told : QueuedRun) (one : PlanStage) (run stage job : ℕ) (event : Event) →
      IsPassedOver facts told one run stage job event →
      IsPassedOver other told one run stage job event
  passed_same told one run stage job event is = record {
    itself = is.itself;
    waits = sym (waiting_same facts other alike one run stage) ∙ is.waits;
    says = sym (condition_same facts other alike told run (Stage stage)) ∙ is.says;
    gets = is.gets ∙ ap (λ b. false_stage_end b run stage) (canceled_same facts other alike run);
  }

  fails_same : (moment : ℕ) (told : QueuedRun) (one : PlanStage) (run stage job : ℕ)
      (event : Event) → Fails facts moment told one run stage job event →
      Fails other moment told one run stage job event
  fails_same moment told one run stage job event is = record {
    itself = is.itself;
    waits = sym (waiting_same facts other alike one run stage) ∙ is.waits;
    verdicts = is.verdicts;
    are = verdicts_same told one run stage facts other alike back moment is.verdicts is.are;
    rule = is.rule;
    first = is.first;
    gets = is.gets;
  }

-- ---- the least of a kind

abbrev Kept : InStage → InStage → Type 0
Kept kind its = (told : QueuedRun) (one : PlanStage) (run stage job : ℕ) (event : Event) →
    kind told one run stage job event → its told one run stage job event

of_stages_same : (facts other : List Fact) → LookAlike facts other → LookAlike other facts →
    (kind its : InStage) → Kept kind its → (run stage job : ℕ) (event : Event) →
    OfStages facts kind run stage job event → OfStages other its run stage job event
of_stages_same facts other alike back kind its kept run stage job event is = (
  is.0,
  is.1,
  there_same facts other alike back run stage is.0 is.1 is.2,
  kept is.0 is.1 run stage job event is.3,
)

module _ (facts other : List Fact) (alike : LookAlike facts other)
    (back : LookAlike other facts) where
  least_same : (kind its : InStage) → Kept kind its → Kept its kind →
      (found : Option Event) → Least facts kind found → Least other its found
  least_same kind its to from None none = λ run stage job event is.
      none run stage job event
      (of_stages_same other facts back alike its kind from run stage job event is)
  least_same kind its to from (Some event) is = record {
    run = is.run;
    stage = is.stage;
    job = is.job;
    is = of_stages_same facts other alike back kind its to is.run is.stage is.job event is.is;
    least = λ r s j one its_is. is.least r s j one
        (of_stages_same other facts back alike its kind from r s j one its_is);
  }

  -- ---- contenders

  those_same : (P Q : InRun) → ((told : QueuedRun) (one : PlanStage) (run stage : ℕ) →
      P told one run stage → Q told one run stage) →
      ((told : QueuedRun) (one : PlanStage) (run stage : ℕ) → Q told one run stage →
      P told one run stage) → (stages : List Contender) → AreThose facts P stages →
      AreThose other Q stages
  those_same P Q to from stages is = record {
    ordered = is.ordered;
    only = All-weaker (IsOne facts P) (IsOne other Q) one_same stages is.only;
    all = λ told one run stage there holds. is.all told one run stage
        (there_same other facts back alike run stage told one there)
        (from told one run stage holds);
  }
    where
      one_same : (stage : Contender) → IsOne facts P stage → IsOne other Q stage
      one_same stage its = record {
        told = its.told;
        one = its.one;
        there = there_same facts other alike back stage.run stage.position its.told its.one
            its.there;
        holds = to its.told its.one stage.run stage.position its.holds;
        is = its.is
            ∙ contender_same facts other alike its.told its.one stage.run stage.position;
      }

  pub contention_same : (moment : ℕ) (locks : Locks) → IsContention facts moment locks →
      IsContention other moment locks
  contention_same moment locks is = record {
    eligible = those_same (IsEligible facts moment) (IsEligible other moment)
        (eligible_same facts other alike back moment) (eligible_same other facts back alike moment)
        locks.eligible is.eligible;
    holders = those_same (Holds facts) (Holds other) (holds_same facts other alike back)
        (holds_same other facts back alike) locks.holders is.holders;
  }

  among_same : (moment : ℕ) (finding : Locks → Option Event → Type 0) (found : Option Event) →
      Among facts moment finding found → Among other moment finding found
  among_same moment finding found is = (is.0, contention_same moment is.0 is.1, is.2)

  -- ---- what is due

  all_same : (moment : ℕ) → Implies (findings facts moment) (findings other moment)
  all_same moment = (
    least_same (TimesOut facts moment) (TimesOut other moment)
        (times_same facts other alike back moment) (times_same other facts back alike moment),
    (
      least_same (JobIsPassedOver facts) (JobIsPassedOver other)
          (job_over_same facts other alike back) (job_over_same other facts back alike),
      (
        least_same (IsDone facts) (IsDone other) (is_done_same facts other alike back)
            (is_done_same other facts back alike),
        (
          least_same (IsPassedOver facts) (IsPassedOver other) (passed_same facts other alike back)
              (passed_same other facts back alike),
          (
            least_same (Fails facts moment) (Fails other moment) (fails_same facts other alike back moment)
                (fails_same other facts back alike moment),
            (
              among_same moment Superseded,
              (
                among_same moment Next,
                tt,
              ),
            ),
          ),
        ),
      ),
    ),
  )

  pub due_same : (moment : ℕ) (found : Option Event) → IsDue facts moment found →
      IsDue other moment found
  due_same moment found is = first_same (findings facts moment) (findings other moment) found
      (all_same moment) is

-- ---- what settling adds

pub settles_same : (moment : ℕ) (facts other due : List Fact) → LookAlike facts other →
    Settles moment facts due → Settles moment other due
settles_same moment facts other [] alike is =
    due_same facts other alike (turned facts other alike) moment None is
settles_same moment facts other (one ∷ due) alike is = (
  due_same facts other alike (turned facts other alike) moment (Some one.event) is.0,
  is.1,
  settles_same moment (facts ++ one ∷ []) (other ++ one ∷ []) due
      (alike_more facts other one alike) is.2,
)
