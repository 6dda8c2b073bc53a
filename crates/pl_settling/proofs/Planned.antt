-- What is due is about a stage of a queued run's plan, or about a job of one.
use Rattle.std.proofs.Common.{◌≡◌, ◌&&◌, ◌<◌, ◌⊎◌, ℕ, Bool, true, false, List, Some}
use Rattle.std.proofs.Common.{is_none, length, sym, ap, subst, inl, inr}
use Rattle.std.specs.List.{Contains}
use Rattle.std.specs.Option.{option_map_or}
use Rattle.std.specs.Prelude.{slice_get}
use Rattle.std.proofs.lemmas.Option.{slice_get_within}
use Rattle.pl_facts.specs.declared.fact.Event.{Event}
use Rattle.pl_facts.specs.declared.fact.Fact.{Fact}
use Rattle.pl_facts.specs.declared.fact.QueuedRun.{QueuedRun}
use Rattle.pl_due.specs.Below.pl_journal.specs.About.{key_of}
use Rattle.pl_due.specs.Below.pl_journal.specs.Runs.{holding, job_ending, taking}
use Rattle.pl_log.specs.Keys.{Job, Stage}
use Rattle.pl_locks.specs.Locks.{Locks}
use Rattle.pl_locks.specs.declared.contender.Contender.{Contender}
use Rattle.pl_facts.specs.Below.pl_plan.specs.declared.plan.PlanJob.{PlanJob}
use Rattle.pl_facts.specs.Below.pl_plan.specs.declared.plan.PlanStage.{PlanStage}
use Rattle.pl_due.specs.Below.pl_views.specs.Ready.{job_is_ready}
use Rattle.pl_due.specs.Contention.{IsContention}
use Rattle.pl_due.specs.Due.{Among, IsDue, Next, Superseded}
use Rattle.pl_due.specs.Kinds.{Fails, IsDone, IsPassedOver, JobIsPassedOver, TimesOut}
use Rattle.pl_due.specs.Least.{IsLeastOf}
use Rattle.pl_due.specs.Nodes.{IsStageOf, has_had}
use Rattle.pl_settling.proofs.Giving.{eligible_one, map_or_true}

-- about the stage itself, or about one of its jobs
abbrev pub IsOfStage : ℕ → ℕ → PlanStage → Event → Type 0
IsOfStage run stage one event = (key_of event ≡ Stage run stage)
    ⊎ ((job : ℕ) × (job < length one.jobs) × (key_of event ≡ Job run stage job))

pub record IsOfPlan (facts : List Fact) (event : Event) : Type 0 where
  pub run : ℕ
  pub stage : ℕ
  pub told : QueuedRun
  pub one : PlanStage
  pub there : IsStageOf facts run stage told one
  pub of : IsOfStage run stage one event

job_there : (p : PlanJob → Bool) (one : PlanStage) (job : ℕ) →
    option_map_or p (slice_get one.jobs job) false ≡ true → job < length one.jobs
job_there p one job passes =
    let (planned, there, holds) = map_or_true p (slice_get one.jobs job) passes in
    slice_get_within one.jobs job planned there

module _ (facts : List Fact) (moment : ℕ) (event : Event) where
  by_timeout : IsLeastOf facts (TimesOut facts moment) event → IsOfPlan facts event
  by_timeout least =
      let (told, one, there, is) = least.is in
      record {
        run = least.run;
        stage = least.stage;
        told = told;
        one = one;
        there = there;
        of = inr (
          least.job,
          job_there (λ (p : PlanJob). option_map_or
              (λ fact. has_had p.timeout fact.moment moment)
              (holding least.run least.stage least.job facts) false) one least.job is.over,
          ap key_of is.gets,
        );
      }

  by_false_job : IsLeastOf facts (JobIsPassedOver facts) event → IsOfPlan facts event
  by_false_job least =
      let (told, one, there, is) = least.is in
      record {
        run = least.run;
        stage = least.stage;
        told = told;
        one = one;
        there = there;
        of = inr (
          least.job,
          job_there (λ (p : PlanJob). is_none (taking least.run least.stage least.job facts)
              && is_none (job_ending least.run least.stage least.job facts)
              && job_is_ready p least.run least.stage facts) one least.job is.awaits,
          ap key_of is.gets,
        );
      }

  by_done : IsLeastOf facts (IsDone facts) event → IsOfPlan facts event
  by_done least =
      let (told, one, there, is) = least.is in
      record {
        run = least.run;
        stage = least.stage;
        told = told;
        one = one;
        there = there;
        of = inl (ap key_of is.gets);
      }

  by_false : IsLeastOf facts (IsPassedOver facts) event → IsOfPlan facts event
  by_false least =
      let (told, one, there, is) = least.is in
      record {
        run = least.run;
        stage = least.stage;
        told = told;
        one = one;
        there = there;
        of = inl (ap key_of is.gets);
      }

  by_fail : IsLeastOf facts (Fails facts moment) event → IsOfPlan facts event
  by_fail least =
      let (told, one, there, is) = least.is in
      record {
        run = least.run;
        stage = least.stage;
        told = told;
        one = one;
        there = there;
        of = inl (ap key_of is.gets);
      }

  -- of an eligible stage
  by_contender : (locks : Locks) → IsContention facts moment locks → (stage : Contender) →
      Contains locks.eligible stage → key_of event ≡ Stage stage.run stage.position →
      IsOfPlan facts event
  by_contender locks contention stage is about =
      let one = eligible_one facts moment locks contention stage is in
      record {
        run = stage.run;
        stage = stage.position;
        told = one.told;
        one = one.one;
        there = one.there;
        of = inl about;
      }

  by_superseded : Among facts moment Superseded (Some event) → IsOfPlan facts event
  by_superseded (locks, contention, is) =
      by_contender locks contention is.stage is.is.is_eligible (ap key_of is.gets)

  by_next : Among facts moment Next (Some event) → IsOfPlan facts event
  by_next (locks, contention, is) =
      by_contender locks contention is.stage is.is.is_eligible (ap key_of is.gets)

same_event : (facts : List Fact) (a b : Event) → Some a ≡ Some b → IsOfPlan facts b →
    IsOfPlan facts a
same_event facts a b is of = let e : a ≡ b = cc in subst (IsOfPlan facts) (sym e) of

pub of_plan : (facts : List Fact) (moment : ℕ) (event : Event) → IsDue facts moment (Some event) →
    IsOfPlan facts event
of_plan f m e (inl (x, is, k)) = same_event f e x is (by_timeout f m x k)
of_plan f m e (inr (n1, inl (x, is, k))) = same_event f e x is (by_false_job f m x k)
of_plan f m e (inr (n1, inr (n2, inl (x, is, k)))) = same_event f e x is (by_done f m x k)
of_plan f m e (inr (n1, inr (n2, inr (n3, inl (x, is, k))))) =
    same_event f e x is (by_false f m x k)
of_plan f m e (inr (n1, inr (n2, inr (n3, inr (n4, inl (x, is, k)))))) =
    same_event f e x is (by_fail f m x k)
of_plan f m e (inr (n1, inr (n2, inr (n3, inr (n4, inr (n5, inl (x, is, k))))))) =
    same_event f e x is (by_superseded f m x k)
of_plan f m e (inr (n1, inr (n2, inr (n3, inr (n4, inr (n5, inr (n6, inl (x, is, k)))))))) =
    same_event f e x is (by_next f m x k)
of_plan f m e (inr (n1, inr (n2, inr (n3, inr (n4, inr (n5, inr (n6, inr (n7, none)))))))) =
    absurd (cc)
