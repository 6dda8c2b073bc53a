-- What is due may come.
use Rattle.std.proofs.Common.{◌≡◌, ℕ, List, Option, Some, None, sym, subst, inl, inr}
use Rattle.pl_facts.specs.declared.fact.Event.{Event}
use Rattle.pl_facts.specs.declared.fact.Fact.{Fact}
use Rattle.pl_facts.specs.declared.fact.QueuedRun.{QueuedRun}
use Rattle.pl_journal.specs.Runs.{queueing, run_told}
use Rattle.pl_journal.specs.Settings.{by}
use Rattle.pl_plan.specs.declared.plan.PlanStage.{PlanStage}
use Rattle.pl_granting.specs.Below.pl_due.specs.Due.{Among, IsDue, Next, Superseded}
use Rattle.pl_granting.specs.Below.pl_due.specs.Kinds.{Fails, IsDone, IsPassedOver, JobIsPassedOver}
use Rattle.pl_granting.specs.Below.pl_due.specs.Kinds.{TimesOut}
use Rattle.pl_granting.specs.Below.pl_due.specs.Least.{IsLeastOf}
use Rattle.pl_granting.specs.Below.pl_due.specs.Nodes.{IsStageOf}
use Rattle.pl_granting.specs.Below.pl_due.proofs.Standing.{waiting_open, waiting_unstarted}
use Rattle.pl_granting.specs.Below.pl_settling.proofs.Giving.{eligible_one}
use Rattle.pl_granting_laws.specs.Histories.{MayCome}

-- a run that has a stage was queued
was_queued : (facts : List Fact) (run stage : ℕ) (told : QueuedRun) (one : PlanStage) →
    IsStageOf facts run stage told one → queueing run facts ≡ None → ⊥
was_queued facts run stage told one there none = go (queueing run facts) none there.queued
  where
    go : (o : Option Fact) → o ≡ None → by run_told o ≡ Some told → ⊥
    go None is queued = absurd (cc)
    go (Some fact) is queued = absurd (cc)

module _ (facts : List Fact) (moment : ℕ) (event : Event) where
  by_timeout : IsLeastOf facts (TimesOut facts moment) event → MayCome facts event
  by_timeout least =
      let (told, one, there, is) = least.is in subst (MayCome facts) (sym is.gets) tt

  by_false_job : IsLeastOf facts (JobIsPassedOver facts) event → MayCome facts event
  by_false_job least =
      let (told, one, there, is) = least.is in subst (MayCome facts) (sym is.gets) tt

  by_done : IsLeastOf facts (IsDone facts) event → MayCome facts event
  by_done least =
      let (told, one, there, is) = least.is in
      subst (MayCome facts) (sym is.gets) (inr (told, one, there, is.all))

  by_false : IsLeastOf facts (IsPassedOver facts) event → MayCome facts event
  by_false least =
      let (told, one, there, is) = least.is in
      subst (MayCome facts) (sym is.gets)
      (inl (waiting_unstarted one least.run least.stage facts is.waits))

  by_fail : IsLeastOf facts (Fails facts moment) event → MayCome facts event
  by_fail least =
      let (told, one, there, is) = least.is in
      subst (MayCome facts) (sym is.gets)
      (inl (waiting_unstarted one least.run least.stage facts is.waits))

  by_superseded : Among facts moment Superseded (Some event) → MayCome facts event
  by_superseded (locks, contention, is) =
      let one = eligible_one facts moment locks contention is.stage is.is.is_eligible in
      subst (MayCome facts) (sym is.gets)
      (inl (waiting_unstarted one.one is.stage.run is.stage.position facts one.holds.waits))

  by_next : Among facts moment Next (Some event) → MayCome facts event
  by_next (locks, contention, is) =
      let one = eligible_one facts moment locks contention is.stage is.is.is_eligible in
      subst (MayCome facts) (sym is.gets) (
        was_queued facts is.stage.run is.stage.position one.told one.one one.there,
        waiting_open one.one is.stage.run is.stage.position facts one.holds.waits,
      )

same_event : (facts : List Fact) (a b : Event) → Some a ≡ Some b → MayCome facts b →
    MayCome facts a
same_event facts a b is may = let e : a ≡ b = cc in subst (MayCome facts) (sym e) may

pub may_come : (facts : List Fact) (moment : ℕ) (event : Event) →
    IsDue facts moment (Some event) → MayCome facts event
may_come f m e (inl (x, is, k)) = same_event f e x is (by_timeout f m x k)
may_come f m e (inr (n1, inl (x, is, k))) = same_event f e x is (by_false_job f m x k)
may_come f m e (inr (n1, inr (n2, inl (x, is, k)))) = same_event f e x is (by_done f m x k)
may_come f m e (inr (n1, inr (n2, inr (n3, inl (x, is, k))))) =
    same_event f e x is (by_false f m x k)
may_come f m e (inr (n1, inr (n2, inr (n3, inr (n4, inl (x, is, k)))))) =
    same_event f e x is (by_fail f m x k)
may_come f m e (inr (n1, inr (n2, inr (n3, inr (n4, inr (n5, inl (x, is, k))))))) =
    same_event f e x is (by_superseded f m x k)
may_come f m e (inr (n1, inr (n2, inr (n3, inr (n4, inr (n5, inr (n6, inl (x, is, k)))))))) =
    same_event f e x is (by_next f m x k)
may_come f m e (inr (n1, inr (n2, inr (n3, inr (n4, inr (n5, inr (n6, inr (n7, none)))))))) =
    absurd (cc)
