-- A run and its places name one job.
use Rattle.std.proofs.Common.{◌≡◌, ℕ, List, Option, Some, None, refl, sym, ap}
use Rattle.std.proofs.Common.{◌∙◌, subst}
use Rattle.std.specs.Prelude.{slice_get}
use Rattle.std.specs.Option.{option_and_then, option_map}
use Rattle.pl_facts.specs.declared.fact.Fact.{Fact}
use Rattle.pl_facts.specs.declared.fact.QueuedRun.{QueuedRun}
use Rattle.pl_journal.specs.Runs.{queueing, run_told}
use Rattle.pl_journal.specs.Settings.{by}
use Rattle.pl_plan.specs.declared.plan.PlanJob.{PlanJob}
use Rattle.pl_plan.specs.declared.plan.PlanStage.{PlanStage}
use Rattle.pl_due.specs.Nodes.{IsStageOf}
use Rattle.pl_granting.specs.Named.{IsJobOf, JobOf, job_at, job_in}

abbrev job_of : ℕ → ℕ → ℕ → QueuedRun → PlanStage → PlanJob → JobOf
job_of run stage job queued staged planned = record {
  run = run;
  stage = stage;
  job = job;
  queued = queued;
  staged = staged;
  planned = planned;
}

-- ---- a job that is there is the one at its places

module _ (facts : List Fact) (at : JobOf) (there : IsJobOf facts at) where
  pub is_in : job_in at.run at.stage at.queued at.staged at.job ≡ Some at
  is_in = ap (option_map (λ planned. job_of at.run at.stage at.job at.queued at.staged planned))
      there.planned

  pub is_at : job_at at.run at.stage at.job facts ≡ Some at
  is_at = ap (option_and_then (λ (queued : QueuedRun). option_and_then
      (λ (staged : PlanStage). job_in at.run at.stage queued staged at.job)
      (slice_get queued.compiled.plan.stages at.stage))) there.queued
      ∙ ap (option_and_then
      (λ (staged : PlanStage). job_in at.run at.stage at.queued staged at.job)) there.staged
      ∙ is_in

  pub its_stage : IsStageOf facts at.run at.stage at.queued at.staged
  its_stage = record {
    queued = there.queued;
    planned = there.staged;
  }

-- ---- the one at some places is there

pub record IsThere (facts : List Fact) (run stage job : ℕ) (at : JobOf) : Type 0 where
  pub there : IsJobOf facts at
  pub of_run : at.run ≡ run
  pub of_stage : at.stage ≡ stage
  pub of_job : at.job ≡ job

module _ (facts : List Fact) (run stage job : ℕ) (at : JobOf) where
  of_job_of : (queued : QueuedRun) (staged : PlanStage) (planned : PlanJob) →
      by run_told (queueing run facts) ≡ Some queued →
      slice_get queued.compiled.plan.stages stage ≡ Some staged →
      slice_get staged.jobs job ≡ Some planned →
      job_of run stage job queued staged planned ≡ at → IsThere facts run stage job at
  of_job_of queued staged planned q s p is = subst (IsThere facts run stage job) is (record {
    there = record {
      queued = q;
      staged = s;
      planned = p;
    };
    of_run = refl;
    of_stage = refl;
    of_job = refl;
  })

  pub of_job_in : (queued : QueuedRun) (staged : PlanStage) →
      IsStageOf facts run stage queued staged → job_in run stage queued staged job ≡ Some at →
      IsThere facts run stage job at
  of_job_in queued staged stage_there found = go (slice_get staged.jobs job) refl
    where
      go : (o : Option PlanJob) → slice_get staged.jobs job ≡ o → IsThere facts run stage job at
      go None is =
          let e : None ≡ Some at =
          sym (ap (option_map (job_of run stage job queued staged)) is) ∙ found in
          absurd (cc)
      go (Some planned) is =
          let e : Some (job_of run stage job queued staged planned) ≡ Some at =
          sym (ap (option_map (job_of run stage job queued staged)) is) ∙ found in
          let same : job_of run stage job queued staged planned ≡ at = cc in
          of_job_of queued staged planned stage_there.queued stage_there.planned is same

  pub of_job_at : job_at run stage job facts ≡ Some at → IsThere facts run stage job at
  of_job_at found = go (by run_told (queueing run facts)) refl
    where
      stage_of : QueuedRun → Option JobOf
      stage_of queued = option_and_then
          (λ (staged : PlanStage). job_in run stage queued staged job)
          (slice_get queued.compiled.plan.stages stage)

      in_stage : (queued : QueuedRun) → by run_told (queueing run facts) ≡ Some queued →
          stage_of queued ≡ Some at → (o : Option PlanStage) →
          slice_get queued.compiled.plan.stages stage ≡ o → IsThere facts run stage job at
      in_stage queued q e None is =
          let f : None ≡ Some at =
          sym (ap (option_and_then (λ (staged : PlanStage). job_in run stage queued staged job)) is)
          ∙ e in absurd (cc)
      in_stage queued q e (Some staged) is = of_job_in queued staged (record {
        queued = q;
        planned = is;
      }) (sym (ap (option_and_then (λ (one : PlanStage). job_in run stage queued one job)) is) ∙ e)

      go : (o : Option QueuedRun) → by run_told (queueing run facts) ≡ o →
          IsThere facts run stage job at
      go None is =
          let e : None ≡ Some at = sym (ap (option_and_then stage_of) is) ∙ found in
          absurd (cc)
      go (Some queued) is = in_stage queued is (sym (ap (option_and_then stage_of) is) ∙ found)
          (slice_get queued.compiled.plan.stages stage) refl

-- ---- two jobs at the same places are one

pub one_job : (facts : List Fact) (a b : JobOf) → IsJobOf facts a → IsJobOf facts b →
    a.run ≡ b.run → a.stage ≡ b.stage → a.job ≡ b.job → a ≡ b
one_job facts a b left right run stage job =
    let e : Some a ≡ Some b = sym (is_at facts a left)
    ∙ ap (λ r. job_at r a.stage a.job facts) run ∙ ap (λ s. job_at b.run s a.job facts) stage
    ∙ ap (λ j. job_at b.run b.stage j facts) job ∙ is_at facts b right in cc
