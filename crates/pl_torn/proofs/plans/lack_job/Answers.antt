use Rattle.std.proofs.Common.{ℕ, refl, sym, ◌∙◌, arith}
use Rattle.std.specs.Prelude.{is_none}
use Rattle.pl_plan.specs.declared.plan.PlanJob.{PlanJob}
use Rattle.pl_torn.specs.Looking.{job_place}
use Rattle.pl_torn.specs.Plans as spec
use Rattle.pl_torn.specs.Seen.{seen_at}
use Rattle.pl_torn.proofs.Turns.{hit_place, miss_place, no_place}
use Rattle.pl_torn.proofs.plans.lack_job.Goals as goal

pub returns-then-branch : goal.returns-then-branch
returns-then-branch c =
    sym (hit_place (spec.lack_job c.args.all.now c.args.run c.args.stage) (λ (n : ℕ) (job : PlanJob).
    is_none (seen_at (job_place c.args.run c.args.stage n) c.args.all.now))
    (λ n. refl) (λ n x rest. refl) c.args.jobs.now c.loop-job._job-index c.loop-job.at
    c.loop-job.invariant.here c._job-item.result c.loop-job-test.true c._job-item.is
    (sym c.in_ok-lacks_job.ensures ∙ c.if-branch.true)) ∙ c.loop-job.invariant.left

pub loop-job-preserved : goal.loop-job-preserved
loop-job-preserved c = record {
  here = omega (arith, c.in_ok-at.ensures, c.loop-job.invariant.here);
  left = miss_place (spec.lack_job c.args.all.now c.args.run c.args.stage) (λ (n : ℕ) (job : PlanJob).
      is_none (seen_at (job_place c.args.run c.args.stage n) c.args.all.now))
      (λ n. refl) (λ n x rest. refl) c.args.jobs.now c.loop-job._job-index c.loop-job.at
      c.loop-job.invariant.here c._job-item.result c.loop-job-test.true c._job-item.is
      (sym c.in_ok-lacks_job.ensures ∙ c.if-branch.false) ∙ c.loop-job.invariant.left;
}

pub returns : goal.returns
returns c =
    sym (no_place (spec.lack_job c.args.all.now c.args.run c.args.stage) (λ (n : ℕ) (job : PlanJob).
    is_none (seen_at (job_place c.args.run c.args.stage n) c.args.all.now))
    (λ n. refl) (λ n x rest. refl) c.args.jobs.now c.loop-job._job-index
    c.loop-job-test.false) ∙ c.loop-job.invariant.left
