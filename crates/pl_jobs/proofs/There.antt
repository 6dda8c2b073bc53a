-- A job that is named or drawn is there, and its places are those of its run's plan.
use Rattle.std.proofs.Common.{◌≡◌, ◌<◌, ℕ, List, [], Option, Some, None, length, slice_get, refl}
use Rattle.std.proofs.Common.{sym, ap, subst}
use Rattle.std.specs.Option.{option_and_then, option_map_or}
use Rattle.std.proofs.lemmas.Option.{slice_get_within}
use Rattle.pl_granting.specs.Below.pl_due.specs.Fit.{AreFit}
use Rattle.pl_facts.specs.declared.fact.Fact.{Fact}
use Rattle.pl_facts.specs.declared.fact.QueuedRun.{QueuedRun}
use Rattle.pl_granting.proofs.Fitting.{can_run}
use Rattle.pl_granting.proofs.Places.{of_job_in}
use Rattle.pl_granting.specs.Named.{IsJobOf, JobOf, job_in, job_in_stage, job_labelled, job_named}
use Rattle.pl_granting.specs.Named.{stage_named}
use Rattle.pl_journal.specs.Runs.{queueing, run_told}
use Rattle.pl_journal.specs.Settings.{by}
use Rattle.pl_plan.specs.declared.plan.Compiled.{Compiled}
use Rattle.pl_plan.specs.declared.plan.PlanStage.{PlanStage}
use Rattle.pl_requests.specs.declared.request.JobName.{JobName}
use Rattle.pl_cond.specs.Below.pl_results.specs.Nodes.{CanRun, jobs_of}

-- ---- by name

module _ (name : JobName) (facts : List Fact) (at : JobOf) where
  in_stage : (queued : QueuedRun) → by run_told (queueing name.run facts) ≡ Some queued →
      (stage : ℕ) (o : Option PlanStage) → slice_get queued.compiled.plan.stages stage ≡ o →
      option_and_then (λ staged. option_and_then (job_in name.run stage queued staged)
      (job_labelled name.job staged.jobs)) o ≡ Some at → IsJobOf facts at
  in_stage queued is stage None staged_is found = absurd (cc)
  in_stage queued is stage (Some staged) staged_is found =
      in_jobs (job_labelled name.job staged.jobs) found
    where
      in_jobs : (o : Option ℕ) →
          option_and_then (job_in name.run stage queued staged) o ≡ Some at → IsJobOf facts at
      in_jobs None h = absurd (cc)
      in_jobs (Some job) h = (of_job_in facts name.run stage job at queued staged (record {
        queued = is;
        planned = staged_is;
      }) h).there

  in_run : (queued : QueuedRun) → by run_told (queueing name.run facts) ≡ Some queued →
      (o : Option ℕ) → option_and_then (job_in_stage name queued) o ≡ Some at → IsJobOf facts at
  in_run queued is None found = absurd (cc)
  in_run queued is (Some stage) found =
      in_stage queued is stage (slice_get queued.compiled.plan.stages stage) refl found

  of_run : (o : Option QueuedRun) → by run_told (queueing name.run facts) ≡ o →
      option_and_then (λ queued. option_and_then (job_in_stage name queued)
      (stage_named name.stage queued.compiled.plan.stages)) o ≡ Some at → IsJobOf facts at
  of_run None is found = absurd (cc)
  of_run (Some queued) is found =
      in_run queued is (stage_named name.stage queued.compiled.plan.stages) found

  pub named_there : job_named name facts ≡ Some at → IsJobOf facts at
  named_there found = of_run (by run_told (queueing name.run facts)) refl found

-- ---- places

-- what the plan says of a job that is there
pub record Fits (at : JobOf) (compiled : Compiled) : Type 0 where
  pub runs : CanRun compiled.plan
  pub stage : at.stage < length compiled.plan.stages
  pub job : at.job < length (jobs_of compiled.plan at.stage)

module _ (facts : List Fact) (at : JobOf) (fit : AreFit facts) (there : IsJobOf facts at) where
  its_jobs : jobs_of at.queued.compiled.plan at.stage ≡ at.staged.jobs
  its_jobs = ap (λ o. option_map_or (λ (one : PlanStage). one.jobs) o []) there.staged

  in_plan : Fits at at.queued.compiled
  in_plan = record {
    runs = can_run facts at.run at.queued fit there.queued;
    stage = slice_get_within at.queued.compiled.plan.stages at.stage at.staged there.staged;
    job = subst (λ jobs. at.job < length jobs) (sym its_jobs)
        (slice_get_within at.staged.jobs at.job at.planned there.planned);
  }

  pub its_places : (compiled : Compiled) → compiled ≡ at.queued.compiled → Fits at compiled
  its_places compiled is = subst (Fits at) (sym is) in_plan
