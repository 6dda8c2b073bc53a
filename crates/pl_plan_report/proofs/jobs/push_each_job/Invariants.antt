use Rattle.std.proofs.Common.{◌≡◌, ◌++◌, take}
use Rattle.std.specs.Prelude.{flat_map}
use Rattle.pl_plan_report.specs.Lines.{job_text}
use Rattle.pl_plan_report.proofs.jobs.push_each_job.Given as goal

abbrev pub invariant-loop-job : goal.invariant-loop-job
invariant-loop-job l =
    l.text ≡ l.initial.text ++ flat_map (job_text l.labels) (take l.job-index l.jobs)
