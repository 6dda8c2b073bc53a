use Rattle.std.proofs.Common.{◌≡◌, map}
use Rattle.std.specs.List.{range_with_len}
use Rattle.pl_runs.specs.Runs.{job_status}
use Rattle.pl_runs.proofs.standing.jobs_status.Given as goal

abbrev pub invariant-loop-job : goal.invariant-loop-job
invariant-loop-job l =
    l.status ≡ map (job_status l.journal.facts l.fn.run l.fn.stage) (range_with_len 0 l.job)
