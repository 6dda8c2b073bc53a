use Rattle.std.proofs.Common.{◌≡◌, ◌++◌, drop, map}
use Rattle.pl_objects.specs.Runs.{beside, job_status, unstarted_job}
use Rattle.pl_objects.proofs.runs.jobs_array.Given as goal

abbrev pub invariant-loop-at : goal.invariant-loop-at
invariant-loop-at l =
    l.items ++ map job_status (beside unstarted_job (drop l.at l.jobs) (drop l.at l.statuses)) ≡
    map job_status (beside unstarted_job l.jobs l.statuses)
