use Rattle.std.proofs.Common.{◌≡◌, drop, find, not}
use Rattle.pl_views.specs.Ready.{job_has_ended}
use Rattle.pl_views.proofs.ready.awaited_job.Given as goal

abbrev pub invariant-loop-job : goal.invariant-loop-job
invariant-loop-job l =
    find (λ job. not (job_has_ended l.fn.run l.fn.stage l.journal.facts job)) l.planned.depends ≡
    find (λ job. not (job_has_ended l.fn.run l.fn.stage l.journal.facts job))
    (drop l.job-index l.job-items)
