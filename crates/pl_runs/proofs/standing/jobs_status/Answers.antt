use Rattle.std.proofs.Common.{[], ◌∷◌, ◌++◌, ap, ◌∙◌}
use Rattle.pl_runs.specs.Runs.{job_status}
use Rattle.pl_runs.proofs.Places.{one_more}
use Rattle.pl_runs.proofs.standing.jobs_status.Goals as goal

pub loop-job-preserved : goal.loop-job-preserved
loop-job-preserved c =
    one_more (job_status c.args.journal.now.facts c.args.run c.args.stage) c.loop-job.job
    c.loop-job.status c.push.new.self c.loop-job.invariant
    (c.in_ok-push.ensures.ok
    ∙ ap (λ one. c.loop-job.status ++ one ∷ []) c.in_ok-job_status.ensures)
