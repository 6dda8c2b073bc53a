use Rattle.std.proofs.Common.{length, map, ◌∙◌}
use Rattle.std.specs.List.{range_with_len}
use Rattle.pl_views.specs.RunViews.{job_view, job_views}
use Rattle.pl_views.proofs.Turns.{range_push}
use Rattle.pl_views.proofs.run_views.all_jobs.Goals as goal

pub loop-at-preserved : goal.loop-at-preserved
loop-at-preserved c =
    range_push (job_views c.args.run c.args.plan.now c.args.journal.now.facts) c.loop-at.at
    c.loop-at.all c.push.new.self c.in_ok-job_views.field-0 c.loop-at.invariant
    c.in_ok-push.ensures.ok
    (c.in_ok-job_views.ensures
    ∙ (λ i. map (job_view c.args.run (c.in_ok-place.ensures i) c.args.journal.now.facts)
    (range_with_len 0 (length (c.jobs_of-jobs.ensures i)))))
