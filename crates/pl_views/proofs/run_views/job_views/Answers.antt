use Rattle.std.proofs.Common.{ap, ◌∙◌}
use Rattle.pl_views.specs.RunViews.{job_view}
use Rattle.pl_views.proofs.Turns.{range_push}
use Rattle.pl_views.proofs.run_views.job_views.Goals as goal

pub loop-at-preserved : goal.loop-at-preserved
loop-at-preserved c =
    range_push (job_view c.args.run c.args.stage c.args.journal.now.facts) c.loop-at.at
    c.loop-at.views c.push.new.self c.in_ok-job_view.field-0 c.loop-at.invariant
    c.in_ok-push.ensures.ok
    (c.in_ok-job_view.ensures
    ∙ ap (job_view c.args.run c.args.stage c.args.journal.now.facts) c.in_ok-place.ensures)
