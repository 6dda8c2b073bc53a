use Rattle.std.proofs.Common.{◌≡◌, map}
use Rattle.std.specs.List.{range_with_len}
use Rattle.pl_views.specs.RunViews.{job_view}
use Rattle.pl_views.proofs.run_views.job_views.Given as goal

abbrev pub invariant-loop-at : goal.invariant-loop-at
invariant-loop-at l =
    l.views ≡ map (job_view l.fn.run l.fn.stage l.journal.facts) (range_with_len 0 l.at)
