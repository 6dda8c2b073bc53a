use Rattle.std.proofs.Common.{◌≡◌, map}
use Rattle.std.specs.List.{range_with_len}
use Rattle.pl_views.specs.RunViews.{job_views}
use Rattle.pl_views.proofs.run_views.all_jobs.Given as goal

abbrev pub invariant-loop-at : goal.invariant-loop-at
invariant-loop-at l =
    l.all ≡ map (job_views l.fn.run l.plan l.journal.facts) (range_with_len 0 l.at)
