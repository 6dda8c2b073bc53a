use Rattle.std.proofs.Common.{◌≡◌, true}
use Rattle.std.specs.List.{list_all, range_with_len}
use Rattle.pl_views.specs.Ready.{job_has_ended}
use Rattle.pl_due.specs.Asked.{facts_of}
use Rattle.pl_due.proofs.nodes.has_done_all.Given as goal

abbrev pub invariant-loop-job : goal.invariant-loop-job
invariant-loop-job l = list_all (job_has_ended l.at.run l.at.stage (facts_of l.at))
    (range_with_len 0 l.job) ≡ true
