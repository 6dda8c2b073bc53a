use Rattle.std.proofs.Common.{◌≡◌, flat_map, take}
use Rattle.pl_views.specs.CheckViews.{job_marks}
use Rattle.pl_views.proofs.marks.step_marks.Given as goal

abbrev pub invariant-loop-job : goal.invariant-loop-job
invariant-loop-job l = l.marks ≡ flat_map job_marks (take l.job-index l.job-items)
