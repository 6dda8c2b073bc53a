use Rattle.std.proofs.Common.{◌≡◌, drop}
use Rattle.pl_depends.specs.Gives.{each_passes}
use Rattle.pl_depends.specs.Known.{all_known}
use Rattle.pl_depends.specs.Places.{under}
use Rattle.pl_depends.proofs.known.jobs_known_in.Given as goal

abbrev pub invariant-loop-job : goal.invariant-loop-job
invariant-loop-job l =
    each_passes (λ job. all_known (under l.places) job.depends) l.jobs ≡ each_passes
    (λ job. all_known (under l.places) job.depends) (drop l.job-index l.jobs)
