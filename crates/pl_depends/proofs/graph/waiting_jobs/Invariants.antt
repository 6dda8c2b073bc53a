use Rattle.std.proofs.Common.{◌≡◌, map, take}
use Rattle.pl_depends.specs.Graph.{waiting_job}
use Rattle.pl_depends.specs.Places.{under}
use Rattle.pl_depends.proofs.graph.waiting_jobs.Given as goal

abbrev pub invariant-loop-job : goal.invariant-loop-job
invariant-loop-job l = l.graph ≡ map (waiting_job (under l.places)) (take l.job-index l.jobs)
