use Rattle.std.proofs.Common.{◌≡◌, drop}
use Rattle.std.specs.Prelude.{flat_map}
use Rattle.pl_uses.specs.Uses.{job_uses, kept, put_all}
use Rattle.pl_uses.proofs.uses.put_jobs.Given as goal

abbrev pub invariant-loop-job : goal.invariant-loop-job
invariant-loop-job l =
    put_all (kept l.uses) (flat_map (job_uses l.pipeline l.stage) (drop l.job-index l.job-items)) ≡
    put_all (kept l.initial.uses) (flat_map (job_uses l.pipeline l.stage) l.job-items)
