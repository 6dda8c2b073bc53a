use Rattle.std.specs.Prelude.{flat_map}
use Rattle.pl_uses.specs.Uses.{job_uses, kept, put_all}
use Rattle.pl_uses.proofs.Putting.{put_more}
use Rattle.pl_uses.proofs.uses.put_jobs.Goals as goal

pub loop-job-preserved : goal.loop-job-preserved
loop-job-preserved c =
    let uses = job_uses c.args.pipeline.now c.args.stage.now in
    put_more uses (put_all (kept c.args.uses.now) (flat_map uses c.as_slice-job-items.result.now))
    (kept c.loop-job.uses) (kept c.put_job.new.uses) c.as_slice-job-items.result.now
    c.loop-job.job-index
    c.job-item.result c.loop-job.invariant c.loop-job-test.true c.job-item.is
    c.in_ok-put_job.ensures
