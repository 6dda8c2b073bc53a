use Rattle.std.proofs.Common.{◌+◌, [], ◌∷◌, ap, ◌∙◌, take}
use Rattle.pl_spots.specs.Below.pl_kept.specs.Kept.{Job}
use Rattle.pl_touched.specs.Touched.{job_places}
use Rattle.pl_touching.proofs.Following.{fit_all, jobs_next, joins_all}
use Rattle.pl_touching.proofs.plans.add_jobs.Goals as goal

pub loop-job-preserved : goal.loop-job-preserved
loop-job-preserved c =
    let facts = c.args.journal.now.facts in
    let are = jobs_next c.args.run c.args.stage c.loop-job.at c.loop-job._job-index c.args.jobs.now
    c._job-item.result c.loop-job-test.true c.loop-job.invariant.here in
    let one = job_places c.args.run c.args.stage 0 (take c.loop-job._job-index c.args.jobs.now) in
    let two = Job c.args.run c.args.stage c.loop-job.at ∷ [] in
    record {
      here = c.in_ok-at.ensures ∙ ap (λ n. n + 1) c.loop-job.invariant.here;
      apart = λ were. c.add_at.ensures.apart (c.loop-job.invariant.apart were);
      joins = joins_all facts one two _ are c.args.rows.now.items c.loop-job.rows.items
          c.add_at.new.rows.items c.loop-job.invariant.joins c.in_ok-add_at.ensures.joins;
      fits = fit_all facts one two _ are c.loop-job.invariant.fits c.in_ok-add_at.ensures.fits;
    }
